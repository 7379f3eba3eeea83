use mathlib.Core.Path.{ap₂, ◌∙◌}
use Prim.Native.Nat.{ℕ}
use Rattle.records.specs.declared.Pair.{Pair}
use Rattle.records.specs.Read.{pair_with}
use Rattle.records.proofs.read_pair.Goals as goal

pub returns : goal.returns
returns c =
    let at : ℕ → ℕ → Pair = λ i j. record {
      first = c.decode_element-first.result;
      second = c.decode_element-second.result;
      unreduced = record { first = i; second = j };
    } in
    ap₂ at c.first_unreduced.ensures c.first_unreduced-2.ensures ∙ ap₂ pair_with c.decode_element-first.ensures c.decode_element-second.ensures
