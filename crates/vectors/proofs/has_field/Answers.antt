use mathlib.Core.Path.{ap, ◌∙◌}
use Prim.Native.Nat.{ℕ}
use lib.Dec.{leb}
use lib.ListN.{length}
use Rattle.vectors.specs.Fields.{end_from, has_field}
use Rattle.vectors.proofs.has_field.Goals as goal

pub returns : goal.returns
unfolding has_field
returns c =
    let text = c.args.text.now in
    ap (λ (n : ℕ). leb n (length text)) (c.end_from.ensures ∙ ap (λ (at : ℕ). end_from at text) c.start.ensures.0)
