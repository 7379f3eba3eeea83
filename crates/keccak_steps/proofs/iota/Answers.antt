use mathlib.Core.Path.{◌≡◌, refl, ap, ◌∙◌}
use mathlib.Core.List.{List, []}
use Prim.Native.Nat.{ℕ, ◌<◌}
use lib.Bits.{bit_xor}
use lib.ListN.{get_or, set}
use Rattle.lists.specs.Table.{table, table_from}
use Rattle.lists.proofs.Tables.{get_or-table}
use Rattle.keccak_steps.specs.Constants.{round_constant}
use Rattle.keccak_steps.specs.Steps.{lane}
use Rattle.keccak_steps.proofs.iota.Goals as goal

-- the entry of a table that is by the standard's rule
entry : (l : List ℕ) → l ≡ table 24 round_constant → (ir : ℕ) → ir < 24 → get_or l ir 0 ≡ round_constant ir
entry l rule ir h = ap (λ (l : List ℕ). get_or l ir 0) rule ∙ get_or-table 24 round_constant ir 0 h

-- antt computes the rule's 24 constants
pub returns : goal.returns
unfolding table table_from round_constant
returns c =
    let a = c.args.a in
    ap (λ (k : ℕ). set a 0 (set (get_or a 0 []) 0 (bit_xor (lane a 0 0) k))) (entry _ refl c.args.ir c.requires)
