use mathlib.Core.Path.{◌≡◌, refl, ap, ◌∙◌}
use mathlib.Core.List.{List}
use Prim.Native.Nat.{ℕ, ◌%◌, ◌<◌}
use native.Mathlib.Omega.{arith}
use lib.Dec.{ltb, ltb→lt}
use lib.IntN.{ℤ, pos}
use lib.ListN.{get_or}
use lib.Signed.{mag}
use mir.Syntax.{w8, w16}
use mir.Val.{to_z, of_z}
use Rattle.lists.specs.Table.{table, table_from}
use Rattle.lists.proofs.Finite.{at_each}
use Rattle.lists.proofs.Tables.{get_or-table}
use Rattle.sampling.specs.Noise.{folded, four_bits}
use Rattle.ring.proofs.SignedValues.{widened}
use Rattle.sampling.proofs.noise.Goals as goal

byte-holds : (t : ℕ) → t < 16 → mag (four_bits t) < 128
unfolding four_bits folded
byte-holds t h = ltb→lt (mag (four_bits t)) 128 (at_each 16 (λ k. ltb (mag (four_bits k)) 128) tt t h)

-- the entry of a table of bytes that is by the rule, as two bytes
entry : (l : List ℤ) → l ≡ table 16 four_bits → (t : ℕ) → t < 16 → to_z w16 (of_z w16 (to_z w8 (of_z w8 (get_or l t (pos 0))))) ≡ four_bits t
entry l rule t h =
    let read : get_or l t (pos 0) ≡ four_bits t = ap (λ (l : List ℤ). get_or l t (pos 0)) rule ∙ get_or-table 16 four_bits t (pos 0) h in
    ap (λ (z : ℤ). to_z w16 (of_z w16 (to_z w8 (of_z w8 z)))) read ∙ widened w8 w16 (four_bits t) tt (byte-holds t h)

-- antt computes the rule's sixteen values
pub returns : goal.returns
unfolding table table_from four_bits folded
returns c = entry _ refl (c.args.t % 16) (omega arith)
