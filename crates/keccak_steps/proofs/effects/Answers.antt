use mathlib.Core.Path.{ap}
use Prim.Native.Nat.{ℕ}
use lib.Bits.{bit_xor}
use lib.ListN.{get_or}
use Rattle.keccak_steps.proofs.States.{lanes-same}
use Rattle.keccak_steps.proofs.effects.Goals as goal

pub returns : goal.returns
returns c =
    let at-3 = c in
    let at_1 = at-3 in
    let v : ℕ → ℕ = λ x. get_or at_1.args.c x 0 in
    lanes-same
    (ap (bit_xor (v 4)) at_1.rotate.ensures)
    (ap (bit_xor (v 0)) at-3.rotate-2.ensures)
    (ap (bit_xor (v 1)) at-3.rotate-3.ensures)
    (ap (bit_xor (v 2)) c.rotate-4.ensures)
    (ap (bit_xor (v 3)) c.rotate-5.ensures)
