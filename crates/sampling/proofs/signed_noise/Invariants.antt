use Prim.Native.Nat.{◌-◌, ◌*◌}
use Rattle.ring.specs.Ring.{n}
use Rattle.sampling.specs.Noise.{four_bits, nibble_at}
use Rattle.sampling.proofs.FrontFill.{FrontFilled}
use Rattle.sampling.proofs.signed_noise.Given as goal

abbrev pub invariant-loop-i : goal.invariant-loop-i
invariant-loop-i l = FrontFilled n (2 * l.count) (λ k. four_bits (nibble_at l.bytes k)) l.t (2 * l.i)

abbrev pub decreases-loop-i : goal.decreases-loop-i
decreases-loop-i l = l.count - l.i
