use native.Mathlib.Nat.{add-zero}
use Rattle.string_to_state.proofs.xor_plane.Goals as goal

pub returns : goal.returns
returns c = rw add-zero
