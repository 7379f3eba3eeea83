use Rattle.keccak_steps.proofs.States.{lanes-same}
use Rattle.keccak_steps.proofs.rotate_plane.Goals as goal

pub returns : goal.returns
returns c =
    let at-3 = c in
    let at_1 = at-3 in
    lanes-same at_1.rotate.ensures at-3.rotate-2.ensures at-3.rotate-3.ensures c.rotate-4.ensures c.rotate-5.ensures
