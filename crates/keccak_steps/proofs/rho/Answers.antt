use Rattle.keccak_steps.proofs.States.{planes-same}
use Rattle.keccak_steps.proofs.rho.Goals as goal

pub returns : goal.returns
returns c =
    let at-4 = c in
    let at-3 = at-4 in
    let at-2 = at-3 in
    planes-same at-2.rotate_plane.ensures at-2.rotate_plane-2.ensures at-3.rotate_plane-3.ensures at-4.rotate_plane-4.ensures c.rotate_plane-5.ensures
