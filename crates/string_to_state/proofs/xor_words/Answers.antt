use Rattle.keccak_steps.proofs.States.{planes-same}
use Rattle.string_to_state.proofs.xor_words.Goals as goal

pub returns : goal.returns
returns c =
    let at-4 = c in
    let at-3 = at-4 in
    let at-2 = at-3 in
    planes-same at-2.xor_plane.ensures at-2.xor_plane-2.ensures at-3.xor_plane-3.ensures at-4.xor_plane-4.ensures c.xor_plane-5.ensures
