use mathlib.Core.Path.{sym, ◌∙◌}
use Rattle.keccak_chi.specs.Complementing.{marks}
use Rattle.keccak_steps.proofs.States.{planes-same}
use Rattle.keccak_steps.proofs.Given.{wide}
use Rattle.keccak_chi.proofs.Masks.{mask, masks, complemented-sum}
use Rattle.keccak_chi.proofs.complemented.Goals as goal

pub returns : goal.returns
unfolding mask masks
returns c =
    let at-4 = c in
    let at-3 = at-4 in
    let at-2 = at-3 in
    let at_1 = at-2 in
    let a = at_1.args.a in
    planes-same at_1.xor_planes.ensures at-2.xor_planes-2.ensures at-3.xor_planes-3.ensures at-4.xor_planes-4.ensures c.xor_planes-5.ensures
    ∙ sym (complemented-sum marks a (wide a _ at_1.well_formed.0))
