use Rattle.keccak_steps.proofs.States.{planes-same}
use Rattle.keccak_chi.proofs.chi.Goals as goal

pub returns : goal.returns
returns c =
    let at-4 = c in
    let at-2 = at-4 in
    let at_1 = at-2 in
    planes-same c.chi_0-p0.ensures at_1.chi_1-p1.ensures at-2.chi_2-p2.ensures at_1.chi_3-p3.ensures at-4.chi_4-p4.ensures
