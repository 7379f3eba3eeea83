use Rattle.ring.proofs.Signed.{remainder_chain, quotient_chain}
use Rattle.ring.proofs.divide_coefficient.Goals as goal

pub returns : goal.returns
returns c =
    let divided = c in
    let word = divided.args.c in
    let m = divided.centred-m.ensures in
    let parts = divided.centred_division-d.ensures in
    (remainder_chain word m parts c.residue-remainder.ensures, quotient_chain word m parts)
