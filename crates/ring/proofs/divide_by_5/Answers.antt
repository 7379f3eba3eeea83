use mathlib.Core.Path.{refl, sym, ◌∙◌}
use lib.IntN.{pos}
use lib.ListN.{get_or}
use Rattle.lists.proofs.Fill.{filled_none, filled_more, filled-all}
use Rattle.ring.proofs.RemainderLaws.{remainders-element, remainders-at}
use Rattle.ring.proofs.Signed.{quotient-read}
use Rattle.ring.proofs.QuotientLaws.{length-quotients, quotients-at, division-exact}
use Rattle.ring.proofs.divide_by_5.Goals as goal

pub loop-k-init : goal.loop-k-init
loop-k-init c = (filled_none _ _ (remainders-element _).size refl, filled_none _ _ (length-quotients _) refl)

pub loop-k-preserved : goal.loop-k-preserved
loop-k-preserved c =
    let made = c in
    let at = made in
    let inside = made.loop-k-test.true in
    let m = at.args.m in
    let k = at.loop-k.k in
    let (e, w) = made.divide_coefficient-d.ensures in
    let (filled-r, filled-w) = at.loop-k.invariant in
    (filled_more 0 filled-r inside (e ∙ sym (remainders-at m k inside)), filled_more (pos 0) filled-w inside (quotient-read (get_or m k 0) w ∙ sym (quotients-at m k inside)))

pub returns : goal.returns
returns c =
    let (filled-r, filled-w) = c.loop-k.invariant in
    let r = filled-all filled-r c.loop-k-test.false in
    let w = filled-all filled-w c.loop-k-test.false in record { remainders_value = (r, w); division_exact = rw (r, w) (division-exact c.args.m) }
