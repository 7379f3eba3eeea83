use mathlib.Core.Path.{◌≡◌, refl, ap, ◌∙◌}
use native.Mathlib.Nat.{add-zero}
use native.Mathlib.Numerals.{add-one}
use native.Mathlib.Omega.{arith}
use borrow.Author.Rules.{rules}
use Rattle.keccak.specs.Complementing.{complemented_round}
use Rattle.keccak.proofs.two_rounds.Goals as goal

pub loop-j-init : goal.loop-j-init
loop-j-init c = (search rules, refl)

pub round-t-requires : goal.round-t-requires
round-t-requires c = omega (arith, c.requires, c.loop-j-test.true)

pub loop-j-preserved : goal.loop-j-preserved
loop-j-preserved c = (search rules, rw add-one (c.round-t.ensures ∙ ap (complemented_round _) c.loop-j.invariant.1))

pub returns : goal.returns
returns c =
    let e : c.loop-j.j ≡ 2 = omega arith in
    rw (e, add-zero) at c.loop-j.invariant.1
