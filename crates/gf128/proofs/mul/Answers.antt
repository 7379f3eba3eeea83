use mathlib.Core.Path.{◌≡◌, refl, sym, ap, ap₂, ◌∙◌}
use Prim.Native.Nat.{ℕ, ◌*◌, ◌^◌, ◌<◌}
use native.Mathlib.Nat.{div-one}
use native.Mathlib.Omega.{arith}
use lib.Bits.{bit_xor}
use Rattle.gf128.specs.Words.{value, times_x}
use Rattle.gf128.proofs.Horner.{horner, times-horner, horner_step}
use Rattle.gf128.proofs.TwoWords.{two-words-lt}
use borrow.Author.Rules.{rules}
use Rattle.gf128.proofs.mul.Goals as goal

pub loop-i-init : goal.loop-i-init
unfolding horner
loop-i-init c = (search rules, refl)

pub loop-i-preserved : goal.loop-i-preserved
loop-i-preserved c =
    let l = c in
    let a = value l.args.a in (
      search rules,
      c.add-r.ensures
          ∙ ap₂ bit_xor (c.times_x.ensures ∙ ap times_x l.loop-i.invariant.1)
          (c.times_bit.ensures ∙ ap (λ (n : ℕ). n * a) c.coefficient.ensures)
          ∙ horner_step l.loop-i.i a (value l.args.b) c.loop-i-test.true l.loop-i.invariant.0,
    )

pub returns : goal.returns
returns c =
    let a = c.args.a in
    let hh : a.hi < 2 ^ 64 = omega arith in
    let hl : a.lo < 2 ^ 64 = omega arith in
    let e : c.loop-i.i ≡ 0 = omega arith in
    (rw (e, div-one) at c.loop-i.invariant.1) ∙ sym (times-horner (value a) _ (two-words-lt a.hi a.lo hh hl))
