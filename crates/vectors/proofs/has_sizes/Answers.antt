use mathlib.Core.Path.{sym, ap, ◌∙◌}
use native.Mathlib.Omega.{arith}
use lib.ListN.{length}
use Rattle.vectors.proofs.Texts.{sized_more, sized_cut, sized_other, sized_all}
use Rattle.vectors.proofs.has_sizes.Goals as goal

pub returns-then-not-has_field : goal.returns-then-not-has_field
returns-then-not-has_field c = sized_cut _ _ _ (omega arith) (sym c.has_field.ensures ∙ c.if-not-has_field.true) ∙ c.loop-k.invariant.1

pub returns-then-field-size : goal.returns-then-field-size
returns-then-field-size c =
    let whole = sym c.has_field.ensures ∙ c.if-not-has_field.false in
    sized_other _ _ _ (omega arith) whole (λ e. c.if-field-size.true (ap length c.field.ensures ∙ e)) ∙ c.loop-k.invariant.1

pub loop-k-preserved : goal.loop-k-preserved
loop-k-preserved c =
    let whole = sym c.has_field.ensures ∙ c.if-not-has_field.false in
    let size = sym (ap length c.field.ensures) ∙ c.if-field-size.false in
    (omega arith, sym (sized_more _ _ _ (omega arith) whole size) ∙ c.loop-k.invariant.1)

pub returns : goal.returns
returns c = sized_all _ _ _ c.loop-k-test.false ∙ c.loop-k.invariant.1
