use mathlib.Core.Path.{◌≡◌, sym, ap, ◌∙◌}
use borrow.Author.Tests.{eq-eqb, ne_eqb}
use Rattle.monte_chain.specs.Monte.{output_size}
use Rattle.nist_cases.specs.Cases.{differing, judged_turn}
use Rattle.nist_cases.proofs.judge_turn.Goals as goal

pub returns-then-size-output_size : goal.returns-then-size-output_size
unfolding judged_turn
returns-then-size-output_size c =
    let args = c.args in
    let e : args.size ≡ output_size args.function args.c.extra = c.if-size-output_size.true ∙ c.output_size.ensures in
    rw (eq-eqb _ _ e) c.judge-verdict.ensures

pub returns : goal.returns
unfolding judged_turn
returns c =
    let args = c.args in
    let n : (args.size ≡ output_size args.function args.c.extra) → ⊥ =
    λ e. c.if-size-output_size.false (e ∙ sym c.output_size.ensures) in
    rw (ne_eqb _ _ n) (c.differing.ensures ∙ ap differing c.judge-verdict.ensures)
