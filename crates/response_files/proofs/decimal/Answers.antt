use mathlib.Core.Path.{◌≡◌, sym, ◌∙◌}
use mathlib.Core.Bool.{true, false, false≢true}
use native.Mathlib.Omega.{arith}
use lib.ListN.{get_or}
use borrow.Author.Tests.{eqb-true, eq-eqb}
use Rattle.response_files.specs.Fields.{grows}
use Rattle.response_files.proofs.Numbers.{grows_digit, no_digit-below, no_digit-above, too_large, decimal_none, decimal-some, continued_more, continued-stop, continued_end}
use Rattle.response_files.proofs.decimal.Goals as goal
use Rattle.response_files.proofs.decimal.Goals.{then-c-lt48-via-then-c-lt48, then-c-lt48-via-else-c-lt48+then-c-gt57, then-c-lt48-via-else-c-lt48+else-c-gt57+then-n-ge100000000}

pub returns-then-is_empty : goal.returns-then-is_empty
returns-then-is_empty c = sym (decimal_none _ (eqb-true _ 0 (sym c.is_empty.ensures ∙ c.if-is_empty.true)))

pub loop-c-init : goal.loop-c-init
loop-c-init c =
    (omega arith, omega arith, decimal-some _ (λ e. false≢true (sym c.if-is_empty.false ∙ c.is_empty.ensures ∙ eq-eqb _ 0 e)))

pub returns-then-c-lt48 : goal.returns-then-c-lt48
returns-then-c-lt48 c =
    let i = c.loop-c.c-index in
    let n = c.loop-c.n in
    let text = c.args.text.now in
    let g : grows n (get_or text i 0) ≡ false =
    elim c.then-c-lt48.branch [
      | then-c-lt48-via-then-c-lt48 w ↦ no_digit-below n (get_or text i 0) w.if-c-lt48.true
      | then-c-lt48-via-else-c-lt48+then-c-gt57 w ↦ no_digit-above n (get_or text i 0) (omega arith) (omega arith)
      | then-c-lt48-via-else-c-lt48+else-c-gt57+then-n-ge100000000 w ↦ too_large n (get_or text i 0) (omega arith) (omega arith) (omega arith)
    ] in
    sym (c.loop-c.invariant.2 ∙ continued-stop n text i c.loop-c-test.true g)

pub loop-c-preserved : goal.loop-c-preserved
loop-c-preserved c =
    let i = c.loop-c.c-index in
    let n = c.loop-c.n in
    let text = c.args.text.now in
    let g : grows n (get_or text i 0) ≡ true = grows_digit n (get_or text i 0) (omega arith) (omega arith) (omega arith) in
    (omega arith, omega arith, c.loop-c.invariant.2 ∙ continued_more n text i (omega arith) g)

pub returns : goal.returns
returns c = sym (c.loop-c.invariant.2 ∙ continued_end _ _ _ c.loop-c-test.false)
