use mathlib.Core.Path.{sym, ap, ◌∙◌}
use mathlib.Core.Bool.{Bool}
use lib.ListN.{length}
use Rattle.ntt.proofs.Factors.{forward-size, backward-size}
use borrow.Author.Tests.{le-leb, lt-leb}
use Rattle.answers.specs.declared.Refusal.TheVariants.{WrongLength}
use Rattle.answers.specs.Answers.{number, unless}
use Rattle.secret_keys.specs.SecretKeys.{secret_answer}
use Rattle.calls.specs.Calls.{check_answer}
use Rattle.calls.proofs.Promised.{check_promise}
use Rattle.key_calls.proofs.check_secret_key.Goals as goal

pub returns-then-key-lt-HEADER_LENGTH : goal.returns-then-key-lt-HEADER_LENGTH
unfolding check_answer
returns-then-key-lt-HEADER_LENGTH c =
    let k = c.args.key.now in
    let answer = sym (ap (λ (b : Bool). unless b WrongLength (secret_answer k)) (lt-leb 5 (length k) c.if-key-lt-HEADER_LENGTH.true)) in record { value = answer; check_exact = check_promise k (ap number answer) }

pub slice_bounds-check_secret_key-end : goal.slice_bounds-check_secret_key-end
slice_bounds-check_secret_key-end c = forward-size c.forward_factors.ensures

pub slice_bounds-check_secret_key-end-2 : goal.slice_bounds-check_secret_key-end-2
slice_bounds-check_secret_key-end-2 c = backward-size c.backward_factors.ensures

pub returns : goal.returns
unfolding check_answer
returns c =
    let k = c.args.key.now in
    let answer = c.check_secret_key.ensures ∙ sym (ap (λ (b : Bool). unless b WrongLength (secret_answer k)) (le-leb 5 (length k) c.if-key-lt-HEADER_LENGTH.false)) in record { value = answer; check_exact = check_promise k (ap number answer) }
