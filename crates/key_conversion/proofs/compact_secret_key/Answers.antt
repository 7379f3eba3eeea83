use mathlib.Core.Path.{◌≡◌, sym, ap, ◌∙◌}
use mathlib.Core.Bool.{Bool, true, false, ◌&&◌}
use lib.Dec.{eqb, leb}
use lib.ListN.{length}
use borrow.Author.Tests.{eqb-true}
use Rattle.lists.proofs.Both.{both}
use Rattle.ntt.proofs.Factors.{forward-size, backward-size}
use Rattle.answers.specs.declared.Refusal.TheVariants.{WrongLength}
use Rattle.answers.specs.Answers.{number, unless, on_done, Answer}
use Rattle.records.specs.Layout.{header_length, expanded_key_version, secret_key_length}
use Rattle.records.specs.Records.{compact_bytes}
use Rattle.secret_keys.specs.SecretKeys.{version_answer}
use Rattle.std.specs.Prelude.{Err}
use Rattle.std.proofs.lemmas.Result.{err_from_is_err_and}
use Rattle.scheme.specs.declared.SecretKey.{SecretKey}
use Rattle.answers.proofs.AnswerLaws.{given-done, given-refused, on_done_lem}
use Rattle.conversion_calls.specs.Calls.{compact_answer, compact_out}
use Rattle.conversion_calls.proofs.Promised.{compact_promise}
use Rattle.key_conversion.proofs.Laws.{long_enough}
use Rattle.key_conversion.proofs.compact_secret_key.Goals as goal

pub returns-then-not-fits : goal.returns-then-not-fits
unfolding compact_answer compact_out
returns-then-not-fits c =
    let args = c.args in
    let k = args.key.now in
    let old = args.out.now in
    let misfit : leb header_length (length k) && eqb (length old) secret_key_length ≡ false = c.if-not-fits.true in
    let answer = sym (ap (λ (b : Bool). unless b WrongLength (version_answer expanded_key_version k)) misfit) in
    let kept = ap (λ (a : Answer). on_done a (compact_bytes k) old) answer in record { value = answer; out_after = kept; compact_exact = compact_promise k old (ap number answer) kept }

pub slice_bounds-read_version-end : goal.slice_bounds-read_version-end
slice_bounds-read_version-end c = forward-size c.forward_factors.ensures

pub slice_bounds-read_version-end-2 : goal.slice_bounds-read_version-end-2
slice_bounds-read_version-end-2 c = backward-size c.backward_factors.ensures

pub write_compact-requires : goal.write_compact-requires
write_compact-requires c =
    let args = c.args in
    let k = args.key.now in
    let room = length args.out.now in
    let (_, fits) = both (leb header_length (length k)) (eqb room secret_key_length) c.if-not-fits.false in
    let read = given-done (sym c.in_ok-read_version.was ∙ c.read_version.ensures) in
    (long_enough true k read.0, eqb-true room secret_key_length fits)

pub returns-in_err-read_version : goal.returns-in_err-read_version
unfolding compact_answer compact_out
returns-in_err-read_version c =
    let args = c.args in
    let k = args.key.now in
    let old = args.out.now in
    let fits : leb header_length (length k) && eqb (length old) secret_key_length ≡ true = c.if-not-fits.false in
    let whole = sym (ap (λ (b : Bool). unless b WrongLength (version_answer expanded_key_version k)) fits) in
    let p = err_from_is_err_and c.from_residual.result c.from_residual.ensures.1 in
    let refused = sym (given-refused _ (sym c.in_err-read_version.was ∙ c.read_version.ensures)) ∙ whole in
    let answer = p.1 ∙ ap Err p.2 ∙ refused in
    let kept = ap (λ (a : Answer). on_done a (compact_bytes k) old) refused in
    record { value = answer; out_after = kept; compact_exact = compact_promise k old (ap number answer) kept }

pub returns : goal.returns
unfolding compact_answer compact_out
returns c =
    let args = c.args in
    let k = args.key.now in
    let old = args.out.now in
    let fits : leb header_length (length k) && eqb (length old) secret_key_length ≡ true = c.if-not-fits.false in
    let whole = sym (ap (λ (b : Bool). unless b WrongLength (version_answer expanded_key_version k)) fits) in
    let read = given-done (sym c.in_ok-read_version.was ∙ c.read_version.ensures) in
    let answer = sym read.0 ∙ whole in
    let written = c.write_compact.ensures ∙ sym (on_done_lem (compact_bytes k) old (sym answer)) in
    record { value = answer; out_after = written; compact_exact = compact_promise k old (ap number answer) written }
