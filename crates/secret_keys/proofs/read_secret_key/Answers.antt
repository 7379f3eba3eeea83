use mathlib.Core.Path.{sym, ap, ◌∙◌}
use Rattle.std.proofs.Common.{rules}
use Rattle.std.proofs.lemmas.Result.{err_from_is_err_and}
use Rattle.std.specs.Prelude.{Ok, Err}
use Rattle.answers.proofs.AnswerLaws.{given-done, given-refused, then-failed}
use Rattle.secret_keys.specs.SecretKeys.{elements_of}
use Rattle.secret_keys.specs.Read.{spectra_of}
use Rattle.secret_keys.proofs.Checks.{layout-size}
use Rattle.secret_keys.proofs.Joined.{layout-refused, parts-refused, unit-refused, matched, inverse-by, matches-said, spectra-read}
use Rattle.secret_keys.proofs.read_secret_key.Goals as goal

pub returns-in_err-check_layout : goal.returns-in_err-check_layout
returns-in_err-check_layout c =
    let refused = layout-refused c.args.bytes.now (sym c.check_layout.ensures ∙ c.in_err-check_layout.was) in
    search (rules, refused)

pub read_parts-requires : goal.read_parts-requires
read_parts-requires c = layout-size c.args.bytes.now (sym c.check_layout.ensures ∙ c.in_ok-check_layout.was)

pub returns-in_err-parts : goal.returns-in_err-parts
returns-in_err-parts c =
    let layout = sym c.check_layout.ensures ∙ c.in_ok-check_layout.was in
    let refused = parts-refused c.args.bytes.now layout (given-refused _ (sym c.in_err-parts.was ∙ c.read_parts.ensures)) in
    search (rules, refused)

pub returns-in_err-inverse : goal.returns-in_err-inverse
returns-in_err-inverse c =
    let k = c.args.bytes.now in
    let layout = sym c.check_layout.ensures ∙ c.in_ok-check_layout.was in
    let parts = given-done (sym c.in_ok-parts.was ∙ c.read_parts.ensures) in
    let unit = given-refused _ (sym c.in_err-inverse.was ∙ c.read_inverse.ensures ∙ inverse-by k parts.1 c.check_key-key.ensures.a_value.1) in
    let p = err_from_is_err_and c.from_residual-in_err-inverse.result c.from_residual-in_err-inverse.ensures.1 in
    p.1 ∙ ap Err p.2 ∙ sym (then-failed (Ok (spectra_of (elements_of k))) (unit-refused k layout parts.0 unit))

pub returns-in_err-unless : goal.returns-in_err-unless
returns-in_err-unless c =
    let k = c.args.bytes.now in
    let layout = sym c.check_layout.ensures ∙ c.in_ok-check_layout.was in
    let parts = given-done (sym c.in_ok-parts.was ∙ c.read_parts.ensures) in
    let unit = given-done (sym c.in_ok-inverse.was ∙ c.read_inverse.ensures ∙ inverse-by k parts.1 c.check_key-key.ensures.a_value.1) in
    let refused = matched k layout parts.0 unit.0 ∙ sym (c.unless.ensures ∙ matches-said k parts.1 c.check_key-key.ensures.matches_value) ∙ c.in_err-unless.was in
    search (rules, refused)

pub returns : goal.returns
returns c =
    let k = c.args.bytes.now in
    let layout = sym c.check_layout.ensures ∙ c.in_ok-check_layout.was in
    let parts = given-done (sym c.in_ok-parts.was ∙ c.read_parts.ensures) in
    let key = c.check_key-key.ensures in
    let unit = given-done (sym c.in_ok-inverse.was ∙ c.read_inverse.ensures ∙ inverse-by k parts.1 key.a_value.1) in
    let done = matched k layout parts.0 unit.0 ∙ sym (c.unless.ensures ∙ matches-said k parts.1 key.matches_value) ∙ c.in_ok-unless.was in
    let spectra = spectra-read k layout parts.1 key.a_value unit.1 in
    search (rules, done, spectra)
