use mathlib.Core.Path.{sym, ap, ◌∙◌}
use Rattle.std.proofs.Common.{rules}
use Rattle.std.proofs.lemmas.Result.{err_from_is_err_and}
use Rattle.std.specs.Prelude.{Err}
use Rattle.answers.proofs.AnswerLaws.{given-done, given-refused}
use Rattle.secret_keys.proofs.Checks.{layout-size}
use Rattle.secret_keys.proofs.Joined.{layout-refused, parts-refused, unit-refused, matched, inverse-said, matches-said}
use Rattle.secret_keys.proofs.check_secret_key.Goals as goal

pub returns-in_err-check_layout : goal.returns-in_err-check_layout
returns-in_err-check_layout c =
    let refused = layout-refused c.args.bytes.now (sym c.check_layout.ensures ∙ c.in_err-check_layout.was) in
    search (rules, refused)

pub read_parts-requires : goal.read_parts-requires
read_parts-requires c = layout-size c.args.bytes.now (sym c.check_layout.ensures ∙ c.in_ok-check_layout.was)

pub returns-in_err-parts : goal.returns-in_err-parts
returns-in_err-parts c =
    let layout = sym c.check_layout.ensures ∙ c.in_ok-check_layout.was in
    let refused = parts-refused c.args.bytes.now layout (given-refused _ (sym c.in_err-parts.was ∙ c.read_parts.ensures)) in
    search (rules, refused)

pub returns-in_err-check_inverse : goal.returns-in_err-check_inverse
returns-in_err-check_inverse c =
    let k = c.args.bytes.now in
    let layout = sym c.check_layout.ensures ∙ c.in_ok-check_layout.was in
    let parts = given-done (sym c.in_ok-parts.was ∙ c.read_parts.ensures) in
    let unit = sym (inverse-said k parts.1 c.check_key-checked.ensures.a_value.1) ∙ sym c.check_inverse.ensures ∙ c.in_err-check_inverse.was in
    let p = err_from_is_err_and c.from_residual-in_err-check_inverse.result c.from_residual-in_err-check_inverse.ensures.1 in
    p.1 ∙ ap Err p.2 ∙ sym (unit-refused k layout parts.0 unit)

pub returns : goal.returns
returns c =
    let k = c.args.bytes.now in
    let layout = sym c.check_layout.ensures ∙ c.in_ok-check_layout.was in
    let parts = given-done (sym c.in_ok-parts.was ∙ c.read_parts.ensures) in
    let unit = sym (inverse-said k parts.1 c.check_key-checked.ensures.a_value.1) ∙ sym c.check_inverse.ensures ∙ c.in_ok-check_inverse.was in
    c.unless.ensures ∙ matches-said k parts.1 c.check_key-checked.ensures.matches_value ∙ sym (matched k layout parts.0 unit)
