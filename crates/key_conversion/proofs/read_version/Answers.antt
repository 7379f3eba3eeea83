use mathlib.Core.Path.{sym, ◌∙◌}
use Rattle.std.proofs.Common.{rules}
use Rattle.secret_keys.specs.SecretKeys.{version_answer}
use Rattle.key_conversion.proofs.read_version.Goals as goal

pub returns-in_err-check_header : goal.returns-in_err-check_header
unfolding version_answer
returns-in_err-check_header c =
    let refused = sym c.check_header.ensures ∙ c.in_err-check_header.was in
    search (rules, refused)

pub returns : goal.returns
unfolding version_answer
returns c =
    let passed = sym c.check_header.ensures ∙ c.in_ok-check_header.was in
    search (rules, passed)
