use mathlib.Core.Path.{ap, ◌∙◌}
use mathlib.Core.Bool.{Bool, ◌||◌}
use Prim.Native.Nat.{ℕ}
use lib.Dec.{eqb}
use lib.ListN.{length}
use Rattle.std.proofs.Common.{rules}
use Rattle.answers.specs.declared.Refusal.TheVariants.{WrongLength, WrongMark, WrongVersion}
use Rattle.answers.specs.Answers.{unless, Done}
use Rattle.records.specs.Layout.{secret_key_version, expanded_key_version}
use Rattle.secret_keys.specs.SecretKeys.{length_of, layout_answer}
use Rattle.secret_keys.proofs.check_layout.Goals as goal

pub returns-in_err-unless : goal.returns-in_err-unless
unfolding layout_answer
returns-in_err-unless c = search rules

pub returns-in_err-unless-2 : goal.returns-in_err-unless-2
unfolding layout_answer
returns-in_err-unless-2 c =
    let issue = c.unless-2.ensures
    ∙ ap (λ (v : ℕ). unless (eqb v secret_key_version || eqb v expanded_key_version) WrongVersion Done) c.version-version.ensures in
    search (rules, issue)

pub returns : goal.returns
unfolding layout_answer
returns c =
    let version = c.version-version.ensures in
    let issue = c.unless-2.ensures
    ∙ ap (λ (v : ℕ). unless (eqb v secret_key_version || eqb v expanded_key_version) WrongVersion Done) version in
    let size = c.version_length-size.ensures ∙ ap (λ (v : ℕ). length_of (eqb v expanded_key_version)) version in
    let fits = c.unless-3.ensures ∙ ap (λ (i : ℕ). unless (eqb (length c.args.bytes.now) i) WrongLength Done) size in
    search (rules, issue, fits)
