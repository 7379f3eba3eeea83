use Rattle.std.proofs.Common.{rules}
use Rattle.records.specs.Records.{words_answer}
use Rattle.secret_keys.specs.SecretKeys.{stored_words_answer}
use Rattle.secret_keys.proofs.Joined.{expanded_by, plain_by}
use Rattle.secret_keys.proofs.read_stored.Goals as goal

pub returns-then-version-ne-EXPANDED_KEY_VERSION : goal.returns-then-version-ne-EXPANDED_KEY_VERSION
unfolding stored_words_answer
returns-then-version-ne-EXPANDED_KEY_VERSION c =
    let kind = plain_by c.args.bytes.now c.version.ensures c.if-version-ne-EXPANDED_KEY_VERSION.true in
    search (rules, kind)

pub returns-in_err-inverse_words_answer : goal.returns-in_err-inverse_words_answer
unfolding stored_words_answer words_answer
returns-in_err-inverse_words_answer c =
    let kind = expanded_by c.args.bytes.now c.version.ensures c.if-version-ne-EXPANDED_KEY_VERSION.false in
    search (rules, kind)

pub returns : goal.returns
unfolding stored_words_answer words_answer
returns c =
    let kind = expanded_by c.args.bytes.now c.version.ensures c.if-version-ne-EXPANDED_KEY_VERSION.false in
    search (rules, kind)
