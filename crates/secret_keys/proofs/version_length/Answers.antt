use mathlib.Core.Path.{sym, ap}
use borrow.Author.Tests.{eq-eqb, ne_eqb}
use Rattle.records.specs.Layout.{expanded_key_version}
use Rattle.secret_keys.specs.SecretKeys.{length_of}
use Rattle.secret_keys.proofs.version_length.Goals as goal

pub returns-then-version-eq-EXPANDED_KEY_VERSION : goal.returns-then-version-eq-EXPANDED_KEY_VERSION
returns-then-version-eq-EXPANDED_KEY_VERSION c = sym (ap length_of (eq-eqb c.args.version expanded_key_version c.if-version-eq-EXPANDED_KEY_VERSION.true))

pub returns : goal.returns
returns c = sym (ap length_of (ne_eqb c.args.version expanded_key_version c.if-version-eq-EXPANDED_KEY_VERSION.false))
