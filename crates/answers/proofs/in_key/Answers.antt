use mathlib.Core.Path.{sym, ap, ◌∙◌}
use Rattle.answers.specs.Locations.{in_key}
use Rattle.answers.proofs.in_key.Goals as goal

pub returns-in-PublicKey : goal.returns-in-PublicKey
returns-in-PublicKey c = c.in_key_part.ensures ∙ sym (ap in_key c.in-PublicKey.is)

pub returns-in-SeededPublicKey : goal.returns-in-SeededPublicKey
returns-in-SeededPublicKey c = c.in_key_part-in-SeededPublicKey.ensures ∙ sym (ap in_key c.in-SeededPublicKey.is)

pub returns-in-SecretKey : goal.returns-in-SecretKey
returns-in-SecretKey c = c.in_key_part-in-SecretKey.ensures ∙ sym (ap in_key c.in-SecretKey.is)
