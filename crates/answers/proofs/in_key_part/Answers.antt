use mathlib.Core.Path.{sym, ap}
use Rattle.answers.specs.Locations.{in_key_part}
use Rattle.answers.proofs.in_key_part.Goals as goal

pub returns-in-A : goal.returns-in-A
returns-in-A c = sym (ap (in_key_part c.args.kind) c.in-A.is)

pub returns-in-B : goal.returns-in-B
returns-in-B c = sym (ap (in_key_part c.args.kind) c.in-B.is)

pub returns-in-StoredInverse : goal.returns-in-StoredInverse
returns-in-StoredInverse c = sym (ap (in_key_part c.args.kind) c.in-StoredInverse.is)
