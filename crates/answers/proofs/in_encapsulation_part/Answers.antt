use mathlib.Core.Path.{sym, ap}
use Rattle.answers.specs.Locations.{in_encapsulation_part}
use Rattle.answers.proofs.in_encapsulation_part.Goals as goal

pub returns-in-C1 : goal.returns-in-C1
returns-in-C1 c = sym (ap (in_encapsulation_part c.args.kind) c.in-C1.is)

pub returns-in-C2 : goal.returns-in-C2
returns-in-C2 c = sym (ap (in_encapsulation_part c.args.kind) c.in-C2.is)
