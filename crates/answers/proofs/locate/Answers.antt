use mathlib.Core.Path.{sym, ap}
use Rattle.answers.specs.Locations.{location}
use Rattle.answers.proofs.locate.Goals as goal

pub returns-in-Ok : goal.returns-in-Ok
returns-in-Ok c = sym (ap location c.in-Ok.is)
