use mathlib.Core.Path.{sym, ap, ◌∙◌}
use Rattle.answers.specs.Locations.{in_encapsulation}
use Rattle.answers.proofs.in_encapsulation.Goals as goal

pub returns-in-SealedEntry : goal.returns-in-SealedEntry
returns-in-SealedEntry c = c.in_encapsulation_part.ensures ∙ sym (ap in_encapsulation c.in-SealedEntry.is)

pub returns-in-Encapsulation : goal.returns-in-Encapsulation
returns-in-Encapsulation c = c.in_encapsulation_part-in-Encapsulation.ensures ∙ sym (ap in_encapsulation c.in-Encapsulation.is)
