use mathlib.Core.Path.{ap, ◌∙◌}
use Rattle.encoding.specs.Words.{element_of}
use Rattle.ring_cases.proofs.element.Goals as goal

pub returns : goal.returns
returns c = c.decode_element.ensures ∙ ap element_of c.field.ensures
