use mathlib.Core.Path.{◌∙◌}
use mir.Syntax.{w32}
use Rattle.ring.proofs.SignedValues.{read_back}
use Rattle.remainder_cases.proofs.Words.{signed-cast}
use Rattle.remainder_cases.proofs.signed.Goals as goal

pub returns : goal.returns
returns c = read_back w32 c.cast_signed.result c.cast_signed.type_inv ∙ c.cast_signed.ensures ∙ signed-cast c.args.x
