use mathlib.Core.Path.{ap, ◌∙◌}
use Rattle.algebra.specs.Numbers.{scale}
use Rattle.modq.specs.Montgomery.{from_montgomery}
use Rattle.twiddles.specs.Powers.{q, degree}
use Rattle.twiddles.proofs.Factors.{forms_of-powers}
use Rattle.twiddles.proofs.power_forms.Goals as goal

pub returns : goal.returns
returns c = c.scaled.ensures ∙ ap (scale q degree (from_montgomery 21894)) c.powers.ensures ∙ forms_of-powers
