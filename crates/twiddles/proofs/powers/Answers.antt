use mathlib.Core.Path.{refl}
use Rattle.twiddles.proofs.PowerTable.{powers-rule}
use Rattle.twiddles.proofs.powers.Goals as goal

pub returns : goal.returns
returns c = powers-rule _ refl tt
