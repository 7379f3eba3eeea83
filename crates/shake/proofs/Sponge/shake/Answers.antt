use mathlib.Core.Path.{ap, ◌∙◌}
use lib.ListN.{length}
use Rattle.keccak_steps.specs.Steps.{State}
use Rattle.shake.specs.Sponge.{squeeze}
use Rattle.shake.specs.Shake.{shake}
use Rattle.shake.proofs.Sponge.shake.Goals as goal

pub returns : goal.returns
unfolding shake
returns g c =
    let args = c.args in
    let rate = g.row.RATE in
    let room = length args.out.now in
    c.squeeze.ensures ∙ ap (λ (s : State). squeeze rate s room) c.absorb-s.ensures
