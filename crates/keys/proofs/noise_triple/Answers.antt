use Rattle.scheme.proofs.Steps.{triple-same}
use Rattle.keys.proofs.noise_triple.Goals as goal

pub returns : goal.returns
returns c =
    triple-same c.ternary-r.ensures c.ternary-e1.ensures c.ternary-e2.ensures
