use Rattle.scheme.proofs.Steps.{triple-same}
use Rattle.triples.proofs.read_triple.Goals as goal

pub returns : goal.returns
returns c =
    triple-same c.decode_ternary-r.ensures c.decode_ternary-e1.ensures c.decode_ternary-e2.ensures
