use Rattle.std.proofs.Common.{rules}
use Rattle.triples.specs.Triple.{triple_answer}
use Rattle.triples.proofs.check_triple.Goals as goal

pub returns-in_err-check_codes : goal.returns-in_err-check_codes
unfolding triple_answer
returns-in_err-check_codes c = search rules

pub returns-in_err-check_codes-2 : goal.returns-in_err-check_codes-2
unfolding triple_answer
returns-in_err-check_codes-2 c = search rules

pub returns : goal.returns
unfolding triple_answer
returns c = search rules
