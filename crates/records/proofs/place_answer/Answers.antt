use Rattle.records.proofs.place_answer.Goals as goal

pub returns : goal.returns
returns c = c.unless.ensures
