use Rattle.std.proofs.Common.{rules, tests, ◌∙◌, nat_eq}
use Rattle.std.proofs.lemmas.Iterator.{YieldsList-from_slice}
use Rattle.std.proofs.lemmas.Iterator.Search.{all_from_yields_List}
use Rattle.vectors.proofs.Answers.{same-filled}
use Rattle.vectors.proofs.is_filled.Goals as goal

pub returns : goal.returns
returns c =
    all_from_yields_List (λ x. nat_eq x c.args.value) _ _ c.all.result c.all.ensures.ran (YieldsList-from_slice c.args.buffer.now c.iter.ensures.rest) (λ x b q k. search (rules, tests))
    ∙ same-filled c.args.value c.args.buffer.now
