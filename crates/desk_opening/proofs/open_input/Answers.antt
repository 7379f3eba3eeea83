use mathlib.Core.Path.{sym, ap, ◌∙◌}
use lib.ListN.{length}
use Rattle.std.specs.Prelude.{Ok}
use Rattle.answers.specs.Answers.{and_then, Answer}
use Rattle.desk_opening.specs.Input.{desk_entry}
use Rattle.desk_opening.proofs.Answers.{answer_by_length, entry_given}
use borrow.Author.Tests.{ne_eqb}
use Rattle.desk_opening.proofs.open_input.Goals as goal

pub returns-then-input-ne-INPUT_LENGTH : goal.returns-then-input-ne-INPUT_LENGTH
returns-then-input-ne-INPUT_LENGTH c =
    let input = c.args.input.now in
    sym (ap (λ (a : Answer). and_then a (Ok (desk_entry input))) (answer_by_length input (ne_eqb (length input) 10026 c.if-input-ne-INPUT_LENGTH.true)))

pub returns : goal.returns
returns c = c.open_parts.ensures ∙ entry_given c.args.input.now c.if-input-ne-INPUT_LENGTH.false
