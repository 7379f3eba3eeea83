use mathlib.Core.Path.{sym, ◌∙◌}
use Rattle.seal_entry_output.specs.SealEntry.{standard_error}
use Rattle.seal_entry_output.proofs.Printing.{output-done, output_refused}
use Rattle.seal_entry_output.proofs.seal_entry.Goals as goal

pub returns-in-Ok : goal.returns-in-Ok
unfolding standard_error
returns-in-Ok c =
    let made = c in
    let start = made in
    let input = start.args.input.now in
    let answered = made.sealed_of-answer.ensures.value in
    let sealed = made.sealed_of-answer.ensures.sealed_after in
    let told = c.in-Ok.is in
    let output = output-done input (sym answered ∙ told) (rw told at sealed) (made.sealed_of-answer.auto.sealed ∙ start.requires) in
    record {
      sealed_after = rw answered at sealed;
      sealed_value = output.size;
      sealed_after_2 = output.bytes;
      error_value = rw answered at c.line-error.ensures;
    }

pub returns : goal.returns
unfolding standard_error
returns c =
    let made = c in
    let start = made in
    let input = start.args.input.now in
    let answered = made.sealed_of-answer.ensures.value in
    let sealed = made.sealed_of-answer.ensures.sealed_after in
    let output = output_refused input made.sealed_of-answer.new.sealed (sym answered ∙ c.in_default.is) in
    record {
      sealed_after = rw answered at sealed;
      sealed_value = output.size;
      sealed_after_2 = output.bytes;
      error_value = rw answered at c.line-error.ensures;
    }
