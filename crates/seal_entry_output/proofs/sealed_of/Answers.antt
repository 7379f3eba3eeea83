use mathlib.Core.Path.{refl, sym, ap, ◌∙◌}
use Rattle.answers.specs.Answers.{on_done, Answer}
use Rattle.calls.specs.Calls.{seal_answer, seal_out}
use Rattle.seal_entry_output.specs.SealEntry.{key_part, noise_part, entry_part, sealed_entry}
use Rattle.seal_entry_output.proofs.Printing.{answer_by_length, behind_key_lem}
use Rattle.seal_entry_output.proofs.sealed_of.Goals as goal

pub returns-then-not-is_input_length : goal.returns-then-not-is_input_length
returns-then-not-is_input_length c = record { value = sym (answer_by_length _ (sym c.is_input_length.ensures ∙ c.if-not-is_input_length.true)); sealed_after = refl }

pub seal_parts-requires : goal.seal_parts-requires
seal_parts-requires c = behind_key_lem _ (sym c.is_input_length.ensures ∙ c.if-not-is_input_length.false)

pub returns : goal.returns
unfolding seal_out
returns c =
    let called = c in
    let left = called in
    let start = left in
    let input = start.args.input.now in
    let answered = called.seal_parts.ensures.value in
    let sealed = called.seal_parts.ensures.sealed_after in record {
      value = answered ∙ ap (seal_answer (key_part input) (noise_part input) (entry_part input)) start.requires
          ∙ sym (answer_by_length input (sym left.is_input_length.ensures ∙ left.if-not-is_input_length.false));
      sealed_after = sealed ∙ ap (λ (a : Answer). on_done a (sealed_entry input) start.args.sealed.now) (sym answered);
    }
