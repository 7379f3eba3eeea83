use mathlib.Core.Path.{ap, ◌∙◌}
use mathlib.Core.List.{List}
use Prim.Native.Nat.{ℕ, ◌+◌}
use lib.ListN.{length}
use Rattle.vectors.specs.Fields.{word32, field}
use Rattle.case_outputs.specs.Outputs.{answer_agrees}
use Rattle.call_cases.specs.CallCases.{call_answer, call_out, out_after, call_agrees}
use Rattle.lists.proofs.Equal.{ap₄, ap₅}
use Rattle.call_cases.proofs.call_agrees.Goals as goal

pub returns : goal.returns
unfolding call_agrees out_after
returns c =
    let words = c in
    let told = words in
    let place = told in
    let ran = place in
    let inputs = ran in
    let filled = inputs in
    let args = filled.args in
    let x = inputs.field.ensures in
    let y = inputs.field-2.ensures in
    let z = inputs.field-3.ensures in
    let out = filled.fill.ensures in
    let out-is = ran.run-answer.ensures.out_after ∙ ap₄ (call_out args.call) x y z out in record {
      value = c.answer_agrees.ensures
          ∙ ap₅ answer_agrees
          (ran.run-answer.ensures.value ∙ ap₄ (λ (x y z out : List ℕ). call_answer args.call x y z (length out)) x y z out)
          (told.number-told.ensures ∙ ap (λ (k : ℕ). word32 (field (k + 1) args.text.now)) place.size_field-at.ensures.0)
          (words.field-words.ensures ∙ ap (λ (k : ℕ). field (k + 2) args.text.now) place.size_field-at.ensures.0)
          (c.field-4.ensures ∙ ap (λ (k : ℕ). field (k + 3) args.text.now) place.size_field-at.ensures.0)
          out-is;
      out_after = out-is;
    }
