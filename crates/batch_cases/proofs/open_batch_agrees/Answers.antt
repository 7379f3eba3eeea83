use mathlib.Core.Path.{ap₂, ◌∙◌}
use mathlib.Core.List.{List}
use Prim.Native.Nat.{ℕ}
use lib.ListN.{length}
use Rattle.batch_calls.specs.Calls.{open_batch_answer, open_batch_out}
use Rattle.std.specs.Prelude.{Ok}
use Rattle.answers.specs.Answers.{and_then}
use Rattle.batch_records.specs.Batches.{count_of}
use Rattle.lists.proofs.Equal.{ap₄}
use Rattle.batch_cases.specs.BatchCases.{opened_agrees, open_batch_after, open_batch_agrees}
use Rattle.batch_cases.proofs.open_batch_agrees.Goals as goal

pub returns : goal.returns
unfolding open_batch_agrees open_batch_after
returns c =
    let ran = c in
    let inputs = ran in
    let x = inputs.field.ensures in
    let y = inputs.field-2.ensures in
    let z = inputs.field-3.ensures in
    let out = inputs.fill.ensures in
    let did = ran.open_batch-opened.ensures in
    let opened-is = did.value ∙ ap₄ (λ (x y z out : List ℕ). and_then (open_batch_answer x y z (length out)) (Ok (count_of y))) x y z out in
    let out-is = did.out_after ∙ ap₄ open_batch_out x y z out in record { value = c.opened_agrees.ensures ∙ ap₂ (opened_agrees _) opened-is out-is; out_after = out-is }
