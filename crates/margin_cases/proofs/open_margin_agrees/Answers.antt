use mathlib.Core.Path.{ap₂, ◌∙◌}
use mathlib.Core.List.{List}
use Prim.Native.Nat.{ℕ}
use lib.ListN.{length}
use Rattle.calls.specs.Calls.{open_answer, open_out}
use Rattle.margin_calls.specs.Calls.{open_margin}
use Rattle.std.specs.Prelude.{Ok}
use Rattle.answers.specs.Answers.{and_then}
use Rattle.lists.proofs.Equal.{ap₄}
use Rattle.margin_cases.specs.MarginCases.{opened_agrees, open_margin_after, open_margin_agrees}
use Rattle.margin_cases.proofs.open_margin_agrees.Goals as goal

pub returns : goal.returns
unfolding open_margin_agrees open_margin_after
returns c =
    let ran = c in
    let inputs = ran in
    let x = inputs.field.ensures in
    let y = inputs.field-2.ensures in
    let z = inputs.field-3.ensures in
    let out = inputs.fill.ensures in
    let did = ran.open_with_margin-opened.ensures in
    let opened-is = did.value ∙ ap₄ (λ (x y z out : List ℕ). and_then (open_answer x y z (length out)) (Ok (open_margin x y z))) x y z out in
    let out-is = did.out_after ∙ ap₄ open_out x y z out in
    record { value = c.opened_agrees.ensures ∙ ap₂ (opened_agrees _) opened-is out-is; out_after = out-is }
