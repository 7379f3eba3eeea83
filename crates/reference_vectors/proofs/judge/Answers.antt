use mathlib.Core.Path.{ap, ap₂, ◌∙◌}
use Prim.Native.Nat.{ℕ}
use Rattle.vectors.specs.Fields.{has_field}
use Rattle.vectors.specs.Answers.{verdict_of}
use Rattle.reference_vectors.specs.Cases.{verdict}
use Rattle.reference_vectors.proofs.judge.Goals as goal

pub returns : goal.returns
unfolding verdict
returns c =
    let text = c.args.text.now in
    let whole = c.has_field.ensures ∙ ap (λ (k : ℕ). has_field k text) c.last_field.ensures.0 in
    c.judged.ensures ∙ ap₂ verdict_of whole c.agrees.ensures
