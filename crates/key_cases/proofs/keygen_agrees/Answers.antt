use mathlib.Core.Path.{refl, ◌∙◌}
use mathlib.Core.List.{List}
use Prim.Native.Nat.{ℕ}
use lib.ListN.{length}
use Rattle.key_cases.specs.KeyCases.{generation_answer, generation_public, generation_secret, keys_agree, public_after, secret_after, keygen_agrees}
use Rattle.lists.proofs.Equal.{ap₄, ap₅}
use Rattle.key_cases.proofs.keygen_agrees.Goals as goal

pub returns : goal.returns
unfolding keygen_agrees public_after secret_after
returns c =
    let made = c in
    let inputs = made in
    let filled = inputs in
    let source = filled.args.source in
    let x = inputs.field.ensures in
    let y = inputs.field-2.ensures in
    let z = inputs.field-3.ensures in
    let public = filled.fill.ensures in
    let secret = filled.fill-2.ensures in
    let answer-is =
    made.generate-answer.ensures.value ∙ ap₅ (λ (x y z public secret : List ℕ). generation_answer source x y z (length public) (length secret)) x y z public secret in
    let public-is = made.generate-answer.ensures.public_after ∙ ap₅ (generation_public source) x y z public secret in
    let secret-is = made.generate-answer.ensures.secret_after ∙ ap₅ (generation_secret source) x y z public secret in record { value = c.keys_agree.ensures ∙ ap₄ keys_agree refl answer-is public-is secret-is; public_after = public-is; secret_after = secret-is }
