use mathlib.Core.Path.{◌≡◌, sym, ap, ◌∙◌}
use mathlib.Core.List.{List}
use Prim.Native.Nat.{ℕ}
use Rattle.std.specs.Prelude.{Result, Ok, Option, ok_or}
use Rattle.std.proofs.Common.{rules}
use Rattle.ntt.proofs.Factors.{forward-size, backward-size}
use Rattle.lists.proofs.Equal.{ap₃}
use Rattle.scheme.specs.Scheme.{key_element}
use Rattle.scheme.specs.Answers.{if_invertible}
use Rattle.answers.specs.declared.Refusal.{Refusal}
use Rattle.answers.specs.declared.Refusal.TheVariants.{NotInvertible}
use Rattle.answers.specs.Answers.{and_then}
use Rattle.answers.proofs.AnswerLaws.{given-done, given-refused}
use Rattle.public_keys.specs.PublicKeys.{inverse_answer}
use Rattle.public_keys.proofs.PublicLaws.{inverse_or}
use Rattle.keys.specs.Keys.{keygen_b, generated_answer}
use Rattle.keys.proofs.generate.Goals as goal

-- b is given where it has an inverse
b_given : {r : Result (List ℕ) Refusal} {o : Option (List ℕ)} {b b' : List ℕ} → r ≡ ok_or o NotInvertible → o ≡ if_invertible b b → b ≡ b'
    → r ≡ and_then (inverse_answer b') (Ok b')
b_given {b = b} said made same =
    said ∙ ap (λ (o : Option (List ℕ)). ok_or o NotInvertible) made ∙ inverse_or b b ∙ ap (λ (x : List ℕ). and_then (inverse_answer x) (Ok x)) same

pub slice_bounds-generate-end : goal.slice_bounds-generate-end
slice_bounds-generate-end c = forward-size c.forward_factors.ensures

pub slice_bounds-generate-end-2 : goal.slice_bounds-generate-end-2
slice_bounds-generate-end-2 c = backward-size c.backward_factors.ensures

pub returns-in_err-unless : goal.returns-in_err-unless
unfolding generated_answer
returns-in_err-unless c = search rules

pub returns-in_err-b : goal.returns-in_err-b
unfolding keygen_b generated_answer
returns-in_err-b c =
    let made = ap₃ key_element c.uniform-u.ensures.1 c.ternary-secret.ensures c.ternary-noise.ensures in
    let h = given-refused _ (sym c.in_err-b.was ∙ b_given c.ok_or.ensures.value c.generate-made.ensures made) in
    search (rules, h)

pub returns : goal.returns
unfolding keygen_b generated_answer
returns c =
    let made = ap₃ key_element c.uniform-u.ensures.1 c.ternary-secret.ensures c.ternary-noise.ensures in
    let h = given-done (sym c.in_ok-b.was ∙ b_given c.ok_or.ensures.value c.generate-made.ensures made) in
    search (rules, h.0, h.1)
