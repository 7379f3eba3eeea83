-- The answer by the input's length, the parts of an input, and what is printed by the answer.
use mathlib.Core.Path.{◌≡◌, refl, sym, ap, ◌∙◌}
use mathlib.Core.Bool.{Bool, true, false, ◌||◌}
use mathlib.Core.List.{List, []}
use Prim.Native.Nat.{ℕ, ◌+◌, ◌-◌, ◌≤◌}
use native.Mathlib.Omega.{arith}
use lib.Dec.{eqb}
use lib.ListN.{length, take, drop}
use lib.Seq.{take_all}
use borrow.Author.Tests.{eqb-true}
use Rattle.answers.specs.declared.Refusal.{Refusal}
use Rattle.answers.specs.declared.Refusal.TheVariants.{WrongLength}
use Rattle.answers.specs.Answers.{unless, on_done, Answer, Done}
use Rattle.calls.specs.Calls.{seal_answer}
use Rattle.seal_entry_output.specs.SealEntry.{is_input_length, key_length, key_part, noise_part, entry_part, seal_entry_answer, sealed_entry, standard_output}
use Rattle.std.specs.Prelude.{Err}

pub answer_by_length : (input : List ℕ) {fits : Bool} → is_input_length (length input) ≡ fits
    → seal_entry_answer input ≡ unless fits WrongLength (seal_answer (key_part input) (noise_part input) (entry_part input) 4133)
unfolding seal_entry_answer
answer_by_length input e = ap (λ (b : Bool). unless b WrongLength (seal_answer (key_part input) (noise_part input) (entry_part input) 4133)) e

-- the noise and the entry have room in an input of either length
pub behind_key_lem : (size : ℕ) → is_input_length size ≡ true → 1552 ≤ size
behind_key_lem size = either (eqb size 5653) refl
  where
    either : (b : Bool) → eqb size 5653 ≡ b → b || eqb size 3637 ≡ true → 1552 ≤ size
    either true e h = omega (arith, eqb-true size 5653 e)
    either false e h = omega (arith, eqb-true size 3637 h)

-- what is made of the parts, by where each starts and ends
pub of_parts : {A : Type 0} (f : (key noise entry : List ℕ) → A) (input : List ℕ)
    → f (take (key_length input - 0) input) (take ((key_length input + 1536) - key_length input) (drop (key_length input) input))
    (take ((key_length input + 1536 + 16) - (key_length input + 1536)) (drop (key_length input + 1536) input))
    ≡ f (key_part input) (noise_part input) (entry_part input)
of_parts f input =
    let k = key_length input in
    let key : k - 0 ≡ k = omega arith in
    let noise : (k + 1536) - k ≡ 1536 = omega arith in
    let entry : (k + 1536 + 16) - (k + 1536) ≡ 16 = omega arith in
    rw (key, noise, entry)

-- ---- standard output: so many bytes of the buffer

pub record Output (input sealed : List ℕ) (k : ℕ) : Type 0 where
  pub size : (k ≡ length (standard_output input)) × (k ≤ 4133)
  pub bytes : take k sealed ≡ standard_output input

pub output-done : (input : List ℕ) {sealed : List ℕ} → seal_entry_answer input ≡ Done → sealed ≡ sealed_entry input → length sealed ≡ 4133
    → Output input sealed 4133
unfolding standard_output
output-done input {sealed} e es size =
    let same = es ∙ ap (λ (a : Answer). on_done a (sealed_entry input) []) (sym e) in
    record { size = (sym size ∙ ap length same, omega arith); bytes = take_all 4133 sealed (omega arith) ∙ same }

pub output_refused : (input sealed : List ℕ) {r : Refusal} → seal_entry_answer input ≡ Err r → Output input sealed 0
unfolding standard_output
output_refused input sealed e =
    let none = ap (λ (a : Answer). on_done a (sealed_entry input) []) (sym e) in
    record { size = (ap length none, omega arith); bytes = none }
