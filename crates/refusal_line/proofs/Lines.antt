-- The line of a refusal, by its number.
use mathlib.Core.Path.{◌≡◌, sym, ap, ◌∙◌}
use mathlib.Core.List.{List, [], ◌∷◌, ◌++◌}
use Prim.Native.Nat.{ℕ, ◌≤◌}
use native.Mathlib.Omega.{arith}
use lib.ListN.{length, take, length-append}
use lib.Seq.{take_all}
use Rattle.text.specs.Text.{decimal}
use Rattle.text.proofs.Decimals.{length_digits}
use Rattle.answers.specs.declared.Refusal.{Refusal}
use Rattle.answers.specs.Answers.{number, Answer}
use Rattle.refusal_line.specs.Line.{refusal_line}
use Rattle.std.specs.Prelude.{Err}

-- the digits and a line feed are the line, for which there is room
pub refusal-put : (answer : Answer) {r : Refusal} {n : ℕ} → answer ≡ Err r → n ≡ number answer
    → take 21 (decimal n ++ (10 ∷ [])) ≡ refusal_line answer
refusal-put answer {r} {n} e m = take_all 21 (decimal n ++ (10 ∷ [])) room ∙ sym line
  where
    room : length (decimal n ++ (10 ∷ [])) ≤ 21
    room = omega (arith, length-append (decimal n) (10 ∷ []), length_digits 20 n)

    line : refusal_line answer ≡ decimal n ++ (10 ∷ [])
    line = ap refusal_line e ∙ ap (λ (k : ℕ). decimal k ++ (10 ∷ [])) (sym (m ∙ ap number e))
