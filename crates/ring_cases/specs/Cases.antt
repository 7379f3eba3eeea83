-- The three kinds of cases: the sizes of their fields, and what makes a case agree. The fields of a case are the inputs, the number, an empty
-- one, and the results.
use Rattle.std.specs.Prelude.{Bool, ◌&&◌, cond, List, [], ◌∷◌, ℕ, eqb}
use Rattle.std.proofs.Math.Bool.{decide}
use Rattle.ring.specs.Ring.{product}
use Rattle.ring.specs.Invertible.{is_invertible, inverse_of}
use Rattle.encoding.specs.Words.{element_length, element_of}
use Rattle.vectors.specs.declared.Verdict.{Verdict}
use Rattle.vectors.specs.Fields.{word32, field, is_sized}
use Rattle.vectors.specs.Answers.{is_same, verdict_of}
use Rattle.remainder_cases.specs.Remainders.{remainder_agrees}
use Rattle.ring_cases.specs.declared.Kind.{Kind}
use Rattle.ring_cases.specs.declared.Kind.TheVariants.{Products, Inverses, Remainders}

-- the size of an inverse, by whether there is one
abbrev pub inverse_size : Bool → ℕ
inverse_size exists = cond exists element_length 0

-- the sizes of the fields; there is an inverse where the number is 0
abbrev pub sizes_of : Kind → List ℕ → List ℕ
sizes_of Products text = element_length ∷ element_length ∷ 4 ∷ 0 ∷ element_length ∷ []
sizes_of Inverses text = element_length ∷ 4 ∷ 0 ∷ inverse_size (eqb (word32 (field 1 text)) 0) ∷ []
sizes_of Remainders text = 4 ∷ 4 ∷ 0 ∷ 4 ∷ 4 ∷ 4 ∷ []

-- how many fields a case has
abbrev pub field_count : Kind → ℕ
field_count Products = 5
field_count Inverses = 4
field_count Remainders = 6

abbrev pub is_case : Kind → List ℕ → Bool
is_case kind text = is_sized (sizes_of kind text) text

-- ---- products

abbrev pub product_agrees : List ℕ → Bool
product_agrees text =
    eqb (word32 (field 2 text)) 0 && is_same (product (element_of (field 0 text)) (element_of (field 1 text))) (element_of (field 4 text))

-- ---- inverses

-- the number by whether there is an inverse
abbrev pub inverse_number : Bool → ℕ
inverse_number exists = cond exists 0 6

-- where there is none, the empty field stands for 1,024 zeros
abbrev pub inverse_agrees : List ℕ → Bool
inverse_agrees text =
    eqb (word32 (field 1 text)) (inverse_number (decide (is_invertible (element_of (field 0 text)))))
    && is_same (inverse_of (element_of (field 0 text))) (element_of (field 3 text))

-- ---- of any kind

abbrev pub agrees : Kind → List ℕ → Bool
agrees Products text = product_agrees text
agrees Inverses text = inverse_agrees text
agrees Remainders text = remainder_agrees text

-- the verdict on the case that a text starts with
abbrev pub verdict : Kind → List ℕ → Verdict
verdict kind text = verdict_of (is_case kind text) (agrees kind text)
