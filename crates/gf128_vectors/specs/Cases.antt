-- A case of the file of field products: its fields are the factors x and y, the number, an empty one, and the product.
use Rattle.std.specs.Prelude.{Bool, ◌&&◌, List, [], ◌∷◌, ℕ, eqb}
use Rattle.gf128.specs.Bytes.{product}
use Rattle.vectors.specs.declared.Verdict.{Verdict}
use Rattle.vectors.specs.Fields.{word32, field, is_sized}
use Rattle.vectors.specs.Answers.{is_same, verdict_of}

abbrev pub is_case : List ℕ → Bool
is_case text = is_sized (16 ∷ 16 ∷ 4 ∷ 0 ∷ 16 ∷ []) text

-- the number is 0, and the product is that of the factors
abbrev pub agrees : List ℕ → Bool
agrees text = eqb (word32 (field 2 text)) 0 && is_same (product (field 0 text) (field 1 text)) (field 4 text)

-- the verdict on the case that a text starts with
abbrev pub verdict : List ℕ → Verdict
verdict text = verdict_of (is_case text) (agrees text)
