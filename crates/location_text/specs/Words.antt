-- A location in words (document 02, No. 3), as ASCII bytes: `RECORD PART INDEX`, such as `secret_key b 17`.
use Rattle.std.specs.Prelude.{cond, List, [], ◌∷◌, ◌++◌, ℕ, eqb}
use Rattle.text.specs.Text.{decimal}
use Rattle.answers.specs.declared.Location.{Location}
use Rattle.answers.specs.Locations.{public_key, seeded_public_key, secret_key, sealed_entry, encapsulation}
use Rattle.answers.specs.Locations.{a_part, b_part, stored_inverse_part, c1_part, c2_part}

-- ---- records and parts by their codes; no name for a code that no answer has

-- `public_key`
abbrev pub public_key_name : List ℕ
public_key_name = 112 ∷ 117 ∷ 98 ∷ 108 ∷ 105 ∷ 99 ∷ 95 ∷ 107 ∷ 101 ∷ 121 ∷ []

-- `seeded_public_key`
abbrev pub seeded_key_name : List ℕ
seeded_key_name = 115 ∷ 101 ∷ 101 ∷ 100 ∷ 101 ∷ 100 ∷ 95 ∷ 112 ∷ 117 ∷ 98 ∷ 108 ∷ 105 ∷ 99 ∷ 95 ∷ 107 ∷ 101 ∷ 121 ∷ []

-- `secret_key`
abbrev pub secret_key_name : List ℕ
secret_key_name = 115 ∷ 101 ∷ 99 ∷ 114 ∷ 101 ∷ 116 ∷ 95 ∷ 107 ∷ 101 ∷ 121 ∷ []

-- `sealed_entry`
abbrev pub sealed_entry_name : List ℕ
sealed_entry_name = 115 ∷ 101 ∷ 97 ∷ 108 ∷ 101 ∷ 100 ∷ 95 ∷ 101 ∷ 110 ∷ 116 ∷ 114 ∷ 121 ∷ []

-- `encapsulation`
abbrev pub encapsulation_name : List ℕ
encapsulation_name = 101 ∷ 110 ∷ 99 ∷ 97 ∷ 112 ∷ 115 ∷ 117 ∷ 108 ∷ 97 ∷ 116 ∷ 105 ∷ 111 ∷ 110 ∷ []

abbrev pub record_name : (kind : ℕ) → List ℕ
record_name kind =
    cond (eqb kind public_key) public_key_name
    (cond (eqb kind seeded_public_key) seeded_key_name
    (cond (eqb kind secret_key) secret_key_name
    (cond (eqb kind sealed_entry) sealed_entry_name
    (cond (eqb kind encapsulation) encapsulation_name
    []))))

-- `stored_inverse`
abbrev pub stored_inverse_name : List ℕ
stored_inverse_name = 115 ∷ 116 ∷ 111 ∷ 114 ∷ 101 ∷ 100 ∷ 95 ∷ 105 ∷ 110 ∷ 118 ∷ 101 ∷ 114 ∷ 115 ∷ 101 ∷ []

-- `a`, `b`, `stored_inverse`, `c1`, `c2`
abbrev pub part_name : (part : ℕ) → List ℕ
part_name part =
    cond (eqb part a_part) (97 ∷ [])
    (cond (eqb part b_part) (98 ∷ [])
    (cond (eqb part stored_inverse_part) stored_inverse_name
    (cond (eqb part c1_part) (99 ∷ 49 ∷ [])
    (cond (eqb part c2_part) (99 ∷ 50 ∷ [])
    []))))

-- ---- the location

-- record, part and index with a space between
abbrev pub location_words : Location → List ℕ
location_words l = record_name l.kind ++ (32 ∷ []) ++ part_name l.part ++ (32 ∷ []) ++ decimal l.index

-- how long it is at most, with an index of 64 bits
abbrev pub text_length : ℕ
text_length = 53

-- nothing where no word is named
unfoldable pub location_text : Location → List ℕ
location_text l = cond (eqb l.kind 0) [] (location_words l)
