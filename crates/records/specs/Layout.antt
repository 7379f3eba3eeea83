-- The layout of the records of document 01 ("Bytes") and of document 02, No. 2 and 5: marks, versions, lengths, and where each part starts.
use Rattle.std.specs.Prelude.{List, [], ◌∷◌, ℕ}
pub use Rattle.encoding.specs.Header.{header_length}
pub use Rattle.encoding.specs.Words.{element_length}
pub use Rattle.encoding.specs.Codes.{ternary_length}

-- ---- marks

-- "PDK"
abbrev pub public_key_mark : List ℕ
public_key_mark = 80 ∷ 68 ∷ 75 ∷ []

-- "PDS", document 02's short public key
abbrev pub seeded_key_mark : List ℕ
seeded_key_mark = 80 ∷ 68 ∷ 83 ∷ []

-- "SDK"
abbrev pub secret_key_mark : List ℕ
secret_key_mark = 83 ∷ 68 ∷ 75 ∷ []

-- "PLG"
abbrev pub sealed_entry_mark : List ℕ
sealed_entry_mark = 80 ∷ 76 ∷ 71 ∷ []

-- ---- versions of a secret key

-- document 01's
abbrev pub secret_key_version : ℕ
secret_key_version = 1

-- expanded: document 02's, with the inverse of b
abbrev pub expanded_key_version : ℕ
expanded_key_version = 2

-- ---- lengths

abbrev pub public_key_length : ℕ
public_key_length = 4101

abbrev pub seed_length : ℕ
seed_length = 32

abbrev pub seeded_key_length : ℕ
seeded_key_length = 2085

-- document 01's desk key
abbrev pub secret_key_length : ℕ
secret_key_length = 4357

abbrev pub expanded_key_length : ℕ
expanded_key_length = 6405

-- a, b and s of either version
abbrev pub key_body_length : ℕ
key_body_length = 4352

abbrev pub sealed_entry_length : ℕ
sealed_entry_length = 4133

-- document 01's bare capsule
abbrev pub encapsulation_length : ℕ
encapsulation_length = 4096

abbrev pub triple_length : ℕ
triple_length = 768

-- an entry, a body, a tag
abbrev pub block_length : ℕ
block_length = 16

-- ---- places, in a public key, a secret key and a sealed entry

-- of a or c1, behind the header
abbrev pub first_place : ℕ
first_place = 5

-- of b or c2
abbrev pub second_place : ℕ
second_place = 2053

-- of what follows the elements: s of a secret key, the body of a sealed entry
abbrev pub third_place : ℕ
third_place = 4101

abbrev pub tag_place : ℕ
tag_place = 4117

-- of the inverse of b, behind s of an expanded secret key
abbrev pub inverse_place : ℕ
inverse_place = 4357

-- ---- places, in a seeded public key

-- behind the header
abbrev pub seed_place : ℕ
seed_place = 5

-- of b, behind the seed
abbrev pub seeded_b_place : ℕ
seeded_b_place = 37
