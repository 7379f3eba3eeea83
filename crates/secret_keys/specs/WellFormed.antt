-- When a secret key of either version is well formed and sound, and which of its words is named where one is q or more.
use Rattle.std.specs.Prelude.{◌≡◌, Bool, true, false, ◌⊎◌, List, ℕ, length}
use Rattle.exactness.specs.Scheme as AnySetting
use Rattle.ring.specs.Ring.{one, product, Invertible}
use Rattle.scheme.specs.Scheme.{setting}
use Rattle.encoding.specs.Header.{has_mark, version_of}
use Rattle.answers.specs.declared.Location.{Location}
use Rattle.answers.specs.Locations.{secret_key, a_part, b_part, stored_inverse_part}
use Rattle.records.specs.Layout.{secret_key_mark, secret_key_version, expanded_key_version, secret_key_length, expanded_key_length}
use Rattle.records.specs.Records.{first_of, second_of, secret_of, stored_inverse}
use Rattle.records.specs.WellFormed.{WellFormedKey, WellFormedExpandedKey}
use Rattle.records.specs.Named.{NamedInTwo, NamedInThree}
use Rattle.secret_keys.specs.SecretKeys.{is_expanded, length_of}

-- ---- well formed, by version

abbrev pub WellFormedAs : (expanded : Bool) (key : List ℕ) → Type 0
WellFormedAs false k = WellFormedKey k
WellFormedAs true k = WellFormedExpandedKey k

-- the stored inverse is that of b: the plain product with b is 1
abbrev pub InverseStored : (key : List ℕ) → Type 0
InverseStored k = product (second_of k) (stored_inverse k) ≡ one

-- b has an inverse; in version 2 it is the stored one
abbrev pub UnitAs : (expanded : Bool) (key : List ℕ) → Type 0
UnitAs false k = Invertible (second_of k)
UnitAs true k = InverseStored k

-- b = 5 (a × s + e) for some ternary e
abbrev pub Matches : (key : List ℕ) → Type 0
Matches k = AnySetting.Matches setting (first_of k) (second_of k) (secret_of k)

-- ---- length, mark and version

abbrev pub HasLayout : (size version : ℕ) (key : List ℕ) → Type 0
HasLayout size version k = (length k ≡ size) × (has_mark secret_key_mark k ≡ true) × (version_of k ≡ version)

-- mark and version pass, and the length is not that of the version
pub record LengthMisfits (k : List ℕ) : Type 0 where
  pub marked : has_mark secret_key_mark k ≡ true
  pub has_version : (version_of k ≡ secret_key_version) ⊎ (version_of k ≡ expanded_key_version)
  pub misfit : ¬ (length k ≡ length_of (is_expanded k))

-- ---- l names the first word that is q or more

abbrev pub SecretNamed : (key : List ℕ) (l : Location) → Type 0
SecretNamed k l =
    (HasLayout secret_key_length secret_key_version k × NamedInTwo secret_key a_part b_part (first_of k) (second_of k) l)
    ⊎ (HasLayout expanded_key_length expanded_key_version k
    × NamedInThree secret_key a_part b_part stored_inverse_part (first_of k) (second_of k) (stored_inverse k) l)
