-- When the records of document 01 and of document 02, No. 2 and 5, are well formed ("What the desk says"): the checks of a record's own bytes pass.
use Rattle.std.specs.Prelude.{◌≡◌, true, List, ℕ, length}
use Rattle.ring.specs.Ring.{n, Element}
use Rattle.encoding.specs.Codes.{first_invalid_code}
use Rattle.encoding.specs.Header.{has_mark, version_of}
use Rattle.records.specs.Layout.{seeded_key_mark, secret_key_mark, sealed_entry_mark, secret_key_version, expanded_key_version}
use Rattle.records.specs.Layout.{seeded_key_length, secret_key_length, expanded_key_length, sealed_entry_length, encapsulation_length}
use Rattle.records.specs.Records.{first_of, second_of, codes_part, stored_inverse, seeded_b, c1_of, c2_of}

-- the front of a public key, a secret key and a sealed entry: mark, version, and every word below q
pub record WellFormedFront (mark : List ℕ) (version : ℕ) (bytes : List ℕ) : Type 0 where
  pub marked : has_mark mark bytes ≡ true
  pub has_version : version_of bytes ≡ version
  pub first-words : Element (first_of bytes)
  pub second-words : Element (second_of bytes)

-- a seeded public key, "PDS"
pub record WellFormedSeededKey (k : List ℕ) : Type 0 where
  pub size : length k ≡ seeded_key_length
  pub marked : has_mark seeded_key_mark k ≡ true
  pub has_version : version_of k ≡ 1
  pub words : Element (seeded_b k)

-- a secret key, "SDK", of version 1: no code of s is 3
pub record WellFormedKey (k : List ℕ) : Type 0 where
  pub size : length k ≡ secret_key_length
  pub front : WellFormedFront secret_key_mark secret_key_version k
  pub codes : first_invalid_code (codes_part k) ≡ n

-- of version 2, with every word of the stored inverse below q
pub record WellFormedExpandedKey (k : List ℕ) : Type 0 where
  pub size : length k ≡ expanded_key_length
  pub front : WellFormedFront secret_key_mark expanded_key_version k
  pub inverse-words : Element (stored_inverse k)
  pub codes : first_invalid_code (codes_part k) ≡ n

-- a sealed entry, "PLG"
pub record WellFormedEntry (sealed : List ℕ) : Type 0 where
  pub size : length sealed ≡ sealed_entry_length
  pub front : WellFormedFront sealed_entry_mark 1 sealed

-- an encapsulation: every word below q
pub record WellFormedEncapsulation (c : List ℕ) : Type 0 where
  pub size : length c ≡ encapsulation_length
  pub c1-words : Element (c1_of c)
  pub c2-words : Element (c2_of c)
