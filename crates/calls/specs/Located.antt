-- Document 02, No. 3: 4 and 11 name the first word that is q or more, and the code that an export answers is read back.
use Rattle.std.specs.Prelude.{◌≡◌, ◌↔◌, List, ℕ, ◌<◌, length}
use Rattle.answers.specs.declared.Location.{Location}
use Rattle.answers.specs.Answers.{number, Answer, Done}
use Rattle.answers.specs.Locations.{sealed_entry, encapsulation, c1_part, c2_part, nowhere, location, Names, code, code_number, code_location}
use Rattle.records.specs.Layout.{sealed_entry_mark, sealed_entry_length, encapsulation_length, triple_length, block_length}
use Rattle.records.specs.Records.{first_of, second_of, c1_of, c2_of}
use Rattle.records.specs.Named.{NamedInTwo}
use Rattle.public_keys.specs.WellFormed.{HasHeader, PublicNamed}
use Rattle.secret_keys.specs.WellFormed.{SecretNamed}
use Rattle.keys.specs.Keys.{triple_noise_length}
use Rattle.calls.specs.Calls.{check_answer, keygen_answer, seeded_keygen_answer, encapsulate_answer, decapsulate_answer, seal_answer, open_answer}
use Rattle.calls.specs.Promises.{Accepted}

-- ---- which word is named; `room` is the length of the output

pub record LocatedExact : Type 0 where
  -- 4, of a key
  pub check : (k : List ℕ) (l : Location) → Names 4 l (check_answer k) ↔ SecretNamed k l
  pub encapsulate : (k t : List ℕ) (room : ℕ) (l : Location)
      → Names 4 l (encapsulate_answer k t room) ↔ (PublicNamed k l × (length t ≡ triple_length) × (room ≡ encapsulation_length))
  pub decapsulate : (k c d : List ℕ) (room : ℕ) (l : Location)
      → Names 4 l (decapsulate_answer k c d room) ↔ (SecretNamed k l × (length c ≡ encapsulation_length) × (length d ≡ triple_length) × (room ≡ triple_length))
  pub seal : (k noise entry : List ℕ) (room : ℕ) (l : Location)
      → Names 4 l (seal_answer k noise entry room)
      ↔ (PublicNamed k l × (length noise ≡ triple_noise_length) × (length entry ≡ block_length) × (room ≡ sealed_entry_length))
  pub open_entry : (k sealed noise : List ℕ) (room : ℕ) (l : Location)
      → Names 4 l (open_answer k sealed noise room)
      ↔ (SecretNamed k l × (length sealed ≡ sealed_entry_length) × (length noise ≡ triple_noise_length) × (room ≡ block_length))
  -- 11, of an encapsulation and of a sealed entry, which are looked at with an accepted key only
  pub of-encapsulation : (k c d : List ℕ) (room : ℕ) (l : Location)
      → Names 11 l (decapsulate_answer k c d room)
      ↔ (Accepted k
      × (length c ≡ encapsulation_length)
      × (length d ≡ triple_length)
      × (room ≡ triple_length)
      × NamedInTwo encapsulation c1_part c2_part (c1_of c) (c2_of c) l)
  pub of-sealed_entry : (k sealed noise : List ℕ) (room : ℕ) (l : Location)
      → Names 11 l (open_answer k sealed noise room)
      ↔ (Accepted k
      × HasHeader sealed_entry_length sealed_entry_mark sealed
      × (length noise ≡ triple_noise_length)
      × (room ≡ block_length)
      × NamedInTwo sealed_entry c1_part c2_part (first_of sealed) (second_of sealed) l)
  -- calls that are lent no encapsulation never say 11, and key generation, which is lent no record, neither
  pub check_never : (k : List ℕ) → ¬ (number (check_answer k) ≡ 11)
  pub encapsulate_never : (k t : List ℕ) (room : ℕ) → ¬ (number (encapsulate_answer k t room) ≡ 11)
  pub seal_never : (k noise entry : List ℕ) (room : ℕ) → ¬ (number (seal_answer k noise entry room) ≡ 11)
  pub keygen_never : (stream s e : List ℕ) (public secret : ℕ) → location (keygen_answer stream s e public secret) ≡ nowhere
  pub seeded-keygen_never : (seed s e : List ℕ) (public secret : ℕ) → location (seeded_keygen_answer seed s e public secret) ≡ nowhere
  -- no other number names a word
  pub others : (a : Answer) → ¬ (number a ≡ 4) → ¬ (number a ≡ 11) → location a ≡ nowhere

-- ---- the code

-- number and location are read back
abbrev pub ReadBack : Answer → Type 0
ReadBack a = (code_number (code a) ≡ number a) × (code_location (code a) ≡ location a)

pub record CodesRead : Type 0 where
  pub zero-done : (a : Answer) → (code a ≡ 0) ↔ (a ≡ Done)
  -- bits 28 to 31 are 0
  pub within : (a : Answer) → code a < 268435456
  pub check : (k : List ℕ) → ReadBack (check_answer k)
  pub keygen : (stream s e : List ℕ) (public secret : ℕ) → ReadBack (keygen_answer stream s e public secret)
  pub seeded-keygen : (seed s e : List ℕ) (public secret : ℕ) → ReadBack (seeded_keygen_answer seed s e public secret)
  pub encapsulate : (k t : List ℕ) (room : ℕ) → ReadBack (encapsulate_answer k t room)
  pub decapsulate : (k c d : List ℕ) (room : ℕ) → ReadBack (decapsulate_answer k c d room)
  pub seal : (k noise entry : List ℕ) (room : ℕ) → ReadBack (seal_answer k noise entry room)
  pub open_entry : (k sealed noise : List ℕ) (room : ℕ) → ReadBack (open_answer k sealed noise room)
