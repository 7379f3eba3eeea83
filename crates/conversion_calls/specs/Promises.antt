-- What is promised of secret keys of either version, and of the calls that convert them (document 02, No. 5): either form opens alike,
-- conversions and the way back, 13 and 1 exactly, 6, the words that 4 names, and outputs. `room` is the length of the output.
use Rattle.std.specs.Prelude.{◌≡◌, ◌↔◌, ◌⊎◌, List, ℕ, ◌≤◌, length}
use Rattle.ring.specs.Ring.{Invertible}
use Rattle.encoding.specs.Header.{version_of}
use Rattle.answers.specs.declared.Location.{Location}
use Rattle.answers.specs.Answers.{number}
use Rattle.answers.specs.Locations.{Names}
use Rattle.records.specs.Layout.{header_length, secret_key_version, expanded_key_version, secret_key_length, expanded_key_length, sealed_entry_length, encapsulation_length, triple_length, block_length}
use Rattle.records.specs.Records.{first_of, second_of, secret_of}
use Rattle.records.specs.WellFormed.{WellFormedKey, WellFormedExpandedKey}
use Rattle.triples.specs.WellFormed.{WellFormedTriple}
use Rattle.secret_keys.specs.SecretKeys.{secret_answer}
use Rattle.secret_keys.specs.WellFormed.{InverseStored, LengthMisfits, SecretNamed}
use Rattle.keys.specs.Keys.{triple_noise_length}
use Rattle.calls.specs.Calls.{check_answer, keygen_answer, seeded_keygen_answer, encapsulate_answer, decapsulate_answer, decapsulate_out, seal_answer, open_answer, open_out}
use Rattle.calls.specs.Promises.{Accepted, Bytes}
use Rattle.calls.specs.Located.{ReadBack}
use Rattle.batch_calls.specs.Calls.{seal_batch_answer, open_batch_answer, open_batch_out, open_batch_count}
use Rattle.batch_calls.specs.Promises.{OpeningFits}
use Rattle.conversion_calls.specs.Calls.{expand_answer, expand_out, compact_answer, compact_out}

-- ---- either form, one answer

-- the same a, b and s
abbrev pub SameKey : (k k' : List ℕ) → Type 0
SameKey k k' = (first_of k ≡ first_of k') × (second_of k ≡ second_of k') × (secret_of k ≡ secret_of k')

-- for two accepted keys with the same a, b and s, of whatever versions, every opening says and writes the same, whatever is opened and
-- whatever the two dummies are
pub record EitherForm (k k' : List ℕ) : Type 0 where
  pub decapsulated : (c d d' out : List ℕ) → WellFormedTriple d → WellFormedTriple d'
      → (decapsulate_answer k c d (length out) ≡ decapsulate_answer k' c d' (length out)) × (decapsulate_out k c d out ≡ decapsulate_out k' c d' out)
  pub opened : (sealed noise noise' out : List ℕ) → length noise ≡ triple_noise_length → length noise' ≡ triple_noise_length
      → (open_answer k sealed noise (length out) ≡ open_answer k' sealed noise' (length out)) × (open_out k sealed noise out ≡ open_out k' sealed noise' out)
  pub opened-batch : (batch noise noise' out : List ℕ) (lent : ℕ) → length noise ≡ triple_noise_length → length noise' ≡ triple_noise_length
      → (open_batch_answer k batch noise (length out) ≡ open_batch_answer k' batch noise' (length out))
      × (open_batch_out k batch noise out ≡ open_batch_out k' batch noise' out)
      × (open_batch_count k batch noise (length out) lent ≡ open_batch_count k' batch noise' (length out) lent)

abbrev pub EitherFormOneAnswer : Type 0
EitherFormOneAnswer = (k k' : List ℕ) → Accepted k → Accepted k' → SameKey k k' → EitherForm k k'

-- ---- conversions; `said` is the number, `before` and `after` what the output held

pub record ExpandExact (k before : List ℕ) (said : ℕ) (after : List ℕ) : Type 0 where
  -- 0 is said exactly for an accepted key of version 1 and an output of the right length
  pub answers : (said ≡ 0) ↔ (Accepted k × (version_of k ≡ secret_key_version) × (length before ≡ expanded_key_length))
  -- what is then written is accepted, and is of version 2 with the same a, b and s
  pub accepted : said ≡ 0 → Accepted after × (version_of after ≡ expanded_key_version) × SameKey after k
  -- compacting it gives back the first bytes
  pub back : said ≡ 0 → Bytes k → (out : List ℕ) → length out ≡ secret_key_length
      → (number (compact_answer after (length out)) ≡ 0) × (compact_out after out ≡ k)

pub record CompactExact (k before : List ℕ) (said : ℕ) (after : List ℕ) : Type 0 where
  pub answers : (said ≡ 0) ↔ (Accepted k × (version_of k ≡ expanded_key_version) × (length before ≡ secret_key_length))
  pub accepted : said ≡ 0 → Accepted after × (version_of after ≡ secret_key_version) × SameKey after k
  -- expanding it gives back the first bytes
  pub back : said ≡ 0 → Bytes k → (out : List ℕ) → length out ≡ expanded_key_length
      → (number (expand_answer after (length out)) ≡ 0) × (expand_out after out ≡ k)

-- ---- 13, and 6 of the conversions

-- 13 is said exactly when every length fits, the checks before it pass, and b × the stored inverse is not 1; by calls that are lent a key of
-- version 2 only
pub record InverseMismatchExact : Type 0 where
  pub secret-key : (k : List ℕ) → (number (secret_answer k) ≡ 13) ↔ (WellFormedExpandedKey k × ¬ (InverseStored k))
  pub check : (k : List ℕ) → (number (check_answer k) ≡ 13) ↔ (WellFormedExpandedKey k × ¬ (InverseStored k))
  pub decapsulate : (k c d : List ℕ) (room : ℕ)
      → (number (decapsulate_answer k c d room) ≡ 13)
      ↔ (WellFormedExpandedKey k × (length c ≡ encapsulation_length) × (length d ≡ triple_length) × (room ≡ triple_length) × ¬ (InverseStored k))
  pub open_entry : (k sealed noise : List ℕ) (room : ℕ)
      → (number (open_answer k sealed noise room) ≡ 13)
      ↔ (WellFormedExpandedKey k × (length sealed ≡ sealed_entry_length) × (length noise ≡ triple_noise_length) × (room ≡ block_length) × ¬ (InverseStored k))
  pub open-batch : (k batch noise : List ℕ) (room : ℕ)
      → (number (open_batch_answer k batch noise room) ≡ 13) ↔ (OpeningFits k batch noise room × WellFormedExpandedKey k × ¬ (InverseStored k))
  pub compact : (k : List ℕ) (room : ℕ)
      → (number (compact_answer k room) ≡ 13) ↔ (WellFormedExpandedKey k × (room ≡ secret_key_length) × ¬ (InverseStored k))
  pub expand_never : (k : List ℕ) (room : ℕ) → ¬ (number (expand_answer k room) ≡ 13)
  pub keygen_never : (stream s e : List ℕ) (public secret : ℕ) → ¬ (number (keygen_answer stream s e public secret) ≡ 13)
  pub seeded-keygen_never : (seed s e : List ℕ) (public secret : ℕ) → ¬ (number (seeded_keygen_answer seed s e public secret) ≡ 13)
  pub encapsulate_never : (k t : List ℕ) (room : ℕ) → ¬ (number (encapsulate_answer k t room) ≡ 13)
  pub seal_never : (k noise entry : List ℕ) (room : ℕ) → ¬ (number (seal_answer k noise entry room) ≡ 13)
  pub seal-batch_never : (k noise blocks : List ℕ) (room : ℕ) → ¬ (number (seal_batch_answer k noise blocks room) ≡ 13)
  -- 6 is said of version 1 only
  pub expand_6 : (k : List ℕ) (room : ℕ)
      → (number (expand_answer k room) ≡ 6) ↔ (WellFormedKey k × (room ≡ expanded_key_length) × ¬ (Invertible (second_of k)))
  pub compact_never_6 : (k : List ℕ) (room : ℕ) → ¬ (number (compact_answer k room) ≡ 6)

-- ---- 1

-- 1 is said in two places, and exactly there: where a buffer other than the key does not fit or the key has no header, and where mark and
-- version pass and the length is not that of the version; of opening a batch, which has a third, crate batch_calls
pub record KeyLengthsExact : Type 0 where
  pub check : (k : List ℕ) → (number (check_answer k) ≡ 1) ↔ (¬ (header_length ≤ length k) ⊎ ((header_length ≤ length k) × LengthMisfits k))
  pub decapsulate : (k c d : List ℕ) (room : ℕ)
      → let Fits = (header_length ≤ length k) × (length c ≡ encapsulation_length) × (length d ≡ triple_length) × (room ≡ triple_length) in
      (number (decapsulate_answer k c d room) ≡ 1) ↔ (¬ Fits ⊎ (Fits × LengthMisfits k))
  pub open_entry : (k sealed noise : List ℕ) (room : ℕ)
      → let Fits = (header_length ≤ length k) × (length sealed ≡ sealed_entry_length) × (length noise ≡ triple_noise_length) × (room ≡ block_length) in
      (number (open_answer k sealed noise room) ≡ 1) ↔ (¬ Fits ⊎ (Fits × LengthMisfits k))
  pub expand : (k : List ℕ) (room : ℕ)
      → let Fits = (header_length ≤ length k) × (room ≡ expanded_key_length) in
      (number (expand_answer k room) ≡ 1) ↔ (¬ Fits ⊎ (Fits × (version_of k ≡ secret_key_version) × LengthMisfits k))
  pub compact : (k : List ℕ) (room : ℕ)
      → let Fits = (header_length ≤ length k) × (room ≡ secret_key_length) in
      (number (compact_answer k room) ≡ 1) ↔ (¬ Fits ⊎ (Fits × (version_of k ≡ expanded_key_version) × LengthMisfits k))

-- ---- the words that 4 names, and codes, of the conversions

pub record ConversionsNamed : Type 0 where
  pub expand : (k : List ℕ) (room : ℕ) (l : Location)
      → Names 4 l (expand_answer k room) ↔ (SecretNamed k l × (version_of k ≡ secret_key_version) × (room ≡ expanded_key_length))
  pub compact : (k : List ℕ) (room : ℕ) (l : Location)
      → Names 4 l (compact_answer k room) ↔ (SecretNamed k l × (version_of k ≡ expanded_key_version) × (room ≡ secret_key_length))
  -- they are lent no encapsulation and no batch
  pub expand_never : (k : List ℕ) (room : ℕ) → ¬ (number (expand_answer k room) ≡ 11) × ¬ (number (expand_answer k room) ≡ 12)
  pub compact_never : (k : List ℕ) (room : ℕ) → ¬ (number (compact_answer k room) ≡ 11) × ¬ (number (compact_answer k room) ≡ 12)
  -- the code that an export answers is read back
  pub expand-code : (k : List ℕ) (room : ℕ) → ReadBack (expand_answer k room)
  pub compact-code : (k : List ℕ) (room : ℕ) → ReadBack (compact_answer k room)

-- ---- outputs

-- under any number but 0 no output byte has changed
pub record Untouched : Type 0 where
  pub expand : (k out : List ℕ) → ¬ (number (expand_answer k (length out)) ≡ 0) → expand_out k out ≡ out
  pub compact : (k out : List ℕ) → ¬ (number (compact_answer k (length out)) ≡ 0) → compact_out k out ≡ out
