-- What is promised of the calls on batches (document 02, No. 4), as crate calls promises it of the calls on single entries: demand 3, the
-- numbers exactly, the words they name, outputs, and round trips for every count. `room` is the length of the output.
use Rattle.std.specs.Prelude.{◌≡◌, true, ◌↔◌, ◌⊎◌, List, ◌++◌, ℕ, suc, ◌*◌, ◌%◌, ◌≤◌, length, drop}
use Rattle.gf128.specs.Bytes.{sum, product}
use Rattle.gf128.specs.Powers.{power, weighted}
use Rattle.ring.specs.Ring.{Invertible}
use Rattle.scheme.specs.Scheme.{Triple}
use Rattle.encoding.specs.Header.{has_mark, version_of}
use Rattle.derivation.specs.Derivation.{key1, key2, tag_of, entry_of}
use Rattle.answers.specs.declared.Location.{Location}
use Rattle.answers.specs.Answers.{number}
use Rattle.answers.specs.Locations.{sealed_entry, c1_part, c2_part, Names}
use Rattle.records.specs.Layout.{sealed_entry_mark, header_length, block_length}
use Rattle.records.specs.Records.{first_of, second_of}
use Rattle.records.specs.WellFormed.{WellFormedSeededKey, WellFormedKey}
use Rattle.records.specs.Named.{NamedInTwo}
use Rattle.batch_records.specs.Batches.{batch_overhead, batch_length, entries_length, count_of, count_block, batch_body, batch_tag, tagged_blocks}
use Rattle.batch_records.specs.WellFormed.{Count, WellFormedBatch}
use Rattle.public_keys.specs.PublicKeys.{is_public_length, public_a, public_b}
use Rattle.public_keys.specs.WellFormed.{SeedFills, PublicRecord, PublicNamed}
use Rattle.secret_keys.specs.WellFormed.{LengthMisfits, SecretNamed}
use Rattle.keys.specs.Keys.{triple_noise_length}
use Rattle.calls.specs.Calls.{check_answer, keygen_answer, seeded_keygen_answer, encapsulate_answer, decapsulate_answer, seal_answer, open_answer}
use Rattle.calls.specs.Promises.{Ternaries, Accepted, OpenedTo, PublicAccepted, PublicOf, Bytes}
use Rattle.calls.specs.Located.{ReadBack}
use Rattle.batch_calls.specs.Calls.{entries, seal_batch_answer, batch_with, seal_batch_out, open_batch_answer, in_front, open_batch_out, open_batch_count}

-- ---- demand 3

-- opening a batch with the key k and some dummy noise. `before` and `lent` are what the output and the number for m held, `after` and
-- `value` what they hold then; under every other dummy it says and writes the same
pub record OpenedBatch (k batch before : List ℕ) (lent said : ℕ) (after : List ℕ) (value : ℕ) : Type 0 where
  -- 0, 9 and 10 by whether a triple exists and the tag is right for it, and body xor keystream in front of the output
  pub exact : OpenedTo (first_of k) (second_of k) (first_of batch) (second_of batch) (tagged_blocks batch) (batch_tag batch) before
      (λ t. in_front (entry_of t.r t.e1 t.e2 (batch_body batch)) before) said after
  -- m under 0, and under any other number what it was
  pub counts : said ≡ 0 → value ≡ count_of batch
  pub kept : ¬ (said ≡ 0) → value ≡ lent
  pub dummy_free : (other : List ℕ) → length other ≡ triple_noise_length
      → (number (open_batch_answer k batch other (length before)) ≡ said)
      × (open_batch_out k batch other before ≡ after)
      × (open_batch_count k batch other (length before) lent ≡ value)

abbrev pub OpenBatchExact : (k batch noise before : List ℕ) (lent said : ℕ) (after : List ℕ) (value : ℕ) → Type 0
OpenBatchExact k batch noise before lent said after value =
    Accepted k → WellFormedBatch batch → length noise ≡ triple_noise_length → length before ≡ entries_length
    → OpenedBatch k batch before lent said after value

-- ---- 1 and 12

-- what is lent beside the entries to sealing, and all that is lent to opening, has the right length; a secret key has a header, and its
-- version sets the rest
abbrev pub SealingFits : (k noise blocks : List ℕ) (room : ℕ) → Type 0
SealingFits k noise blocks room = (is_public_length (length k) ≡ true) × (length noise ≡ triple_noise_length) × (room ≡ batch_length (entries blocks))

abbrev pub OpeningFits : (k batch noise : List ℕ) (room : ℕ) → Type 0
OpeningFits k batch noise room = (header_length ≤ length k) × (batch_overhead ≤ length batch) × (length noise ≡ triple_noise_length) × (room ≡ entries_length)

-- whole entries, 1 to 255 of them
abbrev pub WholeEntries : List ℕ → Type 0
WholeEntries blocks = (length blocks % 16 ≡ 0) × Count (entries blocks)

-- what is looked at before the count of a batch: lengths, an accepted key, mark and version
abbrev pub BeforeCount : (k batch noise : List ℕ) (room : ℕ) → Type 0
BeforeCount k batch noise room =
    OpeningFits k batch noise room × Accepted k × (has_mark sealed_entry_mark batch ≡ true) × (version_of batch ≡ 2)

-- 1 is said in two places of sealing and in three of opening, and exactly there
pub record WrongLengthExact : Type 0 where
  pub seal : (k noise blocks : List ℕ) (room : ℕ)
      → (number (seal_batch_answer k noise blocks room) ≡ 1)
      ↔ (¬ (length blocks % 16 ≡ 0) ⊎ (WholeEntries blocks × ¬ (SealingFits k noise blocks room)))
  pub open-batch : (k batch noise : List ℕ) (room : ℕ)
      → (number (open_batch_answer k batch noise room) ≡ 1)
      ↔ (¬ (OpeningFits k batch noise room)
      ⊎ ((OpeningFits k batch noise room × LengthMisfits k)
      ⊎ (BeforeCount k batch noise room × Count (count_of batch) × ¬ (length batch ≡ batch_length (count_of batch)))))

-- 12, and none of the other calls says it
pub record WrongCountExact : Type 0 where
  pub seal : (k noise blocks : List ℕ) (room : ℕ)
      → (number (seal_batch_answer k noise blocks room) ≡ 12) ↔ ((length blocks % 16 ≡ 0) × ¬ (Count (entries blocks)))
  pub open-batch : (k batch noise : List ℕ) (room : ℕ)
      → (number (open_batch_answer k batch noise room) ≡ 12) ↔ (BeforeCount k batch noise room × ¬ (Count (count_of batch)))
  pub check_never : (k : List ℕ) → ¬ (number (check_answer k) ≡ 12)
  pub keygen_never : (stream s e : List ℕ) (public secret : ℕ) → ¬ (number (keygen_answer stream s e public secret) ≡ 12)
  pub seeded-keygen_never : (seed s e : List ℕ) (public secret : ℕ) → ¬ (number (seeded_keygen_answer seed s e public secret) ≡ 12)
  pub encapsulate_never : (k t : List ℕ) (room : ℕ) → ¬ (number (encapsulate_answer k t room) ≡ 12)
  pub decapsulate_never : (k c d : List ℕ) (room : ℕ) → ¬ (number (decapsulate_answer k c d room) ≡ 12)
  pub seal_never : (k noise entry : List ℕ) (room : ℕ) → ¬ (number (seal_answer k noise entry room) ≡ 12)
  pub open_never : (k sealed noise : List ℕ) (room : ℕ) → ¬ (number (open_answer k sealed noise room) ≡ 12)

-- ---- 6, 8, and the words that 4 and 11 name

pub record KeysExact : Type 0 where
  pub seal_6 : (k noise blocks : List ℕ) (room : ℕ)
      → (number (seal_batch_answer k noise blocks room) ≡ 6)
      ↔ (WholeEntries blocks × SealingFits k noise blocks room × PublicRecord k × ¬ (Invertible (public_b k)))
  pub seal_8 : (k noise blocks : List ℕ) (room : ℕ)
      → (number (seal_batch_answer k noise blocks room) ≡ 8)
      ↔ (WholeEntries blocks × SealingFits k noise blocks room × WellFormedSeededKey k × ¬ (SeedFills k))
  pub open_6 : (k batch noise : List ℕ) (room : ℕ)
      → (number (open_batch_answer k batch noise room) ≡ 6) ↔ (OpeningFits k batch noise room × WellFormedKey k × ¬ (Invertible (second_of k)))

pub record NamedExact : Type 0 where
  pub seal_4 : (k noise blocks : List ℕ) (room : ℕ) (l : Location)
      → Names 4 l (seal_batch_answer k noise blocks room) ↔ (WholeEntries blocks × SealingFits k noise blocks room × PublicNamed k l)
  pub open_4 : (k batch noise : List ℕ) (room : ℕ) (l : Location)
      → Names 4 l (open_batch_answer k batch noise room) ↔ (OpeningFits k batch noise room × SecretNamed k l)
  -- a batch's words are named as those of a sealed entry
  pub open_11 : (k batch noise : List ℕ) (room : ℕ) (l : Location)
      → Names 11 l (open_batch_answer k batch noise room)
      ↔ (BeforeCount k batch noise room
      × Count (count_of batch)
      × (length batch ≡ batch_length (count_of batch))
      × NamedInTwo sealed_entry c1_part c2_part (first_of batch) (second_of batch) l)
  pub seal_never : (k noise blocks : List ℕ) (room : ℕ) → ¬ (number (seal_batch_answer k noise blocks room) ≡ 11)
  -- the code that an export answers is read back
  pub seal-code : (k noise blocks : List ℕ) (room : ℕ) → ReadBack (seal_batch_answer k noise blocks room)
  pub open_code : (k batch noise : List ℕ) (room : ℕ) → ReadBack (open_batch_answer k batch noise room)

-- ---- outputs

-- under any number but 0 no output byte has changed, nor the number lent for m; under 0 no byte behind the entries
pub record Untouched : Type 0 where
  pub seal : (k noise blocks out : List ℕ) → ¬ (number (seal_batch_answer k noise blocks (length out)) ≡ 0) → seal_batch_out k noise blocks out ≡ out
  pub open-batch : (k batch noise out : List ℕ) (lent : ℕ) → ¬ (number (open_batch_answer k batch noise (length out)) ≡ 0)
      → (open_batch_out k batch noise out ≡ out) × (open_batch_count k batch noise (length out) lent ≡ lent)
  pub behind-entries : (k batch noise out : List ℕ) → number (open_batch_answer k batch noise (length out)) ≡ 0
      → drop (16 * count_of batch) (open_batch_out k batch noise out) ≡ drop (16 * count_of batch) out

-- ---- equal a and b

pub record SameElements : Type 0 where
  pub sealed : (p p' noise blocks out : List ℕ) → PublicAccepted p → PublicAccepted p' → public_a p ≡ public_a p' → public_b p ≡ public_b p'
      → (seal_batch_answer p noise blocks (length out) ≡ seal_batch_answer p' noise blocks (length out))
      × (seal_batch_out p noise blocks out ≡ seal_batch_out p' noise blocks out)

-- ---- round trips, for every count

pub record RoundTrips : Type 0 where
  -- what is made for an accepted key with a ternary triple, whatever way the triple was drawn, that key opens to the same entries, whatever
  -- the dummy
  pub made : (k p : List ℕ) (t : Triple) (blocks dummy out : List ℕ) (lent : ℕ) → Accepted k → PublicOf p k → Ternaries t
      → WholeEntries blocks → length dummy ≡ triple_noise_length → length out ≡ entries_length
      → let batch = batch_with (public_a p) (public_b p) t blocks in
      (number (open_batch_answer k batch dummy (length out)) ≡ 0)
      × (open_batch_out k batch dummy out ≡ in_front blocks out)
      × (open_batch_count k batch dummy (length out) lent ≡ entries blocks)
  -- what is sealed, whatever the noise
  pub sealed : (k p noise blocks batch dummy out : List ℕ) (lent : ℕ) → Accepted k → PublicOf p k
      → length noise ≡ triple_noise_length → WholeEntries blocks → length batch ≡ batch_length (entries blocks) → length dummy ≡ triple_noise_length → length out ≡ entries_length
      → (number (seal_batch_answer p noise blocks (length batch)) ≡ 0)
      × (number (open_batch_answer k (seal_batch_out p noise blocks batch) dummy (length out)) ≡ 0)
      × (open_batch_out k (seal_batch_out p noise blocks batch) dummy out ≡ in_front blocks out)
      × (open_batch_count k (seal_batch_out p noise blocks batch) dummy (length out) lent ≡ entries blocks)

-- ---- the tags, written out

pub record TagsWritten : Type 0 where
  -- document 01: K1 × body + K2
  pub single : (r e1 e2 body : List ℕ) → length body ≡ block_length → tag_of r e1 e2 body ≡ sum (product (key1 r e1 e2) body) (key2 r e1 e2)
  -- document 02: K1^(m+1) × L + K1^m × B1 + .. + K1 × Bm + K2
  pub batch : (r e1 e2 : List ℕ) (m : ℕ) (body : List ℕ) → length body ≡ 16 * m → Bytes body
      → tag_of r e1 e2 (count_block m ++ body)
      ≡ sum (sum (product (power (key1 r e1 e2) (suc m)) (count_block m)) (weighted (key1 r e1 e2) m body)) (key2 r e1 e2)
