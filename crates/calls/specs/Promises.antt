-- Demand 3: the key check and both openings answer by whether a triple exists, whatever dummy is mixed in. Then when 6 and 8 are
-- said, untouched outputs, that equal a and b are sealed for alike, that records already made open, and round trips.
use Rattle.std.specs.Prelude.{◌≡◌, true, List, ◌↔◌, ◌⊎◌, ℕ, ◌<◌, length, get_or}
use Rattle.exactness.specs.Scheme as AnySetting
use Rattle.ring.specs.Ring.{n, Invertible}
use Rattle.scheme.specs.Scheme.{Triple, setting}
use Rattle.sampling.specs.Noise.{noise_length}
use Rattle.sampling.specs.Stream.{stream_length, taken}
use Rattle.triples.specs.Triple.{triple_bytes}
use Rattle.derivation.specs.Derivation.{tag_of, entry_of}
use Rattle.answers.specs.Answers.{number}
use Rattle.records.specs.Layout.{public_key_mark, public_key_length, seed_length, seeded_key_length, secret_key_length, sealed_entry_length, encapsulation_length, triple_length, block_length}
use Rattle.records.specs.Records.{first_of, second_of, compact_bytes, body_part, tag_part, seeded_b, c1_of, c2_of}
use Rattle.records.specs.WellFormed.{WellFormedFront, WellFormedSeededKey, WellFormedKey, WellFormedExpandedKey, WellFormedEntry, WellFormedEncapsulation}
use Rattle.triples.specs.WellFormed.{WellFormedTriple}
use Rattle.seeds.specs.Seeds.{seed_stream}
use Rattle.public_keys.specs.PublicKeys.{is_public_length, public_a, public_b, public_answer}
use Rattle.public_keys.specs.WellFormed.{SeedFills, PublicHeader, PublicRecord}
use Rattle.secret_keys.specs.SecretKeys.{secret_answer}
use Rattle.secret_keys.specs.WellFormed.{InverseStored, Matches}
use Rattle.keys.specs.Keys.{keygen_b, triple_noise_length}
use Rattle.calls.specs.Calls.{check_answer, keygen_answer, keygen_public, keygen_secret, seeded_keygen_answer, seeded_keygen_public, seeded_keygen_secret}
use Rattle.calls.specs.Calls.{encapsulate_answer, encapsulated_with, encapsulate_out, decapsulate_answer, decapsulate_out}
use Rattle.calls.specs.Calls.{seal_answer, sealed_with, seal_out, open_answer, open_out}

-- ---- the words of demand 3

-- t is a ternary triple
abbrev pub Ternaries : Triple → Type 0
Ternaries t = AnySetting.TernaryTriple setting t

-- t is a ternary triple that the published formula, with a and b, turns into (c1, c2)
abbrev pub Encapsulates : (a b c1 c2 : List ℕ) (t : Triple) → Type 0
Encapsulates a b c1 c2 t = AnySetting.Encapsulates setting a b c1 c2 t

abbrev pub HasTriple : (a b c1 c2 : List ℕ) → Type 0
HasTriple a b c1 c2 = (t : Triple) × Encapsulates a b c1 c2 t

-- the key check accepts a secret key's bytes, of either version
abbrev pub Accepted : (key : List ℕ) → Type 0
Accepted k = number (check_answer k) ≡ 0

-- ---- demand 3 of an opening with a and b, by what it said and what its output held before and after

-- bare opening of (c1, c2)
pub record Decapsulated (a b c1 c2 : List ℕ) (said : ℕ) (after : List ℕ) : Type 0 where
  -- it says 0 and writes the bytes of a ternary triple exactly when the formula turns that triple into (c1, c2)
  pub opens : (t : Triple) → Ternaries t → Encapsulates a b c1 c2 t ↔ ((said ≡ 0) × (after ≡ triple_bytes t.r t.e1 t.e2))
  -- it says 0 exactly when there is such a triple, and 9 exactly when there is none
  pub answers : HasTriple a b c1 c2 ↔ (said ≡ 0)
  pub refuses : ¬ (HasTriple a b c1 c2) ↔ (said ≡ 9)
  -- there is one such triple at most
  pub unique : (t u : Triple) → Encapsulates a b c1 c2 t → Encapsulates a b c1 c2 u → t ≡ u

-- opening what holds c1, c2 and the tag of `blocks`; `shown t` is what the output holds where the triple t shows it
pub record OpenedTo (a b c1 c2 blocks tag before : List ℕ) (shown : Triple → List ℕ) (said : ℕ) (after : List ℕ) : Type 0 where
  -- where the formula turns the ternary triple t into (c1, c2): with the right tag, worked out from t, it says 0 and writes what t shows,
  -- with another it says 10
  pub opens : (t : Triple) → Encapsulates a b c1 c2 t → tag ≡ tag_of t.r t.e1 t.e2 blocks → (said ≡ 0) × (after ≡ shown t)
  pub wrong-tag : (t : Triple) → Encapsulates a b c1 c2 t → ¬ (tag ≡ tag_of t.r t.e1 t.e2 blocks) → (said ≡ 10) × (after ≡ before)
  -- it says 0 or 10 exactly when there is such a triple, and 9 exactly when there is none
  pub answers : HasTriple a b c1 c2 ↔ ((said ≡ 0) ⊎ (said ≡ 10))
  pub refuses : ¬ (HasTriple a b c1 c2) ↔ (said ≡ 9)
  pub unique : (t u : Triple) → Encapsulates a b c1 c2 t → Encapsulates a b c1 c2 u → t ≡ u

-- a sealed entry: the tag is that of its body, and t shows body xor keystream, worked out from t
abbrev pub Opened : (a b c1 c2 body tag before : List ℕ) (said : ℕ) (after : List ℕ) → Type 0
Opened a b c1 c2 body tag before said after = OpenedTo a b c1 c2 body tag before (λ t. entry_of t.r t.e1 t.e2 body) said after

-- ---- demand 3 of the calls, over bytes

-- the key check: `said` is the number that it said of the key k
pub record CheckExact (k : List ℕ) (said : ℕ) : Type 0 where
  -- of version 1
  pub version_1 : WellFormedKey k → (said ≡ 0) ↔ (Invertible (second_of k) × Matches k)
  -- of version 2 (document 02, No. 5): the same of its a, b and s, and the stored inverse is that of b
  pub version_2 : WellFormedExpandedKey k → (said ≡ 0) ↔ ((Invertible (second_of k) × Matches k) × InverseStored k)
  -- .. so it says 0 exactly when it accepts the record of version 1 with the same a, b and s, and the stored inverse is that of b
  pub as_version_1 : WellFormedExpandedKey k → (said ≡ 0) ↔ (Accepted (compact_bytes k) × InverseStored k)

-- bare opening of the encapsulation c with the key k and the dummy d; under every other dummy it says and writes the same
abbrev pub DecapsulateExact : (k c d before : List ℕ) (said : ℕ) (after : List ℕ) → Type 0
DecapsulateExact k c d before said after =
    Accepted k → WellFormedEncapsulation c → WellFormedTriple d → length before ≡ triple_length
    → Decapsulated (first_of k) (second_of k) (c1_of c) (c2_of c) said after
    × ((other : List ℕ) → WellFormedTriple other
    → (number (decapsulate_answer k c other (length before)) ≡ said) × (decapsulate_out k c other before ≡ after))

-- opening a sealed entry with the key k and some dummy noise; under every other it says and writes the same
abbrev pub OpenExact : (k sealed noise before : List ℕ) (said : ℕ) (after : List ℕ) → Type 0
OpenExact k sealed noise before said after =
    Accepted k → WellFormedEntry sealed → length noise ≡ triple_noise_length → length before ≡ block_length
    → Opened (first_of k) (second_of k) (first_of sealed) (second_of sealed) (body_part sealed) (tag_part sealed) before said after
    × ((other : List ℕ) → length other ≡ triple_noise_length
    → (number (open_answer k sealed other (length before)) ≡ said) × (open_out k sealed other before ≡ after))

-- ---- 6

-- 6 is said exactly when every length fits, the checks before it pass, and b has no inverse
pub record NotInvertibleExact : Type 0 where
  -- of a public key, by its length: a seeded one has a length of its own
  pub public-key : (k : List ℕ) → ¬ (length k ≡ seeded_key_length)
      → (number (public_answer k) ≡ 6) ↔ (WellFormedFront public_key_mark 1 k × ¬ (Invertible (second_of k)))
  pub seeded-key : (k : List ℕ) → length k ≡ seeded_key_length
      → (number (public_answer k) ≡ 6) ↔ (WellFormedSeededKey k × SeedFills k × ¬ (Invertible (seeded_b k)))
  -- of a secret key, which is then of version 1
  pub secret-key : (k : List ℕ) → (number (secret_answer k) ≡ 6) ↔ (WellFormedKey k × ¬ (Invertible (second_of k)))
  -- in each call; `room` is the length of the output
  pub keygen : (stream s e : List ℕ) (public secret : ℕ)
      → (number (keygen_answer stream s e public secret) ≡ 6)
      ↔ ((length stream ≡ stream_length)
      × (length s ≡ noise_length)
      × (length e ≡ noise_length)
      × (public ≡ public_key_length)
      × (secret ≡ secret_key_length)
      × (length (taken stream) ≡ n)
      × ¬ (Invertible (keygen_b stream s e)))
  pub seeded-keygen : (seed s e : List ℕ) (public secret : ℕ)
      → (number (seeded_keygen_answer seed s e public secret) ≡ 6)
      ↔ ((length seed ≡ seed_length)
      × (length s ≡ noise_length)
      × (length e ≡ noise_length)
      × (public ≡ seeded_key_length)
      × (secret ≡ secret_key_length)
      × (length (taken (seed_stream seed)) ≡ n)
      × ¬ (Invertible (keygen_b (seed_stream seed) s e)))
  pub check : (k : List ℕ) → (number (check_answer k) ≡ 6) ↔ (WellFormedKey k × ¬ (Invertible (second_of k)))
  pub encapsulate : (k t : List ℕ) (room : ℕ)
      → (number (encapsulate_answer k t room) ≡ 6)
      ↔ (PublicRecord k × (length t ≡ triple_length) × (room ≡ encapsulation_length) × ¬ (Invertible (public_b k)))
  pub decapsulate : (k c d : List ℕ) (room : ℕ)
      → (number (decapsulate_answer k c d room) ≡ 6)
      ↔ (WellFormedKey k × (length c ≡ encapsulation_length) × (length d ≡ triple_length) × (room ≡ triple_length) × ¬ (Invertible (second_of k)))
  pub seal : (k noise entry : List ℕ) (room : ℕ)
      → (number (seal_answer k noise entry room) ≡ 6)
      ↔ (PublicRecord k × (length noise ≡ triple_noise_length) × (length entry ≡ block_length) × (room ≡ sealed_entry_length) × ¬ (Invertible (public_b k)))
  pub open_entry : (k sealed noise : List ℕ) (room : ℕ)
      → (number (open_answer k sealed noise room) ≡ 6)
      ↔ (WellFormedKey k × (length sealed ≡ sealed_entry_length) × (length noise ≡ triple_noise_length) × (room ≡ block_length) × ¬ (Invertible (second_of k)))

-- ---- 8

-- 8 is said exactly when every length fits, the checks before it pass, and the stream has fewer than 1,024 words below q
pub record StreamExhaustedExact : Type 0 where
  pub keygen : (stream s e : List ℕ) (public secret : ℕ)
      → (number (keygen_answer stream s e public secret) ≡ 8)
      ↔ ((length stream ≡ stream_length)
      × (length s ≡ noise_length)
      × (length e ≡ noise_length)
      × (public ≡ public_key_length)
      × (secret ≡ secret_key_length)
      × ¬ (length (taken stream) ≡ n))
  pub seeded-keygen : (seed s e : List ℕ) (public secret : ℕ)
      → (number (seeded_keygen_answer seed s e public secret) ≡ 8)
      ↔ ((length seed ≡ seed_length)
      × (length s ≡ noise_length)
      × (length e ≡ noise_length)
      × (public ≡ seeded_key_length)
      × (secret ≡ secret_key_length)
      × ¬ (length (taken (seed_stream seed)) ≡ n))
  pub encapsulate : (k t : List ℕ) (room : ℕ)
      → (number (encapsulate_answer k t room) ≡ 8)
      ↔ (WellFormedSeededKey k × (length t ≡ triple_length) × (room ≡ encapsulation_length) × ¬ (SeedFills k))
  pub seal : (k noise entry : List ℕ) (room : ℕ)
      → (number (seal_answer k noise entry room) ≡ 8)
      ↔ (WellFormedSeededKey k × (length noise ≡ triple_noise_length) × (length entry ≡ block_length) × (room ≡ sealed_entry_length) × ¬ (SeedFills k))

-- ---- outputs

-- under any number but 0 no output byte has changed
pub record Untouched : Type 0 where
  pub keygen : (stream s e public secret : List ℕ) → ¬ (number (keygen_answer stream s e (length public) (length secret)) ≡ 0)
      → (keygen_public stream s e public secret ≡ public) × (keygen_secret stream s e public secret ≡ secret)
  pub seeded-keygen : (seed s e public secret : List ℕ) → ¬ (number (seeded_keygen_answer seed s e (length public) (length secret)) ≡ 0)
      → (seeded_keygen_public seed s e public secret ≡ public) × (seeded_keygen_secret seed s e public secret ≡ secret)
  pub encapsulate : (k t out : List ℕ) → ¬ (number (encapsulate_answer k t (length out)) ≡ 0) → encapsulate_out k t out ≡ out
  pub decapsulate : (k c d out : List ℕ) → ¬ (number (decapsulate_answer k c d (length out)) ≡ 0) → decapsulate_out k c d out ≡ out
  pub seal : (k noise entry out : List ℕ) → ¬ (number (seal_answer k noise entry (length out)) ≡ 0) → seal_out k noise entry out ≡ out
  pub open_entry : (k sealed noise out : List ℕ) → ¬ (number (open_answer k sealed noise (length out)) ≡ 0) → open_out k sealed noise out ≡ out

-- ---- equal a and b

-- sealing and encapsulation accept a public record
abbrev pub PublicAccepted : (p : List ℕ) → Type 0
PublicAccepted p = (is_public_length (length p) ≡ true) × (number (public_answer p) ≡ 0)

-- document 02, No. 2: for two accepted records with the same a and b, of whatever kind, the answers are the same, and so are the outputs
pub record SameElements : Type 0 where
  pub sealed : (p p' noise entry out : List ℕ) → PublicAccepted p → PublicAccepted p' → public_a p ≡ public_a p' → public_b p ≡ public_b p'
      → (seal_answer p noise entry (length out) ≡ seal_answer p' noise entry (length out)) × (seal_out p noise entry out ≡ seal_out p' noise entry out)
  pub encapsulated : (p p' t out : List ℕ) → PublicAccepted p → PublicAccepted p' → public_a p ≡ public_a p' → public_b p ≡ public_b p'
      → (encapsulate_answer p t (length out) ≡ encapsulate_answer p' t (length out)) × (encapsulate_out p t out ≡ encapsulate_out p' t out)

-- ---- records already made

-- a public record of either kind with the a and b of the secret key k
pub record PublicOf (p k : List ℕ) : Type 0 where
  pub header : PublicHeader p
  pub same-a : public_a p ≡ first_of k
  pub same-b : public_b p ≡ second_of k

-- every number is a byte
abbrev pub Bytes : List ℕ → Type 0
Bytes l = (i : ℕ) → get_or l i 0 < 256

-- document 02, No. 1: what was made for an accepted key with a ternary triple, whatever way the triple was drawn, that key opens, whatever
-- the dummy
pub record RecordsOpen : Type 0 where
  -- a sealed entry to its entry
  pub sealed : (k p : List ℕ) (t : Triple) (entry dummy out : List ℕ) → Accepted k → PublicOf p k → Ternaries t
      → length entry ≡ block_length → Bytes entry → length dummy ≡ triple_noise_length → length out ≡ block_length
      → (number (open_answer k (sealed_with (public_a p) (public_b p) t entry) dummy (length out)) ≡ 0)
      × (open_out k (sealed_with (public_a p) (public_b p) t entry) dummy out ≡ entry)
  -- an encapsulation to its triple
  pub encapsulated : (k p : List ℕ) (t : Triple) (dummy out : List ℕ) → Accepted k → PublicOf p k → Ternaries t
      → WellFormedTriple dummy → length out ≡ triple_length
      → (number (decapsulate_answer k (encapsulated_with (public_a p) (public_b p) t) dummy (length out)) ≡ 0)
      × (decapsulate_out k (encapsulated_with (public_a p) (public_b p) t) dummy out ≡ triple_bytes t.r t.e1 t.e2)

-- ---- round trips

pub record RoundTrips : Type 0 where
  -- what is sealed for an accepted key, that key opens to the same entry, whatever the noise and the dummy
  pub sealed : (k p noise entry sealed dummy out : List ℕ) → Accepted k → PublicOf p k
      → length noise ≡ triple_noise_length → length entry ≡ block_length → Bytes entry → length sealed ≡ sealed_entry_length → length dummy ≡ triple_noise_length → length out ≡ block_length
      → (number (seal_answer p noise entry (length sealed)) ≡ 0)
      × (number (open_answer k (seal_out p noise entry sealed) dummy (length out)) ≡ 0)
      × (open_out k (seal_out p noise entry sealed) dummy out ≡ entry)
  -- what is encapsulated is decapsulated to the same triple
  pub encapsulated : (k p t c dummy out : List ℕ) → Accepted k → PublicOf p k
      → WellFormedTriple t → Bytes t → length c ≡ encapsulation_length → WellFormedTriple dummy → length out ≡ triple_length
      → (number (encapsulate_answer p t (length c)) ≡ 0)
      × (number (decapsulate_answer k (encapsulate_out p t c) dummy (length out)) ≡ 0)
      × (decapsulate_out k (encapsulate_out p t c) dummy out ≡ t)
  -- what key generation writes under 0, the key check and sealing accept, with the same a and b in both records
  pub generated : (stream s e public secret : List ℕ) → number (keygen_answer stream s e (length public) (length secret)) ≡ 0
      → Accepted (keygen_secret stream s e public secret)
      × PublicOf (keygen_public stream s e public secret) (keygen_secret stream s e public secret)
      × (number (public_answer (keygen_public stream s e public secret)) ≡ 0)
  -- so they do with what key generation from a seed writes under 0
  pub seeded-generated : (seed s e public secret : List ℕ) → number (seeded_keygen_answer seed s e (length public) (length secret)) ≡ 0
      → Accepted (seeded_keygen_secret seed s e public secret)
      × PublicOf (seeded_keygen_public seed s e public secret) (seeded_keygen_secret seed s e public secret)
      × (number (public_answer (seeded_keygen_public seed s e public secret)) ≡ 0)
