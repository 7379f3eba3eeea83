-- Laws of codes: number and location are read back from the code of an answer, and it is 0 exactly under Done.
use mathlib.Core.Path.{◌≡◌, refl, ap, ◌∙◌}
use mathlib.Core.Logic.{◌↔◌}
use Prim.Native.Nat.{ℕ, ◌/◌, ◌%◌, ◌<◌}
use native.Mathlib.Omega.{arith}
use Rattle.answers.specs.declared.KeyPart.{KeyPart}
use Rattle.answers.specs.declared.KeyPart.TheVariants.{A, B, StoredInverse}
use Rattle.answers.specs.declared.KeyRecord.{KeyRecord}
use Rattle.answers.specs.declared.KeyRecord.TheVariants.{PublicKey, SeededPublicKey, SecretKey}
use Rattle.answers.specs.declared.EncapsulationPart.{EncapsulationPart}
use Rattle.answers.specs.declared.EncapsulationPart.TheVariants.{C1, C2}
use Rattle.answers.specs.declared.EncapsulationRecord.{EncapsulationRecord}
use Rattle.answers.specs.declared.EncapsulationRecord.TheVariants.{SealedEntry, Encapsulation}
use Rattle.answers.specs.declared.Refusal.{Refusal}
use Rattle.answers.specs.declared.Refusal.TheVariants.{WrongLength, WrongMark, WrongVersion, KeyOutOfRange, InvalidCode}
use Rattle.answers.specs.declared.Refusal.TheVariants.{NotInvertible, KeyMismatch, StreamExhausted, DecapsulationFailure, TagMismatch, EncapsulationOutOfRange, WrongCount, InverseMismatch}
use Rattle.answers.specs.declared.Location.{Location}
use Rattle.answers.specs.Answers.{refusal_number, number, Answer, Done}
use Rattle.answers.specs.Locations.{at, nowhere, in_key_part, in_key, in_encapsulation_part, in_encapsulation, refusal_location, location}
use Rattle.answers.specs.Locations.{pack, code, code_number, code_location}
use Rattle.answers.proofs.AnswerLaws.{number-done, Never}
use Rattle.std.specs.Prelude.{Ok, Err}

-- ---- a field's value fits its bits

-- four bits for a record, four for a part
pub record Fits (l : Location) : Type 0 where
  pub kind_fits : l.kind < 16
  pub part-fits : l.part < 16

at-fits : {r p i : ℕ} → r < 16 → p < 16 → Fits (at r p i)
at-fits hr hp = record { kind_fits = hr; part-fits = hp }

nowhere-fits : Fits nowhere
nowhere-fits = at-fits (omega arith) (omega arith)

key-part-fits : (r : ℕ) → r < 16 → (p : KeyPart) → Fits (in_key_part r p)
key-part-fits r h (A i) = at-fits h (omega arith)
key-part-fits r h (B i) = at-fits h (omega arith)
key-part-fits r h (StoredInverse i) = at-fits h (omega arith)

key_fits : (k : KeyRecord) → Fits (in_key k)
key_fits (PublicKey p) = key-part-fits 1 (omega arith) p
key_fits (SeededPublicKey p) = key-part-fits 2 (omega arith) p
key_fits (SecretKey p) = key-part-fits 3 (omega arith) p

encapsulation-part-fits : (r : ℕ) → r < 16 → (p : EncapsulationPart) → Fits (in_encapsulation_part r p)
encapsulation-part-fits r h (C1 i) = at-fits h (omega arith)
encapsulation-part-fits r h (C2 i) = at-fits h (omega arith)

encapsulation-fits : (c : EncapsulationRecord) → Fits (in_encapsulation c)
encapsulation-fits (SealedEntry p) = encapsulation-part-fits 4 (omega arith) p
encapsulation-fits (Encapsulation p) = encapsulation-part-fits 5 (omega arith) p

-- eight bits for a number
refusal-fits : (r : Refusal) → (refusal_number r < 256) × Fits (refusal_location r)
refusal-fits WrongLength = (omega arith, nowhere-fits)
refusal-fits WrongMark = (omega arith, nowhere-fits)
refusal-fits WrongVersion = (omega arith, nowhere-fits)
refusal-fits (KeyOutOfRange k) = (omega arith, key_fits k)
refusal-fits InvalidCode = (omega arith, nowhere-fits)
refusal-fits NotInvertible = (omega arith, nowhere-fits)
refusal-fits KeyMismatch = (omega arith, nowhere-fits)
refusal-fits StreamExhausted = (omega arith, nowhere-fits)
refusal-fits DecapsulationFailure = (omega arith, nowhere-fits)
refusal-fits TagMismatch = (omega arith, nowhere-fits)
refusal-fits (EncapsulationOutOfRange c) = (omega arith, encapsulation-fits c)
refusal-fits WrongCount = (omega arith, nowhere-fits)
refusal-fits InverseMismatch = (omega arith, nowhere-fits)

pub answer-fits : (a : Answer) → (number a < 256) × Fits (location a)
answer-fits (Ok _) = (omega arith, nowhere-fits)
answer-fits (Err r) = refusal-fits r

-- .. where both were worked out
pub both-fit : {n : ℕ} {l : Location} (a : Answer) → n ≡ number a → l ≡ location a → (n < 256) × Fits l
both-fit a en el = rw (en, el) (answer-fits a)

-- ---- reading back

packed-number : (n : ℕ) (l : Location) → n < 256 → code_number (pack n l) ≡ n
packed-number n l h = omega arith

packed-part : (n : ℕ) (l : Location) → n < 256 → l.part < 16 → pack n l / 256 % 16 ≡ l.part
packed-part n l h hp = omega arith

packed_kind : (n : ℕ) (l : Location) → n < 256 → Fits l → pack n l / 4096 % 16 ≡ l.kind
packed_kind n l h f = omega (arith, f.part-fits, f.kind_fits)

packed_index : (n : ℕ) (l : Location) → n < 256 → Fits l → l.index < 4096 → pack n l / 65536 % 4096 ≡ l.index
packed_index n l h f hi = omega (arith, f.part-fits, f.kind_fits)

pub code_number_lem : (a : Answer) → code_number (code a) ≡ number a
code_number_lem a = packed-number (number a) (location a) (answer-fits a).0

pub code_location_lem : (a : Answer) → (location a).index < 4096 → code_location (code a) ≡ location a
code_location_lem a h =
    let fits = answer-fits a in
    let n = number a in
    let l = location a in
    rw (packed_kind n l fits.0 fits.1, packed-part n l fits.0 fits.1.part-fits, packed_index n l fits.0 fits.1 h)

-- no bit above the index is set
pub code-within : (a : Answer) → code a < 268435456
code-within a =
    let fits = answer-fits a in
    omega (arith, fits.0, fits.1.kind_fits, fits.1.part-fits)

-- the code of an answer that names no word is its number
plain_code : (a : Answer) → location a ≡ nowhere → code a ≡ number a
plain_code a e = ap (pack (number a)) e ∙ omega arith

-- 0 exactly under Done
pub code-done : (a : Answer) → (code a ≡ 0) ↔ (a ≡ Done)
code-done a = (λ e. (number-done a).0 (omega (arith, e)), λ e. ap code e)

-- ---- which answers name a word

-- those with the numbers 4 and 11
pub names_none : (a : Answer) → ¬ (number a ≡ 4) → ¬ (number a ≡ 11) → location a ≡ nowhere
names_none (Ok _) no_key no-encapsulation = refl
names_none (Err r) no_key no-encapsulation = of r no_key no-encapsulation
  where
    of : (r : Refusal) → ¬ (refusal_number r ≡ 4) → ¬ (refusal_number r ≡ 11) → refusal_location r ≡ nowhere
    of WrongLength no_key no-encapsulation = refl
    of WrongMark no_key no-encapsulation = refl
    of WrongVersion no_key no-encapsulation = refl
    of (KeyOutOfRange k) no_key no-encapsulation = absurd (no_key refl)
    of InvalidCode no_key no-encapsulation = refl
    of NotInvertible no_key no-encapsulation = refl
    of KeyMismatch no_key no-encapsulation = refl
    of StreamExhausted no_key no-encapsulation = refl
    of DecapsulationFailure no_key no-encapsulation = refl
    of TagMismatch no_key no-encapsulation = refl
    of (EncapsulationOutOfRange c) no_key no-encapsulation = absurd (no-encapsulation refl)
    of WrongCount no_key no-encapsulation = refl
    of InverseMismatch no_key no-encapsulation = refl

-- the code of any other answer is its number
pub code_is-number : (a : Answer) → Never 4 a → Never 11 a → code a ≡ number a
code_is-number a no_key no-encapsulation = plain_code a (names_none a no_key.never no-encapsulation.never)
