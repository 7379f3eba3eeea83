-- Where the first word of q or more stands (document 02, No. 3), and the code that an export answers: number and location in one.
use Rattle.std.specs.Prelude.{◌≡◌, ℕ, ◌+◌, ◌*◌, ◌/◌, ◌%◌, Result, Ok, Err}
use Rattle.answers.specs.declared.KeyPart.{KeyPart}
use Rattle.answers.specs.declared.KeyPart.TheVariants.{A, B, StoredInverse}
use Rattle.answers.specs.declared.KeyRecord.{KeyRecord}
use Rattle.answers.specs.declared.KeyRecord.TheVariants.{PublicKey, SeededPublicKey, SecretKey}
use Rattle.answers.specs.declared.EncapsulationPart.{EncapsulationPart}
use Rattle.answers.specs.declared.EncapsulationPart.TheVariants.{C1, C2}
use Rattle.answers.specs.declared.EncapsulationRecord.{EncapsulationRecord}
use Rattle.answers.specs.declared.EncapsulationRecord.TheVariants.{SealedEntry, Encapsulation}
use Rattle.answers.specs.declared.Refusal.{Refusal}
use Rattle.answers.specs.declared.Refusal.TheVariants.{WrongLength, WrongMark, WrongVersion, KeyOutOfRange, InvalidCode, NotInvertible, KeyMismatch}
use Rattle.answers.specs.declared.Refusal.TheVariants.{StreamExhausted, DecapsulationFailure, TagMismatch, EncapsulationOutOfRange, WrongCount, InverseMismatch}
use Rattle.answers.specs.declared.Location.{Location}
use Rattle.answers.specs.Answers.{number, Answer}

-- ---- codes of records and of parts, as include/polka.h has them

abbrev pub public_key : ℕ
public_key = 1

abbrev pub seeded_public_key : ℕ
seeded_public_key = 2

abbrev pub secret_key : ℕ
secret_key = 3

abbrev pub sealed_entry : ℕ
sealed_entry = 4

abbrev pub encapsulation : ℕ
encapsulation = 5

abbrev pub a_part : ℕ
a_part = 1

abbrev pub b_part : ℕ
b_part = 2

abbrev pub stored_inverse_part : ℕ
stored_inverse_part = 3

abbrev pub c1_part : ℕ
c1_part = 4

abbrev pub c2_part : ℕ
c2_part = 5

-- ---- the location

-- word i of part p of a record of kind r
abbrev pub at : (r p i : ℕ) → Location
at r p i = record { kind = r; part = p; index = i }

-- no word is named
abbrev pub nowhere : Location
nowhere = at 0 0 0

abbrev pub in_key_part : (r : ℕ) → KeyPart → Location
in_key_part r (A i) = at r a_part i
in_key_part r (B i) = at r b_part i
in_key_part r (StoredInverse i) = at r stored_inverse_part i

abbrev pub in_key : KeyRecord → Location
in_key (PublicKey p) = in_key_part public_key p
in_key (SeededPublicKey p) = in_key_part seeded_public_key p
in_key (SecretKey p) = in_key_part secret_key p

abbrev pub in_encapsulation_part : (r : ℕ) → EncapsulationPart → Location
in_encapsulation_part r (C1 i) = at r c1_part i
in_encapsulation_part r (C2 i) = at r c2_part i

abbrev pub in_encapsulation : EncapsulationRecord → Location
in_encapsulation (SealedEntry p) = in_encapsulation_part sealed_entry p
in_encapsulation (Encapsulation p) = in_encapsulation_part encapsulation p

-- under 4 and 11
abbrev pub refusal_location : Refusal → Location
refusal_location (KeyOutOfRange k) = in_key k
refusal_location (EncapsulationOutOfRange c) = in_encapsulation c
refusal_location WrongLength = nowhere
refusal_location WrongMark = nowhere
refusal_location WrongVersion = nowhere
refusal_location InvalidCode = nowhere
refusal_location NotInvertible = nowhere
refusal_location KeyMismatch = nowhere
refusal_location StreamExhausted = nowhere
refusal_location DecapsulationFailure = nowhere
refusal_location TagMismatch = nowhere
refusal_location WrongCount = nowhere
refusal_location InverseMismatch = nowhere

abbrev pub location : {A : Type 0} → Result A Refusal → Location
location (Ok x) = nowhere
location (Err r) = refusal_location r

-- the answer says the number n and names the location l
abbrev pub Names : (n : ℕ) (l : Location) → Answer → Type 0
Names n l a = (number a ≡ n) × (location a ≡ l)

-- ---- the code

-- the number in bits 0 to 7, the part in 8 to 11, the record in 12 to 15, the index in 16 to 27; what the calls name has an index below
-- 1,024
abbrev pub pack : (number : ℕ) (l : Location) → ℕ
pack n l = n + 256 * l.part + 4096 * l.kind + 65536 * (l.index % 4096)

abbrev pub code : {A : Type 0} → Result A Refusal → ℕ
code a = pack (number a) (location a)

-- what stands in these bits
abbrev pub code_number : ℕ → ℕ
code_number c = c % 256

abbrev pub code_location : ℕ → Location
code_location c = at (c / 4096 % 16) (c / 256 % 16) (c / 65536 % 4096)
