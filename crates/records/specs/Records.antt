-- The records of document 01 ("Bytes") and of document 02, No. 2 and 5: their parts, what their checks answer and in which order (No. 3 names
-- the first word that is q or more), and what their writers write.
use Rattle.std.specs.Prelude.{List, ◌++◌, ℕ, eqb, take, drop}
use Rattle.ring.specs.Ring.{n}
use Rattle.encoding.specs.Words.{element_of, first_unreduced, element_bytes}
use Rattle.encoding.specs.Codes.{ternary_of, first_invalid_code, ternary_bytes}
use Rattle.encoding.specs.Header.{has_mark, version_of, header}
use Rattle.answers.specs.declared.KeyPart.{KeyPart}
use Rattle.answers.specs.declared.KeyPart.TheVariants.{A, B, StoredInverse}
use Rattle.answers.specs.declared.KeyRecord.{KeyRecord}
use Rattle.answers.specs.declared.KeyRecord.TheVariants.{PublicKey, SeededPublicKey, SecretKey}
use Rattle.answers.specs.declared.EncapsulationPart.{EncapsulationPart}
use Rattle.answers.specs.declared.EncapsulationPart.TheVariants.{C1, C2}
use Rattle.answers.specs.declared.EncapsulationRecord.{EncapsulationRecord}
use Rattle.answers.specs.declared.EncapsulationRecord.TheVariants.{SealedEntry, Encapsulation}
use Rattle.answers.specs.declared.Refusal.{Refusal}
use Rattle.answers.specs.declared.Refusal.TheVariants.{WrongMark, WrongVersion, KeyOutOfRange, InvalidCode, EncapsulationOutOfRange}
use Rattle.answers.specs.Answers.{unless, and_then, Answer, Done}
use Rattle.records.specs.Layout.{header_length, element_length, ternary_length, block_length, seed_length, key_body_length}
use Rattle.records.specs.Layout.{first_place, second_place, third_place, tag_place, inverse_place, seed_place, seeded_b_place}
use Rattle.records.specs.Layout.{public_key_mark, seeded_key_mark, secret_key_mark, sealed_entry_mark, secret_key_version, expanded_key_version}

-- k bytes from place i on
abbrev pub part : (i k : ℕ) (bytes : List ℕ) → List ℕ
part i k bytes = take k (drop i bytes)

-- ---- checks

-- 2 and 3: the mark, then the version
unfoldable pub header_answer : (mark : List ℕ) (version : ℕ) (bytes : List ℕ) → Answer
header_answer mark version bytes = unless (has_mark mark bytes) WrongMark (unless (eqb (version_of bytes) version) WrongVersion Done)

-- 4 and 11 name word i of a part
abbrev pub a_word : (KeyPart → KeyRecord) → ℕ → Refusal
a_word key i = KeyOutOfRange (key (A i))

abbrev pub b_word : (KeyPart → KeyRecord) → ℕ → Refusal
b_word key i = KeyOutOfRange (key (B i))

abbrev pub inverse_word : ℕ → Refusal
inverse_word i = KeyOutOfRange (SecretKey (StoredInverse i))

abbrev pub c1_word : (EncapsulationPart → EncapsulationRecord) → ℕ → Refusal
c1_word encapsulation i = EncapsulationOutOfRange (encapsulation (C1 i))

abbrev pub c2_word : (EncapsulationPart → EncapsulationRecord) → ℕ → Refusal
c2_word encapsulation i = EncapsulationOutOfRange (encapsulation (C2 i))

-- from the place of an element's first word that is q or more; `refusal` names that word
abbrev pub place_answer : (place : ℕ) (refusal : Refusal) → Answer
place_answer place refusal = unless (eqb place n) refusal Done

-- by its words; `word` names word i
unfoldable pub words_answer : (word : ℕ → Refusal) (words : List ℕ) → Answer
words_answer word words = place_answer (first_unreduced words) (word (first_unreduced words))

-- .. of two elements, the first before the second
unfoldable pub elements_answer : (one other : ℕ → Refusal) (first second : List ℕ) → Answer
elements_answer one other first second = and_then (words_answer one first) (words_answer other second)

-- 5, from the place of the first code 3
unfoldable pub codes_answer : List ℕ → Answer
codes_answer bytes = unless (eqb (first_invalid_code bytes) n) InvalidCode Done

-- ---- public key, secret key and sealed entry: a header, and two elements behind it

-- a or c1
abbrev pub first_of : List ℕ → List ℕ
first_of bytes = element_of (part first_place element_length bytes)

-- b or c2
abbrev pub second_of : List ℕ → List ℕ
second_of bytes = element_of (part second_place element_length bytes)

-- 2, 3, then 4 or 11
unfoldable pub record_answer : (mark : List ℕ) (version : ℕ) (one other : ℕ → Refusal) (bytes : List ℕ) → Answer
record_answer mark version one other bytes = and_then (header_answer mark version bytes) (elements_answer one other (first_of bytes) (second_of bytes))

abbrev pub public_front_answer : List ℕ → Answer
public_front_answer bytes = record_answer public_key_mark 1 (a_word PublicKey) (b_word PublicKey) bytes

abbrev pub sealed_entry_answer : List ℕ → Answer
sealed_entry_answer bytes = record_answer sealed_entry_mark 1 (c1_word SealedEntry) (c2_word SealedEntry) bytes

-- what stands in front of the other parts of these records
unfoldable pub record_bytes : (mark : List ℕ) (version : ℕ) (first second : List ℕ) → List ℕ
record_bytes mark version first second = header mark version ++ element_bytes first ++ element_bytes second

abbrev pub public_key_bytes : (a b : List ℕ) → List ℕ
public_key_bytes a b = record_bytes public_key_mark 1 a b

-- the codes of a secret key's s, and s
abbrev pub codes_part : List ℕ → List ℕ
codes_part bytes = part third_place ternary_length bytes

abbrev pub secret_of : List ℕ → List ℕ
secret_of bytes = ternary_of (codes_part bytes)

abbrev pub secret_key_bytes : (a b s : List ℕ) → List ℕ
secret_key_bytes a b s = record_bytes secret_key_mark 1 a b ++ ternary_bytes s

-- the inverse of b that an expanded secret key stores
abbrev pub stored_inverse : List ℕ → List ℕ
stored_inverse bytes = element_of (part inverse_place element_length bytes)

-- a, b and s as they stand in a secret key of either version
abbrev pub key_body : List ℕ → List ℕ
key_body bytes = part header_length key_body_length bytes

-- the record of each version with the a, b and s of a key; i is the inverse
unfoldable pub compact_bytes : (key : List ℕ) → List ℕ
compact_bytes k = header secret_key_mark secret_key_version ++ key_body k

unfoldable pub expanded_bytes : (key i : List ℕ) → List ℕ
expanded_bytes k i = header secret_key_mark expanded_key_version ++ key_body k ++ element_bytes i

-- body and tag of a sealed entry
abbrev pub body_part : List ℕ → List ℕ
body_part bytes = part third_place block_length bytes

abbrev pub tag_part : List ℕ → List ℕ
tag_part bytes = part tag_place block_length bytes

abbrev pub sealed_entry_bytes : (c1 c2 body tag : List ℕ) → List ℕ
sealed_entry_bytes c1 c2 body tag = record_bytes sealed_entry_mark 1 c1 c2 ++ body ++ tag

-- ---- seeded public key (document 02's short public key): a header, the seed of a, and b

abbrev pub seed_of : List ℕ → List ℕ
seed_of bytes = part seed_place seed_length bytes

abbrev pub seeded_b : List ℕ → List ℕ
seeded_b bytes = element_of (part seeded_b_place element_length bytes)

-- 2, 3, then 4
unfoldable pub seeded_record_answer : List ℕ → Answer
seeded_record_answer bytes = and_then (header_answer seeded_key_mark 1 bytes) (words_answer (b_word SeededPublicKey) (seeded_b bytes))

unfoldable pub seeded_key_bytes : (seed b : List ℕ) → List ℕ
seeded_key_bytes seed b = header seeded_key_mark 1 ++ seed ++ element_bytes b

-- ---- encapsulation (document 01's bare capsule): two elements

abbrev pub c1_of : List ℕ → List ℕ
c1_of bytes = element_of (part 0 element_length bytes)

abbrev pub c2_of : List ℕ → List ℕ
c2_of bytes = element_of (part element_length element_length bytes)

-- 11
abbrev pub encapsulation_answer : List ℕ → Answer
encapsulation_answer bytes = elements_answer (c1_word Encapsulation) (c2_word Encapsulation) (c1_of bytes) (c2_of bytes)

unfoldable pub encapsulation_bytes : (c1 c2 : List ℕ) → List ℕ
encapsulation_bytes c1 c2 = element_bytes c1 ++ element_bytes c2
