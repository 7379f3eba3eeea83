-- The batch (document 02, No. 4, a heat), "PLG" version 2: the front of a sealed entry, a count m of entries, a body of m blocks, a tag. Its
-- parts, what its checks answer and in which order, and what its writer writes.
use Rattle.std.specs.Prelude.{Bool, ◌&&◌, List, [], ◌∷◌, ◌++◌, ℕ, ◌+◌, ◌*◌, ◌/◌, ◌%◌, eqb, leb, length, get_or}
use Rattle.lists.specs.Table.{zeros}
use Rattle.answers.specs.declared.EncapsulationRecord.TheVariants.{SealedEntry}
use Rattle.answers.specs.declared.Refusal.TheVariants.{WrongLength, WrongCount}
use Rattle.answers.specs.Answers.{unless, and_then, Answer}
use Rattle.records.specs.Layout.{sealed_entry_mark, block_length}
use Rattle.records.specs.Records.{part, header_answer, c1_word, c2_word, elements_answer, first_of, second_of, record_bytes}

-- ---- layout

-- of the count, behind c2
abbrev pub count_place : ℕ
count_place = 4101

-- of the body, behind the count
abbrev pub body_place : ℕ
body_place = 4103

-- how many bytes stand beside the body
abbrev pub batch_overhead : ℕ
batch_overhead = 4119

abbrev pub batch_length : (m : ℕ) → ℕ
batch_length m = batch_overhead + 16 * m

abbrev pub most_entries : ℕ
most_entries = 255

-- of the entries of the largest batch
abbrev pub entries_length : ℕ
entries_length = 4080

-- ---- the count

-- 16 bits, the low byte first
unfoldable pub count_of : List ℕ → ℕ
count_of bytes = get_or bytes count_place 0 + 256 * get_or bytes (count_place + 1) 0

abbrev pub count_bytes : (m : ℕ) → List ℕ
count_bytes m = m % 256 ∷ m / 256 % 256 ∷ []

-- L, the block before the body under the tag: m in its first two bytes and zeros elsewhere
unfoldable pub count_block : (m : ℕ) → List ℕ
count_block m = count_bytes m ++ zeros 14

-- 1 to 255
unfoldable pub is_count : (m : ℕ) → Bool
is_count m = leb 1 m && leb m most_entries

-- ---- parts and checks

abbrev pub batch_body : List ℕ → List ℕ
batch_body bytes = part body_place (16 * count_of bytes) bytes

abbrev pub batch_tag : List ℕ → List ℕ
batch_tag bytes = part (body_place + 16 * count_of bytes) block_length bytes

-- what the tag is of
abbrev pub tagged_blocks : List ℕ → List ℕ
tagged_blocks bytes = count_block (count_of bytes) ++ batch_body bytes

-- 2, 3, then 12, then 1, then 11, by which words are named as those of a sealed entry
unfoldable pub batch_answer : List ℕ → Answer
batch_answer bytes =
    and_then (header_answer sealed_entry_mark 2 bytes)
    (unless (is_count (count_of bytes)) WrongCount
    (unless (eqb (length bytes) (batch_length (count_of bytes))) WrongLength
    (elements_answer (c1_word SealedEntry) (c2_word SealedEntry) (first_of bytes) (second_of bytes))))

unfoldable pub batch_bytes : (c1 c2 : List ℕ) (m : ℕ) (body tag : List ℕ) → List ℕ
batch_bytes c1 c2 m body tag = record_bytes sealed_entry_mark 2 c1 c2 ++ count_bytes m ++ body ++ tag
