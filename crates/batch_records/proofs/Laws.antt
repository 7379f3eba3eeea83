-- The count of a batch, and its checks, one after the other.
use mathlib.Core.Path.{◌≡◌, refl, ap}
use mathlib.Core.Bool.{Bool, true, false, ◌&&◌, cond, and-eq-true_iff}
use mathlib.Core.List.{List}
use Prim.Native.Nat.{ℕ, ◌+◌, ◌*◌, ◌≤◌}
use native.Mathlib.Omega.{arith}
use lib.Dec.{eqb, leb}
use lib.ListN.{length}
use borrow.Author.Tests.{eqb-true, leb-true}
use Rattle.lists.proofs.ByteLists.{Small}
use Rattle.answers.specs.declared.EncapsulationRecord.TheVariants.{SealedEntry}
use Rattle.answers.specs.declared.Refusal.TheVariants.{WrongLength, WrongCount}
use Rattle.answers.specs.Answers.{unless, and_then, Answer, Done}
use Rattle.records.specs.Layout.{sealed_entry_mark}
use Rattle.records.specs.Records.{header_answer, c1_word, c2_word, elements_answer, first_of, second_of}
use Rattle.sealed_records.specs.Front.{sealed_front_answer}
use Rattle.batch_records.specs.Batches.{batch_overhead, batch_length, most_entries, entries_length, count_of, is_count, batch_answer}
use Rattle.batch_records.specs.Read.{count_answer, body_length}

-- a count has 16 bits
pub count_fits : (bytes : List ℕ) → Small bytes → count_of bytes ≤ 65535
unfolding count_of
count_fits bytes small = omega (arith, small 4101, small 4102)

-- the checks of a batch are those of a front of version 2, with the count in between
pub batch-front : (bytes : List ℕ) → sealed_front_answer 2 (count_answer (count_of bytes) (length bytes)) bytes ≡ batch_answer bytes
unfolding sealed_front_answer batch_answer
batch-front bytes =
    ap (and_then (header_answer sealed_entry_mark 2 bytes))
    (behind (is_count (count_of bytes)) (eqb (length bytes) (batch_length (count_of bytes))) (elements_answer (c1_word SealedEntry) (c2_word SealedEntry) (first_of bytes) (second_of bytes)))
  where
    behind : (counted fits : Bool) (words : Answer)
        → and_then (unless counted WrongCount (unless fits WrongLength Done)) words ≡ unless counted WrongCount (unless fits WrongLength words)
    behind false fits words = refl
    behind true false words = refl
    behind true true words = refl

-- the body that is read lies in the batch, and its entries in the output
pub body-within : (m size : ℕ) → batch_overhead ≤ size → (body_length m size ≤ entries_length) × (batch_overhead + body_length m size ≤ size)
unfolding is_count
body-within m size h = by (is_count m) (eqb size (batch_length m)) refl refl
  where
    by : (counted fits : Bool) → is_count m ≡ counted → eqb size (batch_length m) ≡ fits
        → (cond (counted && fits) (16 * m) 0 ≤ entries_length) × (batch_overhead + cond (counted && fits) (16 * m) 0 ≤ size)
    by false fits ec ef = (omega arith, omega arith)
    by true false ec ef = (omega arith, omega arith)
    by true true ec ef =
        let most = leb-true m most_entries ((and-eq-true_iff (leb 1 m) (leb m most_entries)).0 ec).1 in
        let same = eqb-true size (batch_length m) ef in
        (omega (arith, most), omega (arith, same))
