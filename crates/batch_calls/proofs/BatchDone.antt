-- When the checks of a batch pass.
use mathlib.Core.Path.{◌≡◌}
use mathlib.Core.Logic.Iff
use mathlib.Core.Logic.{◌↔◌}
use mathlib.Core.List.{List}
use Prim.Native.Nat.{ℕ}
use lib.Dec.{eqb}
use lib.ListN.{length}
use Rattle.encoding.proofs.Words.{length-element_of}
use Rattle.answers.specs.declared.EncapsulationRecord.TheVariants.{SealedEntry}
use Rattle.answers.specs.declared.Refusal.TheVariants.{WrongLength, WrongCount}
use Rattle.answers.proofs.AnswerLaws.{unless-done, then-done}
use Rattle.records.specs.Layout.{sealed_entry_mark}
use Rattle.records.specs.Records.{header_answer, c1_word, c2_word, first_of, second_of}
use Rattle.records.proofs.RecordLaws.{header-done, elements-done}
use Rattle.batch_records.specs.Batches.{batch_length, count_of, is_count, batch_answer}
use Rattle.batch_records.specs.WellFormed.{WellFormedBatch}
use Rattle.calls.proofs.Lengths.{one-fits}
use Rattle.batch_calls.proofs.Lengths.{count_iff}
use Rattle.answers.specs.Answers.{Done}

-- a batch passes its own checks exactly when it is well formed
pub batch-done : (b : List ℕ) → (batch_answer b ≡ Done) ↔ WellFormedBatch b
unfolding batch_answer
batch-done b =
    Iff.trans
    (Iff.trans (then-done (header_answer sealed_entry_mark 2 b) _)
    (Iff.and (header-done sealed_entry_mark 2 b)
    (Iff.trans (unless-done (is_count (count_of b)) WrongCount _)
    (Iff.and (count_iff (count_of b))
    (Iff.trans (unless-done (eqb (length b) (batch_length (count_of b))) WrongLength _)
    (Iff.and (one-fits (length b) (batch_length (count_of b)))
    (elements-done (c1_word SealedEntry) (c2_word SealedEntry) (first_of b) (second_of b) (length-element_of _) (length-element_of _)))))))) (
      λ ((mark, version), (count, (size, (first, second)))). record {
        front = record { marked = mark; has_version = version; first-words = first; second-words = second };
        count = count;
        size = size;
      },
      λ w. ((w.front.marked, w.front.has_version), (w.count, (w.size, (w.front.first-words, w.front.second-words)))),
    )
