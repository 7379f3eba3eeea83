-- The front of a sealed entry (version 1) and of a batch (version 2): what its checks answer, and what is read of it and of an encapsulation.
use Rattle.std.specs.Prelude.{List, ℕ}
use Rattle.answers.specs.declared.EncapsulationRecord.TheVariants.{SealedEntry}
use Rattle.answers.specs.Answers.{and_then, Answer}
use Rattle.records.specs.Layout.{sealed_entry_mark}
use Rattle.records.specs.Records.{header_answer, c1_word, c2_word, elements_answer, first_of, second_of, c1_of, c2_of}
use Rattle.scheme.specs.declared.Encapsulation.{Encapsulation}

-- 2, 3, then what stands between header and words, then 11
unfoldable pub sealed_front_answer : (version : ℕ) (between : Answer) (bytes : List ℕ) → Answer
sealed_front_answer version between bytes =
    and_then (header_answer sealed_entry_mark version bytes)
    (and_then between (elements_answer (c1_word SealedEntry) (c2_word SealedEntry) (first_of bytes) (second_of bytes)))

abbrev pub front_encapsulation : (bytes : List ℕ) → Encapsulation
front_encapsulation bytes = record { c1 = first_of bytes; c2 = second_of bytes }

abbrev pub bare_encapsulation : (bytes : List ℕ) → Encapsulation
bare_encapsulation bytes = record { c1 = c1_of bytes; c2 = c2_of bytes }
