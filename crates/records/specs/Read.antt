-- What was read of a record: elements, and places of words.
use Rattle.std.specs.Prelude.{List, ℕ}
use Rattle.encoding.specs.Words.{first_unreduced}
use Rattle.answers.specs.declared.Refusal.{Refusal}
use Rattle.answers.specs.Answers.{and_then, Answer}
use Rattle.records.specs.declared.Places.{Places}
use Rattle.records.specs.declared.Pair.{Pair}
use Rattle.records.specs.Records.{place_answer, first_of, second_of}

-- the words of two elements
abbrev pub places_answer : (at : Places) (one other : Refusal) → Answer
places_answer at one other = and_then (place_answer at.first one) (place_answer at.second other)

-- two elements, and the place of the first word of q or more in each
abbrev pub pair_with : (first second : List ℕ) → Pair
pair_with first second = record {
  first = first;
  second = second;
  unreduced = record { first = first_unreduced first; second = first_unreduced second };
}

abbrev pub pair_of : (bytes : List ℕ) → Pair
pair_of bytes = pair_with (first_of bytes) (second_of bytes)
