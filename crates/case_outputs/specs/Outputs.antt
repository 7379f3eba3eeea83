-- The answer and the outputs of a case: outputs before the call, and when they and the answer are what the case tells after it.
use Rattle.std.specs.Prelude.{Bool, ◌&&◌, cond, List, ℕ, min, eqb, length, replicate}
use Rattle.answers.specs.Answers.{number, Answer}
use Rattle.answers.specs.Locations.{location}
use Rattle.location_text.specs.Words.{location_text}
use Rattle.vectors.specs.Fields.{word32, field}
use Rattle.vectors.specs.Answers.{is_same}

-- how many bytes an output has, whose length stands in field i. A case may ask for no more than 65,536: an output is cut off there.
unfoldable pub room : ℕ → List ℕ → ℕ
room i text = min (word32 (field i text)) 65536

-- what fills an output before the call
abbrev pub filler : ℕ
filler = 165

-- the output before the call
unfoldable pub output : ℕ → List ℕ → List ℕ
output i text = replicate (room i text) filler

-- a buffer of which every byte is the filler
abbrev pub filled : List ℕ → List ℕ
filled buffer = replicate (length buffer) filler

-- an output after the call, for the number and the bytes that are told: under 0 it is these bytes; under any other number none are told,
-- and it is as it was
abbrev pub output_agrees : (told : ℕ) (bytes after : List ℕ) → Bool
output_agrees told bytes after = cond (eqb told 0) (is_same after bytes) (eqb (length bytes) 0 && is_same after (filled after))

-- the number is the one that is told, and so is the location, in words: nothing for an answer that names no word
unfoldable pub answer_told : (answer : Answer) (told : ℕ) (words : List ℕ) → Bool
answer_told answer told words = eqb (number answer) told && is_same (location_text (location answer)) words

-- the answer is the one that is told, and the output is what is told
unfoldable pub answer_agrees : (answer : Answer) (told : ℕ) (words bytes after : List ℕ) → Bool
answer_agrees answer told words bytes after = answer_told answer told words && output_agrees told bytes after
