-- What is read of a public key of either kind before the scheme prepares it.
use Rattle.std.specs.Prelude.{List, ℕ}
use Rattle.answers.specs.Answers.{and_then, Answer}
use Rattle.public_keys.specs.declared.Parts.{Parts}
use Rattle.public_keys.specs.PublicKeys.{public_a, public_b, public_record_answer, public_stream_answer}

-- 2, 3, 4, then 8
abbrev pub parts_answer : List ℕ → Answer
parts_answer k = and_then (public_record_answer k) (public_stream_answer k)

abbrev pub parts_of : List ℕ → Parts
parts_of k = record { a = public_a k; b = public_b k }
