-- When what key making, and the check of a key, do agrees with what a case tells. The fields of a case are the inputs, with the lengths of the
-- outputs last, the number, the location, and the outputs.
use Rattle.std.specs.Prelude.{Bool, ◌&&◌, List, ℕ, length}
use Rattle.calls.specs.Calls.{check_answer, keygen_answer, keygen_public, keygen_secret, seeded_keygen_answer, seeded_keygen_public, seeded_keygen_secret}
use Rattle.vectors.specs.Fields.{word32, field}
use Rattle.case_outputs.specs.Outputs.{answer_told, answer_agrees}
use Rattle.key_cases.specs.declared.Source.{Source}
use Rattle.key_cases.specs.declared.Source.TheVariants.{Stream, Seed}
use Rattle.answers.specs.Answers.{Answer}

abbrev pub check_agrees : List ℕ → Bool
check_agrees text = answer_told (check_answer (field 0 text)) (word32 (field 1 text)) (field 2 text)

-- ---- key making, by its first input

abbrev pub generation_answer : (source : Source) (first s e : List ℕ) (public secret : ℕ) → Answer
generation_answer Stream first s e public secret = keygen_answer first s e public secret
generation_answer Seed first s e public secret = seeded_keygen_answer first s e public secret

abbrev pub generation_public : (source : Source) (first s e public secret : List ℕ) → List ℕ
generation_public Stream first s e public secret = keygen_public first s e public secret
generation_public Seed first s e public secret = seeded_keygen_public first s e public secret

abbrev pub generation_secret : (source : Source) (first s e public secret : List ℕ) → List ℕ
generation_secret Stream first s e public secret = keygen_secret first s e public secret
generation_secret Seed first s e public secret = seeded_keygen_secret first s e public secret

-- what it answered and wrote is what is told
abbrev pub keys_agree : (text : List ℕ) (answer : Answer) (public secret : List ℕ) → Bool
keys_agree text answer public secret =
    answer_agrees answer (word32 (field 5 text)) (field 6 text) (field 7 text) public
    && answer_agrees answer (word32 (field 5 text)) (field 6 text) (field 8 text) secret

-- the outputs after the call, where they hold `public` and `secret` before it
unfoldable pub public_after : (source : Source) (text public secret : List ℕ) → List ℕ
public_after source text public secret = generation_public source (field 0 text) (field 1 text) (field 2 text) public secret

unfoldable pub secret_after : (source : Source) (text public secret : List ℕ) → List ℕ
secret_after source text public secret = generation_secret source (field 0 text) (field 1 text) (field 2 text) public secret

unfoldable pub keygen_agrees : (source : Source) (text public secret : List ℕ) → Bool
keygen_agrees source text public secret =
    keys_agree text (generation_answer source (field 0 text) (field 1 text) (field 2 text) (length public) (length secret))
    (public_after source text public secret) (secret_after source text public secret)
