-- What the calls that convert a secret key from one version to the other answer, and what their lent output holds afterwards (document 02,
-- No. 5). Every definition holds for buffers of all lengths. `room` is the length of the output.
use Rattle.std.specs.Prelude.{◌&&◌, List, ℕ, eqb, leb, length}
use Rattle.ring.specs.Invertible.{inverse_of}
use Rattle.answers.specs.declared.Refusal.TheVariants.{WrongLength}
use Rattle.answers.specs.Answers.{unless, on_done, Answer}
use Rattle.records.specs.Layout.{header_length, secret_key_version, expanded_key_version, secret_key_length, expanded_key_length}
use Rattle.records.specs.Records.{second_of, compact_bytes, expanded_bytes}
use Rattle.secret_keys.specs.SecretKeys.{version_answer}

-- ---- expand_secret_key: version 1 to version 2

-- 1 for a key without a header or another output; 3 for any version but 1
unfoldable pub expand_answer : (key : List ℕ) (room : ℕ) → Answer
expand_answer k room = unless (leb header_length (length k) && eqb room expanded_key_length) WrongLength (version_answer secret_key_version k)

unfoldable pub expand_out : (key out : List ℕ) → List ℕ
expand_out k out = on_done (expand_answer k (length out)) (expanded_bytes k (inverse_of (second_of k))) out

-- ---- compact_secret_key: version 2 to version 1

unfoldable pub compact_answer : (key : List ℕ) (room : ℕ) → Answer
compact_answer k room = unless (leb header_length (length k) && eqb room secret_key_length) WrongLength (version_answer expanded_key_version k)

unfoldable pub compact_out : (key out : List ℕ) → List ℕ
compact_out k out = on_done (compact_answer k (length out)) (compact_bytes k) out
