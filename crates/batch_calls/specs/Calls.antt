-- What the calls on batches answer and what their lent outputs hold afterwards, over the lent bytes (document 02, No. 4). Every definition
-- holds for buffers of all lengths. `room` is the length of the output.
use Rattle.std.specs.Prelude.{◌&&◌, List, ◌++◌, ℕ, ◌/◌, ◌%◌, eqb, leb, length, drop}
use Rattle.scheme.specs.Scheme.{Triple, Outcome, masked}
use Rattle.derivation.specs.Derivation.{body_of, tag_of}
use Rattle.answers.specs.declared.Refusal.TheVariants as Refusal
use Rattle.answers.specs.Answers.{unless, and_then, on_done, Answer}
use Rattle.records.specs.Layout.{header_length}
use Rattle.records.specs.Records.{first_of, second_of}
use Rattle.batch_records.specs.Batches.{batch_overhead, batch_length, entries_length, count_of, count_block, is_count, batch_body, batch_tag, tagged_blocks, batch_answer, batch_bytes}
use Rattle.public_keys.specs.PublicKeys.{is_public_length, public_a, public_b, public_answer}
use Rattle.secret_keys.specs.SecretKeys.{elements_of, secret_answer}
use Rattle.keys.specs.Keys.{triple_noise_length, noise_triple}
use Rattle.calls.specs.Calls.{outcome, opened_answer, opened_entry}

-- ---- seal a batch of entries, 16 bytes each; the key is a public record of either kind

-- how many entries these bytes hold
abbrev pub entries : List ℕ → ℕ
entries blocks = length blocks / 16

-- 1 for entries, then 12, then 1 for the other buffers, then the key
unfoldable pub seal_batch_answer : (key noise blocks : List ℕ) (room : ℕ) → Answer
seal_batch_answer k noise blocks room =
    unless (eqb (length blocks % 16) 0) Refusal.WrongLength
    (unless (is_count (entries blocks)) Refusal.WrongCount
    (unless (is_public_length (length k) && eqb (length noise) triple_noise_length && eqb room (batch_length (entries blocks))) Refusal.WrongLength
    (public_answer k)))

-- entries protected by a triple, behind c1, c2 and the count
abbrev pub protected_batch : (c1 c2 : List ℕ) (t : Triple) (blocks : List ℕ) → List ℕ
protected_batch c1 c2 t blocks =
    batch_bytes c1 c2 (entries blocks) (body_of t.r t.e1 t.e2 blocks)
    (tag_of t.r t.e1 t.e2 (count_block (entries blocks) ++ body_of t.r t.e1 t.e2 blocks))

unfoldable pub batch_with : (a b : List ℕ) (t : Triple) (blocks : List ℕ) → List ℕ
batch_with a b t blocks = protected_batch (masked a t.r t.e1) (masked b t.r t.e2) t blocks

unfoldable pub sealed_batch : (key noise blocks : List ℕ) → List ℕ
sealed_batch k noise blocks = batch_with (public_a k) (public_b k) (noise_triple noise) blocks

unfoldable pub seal_batch_out : (key noise blocks out : List ℕ) → List ℕ
seal_batch_out k noise blocks out = on_done (seal_batch_answer k noise blocks (length out)) (sealed_batch k noise blocks) out

-- ---- open a batch, with a dummy from noise; the key is a secret record of either version

-- what is found in it
abbrev pub batch_outcome : (key batch noise : List ℕ) → Outcome
batch_outcome k batch noise = outcome (elements_of k) (noise_triple noise) (first_of batch) (second_of batch)

-- 1, then the key, then the batch, then 9, 10
unfoldable pub open_batch_answer : (key batch noise : List ℕ) (room : ℕ) → Answer
open_batch_answer k batch noise room =
    unless (leb header_length (length k) && leb batch_overhead (length batch) && eqb (length noise) triple_noise_length && eqb room entries_length)
    Refusal.WrongLength
    (and_then (secret_answer k)
    (and_then (batch_answer batch)
    (opened_answer (batch_outcome k batch noise) (tagged_blocks batch) (batch_tag batch))))

-- entries at the front of the output; what stands behind them stays
abbrev pub in_front : (entries out : List ℕ) → List ℕ
in_front new out = new ++ drop (length new) out

unfoldable pub open_batch_out : (key batch noise out : List ℕ) → List ℕ
open_batch_out k batch noise out =
    on_done (open_batch_answer k batch noise (length out)) (in_front (opened_entry (batch_outcome k batch noise) (batch_body batch)) out) out

-- the number lent for m
unfoldable pub open_batch_count : (key batch noise : List ℕ) (room : ℕ) (lent : ℕ) → ℕ
open_batch_count k batch noise room lent = on_done (open_batch_answer k batch noise room) (count_of batch) lent
