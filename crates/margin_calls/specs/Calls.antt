-- What opening with margin gives over the lent bytes (document 02, No. 7). It is lent and checked as `open` is, and its answer and its output are
-- `open_answer` and `open_out` of crate calls; beside them stands the margin. Every definition holds for buffers of all lengths.
use Rattle.std.specs.Prelude.{List, ℕ, ℤ}
use Rattle.ring.specs.Centred.{quotients}
use Rattle.margins.specs.Largest.{largest_size}
use Rattle.scheme.specs.Scheme.{step2}
use Rattle.answers.specs.Answers.{on_done}
use Rattle.records.specs.Records.{first_of, second_of}
use Rattle.secret_keys.specs.SecretKeys.{elements_of}
use Rattle.keys.specs.Keys.{noise_triple}
use Rattle.calls.specs.Calls.{open_answer}

-- m of step 2, for these bytes and this dummy
abbrev pub open_phase : (key sealed noise : List ℕ) → List ℕ
open_phase key sealed noise =
    step2 (elements_of key).a (elements_of key).b (elements_of key).s (noise_triple noise) (first_of sealed) (second_of sealed)

-- w, in m = E2 + 5 × w
abbrev pub open_quotients : (key sealed noise : List ℕ) → List ℤ
open_quotients key sealed noise = quotients (open_phase key sealed noise)

-- the margin: the largest size of a coefficient of w
unfoldable pub open_margin : (key sealed noise : List ℕ) → ℕ
open_margin key sealed noise = largest_size (open_quotients key sealed noise)

-- the number lent for it; `room` is the length of the output
unfoldable pub open_margin_out : (key sealed noise : List ℕ) (room lent : ℕ) → ℕ
open_margin_out key sealed noise room lent = on_done (open_answer key sealed noise room) (open_margin key sealed noise) lent
