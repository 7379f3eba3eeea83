-- A uniform element from a stream of random bytes: 16 blocks of 84 little-endian words, 2,688 bytes.
use mathlib.Core.List.{List, ◌++◌, filter}
use Rattle.std.specs.Prelude.{ℕ, ◌-◌, ◌<◌, length, take}
use Rattle.std.proofs.Math.Decide.{dec_lt}
use Rattle.lists.specs.Table.{zeros}
use Rattle.ring.specs.Ring.{q, n}
use Rattle.encoding.specs.Words.{words}

-- how many bytes a stream has
abbrev pub stream_length : ℕ
stream_length = 2688

-- the words below q, in order; the others are passed over
unfoldable pub reduced : (q : ℕ) (ws : List ℕ) → List ℕ
reduced q ws = filter {p = λ w. w < q} (λ w. dec_lt w q) ws

-- the words that are taken: the first n below q; fewer where the stream is exhausted before
unfoldable pub taken_of : (q n : ℕ) (stream : List ℕ) → List ℕ
taken_of q n stream = take n (reduced q (words (take stream_length stream)))

-- the words that are taken, and zeros up to n
unfoldable pub uniform_of : (q n : ℕ) (stream : List ℕ) → List ℕ
uniform_of q n stream = taken_of q n stream ++ zeros (n - length (taken_of q n stream))

-- ---- in the ring: 1,024 words below 59,393

abbrev pub taken : List ℕ → List ℕ
taken stream = taken_of q n stream

abbrev pub uniform_element : List ℕ → List ℕ
uniform_element stream = uniform_of q n stream
