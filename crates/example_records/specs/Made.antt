-- What the examples are made of.
use Rattle.std.specs.Prelude.{List, [], ◌∷◌, ◌++◌, ℕ, zero, suc, ◌-◌, ◌*◌, set}
use Rattle.lists.specs.Table.{zeros}
use Rattle.ring.specs.Ring.{n}
use Rattle.sampling.specs.Stream.{stream_length}
use Rattle.records.specs.Layout.{public_key_mark, secret_key_mark, sealed_entry_mark, ternary_length}
use Rattle.records.specs.Records.{record_bytes, encapsulation_bytes}

-- ---- elements and records

-- c X^k; 0 for k of 1,024 or more
unfoldable pub term : (c k : ℕ) → List ℕ
term c k = set (zeros n) k c

abbrev pub constant : (c : ℕ) → List ℕ
constant c = term c 0

-- "SDK", and s = 0
unfoldable pub secret_key : (a b : ℕ) → List ℕ
secret_key a b = record_bytes secret_key_mark 1 (constant a) (constant b) ++ zeros ternary_length

-- "PDK"
unfoldable pub public_key : (a b : ℕ) → List ℕ
public_key a b = record_bytes public_key_mark 1 (constant a) (constant b)

unfoldable pub encapsulation : (c1 c2 : ℕ) → List ℕ
encapsulation c1 c2 = encapsulation_bytes (constant c1) (constant c2)

-- "PLG", and zeros for body and tag
unfoldable pub sealed_entry : (c1 c2 : ℕ) → List ℕ
sealed_entry c1 c2 = record_bytes sealed_entry_mark 1 (constant c1) (constant c2) ++ zeros 32

-- ---- streams

-- so many words, each of the bytes low and high
unfoldable pub words_of : (words low high : ℕ) → List ℕ
words_of zero low high = []
words_of (suc k) low high = low ∷ high ∷ words_of k low high

-- and zeros behind them
unfoldable pub stream : (words low high : ℕ) → List ℕ
stream words low high = words_of words low high ++ zeros (stream_length - 2 * words)
