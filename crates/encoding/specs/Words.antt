-- Ring elements as bytes: little-endian words of 16 bits, coefficient 0 first.
use Rattle.std.specs.Prelude.{List, ℕ, ◌+◌, ◌*◌, ◌/◌, ltb, length, get_or}
use Rattle.lists.specs.Table.{table}
use Rattle.lists.specs.First.{first_failing}
use Rattle.ring.specs.Ring.{q, n}
use Rattle.encoding.specs.Digits.{digit_at}

-- word k: bytes 2 k and 2 k + 1, the low one first
abbrev pub word_at : (bytes : List ℕ) (k : ℕ) → ℕ
word_at bytes k = get_or bytes (2 * k) 0 + 256 * get_or bytes (2 * k + 1) 0

-- the whole words of bytes; an odd last byte is in none
unfoldable pub words : List ℕ → List ℕ
words bytes = table (length bytes / 2) (word_at bytes)

-- the first n words, and zeros where the bytes end before
unfoldable pub words_to : (n : ℕ) (bytes : List ℕ) → List ℕ
words_to n bytes = table n (λ k. get_or (words bytes) k 0)

-- the place of the first word that is q or more; the length where there is none
unfoldable pub first_from : (q : ℕ) (a : List ℕ) → ℕ
first_from q a = first_failing (λ w. ltb w q) a

-- the bytes of n words, two a word, the low one first
unfoldable pub bytes_of : (n : ℕ) (a : List ℕ) → List ℕ
bytes_of n a = table (2 * n) (digit_at 256 2 a)

-- ---- ring elements: 1,024 words, modulo 59,393

abbrev pub element_of : List ℕ → List ℕ
element_of bytes = words_to n bytes

abbrev pub first_unreduced : List ℕ → ℕ
first_unreduced a = first_from q a

-- how many bytes an element has
abbrev pub element_length : ℕ
element_length = 2048

abbrev pub element_bytes : List ℕ → List ℕ
element_bytes a = bytes_of n a
