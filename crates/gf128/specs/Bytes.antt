-- The field's elements as blocks of 16 bytes, and the tag (document 01, "Bytes"; over many blocks document 02, No. 4).
use Rattle.std.specs.Prelude.{◌≡◌, Bool, true, false, ◌&&◌, ℕ, zero, suc, ◌+◌, ◌*◌, ◌/◌, ◌%◌, ◌<◌, eqb, length, get_or, take, drop}
use mathlib.Core.List.{List, [], ◌∷◌, zip_with}
use Rattle.std.specs.Int.Bits.{bit_xor}
use Rattle.lists.specs.Table.{zeros}
use Rattle.gf128.specs.Field.{times}

-- sixteen bytes
pub record Block (a : List ℕ) : Type 0 where
  pub size : length a ≡ 16
  pub small : (k : ℕ) → get_or a k 0 < 256

-- bit i of byte j stands for x^(8 j + i): the bytes are the digits of the polynomial's number, the lowest first
abbrev pub number : List ℕ → ℕ
number [] = 0
number (b ∷ bs) = b + 256 * number bs

-- the n lowest bytes of a number
unfoldable pub bytes : ℕ → ℕ → List ℕ
bytes zero v = []
bytes (suc n) v = v % 256 ∷ bytes n (v / 256)

-- the sum: each byte of the one xor that of the other
unfoldable pub sum : (a b : List ℕ) → List ℕ
sum a b = zip_with bit_xor a b

-- the product in the field
unfoldable pub product : (a b : List ℕ) → List ℕ
product a b = bytes 16 (times (number a) (number b))

-- whether all bytes agree
unfoldable pub equal : (a b : List ℕ) → Bool
equal [] [] = true
equal [] (y ∷ ys) = false
equal (x ∷ xs) [] = false
equal (x ∷ xs) (y ∷ ys) = eqb x y && equal xs ys

-- block i of a string
abbrev pub block : ℕ → List ℕ → List ℕ
block i s = take 16 (drop (16 * i) s)

-- Horner's rule over the first n blocks of a string: from `start`, each block is added and the sum is multiplied by k
unfoldable pub folded : (k start : List ℕ) (blocks : ℕ) (s : List ℕ) → List ℕ
folded k start zero s = start
folded k start (suc n) s = product k (sum (folded k start n s) (block n s))

-- The tag of the m whole blocks B1, .., Bm of a string: k1^m × B1 + .. + k1 × Bm + k2. Bytes behind the last whole block have no part in it.
unfoldable pub tag : (k1 s k2 : List ℕ) → List ℕ
tag k1 s k2 = sum (folded k1 (zeros 16) (length s / 16) s) k2
