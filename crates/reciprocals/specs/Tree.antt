-- The tree of products by which `reciprocals` needs one reciprocal only. It is a list of 2,048 entries. Level m, for m = 1, 2, 4, .., 1,024,
-- is the m entries from m on, and entry m + j stands above the entries 2 m + j and 3 m + j. The lowest level has the leaves; entry 0 is on no level.
use Rattle.std.specs.Prelude.{List, ◌∷◌, ◌++◌, ℕ, ◌+◌, ◌-◌, ◌*◌, ◌^◌, get_or, take, drop}
use Rattle.lists.specs.Table.{table, zeros}
use Rattle.algebra.specs.Numbers.{mul_mod}
use Rattle.modq.specs.Modulus.{reciprocal_of}
use Rattle.ntt.specs.Layers.{layers}
use Rattle.ntt.specs.Spectrum.{q, degree}

-- h with x as its level m; every other entry stays
abbrev pub with_level : (m : ℕ) (x h : List ℕ) → List ℕ
with_level m x h = take m h ++ (x ++ drop (2 * m) h)

-- ---- up: each entry above the leaves is the product of the two below it

unfoldable pub leaves_of : List ℕ → List ℕ
leaves_of t = zeros degree ++ t

abbrev pub product_below : (m : ℕ) (h : List ℕ) → ℕ → ℕ
product_below m h j = mul_mod q (get_or h (2 * m + j) 0) (get_or h (3 * m + j) 0)

-- level m, from the level below it
unfoldable pub multiplied_level : (m : ℕ) (h : List ℕ) → List ℕ
multiplied_level m h = with_level m (table m (product_below m h)) h

-- level 512 first, then 256, .., 1
unfoldable pub products_of : List ℕ → List ℕ
products_of l = layers (λ k. multiplied_level (2 ^ (9 - k))) 10 l

-- ---- down: an entry is x × y, so the inverse of x is that of the entry times y, and the inverse of y that of the entry times x

abbrev pub left_inverse : (m : ℕ) (products inverses : List ℕ) → ℕ → ℕ
left_inverse m h r j = mul_mod q (get_or r (m + j) 0) (get_or h (3 * m + j) 0)

abbrev pub right_inverse : (m : ℕ) (products inverses : List ℕ) → ℕ → ℕ
right_inverse m h r j = mul_mod q (get_or r (m + j) 0) (get_or h (2 * m + j) 0)

-- the level below level m, from level m
unfoldable pub inverted_level : (m : ℕ) (products inverses : List ℕ) → List ℕ
inverted_level m h r = with_level (2 * m) (table m (left_inverse m h r) ++ table m (right_inverse m h r)) r

-- the reciprocal of the top, and zeros
unfoldable pub inverted_top : List ℕ → List ℕ
inverted_top h = 0 ∷ reciprocal_of (get_or h 1 0) ∷ zeros (2 * degree - 2)

-- level 2 first, then 4, .., 1,024
unfoldable pub inverses_of : List ℕ → List ℕ
inverses_of h = layers (λ k. inverted_level (2 ^ k) h) 10 (inverted_top h)
