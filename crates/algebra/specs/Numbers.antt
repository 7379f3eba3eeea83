-- The ring of polynomials modulo q with X^n = - 1 on lists of numbers, as the contracts of code show it.
-- An operation takes lists of any numbers and gives numbers below q.
use Rattle.std.specs.Prelude.{◌≡◌, cond, ℕ, zero, suc, ◌+◌, ◌-◌, ◌*◌, ◌/◌, ◌%◌, ◌^◌, ◌<◌, eqb, length, get_or, take, drop}
use mathlib.Core.List.{List, [], ◌∷◌, ◌++◌, zip_with}
use Rattle.lists.specs.Table.{table}

-- ---- numbers modulo q

abbrev pub add_mod : ℕ → ℕ → ℕ → ℕ
add_mod q x y = (x + y) % q

abbrev pub sub_mod : ℕ → ℕ → ℕ → ℕ
sub_mod q x y = (x + (q - y % q)) % q

abbrev pub mul_mod : ℕ → ℕ → ℕ → ℕ
mul_mod q x y = (x * y) % q

abbrev pub pow_mod : ℕ → ℕ → ℕ → ℕ
pow_mod q x n = x ^ n % q

-- ---- elements: lists of n numbers below q

abbrev pub Below : ℕ → List ℕ → Type 0
Below q [] = Unit {0}
Below q (x ∷ l) = (x < q) × Below q l

pub record Element (q n : ℕ) (l : List ℕ) : Type 0 where
  pub size : length l ≡ n
  pub below : Below q l

abbrev pub Elements : ℕ → ℕ → Type 0
Elements q n = (l : List ℕ) × Element q n l

-- ---- sums

-- f 0 + .. + f (n - 1)
unfoldable pub sum_below : ℕ → (ℕ → ℕ) → ℕ
sum_below zero f = 0
sum_below (suc n) f = f zero + sum_below n (λ i. f (suc i))

-- f i + .. + f (j - 1)
abbrev pub sum_between : ℕ → ℕ → (ℕ → ℕ) → ℕ
sum_between i j f = sum_below (j - i) (λ k. f (i + k))

-- ---- the operations

-- X^i, as a list of n coefficients
abbrev pub monomial : ℕ → ℕ → List ℕ
monomial n i = table n (λ k. cond (eqb k i) 1 0)

module _ (q n : ℕ) where
  unfoldable pub plus : (a b : List ℕ) → List ℕ
  plus a b = table n (λ k. add_mod q (get_or a k 0) (get_or b k 0))

  unfoldable pub minus : (a b : List ℕ) → List ℕ
  minus a b = table n (λ k. sub_mod q (get_or a k 0) (get_or b k 0))

  unfoldable pub negate : List ℕ → List ℕ
  negate a = table n (λ k. sub_mod q 0 (get_or a k 0))

  unfoldable pub scale : ℕ → List ℕ → List ℕ
  scale c a = table n (λ k. mul_mod q c (get_or a k 0))

  -- the coefficients of l modulo q, with zeros up to n
  unfoldable pub reduced : List ℕ → List ℕ
  reduced l = table n (λ k. get_or l k 0 % q)

  -- c modulo q, 0, .., 0
  abbrev pub constant : ℕ → List ℕ
  constant c = reduced (c ∷ [])

  abbrev pub one : List ℕ
  one = constant 1

  -- coefficient k of the product: the pairs with i + j = k, less those with i + j = n + k
  unfoldable pub product_coefficient : (a b : List ℕ) (k : ℕ) → ℕ
  product_coefficient a b k =
      (sum_between 0 (k + 1) (λ i. get_or a i 0 * get_or b (k - i) 0)
      + (q - 1) * sum_between (k + 1) n (λ i. get_or a i 0 * get_or b (n + k - i) 0)) % q

  unfoldable pub product : (a b : List ℕ) → List ℕ
  product a b = table n (product_coefficient a b)

  -- b has an inverse, for a product of the ring
  abbrev pub Invertible : (List ℕ → List ℕ → List ℕ) → List ℕ → Type 0
  Invertible times b = (i : List ℕ) × Element q n i × (times b i ≡ one)

-- ---- values and the transform

-- a₀ + a₁ x + a₂ x² + .. modulo q
unfoldable pub value_mod : ℕ → ℕ → List ℕ → ℕ
value_mod q x [] = 0
value_mod q x (c ∷ a) = add_mod q c (mul_mod q x (value_mod q x a))

-- By halves down to blocks of n coefficients, from a number g with g^t = - 1 modulo q: X^(2 h) - g^c is (X^h - g^(c / 2)) (X^h + g^(c / 2)).
-- `last c` does a block modulo X^n - g^c.
module _ (q g t n : ℕ) (last : ℕ → List ℕ → List ℕ) where
  -- modulo X^(n 2^d) - g^c
  unfoldable pub forward_mod : ℕ → ℕ → List ℕ → List ℕ
  forward_mod zero c a = last c a
  forward_mod (suc d) c a =
      forward_mod d (c / 2) (zip_with (λ x y. add_mod q x (mul_mod q (pow_mod q g (c / 2)) y)) (take (n * 2 ^ d) a) (drop (n * 2 ^ d) a))
      ++ forward_mod d (c / 2 + t) (zip_with (λ x y. sub_mod q x (mul_mod q (pow_mod q g (c / 2)) y)) (take (n * 2 ^ d) a) (drop (n * 2 ^ d) a))

  -- 2^d times the polynomial modulo X^(n 2^d) - g^c of which v is the transform
  unfoldable pub backward_mod : ℕ → ℕ → List ℕ → List ℕ
  backward_mod zero c v = last c v
  backward_mod (suc d) c v =
      zip_with (add_mod q) (backward_mod d (c / 2) (take (n * 2 ^ d) v)) (backward_mod d (c / 2 + t) (drop (n * 2 ^ d) v))
      ++ zip_with (λ x y. mul_mod q (pow_mod q g (t - c / 2)) (sub_mod q y x))
      (backward_mod d (c / 2) (take (n * 2 ^ d) v)) (backward_mod d (c / 2 + t) (drop (n * 2 ^ d) v))
