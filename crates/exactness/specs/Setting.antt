-- A setting of the scheme: a ring of polynomials modulo q with its rule for X^n, and what the scheme asks of centred coefficients.
use Rattle.std.specs.Prelude.{Bool, List, ℕ, ◌≤◌, ◌<◌, ℤ, nat_abs, get_or}
use Rattle.algebra.specs.Numbers as N
use Rattle.algebra.specs.Numbers.{sum_below}

pub record Setting : Type 0 where
  -- the modulus, the degree, and the reciprocal of 5 modulo q
  pub q : ℕ
  pub n : ℕ
  pub fifth : ℕ
  -- the product by the rule for X^n
  pub product : List ℕ → List ℕ → List ℕ
  -- the centred value of a coefficient
  pub centred : ℕ → ℤ
  -- the remainder by 5 between - 2 and 2 of every centred coefficient
  pub remainders : List ℕ → List ℕ
  -- whether every centred coefficient is between - k and k
  pub is_within : ℕ → List ℕ → Bool

module _ (S : Setting) where
  abbrev pub Element : List ℕ → Type 0
  Element a = N.Element S.q S.n a

  -- every centred coefficient is between - k and k
  abbrev pub Within : ℕ → List ℕ → Type 0
  Within k a = (i : ℕ) → i < S.n → nat_abs (S.centred (get_or a i 0)) ≤ k

  -- an element of which that holds
  abbrev pub Bounded : ℕ → List ℕ → Type 0
  Bounded k a = Element a × Within k a

  -- document 01's short: every centred coefficient is - 1, 0 or 1
  abbrev pub Ternary : List ℕ → Type 0
  Ternary a = Bounded 1 a

  -- the sum of the sizes of the centred coefficients
  unfoldable pub weight : List ℕ → ℕ
  weight a = sum_below S.n (λ i. nat_abs (S.centred (get_or a i 0)))

  abbrev pub sum : (a b : List ℕ) → List ℕ
  sum a b = N.plus S.q S.n a b

  abbrev pub difference : (a b : List ℕ) → List ℕ
  difference a b = N.minus S.q S.n a b

  -- c × a for a number c
  abbrev pub multiple : ℕ → List ℕ → List ℕ
  multiple c a = N.scale S.q S.n c a

  abbrev pub one : List ℕ
  one = N.one S.q S.n

  -- document 01's unit: b × i = 1 for some element i
  abbrev pub Invertible : List ℕ → Type 0
  Invertible b = N.Invertible S.q S.n S.product b
