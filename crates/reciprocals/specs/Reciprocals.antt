-- The reciprocals modulo q of 1,024 numbers at once.
use Rattle.std.specs.Prelude.{Bool, not, cond, List, ℕ, ◌%◌, eqb, ltb, length, get_or}
use Rattle.lists.specs.Table.{table}
use Rattle.lists.specs.First.{first_failing}
use Rattle.modq.specs.Modulus.{reciprocal_of}
use Rattle.ntt.specs.Spectrum.{q, degree, pointwise}

-- q does not divide x
abbrev pub is_nonzero : ℕ → Bool
is_nonzero x = not (eqb (x % q) 0)

-- q divides some entry
unfoldable pub has_zero : List ℕ → Bool
has_zero t = ltb (first_failing is_nonzero t) (length t)

-- the reciprocal of every entry; zeros where some entry has none
unfoldable pub reciprocals_of : List ℕ → List ℕ
reciprocals_of t = table degree (λ k. cond (has_zero t) 0 (reciprocal_of (get_or t k 0)))

-- every product of two entries is 1
unfoldable pub are_reciprocals : (x y : List ℕ) → Bool
are_reciprocals x y = eqb (first_failing (λ p. eqb p 1) (pointwise x y)) degree
