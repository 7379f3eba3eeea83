-- The largest size among integers.
use Rattle.std.specs.Prelude.{List, [], ◌∷◌, ℕ, max, ℤ, nat_abs}

-- 0 of none
unfoldable pub largest_size : List ℤ → ℕ
largest_size [] = 0
largest_size (x ∷ xs) = max (nat_abs x) (largest_size xs)
