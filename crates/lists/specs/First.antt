-- A search from the front of a list.
use Rattle.std.specs.Prelude.{Bool, cond, List, [], ◌∷◌, ℕ, suc}

-- the place of the first entry that fails the test; the length where every entry passes
unfoldable pub first_failing : (ℕ → Bool) → List ℕ → ℕ
first_failing good [] = 0
first_failing good (x ∷ xs) = cond (good x) (suc (first_failing good xs)) 0
