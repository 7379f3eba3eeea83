-- Ten bits in reverse order, by tests over all numbers of ten bits.
use mathlib.Core.Path.{◌≡◌, refl, ◌∙◌}
use mathlib.Core.List.{[], ◌∷◌}
use Prim.Native.Nat.{ℕ, zero, suc, ◌+◌, ◌*◌, ◌/◌, ◌%◌, ◌<◌}
use native.Mathlib.Omega.{arith}
use lib.Dec.{eqb, eqb→eq, ltb, ltb→lt}
use lib.ListN.{take}
use Rattle.lists.specs.Table.{table, table_from}
use Rattle.lists.proofs.Tables.{take-table}
use Rattle.lists.proofs.Finite.{at_each}
use Rattle.algebra.specs.Halving.{reversed}

pub reversed-one : reversed 10 1 ≡ 512
unfolding reversed
reversed-one = refl

pub reversed-start : take 2 (table 1024 (reversed 10)) ≡ 0 ∷ 512 ∷ []
reversed-start = take-table 2 1024 (reversed 10) (omega arith) ∙ unfold table table_from reversed in refl

-- the lowest bit of m becomes the highest
pub reversed_step : (m : ℕ) → m < 1024 → 2 * reversed 10 m ≡ reversed 10 (m / 2) + 1024 * (m % 2)
unfolding reversed
reversed_step m h =
    eqb→eq (2 * reversed 10 m) (reversed 10 (m / 2) + 1024 * (m % 2))
    (at_each 1024 (λ m. eqb (2 * reversed 10 m) (reversed 10 (m / 2) + 1024 * (m % 2))) tt m h)

pub reversed-below : (m : ℕ) → m < 1024 → reversed 10 m < 1024
unfolding reversed
reversed-below m h = ltb→lt (reversed 10 m) 1024 (at_each 1024 (λ m. ltb (reversed 10 m) 1024) tt m h)

pub reversed-positive : (m : ℕ) → 0 < m → m < 1024 → 0 < reversed 10 m
unfolding reversed
reversed-positive zero g h = absurd (omega arith)
reversed-positive (suc m) g h = ltb→lt 0 (reversed 10 (suc m)) (at_each 1023 (λ m. ltb 0 (reversed 10 (suc m))) tt m (omega arith))
