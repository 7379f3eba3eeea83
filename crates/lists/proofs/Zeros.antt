-- Runs of zeros: at the end of a list they do not show where a missing entry counts as zero.
use mathlib.Core.Path.{◌≡◌, refl, sym, ◌∙◌}
use mathlib.Core.List.{List, [], ◌∷◌, ◌++◌}
use Prim.Native.Nat.{ℕ, zero, suc, ◌+◌, ◌<◌}
use lib.ListN.{length, get_or, length-replicate, get_or-replicate, replicate-append-replicate}
use Rattle.lists.specs.Table.{table, zeros}
use Rattle.lists.proofs.Tables.{table_is}

get_or-zeros : (m i : ℕ) → ◌≡◌ {A = ℕ} (get_or (zeros m) i 0) 0
get_or-zeros zero i = refl
get_or-zeros (suc m) zero = refl
get_or-zeros (suc m) (suc i) = get_or-zeros m i

pub get_or-append-zeros : (p : List ℕ) (m i : ℕ) → get_or (p ++ zeros m) i 0 ≡ get_or p i 0
get_or-append-zeros [] m i = get_or-zeros m i
get_or-append-zeros (x ∷ xs) m zero = refl
get_or-append-zeros (x ∷ xs) m (suc i) = get_or-append-zeros xs m i

pub zeros-table : (n : ℕ) (f : ℕ → ℕ) → ((k : ℕ) → k < n → f k ≡ 0) → zeros n ≡ table n f
zeros-table n f h = table_is n f (zeros n) 0 (length-replicate n 0) (λ k l. get_or-replicate n k 0 0 l ∙ sym (h k l))

-- a run of zeros around one of them
pub zeros_around : (a b : ℕ) → zeros (a + suc b) ≡ zeros a ++ (0 ∷ zeros b)
zeros_around a b = sym (replicate-append-replicate a (suc b) 0)

-- the size of a buffer of zeros, stated for every n so that a long one is never written out
pub size-zeros : (n : ℕ) → n ≡ length (zeros n)
size-zeros n = sym (length-replicate n 0)
