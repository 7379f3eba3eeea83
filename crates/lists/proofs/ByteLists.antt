-- Lists of bytes, and a part of a list entry by entry.
use mathlib.Core.Path.{◌≡◌, refl, sym, ap, ◌∙◌}
use mathlib.Core.List.{List, [], ◌∷◌, zip_with}
use Prim.Native.Nat.{ℕ, zero, suc, ◌+◌, ◌<◌, ◌≤◌}
use native.Mathlib.Omega.{arith}
use lib.Bits.{bit_xor, xor_lt}
use lib.ListN.{length, get_or, take, drop}
use Rattle.lists.specs.Table.{table, zeros}
use Rattle.lists.proofs.Tables.{table-get_or, part-table}

-- every entry is a byte
abbrev pub Small : List ℕ → Type 0
Small a = (k : ℕ) → get_or a k 0 < 256

pub small-drop : (n : ℕ) (a : List ℕ) → Small a → Small (drop n a)
small-drop zero a h = h
small-drop (suc n) [] h = h
small-drop (suc n) (x ∷ a) h = small-drop n a (λ k. h (suc k))

pub small-take : (n : ℕ) (a : List ℕ) → Small a → Small (take n a)
small-take zero a h k = omega arith
small-take (suc n) [] h k = h k
small-take (suc n) (x ∷ a) h zero = h 0
small-take (suc n) (x ∷ a) h (suc k) = small-take n a (λ j. h (suc j)) k

pub small-zeros : (n : ℕ) → Small (zeros n)
small-zeros zero k = omega arith
small-zeros (suc n) zero = omega arith
small-zeros (suc n) (suc k) = small-zeros n k

pub small_xor : (a b : List ℕ) → Small a → Small b → Small (zip_with bit_xor a b)
unfolding zip_with
small_xor [] b ha hb k = omega arith
small_xor (x ∷ a) [] ha hb k = omega arith
small_xor (x ∷ a) (y ∷ b) ha hb zero = xor_lt 8 x y (ha 0) (hb 0)
small_xor (x ∷ a) (y ∷ b) ha hb (suc k) = small_xor a b (λ j. ha (suc j)) (λ j. hb (suc j)) k

-- ---- a part

pub part-get_or : (i k : ℕ) (a : List ℕ) → i + k ≤ length a → take k (drop i a) ≡ table k (λ j. get_or a (i + j) 0)
part-get_or i k a h =
    ap (λ (l : List ℕ). take k (drop i l)) (sym (table-get_or (length a) a 0 refl)) ∙ part-table i k (length a) (λ j. get_or a j 0) h
