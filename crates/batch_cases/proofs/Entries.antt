-- Entries in an output, and what stands behind them: both sides of a place that is cut off at the end.
use mathlib.Core.Path.{◌≡◌, sym, ap, ◌∙◌}
use mathlib.Core.List.{List}
use Prim.Native.Nat.{ℕ, ◌-◌, ◌≤◌, min}
use native.Mathlib.Decide.{dec_le}
use native.Mathlib.Nat.{sub-zero}
use native.Mathlib.Omega.{arith}
use lib.ListN.{length, take, drop, drop_of_length-le}
use Rattle.lists.proofs.Parts.{take-to-end}
use Rattle.vectors.proofs.Texts.{take-cut}

drop_cut : (n : ℕ) (l : List ℕ) → drop (min n (length l)) l ≡ drop n l
drop_cut n l = by (dec_le n (length l))
  where
    by : Dec (n ≤ length l) → drop (min n (length l)) l ≡ drop n l
    by (yes within) = let whole : min n (length l) ≡ n = omega arith in rw whole
    by (no past) = drop_of_length-le l {i = min n (length l)} (omega arith) ∙ sym (drop_of_length-le l {i = n} (omega arith))

pub front : (n : ℕ) (l : List ℕ) {end : ℕ} → end ≡ min n (length l) → take (end - 0) (drop 0 l) ≡ take n l
front n l {end} e = ap (λ (k : ℕ). take k l) (sub-zero end ∙ e) ∙ take-cut n l

pub behind : (n : ℕ) (l : List ℕ) {end : ℕ} → end ≡ min n (length l) → take (length l - end) (drop end l) ≡ drop n l
behind n l {end} e = take-to-end end l ∙ ap (λ (k : ℕ). drop k l) e ∙ drop_cut n l
