-- The powers of ψ: the rule of the constant table, tested once over the whole table; ψ is the least root.
use mathlib.Core.Path.{◌≡◌, refl, sym, ap, subst, ◌∙◌}
use mathlib.Core.Logic.{◌≢◌}
use mathlib.Core.Bool.{Bool, true, ◌&&◌}
use mathlib.Core.List.{List, [], ◌∷◌}
use Prim.Native.Nat.{ℕ, zero, suc, ◌+◌, ◌^◌, ◌%◌, ◌<◌}
use native.Mathlib.Nat.{add-zero, add-suc, suc-add, pow-succ', mul_comm}
use native.Mathlib.Omega.{arith}
use lib.Dec.{T, eqb, eqb→eq}
use lib.ListN.{length, get_or}
use Rattle.lists.proofs.Both.{both_computed}
use Rattle.lists.proofs.Tables.{get_or-table, table_is}
use Rattle.algebra.specs.Numbers.{mul_mod, pow_mod}
use Rattle.algebra.proofs.Residues.{mod-mul-left}
use Rattle.twiddles.specs.Powers.{q, degree, ψ, power, powers_table}

-- each power is the one before times ψ
pub power-suc : (k : ℕ) → power (suc k) ≡ mul_mod q (power k) ψ
power-suc k = ap (λ (n : ℕ). n % q) (pow-succ' ψ k ∙ mul_comm ψ (ψ ^ k)) ∙ sym (mod-mul-left (ψ ^ k) ψ q)

-- the test: the first entry is x, and each other is the one before times ψ modulo q
abbrev pub powers_from : ℕ → List ℕ → Bool
powers_from x [] = true
powers_from x (y ∷ ys) = eqb y x && powers_from (mul_mod q y ψ) ys

entries : (i : ℕ) (l : List ℕ) → T (powers_from (power i) l) → (k : ℕ) → k < length l → get_or l k 0 ≡ power (i + k)
entries i [] t k h = absurd (omega arith)
entries i (y ∷ ys) t zero h = eqb→eq y (power i) (both_computed (eqb y (power i)) (powers_from (mul_mod q y ψ) ys) t).0 ∙ ap power (sym (add-zero i))
entries i (y ∷ ys) t (suc k) h =
    let (same, rest) = both_computed (eqb y (power i)) (powers_from (mul_mod q y ψ) ys) t in
    let first : y ≡ power i = eqb→eq y (power i) same in
    let next : mul_mod q y ψ ≡ power (suc i) = ap (λ (n : ℕ). mul_mod q n ψ) first ∙ sym (power-suc i) in
    entries (suc i) ys (subst (λ (n : ℕ). T (powers_from n ys)) next rest) k (omega arith) ∙ ap power (suc-add i k ∙ sym (add-suc i k))

-- a list of 1024 numbers that passes the test is the table of powers
pub powers-rule : (l : List ℕ) → length l ≡ degree → T (powers_from 1 l) → l ≡ powers_table
unfolding powers_table
powers-rule l e t = table_is degree power l 0 e (λ k h. entries 0 l t k (omega arith) ∙ ap power (omega arith))

-- the power after the last of the table is - 1
pub next_power : mul_mod q (get_or powers_table 1023 0) ψ ≡ 59392
unfolding powers_table
next_power = ap (λ (x : ℕ). mul_mod q x ψ) (get_or-table degree power 1023 0 (omega arith))

-- ψ is the least number whose 1024th power is - 1
pub psi_least : (pow_mod q ψ degree ≡ 59392) × ((x : ℕ) → x < ψ → pow_mod q x degree ≢ 59392)
psi_least = (refl, less)
  where
    less : (x : ℕ) → x < ψ → pow_mod q x degree ≢ 59392
    less zero h e = omega arith
    less (suc zero) h e = omega arith
    less (suc (suc zero)) h e = omega arith
    less (suc (suc (suc x))) h e = omega arith
