-- Laws of `digit_at`.
use mathlib.Core.Path.{◌≡◌, sym, ap, ◌∙◌}
use mathlib.Core.List.{List}
use Prim.Native.Nat.{ℕ, ◌+◌, ◌*◌, ◌/◌, ◌%◌, ◌^◌, ◌<◌, ◌≤◌}
use native.Mathlib.Nat.{add-zero, mul-add-div, mul-add-mod_self_left, div-eq_of_lt, mod-eq_of_lt, div-one, pow-zero, zero-div, zero-mod}
use native.Mathlib.Omega.{arith}
use lib.ListN.{length, get_or, take, get_or-eq_default}
use lib.Seq.{get_or-take}
use Rattle.encoding.specs.Digits.{digit_at}

-- digit j of number i
pub digit-in : (base each : ℕ) (l : List ℕ) (i j : ℕ) → j < each → digit_at base each l (each * i + j) ≡ get_or l i 0 / base ^ j % base
digit-in base each l i j h =
    let number : (each * i + j) / each ≡ i = mul-add-div (lt_pos h) i j ∙ ap (λ (x : ℕ). i + x) (div-eq_of_lt h) ∙ add-zero i in
    let place : (each * i + j) % each ≡ j = mul-add-mod_self_left each i j ∙ mod-eq_of_lt h in
    rw (number, place)
  where
    lt_pos : {j : ℕ} → j < each → 0 < each
    lt_pos h = omega arith

-- the lowest digit of number i
pub digit-first : (base each : ℕ) (l : List ℕ) (i : ℕ) → 0 < each → digit_at base each l (each * i) ≡ get_or l i 0 % base
digit-first base each l i h =
    ap (digit_at base each l) (sym (add-zero (each * i))) ∙ digit-in base each l i 0 h ∙ rw (pow-zero base, div-one (get_or l i 0))

pub digit_missing : (base each : ℕ) (l : List ℕ) (k : ℕ) → length l ≤ k / each → digit_at base each l k ≡ 0
digit_missing base each l k h = rw (get_or-eq_default l 0 {n = k / each} h, zero-div (base ^ (k % each))) (zero-mod base)

-- digits of the first numbers
pub digit-take : (base each : ℕ) (l : List ℕ) (m k : ℕ) → k / each < m → digit_at base each (take m l) k ≡ digit_at base each l k
digit-take base each l m k h = ap (λ (x : ℕ). x / base ^ (k % each) % base) (get_or-take m l (k / each) 0 h)
