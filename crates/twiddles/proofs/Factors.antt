-- The factor tables: their entries are entries of the table of powers in Montgomery's form.
use mathlib.Core.Path.{◌≡◌, sym, ap, ap₂, ◌∙◌}
use mathlib.Core.List.{List}
use Prim.Native.Nat.{ℕ, ◌+◌, ◌-◌, ◌*◌, ◌/◌, ◌%◌, ◌^◌, ◌<◌, ◌≤◌}
use native.Mathlib.Nat.{mod-lt, mod-eq_of_lt, pow-le-pow_right}
use native.Mathlib.Omega.{arith}
use lib.ListN.{length, get_or, take, drop}
use lib.Pow.{pow_pos}
use Rattle.lists.specs.Table.{table}
use Rattle.lists.proofs.Tables.{length-table, get_or-table, table_same, part-table}
use Rattle.algebra.specs.Halving.{reversed}
use Rattle.algebra.specs.Numbers.{mul_mod, scale}
use Rattle.modq.specs.Montgomery.{montgomery_form, montgomery_product, from_montgomery}
use Rattle.modq.proofs.Montgomery.{from_form}
use Rattle.twiddles.specs.Powers.{q, degree, ψ, power, powers_table, power_forms}
use Rattle.twiddles.specs.Factors.{block_of, forward_factor, backward_factor, forward_factors, backward_factors}
use Rattle.twiddles.proofs.Reversal.{reversed-below, reversed-positive}

-- ---- entries

pub power_at : (e : ℕ) → e < degree → get_or powers_table e 0 ≡ power e
unfolding powers_table
power_at e h = get_or-table degree power e 0 h

-- the constant table in Montgomery's form
pub forms_of-powers : scale q degree (from_montgomery 21894) powers_table ≡ power_forms
unfolding scale powers_table power_forms
forms_of-powers = table_same degree _ _ (λ k h. ap (mul_mod q 6143) (get_or-table degree power k 0 h) ∙ form (power k))
  where
    form : (x : ℕ) → mul_mod q 6143 x ≡ montgomery_form x
    form x = omega arith

pub form-at : (e : ℕ) → e < degree → get_or power_forms e 0 ≡ montgomery_form (power e)
unfolding power_forms
form-at e h = get_or-table degree _ e 0 h

power_below : (e : ℕ) → power e < q
power_below e = mod-lt (ψ ^ e) (omega arith)

pub block-below : (k j : ℕ) → k < 10 → block_of k j < 1024
block-below k j h =
    let large : 2 ^ k ≤ 2 ^ 9 = pow-le-pow_right {n = 2} (omega arith) {i = k} {j = 9} (omega arith) in
    omega (arith, mod-lt j (pow_pos k))

-- 1 << k
pub shifted : (k : ℕ) → k < 10 → (1 * 2 ^ k) % 18446744073709551616 ≡ 2 ^ k
shifted k h =
    let large : 2 ^ k ≤ 2 ^ 9 = pow-le-pow_right {n = 2} (omega arith) {i = k} {j = 9} (omega arith) in
    omega arith

block-positive : (k j : ℕ) → 0 < block_of k j
block-positive k j = omega (arith, pow_pos k)

-- a table with 512 entries a layer, at pair j of layer k
at_pair : (f : ℕ → ℕ → ℕ) (k j : ℕ) → k < 10 → j < 512 → get_or (table 5120 (λ i. montgomery_form (f (i / 512) (i % 512)))) (512 * k + j) 0 ≡ montgomery_form (f k j)
at_pair f k j h l =
    let layer : (512 * k + j) / 512 ≡ k = omega arith in
    let pair : (512 * k + j) % 512 ≡ j = omega arith in
    get_or-table 5120 _ (512 * k + j) 0 (omega arith) ∙ rw (layer, pair)

module _ (k j : ℕ) (h : k < 10) (l : j < 512) where
  pub forward-at : get_or forward_factors (512 * k + j) 0 ≡ montgomery_form (forward_factor k j)
  unfolding forward_factors
  forward-at = at_pair forward_factor k j h l

  pub backward-at : get_or backward_factors (512 * k + j) 0 ≡ montgomery_form (backward_factor k j)
  unfolding backward_factors
  backward-at = at_pair backward_factor k j h l

  -- each factor is an entry of the constant table, in Montgomery's form
  pub forward-in-table : get_or forward_factors (512 * k + j) 0 ≡ montgomery_form (get_or powers_table (reversed 10 (block_of k j)) 0)
  forward-in-table = forward-at ∙ ap montgomery_form (sym (power_at (reversed 10 (block_of k j)) (reversed-below (block_of k j) (block-below k j h))))

  pub backward-in-table : get_or backward_factors (512 * k + j) 0 ≡ montgomery_form (get_or powers_table (1024 - reversed 10 (block_of k j)) 0)
  backward-in-table =
      backward-at
      ∙ ap montgomery_form
      (sym (power_at (1024 - reversed 10 (block_of k j)) (omega (arith, reversed-positive (block_of k j) (block-positive k j) (block-below k j h)))))

pub length-forward_factors : length forward_factors ≡ 5120
unfolding forward_factors
length-forward_factors = length-table 5120 _

pub length-backward_factors : length backward_factors ≡ 5120
unfolding backward_factors
length-backward_factors = length-table 5120 _

-- the product by such an entry
pub by-power : (e y w : ℕ) → w ≡ montgomery_form (power e) → montgomery_product w y ≡ mul_mod q (power e) y
by-power e y w s = rw (s, from_form (power e) (power_below e))

-- ---- how the tables are made: the factor of each block, then at each of its pairs

spread : (exponent : ℕ → ℕ) → ((m : ℕ) → 0 < m → m < 1024 → exponent m < 1024) → (e f : List ℕ)
    → e ≡ table 1024 exponent → f ≡ table 1024 (λ m. montgomery_form (power (get_or e m 0 % 1024)))
    → table 5120 (λ i. get_or f (block_of (i / 512) (i % 512)) 0) ≡ table 5120 (λ i. montgomery_form (power (exponent (block_of (i / 512) (i % 512)))))
spread exponent few e f he hf = table_same 5120 _ _ (λ i l. entry (block_of (i / 512) (i % 512)) (block-positive (i / 512) (i % 512)) (block-below (i / 512) (i % 512) (omega arith)))
  where
    entry : (m : ℕ) → 0 < m → m < 1024 → get_or f m 0 ≡ montgomery_form (power (exponent m))
    entry m h l =
        ap (λ (x : List ℕ). get_or x m 0) hf ∙ get_or-table 1024 _ m 0 l
        ∙ ap (λ (x : ℕ). montgomery_form (power x))
        (ap (λ (x : List ℕ). get_or x m 0 % 1024) he ∙ ap (λ (x : ℕ). x % 1024) (get_or-table 1024 exponent m 0 l) ∙ mod-eq_of_lt (few m h l))

-- the part of layer k
pub layer-part : (f : List ℕ) (k : ℕ) → k < 10
    → table 512 (λ j. get_or f (block_of k j) 0) ≡ take (512 * k + 512 - 512 * k) (drop (512 * k) (table 5120 (λ i. get_or f (block_of (i / 512) (i % 512)) 0)))
layer-part f k h =
    let entry : ℕ → ℕ = λ i. get_or f (block_of (i / 512) (i % 512)) 0 in
    let width : 512 * k + 512 - 512 * k ≡ 512 = omega arith in
    sym (part-table (512 * k) (512 * k + 512 - 512 * k) 5120 entry (omega arith) ∙ ap (λ (n : ℕ). table n (λ j. entry (512 * k + j))) width
    ∙ table_same 512 _ _ (λ j l.
    let layer : (512 * k + j) / 512 ≡ k = omega arith in
    let pair : (512 * k + j) % 512 ≡ j = omega arith in
    ap₂ (λ (k j : ℕ). get_or f (block_of k j) 0) layer pair))

module _ (e f : List ℕ) (hf : f ≡ table 1024 (λ m. montgomery_form (power (get_or e m 0 % 1024)))) where
  pub forward-spread : e ≡ table 1024 (reversed 10) → table 5120 (λ i. get_or f (block_of (i / 512) (i % 512)) 0) ≡ forward_factors
  unfolding forward_factors
  forward-spread he = spread (reversed 10) (λ m h l. reversed-below m l) e f he hf

  pub backward-spread : e ≡ table 1024 (λ m. 1024 - reversed 10 m) → table 5120 (λ i. get_or f (block_of (i / 512) (i % 512)) 0) ≡ backward_factors
  unfolding backward_factors
  backward-spread he = spread (λ m. 1024 - reversed 10 m) (λ m h l. omega (arith, reversed-positive m h l)) e f he hf
