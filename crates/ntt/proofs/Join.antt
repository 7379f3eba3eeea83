-- The layers of constant geometry make the transform that halves: entry i of block b of layer k stands at place i 2^k + b.
-- The number of layers, L + 1, the size n of the last blocks, what is done with them, the root and the exponents are parameters.
use mathlib.Core.Path.{◌≡◌, sym, ap, ap₂, ◌∙◌}
use mathlib.Core.List.{List, ◌++◌, zip_with}
use Prim.Native.Nat.{ℕ, zero, suc, ◌+◌, ◌-◌, ◌*◌, ◌/◌, ◌%◌, ◌^◌, ◌<◌, ◌≤◌}
use native.Mathlib.Nat.{two-pow-succ, add-mul, mul-add, mul-one, mul_assoc, mul_comm, mul-le-mul_right, mul-add-mod_self_left, mod-eq_of_lt}
use native.Mathlib.Omega.{arith}
use lib.ListN.{length, get_or, take, drop}
use lib.Pow.{pow-add}
use Rattle.lists.specs.Table.{table}
use Rattle.lists.proofs.Tables.{table_same, table-append, table-get_or, take-table, zip_with-table}
use Rattle.lists.proofs.Tables.{drop-table, zip_with-halves}
use Rattle.algebra.specs.Numbers.{add_mod, sub_mod, mul_mod, pow_mod, forward_mod, backward_mod}
use Rattle.algebra.proofs.Halving.{double}
use Rattle.butterflies.specs.Layers.{forward_layer, backward_layer}
use Rattle.butterflies.proofs.Layers.{length-forward, forward_even, forward_odd, length-backward, backward_low, backward_high}
use Rattle.ntt.specs.Layers.{layers}
use Rattle.ntt.proofs.Layers.{layers-zero, layers-suc}

-- ---- the blocks

-- block b of layer k is modulo X^m - g^c with this c, from X^.. - g^c₀ at the top
abbrev pub block_exponent : ℕ → ℕ → ℕ → ℕ → ℕ
block_exponent t c₀ zero b = c₀
block_exponent t c₀ (suc k) b = block_exponent t c₀ k (b / 2) / 2 + t * (b % 2)

module _ (t c₀ k b : ℕ) where
  exponent_even : block_exponent t c₀ (suc k) (2 * b) ≡ block_exponent t c₀ k b / 2
  exponent_even =
      let half : (2 * b) / 2 ≡ b = omega arith in
      let bit : (2 * b) % 2 ≡ 0 = omega arith in
      rw (half, bit) (omega arith)

  exponent_odd : block_exponent t c₀ (suc k) (2 * b + 1) ≡ block_exponent t c₀ k b / 2 + t
  exponent_odd =
      let half : (2 * b + 1) / 2 ≡ b = omega arith in
      let bit : (2 * b + 1) % 2 ≡ 1 = omega arith in
      rw (half, bit) (omega arith)

remainder : (i m b : ℕ) → b < m → (i * m + b) % m ≡ b
remainder i m b h = ap (λ (x : ℕ). (x + b) % m) (mul_comm i m) ∙ mul-add-mod_self_left m i b ∙ mod-eq_of_lt h

-- places in layer k, where n 2^L is half the number of entries
module _ (n L d k b i : ℕ) (e : k + d ≡ L) (h : b < 2 ^ k) (l : i < n * 2 ^ d) where
  whole : n * 2 ^ d * 2 ^ k ≡ n * 2 ^ L
  whole = mul_assoc n (2 ^ d) (2 ^ k) ∙ ap (λ (m : ℕ). n * m) (sym (pow-add 2 d k) ∙ ap (λ (m : ℕ). 2 ^ m) (omega arith))

  inside : i * 2 ^ k + b < n * 2 ^ L
  inside = omega (arith, whole, mul-le-mul_right (2 ^ k) l, add-mul i 1 (2 ^ k))

  far : (n * 2 ^ d + i) * 2 ^ k + b ≡ n * 2 ^ L + (i * 2 ^ k + b)
  far = omega (arith, add-mul (n * 2 ^ d) i (2 ^ k), whole)

  place_even : i * 2 ^ suc k + 2 * b ≡ 2 * (i * 2 ^ k + b)
  place_even = omega (arith, ap (λ (m : ℕ). i * m) (two-pow-succ k), mul-add i (2 ^ k) (2 ^ k))

  place_odd : i * 2 ^ suc k + (2 * b + 1) ≡ 2 * (i * 2 ^ k + b) + 1
  place_odd = omega (arith, place_even)

-- where blocks stand that stand one after the other: those of the next layer in a block of n 2^(d + 1) entries
module _ (n d b : ℕ) where
  first : b * (n * 2 ^ suc d) ≡ 2 * b * (n * 2 ^ d)
  first = ap (λ (m : ℕ). b * m) (double n d) ∙ twice (n * 2 ^ d)
    where
      twice : (m : ℕ) → b * (m + m) ≡ 2 * b * m
      twice m = omega arith

  second : (i : ℕ) → b * (n * 2 ^ suc d) + (n * 2 ^ d + i) ≡ (2 * b + 1) * (n * 2 ^ d) + i
  second i = omega (arith, first, add-mul (2 * b) 1 (n * 2 ^ d))

-- ---- there

module _ (q g t c₀ n L : ℕ) (last : ℕ → List ℕ → List ℕ) (E : ℕ → ℕ → ℕ) where
  -- E k p is the entry at place p after k layers

  -- one layer, at pair j of block b of layer k
  abbrev pub Forward : Type 0
  Forward = (k b j : ℕ) → k ≤ L → b < 2 ^ k → j < n * 2 ^ L → j % 2 ^ k ≡ b
      → (E (suc k) (2 * j) ≡ add_mod q (E k j) (mul_mod q (pow_mod q g (block_exponent t c₀ k b / 2)) (E k (n * 2 ^ L + j))))
      × (E (suc k) (2 * j + 1) ≡ sub_mod q (E k j) (mul_mod q (pow_mod q g (block_exponent t c₀ k b / 2)) (E k (n * 2 ^ L + j))))

  -- the last blocks that come of a block, each done by `last`
  unfoldable pub last_blocks : ℕ → ℕ → List ℕ
  last_blocks zero b = last (block_exponent t c₀ (suc L) b) (table n (λ i. E (suc L) (i * 2 ^ suc L + b)))
  last_blocks (suc d) b = last_blocks d (2 * b) ++ last_blocks d (2 * b + 1)

  module _ (layer : Forward) where
    module _ (d k b i : ℕ) (e : k + d ≡ L) (h : b < 2 ^ k) (l : i < n * 2 ^ d) where
      even : add_mod q (E k (i * 2 ^ k + b)) (mul_mod q (pow_mod q g (block_exponent t c₀ k b / 2)) (E k ((n * 2 ^ d + i) * 2 ^ k + b)))
          ≡ E (suc k) (i * 2 ^ suc k + 2 * b)
      even = rw (far n L d k b i e h l, place_even n L d k b i e h l) (sym (layer k b (i * 2 ^ k + b) (omega arith) h (inside n L d k b i e h l) (remainder i (2 ^ k) b h)).0)

      odd : sub_mod q (E k (i * 2 ^ k + b)) (mul_mod q (pow_mod q g (block_exponent t c₀ k b / 2)) (E k ((n * 2 ^ d + i) * 2 ^ k + b)))
          ≡ E (suc k) (i * 2 ^ suc k + (2 * b + 1))
      odd = rw (far n L d k b i e h l, place_odd n L d k b i e h l) (sym (layer k b (i * 2 ^ k + b) (omega arith) h (inside n L d k b i e h l) (remainder i (2 ^ k) b h)).1)

    -- block b of layer k
    pub forward-block : (d k b : ℕ) → k + d ≡ suc L → b < 2 ^ k
        → forward_mod q g t n last d (block_exponent t c₀ k b) (table (n * 2 ^ d) (λ i. E k (i * 2 ^ k + b))) ≡ last_blocks d b
    unfolding forward_mod last_blocks
    forward-block zero k b e h =
        let at : k ≡ suc L = omega arith in
        rw (at, mul-one n)
    forward-block (suc d) k b e h =
        let m = n * 2 ^ d in
        let c = block_exponent t c₀ k b in
        let entry : ℕ → ℕ = λ i. E k (i * 2 ^ k + b) in
        let more : 2 ^ suc k ≡ 2 ^ k + 2 ^ k = two-pow-succ k in
        rw (double n d)
        (ap₂ (λ (x y : List ℕ). x ++ y)
        (ap₂ (forward_mod q g t n last d) (sym (exponent_even t c₀ k b))
        (zip_with-halves _ m entry ∙ table_same m _ (λ i. E (suc k) (i * 2 ^ suc k + 2 * b)) (λ i l. even d k b i (omega arith) h l))
        ∙ forward-block d (suc k) (2 * b) (omega arith) (omega arith))
        (ap₂ (forward_mod q g t n last d) (sym (exponent_odd t c₀ k b))
        (zip_with-halves _ m entry ∙ table_same m _ (λ i. E (suc k) (i * 2 ^ suc k + (2 * b + 1))) (λ i l. odd d k b i (omega arith) h l))
        ∙ forward-block d (suc k) (2 * b + 1) (omega arith) (omega arith)))

-- ---- and back

module _ (q g t c₀ n L : ℕ) (last : ℕ → List ℕ → List ℕ) (v : List ℕ) (E : ℕ → ℕ → ℕ) where
  -- E d p is the entry at place p after the last d layers

  -- the last blocks, which stand one after the other in v
  abbrev pub Start : Type 0
  Start = (b : ℕ) → b < 2 ^ suc L → last (block_exponent t c₀ (suc L) b) (table n (λ i. get_or v (b * n + i) 0)) ≡ table n (λ i. E 0 (i * 2 ^ suc L + b))

  abbrev pub Backward : Type 0
  Backward = (d k b j : ℕ) → k + d ≡ L → b < 2 ^ k → j < n * 2 ^ L → j % 2 ^ k ≡ b
      → (E (suc d) j ≡ add_mod q (E d (2 * j)) (E d (2 * j + 1)))
      × (E (suc d) (n * 2 ^ L + j) ≡ mul_mod q (pow_mod q g (t - block_exponent t c₀ k b / 2)) (sub_mod q (E d (2 * j + 1)) (E d (2 * j))))

  module _ (start : Start) (layer : Backward) where
    module _ (d k b i : ℕ) (e : k + d ≡ L) (h : b < 2 ^ k) (l : i < n * 2 ^ d) where
      low : add_mod q (E d (i * 2 ^ suc k + 2 * b)) (E d (i * 2 ^ suc k + (2 * b + 1))) ≡ E (suc d) (i * 2 ^ k + b)
      low =
          rw (place_even n L d k b i e h l, place_odd n L d k b i e h l)
          (sym (layer d k b (i * 2 ^ k + b) e h (inside n L d k b i e h l) (remainder i (2 ^ k) b h)).0)

      high : mul_mod q (pow_mod q g (t - block_exponent t c₀ k b / 2)) (sub_mod q (E d (i * 2 ^ suc k + (2 * b + 1))) (E d (i * 2 ^ suc k + 2 * b)))
          ≡ E (suc d) ((n * 2 ^ d + i) * 2 ^ k + b)
      high =
          rw (place_even n L d k b i e h l, place_odd n L d k b i e h l, far n L d k b i e h l)
          (sym (layer d k b (i * 2 ^ k + b) e h (inside n L d k b i e h l) (remainder i (2 ^ k) b h)).1)

    -- block b of layer k
    pub backward-block : (d k b : ℕ) → k + d ≡ suc L → b < 2 ^ k
        → backward_mod q g t n last d (block_exponent t c₀ k b) (table (n * 2 ^ d) (λ i. get_or v (b * (n * 2 ^ d) + i) 0))
        ≡ table (n * 2 ^ d) (λ i. E d (i * 2 ^ k + b))
    unfolding backward_mod
    backward-block zero k b e h =
        let at : k ≡ suc L = omega arith in
        let h' : b < 2 ^ suc L = rw at at h in
        rw (at, mul-one n) (start b h')
    backward-block (suc d) k b e h =
        let m = n * 2 ^ d in
        let c = block_exponent t c₀ k b in
        let entry : ℕ → ℕ = λ i. get_or v (b * (n * 2 ^ suc d) + i) 0 in
        let more : 2 ^ suc k ≡ 2 ^ k + 2 ^ k = two-pow-succ k in
        let x = table m (λ i. E d (i * 2 ^ suc k + 2 * b)) in
        let y = table m (λ i. E d (i * 2 ^ suc k + (2 * b + 1))) in
        let left : backward_mod q g t n last d (c / 2) (take m (table (m + m) entry)) ≡ x =
        ap₂ (backward_mod q g t n last d) (sym (exponent_even t c₀ k b))
        (take-table m (m + m) entry (omega arith) ∙ table_same m _ _ (λ i l. ap (λ (p : ℕ). get_or v (p + i) 0) (first n d b)))
        ∙ backward-block d (suc k) (2 * b) (omega arith) (omega arith) in
        let right : backward_mod q g t n last d (c / 2 + t) (drop m (table (m + m) entry)) ≡ y =
        ap₂ (backward_mod q g t n last d) (sym (exponent_odd t c₀ k b))
        (drop-table m m entry ∙ table_same m _ _ (λ i l. ap (λ (p : ℕ). get_or v p 0) (second n d b i)))
        ∙ backward-block d (suc k) (2 * b + 1) (omega arith) (omega arith) in
        let apart : ℕ → ℕ → ℕ = λ x y. mul_mod q (pow_mod q g (t - c / 2)) (sub_mod q y x) in
        let result : ℕ → ℕ = λ i. E (suc d) (i * 2 ^ k + b) in
        ap (λ (s : ℕ). backward_mod q g t n last (suc d) c (table s entry)) (double n d)
        ∙ ap₂ (λ (x y : List ℕ). zip_with (add_mod q) x y ++ zip_with apart x y) left right
        ∙ ap₂ (λ (x y : List ℕ). x ++ y)
        (zip_with-table (add_mod q) m _ _ ∙ table_same m _ result (λ i l. low d k b i (omega arith) h l))
        (zip_with-table apart m _ _ ∙ table_same m _ (λ i. result (m + i)) (λ i l. high d k b i (omega arith) h l))
        ∙ sym (ap (λ (s : ℕ). table s result) (double n d) ∙ table-append m m result)

-- ---- the layers, with f k j the factor of pair j in layer k

module _ (q g t c₀ n L : ℕ) (last : ℕ → List ℕ → List ℕ) (f : ℕ → ℕ → ℕ) where
  abbrev pub ForwardFactors : Type 0
  ForwardFactors = (k j : ℕ) → k ≤ L → j < n * 2 ^ L → f k j ≡ pow_mod q g (block_exponent t c₀ k (j % 2 ^ k) / 2)

  abbrev pub BackwardFactors : Type 0
  BackwardFactors = (k j : ℕ) → k ≤ L → j < n * 2 ^ L → f k j ≡ pow_mod q g (t - block_exponent t c₀ k (j % 2 ^ k) / 2)

  -- a after k layers
  abbrev pub forward_state : List ℕ → ℕ → List ℕ
  forward_state a k = layers (λ k. forward_layer q (n * 2 ^ L) (f k)) k a

  -- v after d layers, the last layer first
  abbrev pub backward_state : List ℕ → ℕ → List ℕ
  backward_state v d = layers (λ d. backward_layer q (n * 2 ^ L) (f (L - d))) d v

  pub forward-layers : ForwardFactors → (a : List ℕ) → length a ≡ n * 2 ^ suc L
      → forward_mod q g t n last (suc L) c₀ a ≡ last_blocks q g t c₀ n L last (λ k p. get_or (forward_state a k) p 0) (suc L) 0
  forward-layers factors a size =
      ap (forward_mod q g t n last (suc L) c₀) (sym (start (layers-zero (λ k. forward_layer q (n * 2 ^ L) (f k)) a)))
      ∙ forward-block q g t c₀ n L last _ layer (suc L) 0 0 (omega arith) (omega arith)
    where
      start : {s : List ℕ} → s ≡ a → table (n * 2 ^ suc L) (λ i. get_or s (i * 2 ^ 0 + 0) 0) ≡ a
      start e = rw e (table_same (n * 2 ^ suc L) _ _ (λ i l. ap (λ (p : ℕ). get_or a p 0) (omega arith)) ∙ table-get_or (n * 2 ^ suc L) a 0 size)

      layer : Forward q g t c₀ n L last (λ k p. get_or (forward_state a k) p 0)
      layer k b j kl hb hj e =
          let s = forward_state a k in
          let z : f k j ≡ pow_mod q g (block_exponent t c₀ k b / 2) = factors k j kl hj ∙ ap (λ (b : ℕ). pow_mod q g (block_exponent t c₀ k b / 2)) e in
          let next = layers-suc (λ k. forward_layer q (n * 2 ^ L) (f k)) k a in
          (rw (next, forward_even q (n * 2 ^ L) (f k) s j hj, z), rw (next, forward_odd q (n * 2 ^ L) (f k) s j hj, z))

  -- w has entry i of the last block b, done by `last`, at place i 2^(L + 1) + b
  pub backward_layers_lem : BackwardFactors → (v w : List ℕ) → length v ≡ n * 2 ^ suc L
      → ((b : ℕ) → b < 2 ^ suc L → last (block_exponent t c₀ (suc L) b) (table n (λ i. get_or v (b * n + i) 0)) ≡ table n (λ i. get_or w (i * 2 ^ suc L + b) 0))
      → backward_mod q g t n last (suc L) c₀ v ≡ backward_state w (suc L)
  backward_layers_lem factors v w size done =
      ap (backward_mod q g t n last (suc L) c₀)
      (sym (table_same (n * 2 ^ suc L) _ _ (λ i l. ap (λ (p : ℕ). get_or v p 0) (omega arith)) ∙ table-get_or (n * 2 ^ suc L) v 0 size))
      ∙ backward-block q g t c₀ n L last v (λ d p. get_or (backward_state w d) p 0) start layer (suc L) 0 0 (omega arith) (omega arith)
      ∙ table_same (n * 2 ^ suc L) _ _ (λ i l. ap (λ (p : ℕ). get_or (backward_state w (suc L)) p 0) (omega arith))
      ∙ table-get_or (n * 2 ^ suc L) (backward_state w (suc L)) 0 whole-state
    where
      whole-state : length (backward_state w (suc L)) ≡ n * 2 ^ suc L
      whole-state = rw (layers-suc, length-backward) (sym (double n L))

      start : Start q g t c₀ n L last v (λ d p. get_or (backward_state w d) p 0)
      start b l = rw (layers-zero (λ d. backward_layer q (n * 2 ^ L) (f (L - d))) w) (done b l)

      layer : Backward q g t c₀ n L last v (λ d p. get_or (backward_state w d) p 0)
      layer d k b j kd hb hj e =
          let s = backward_state w d in
          let same : L - d ≡ k = omega arith in
          let z : f k j ≡ pow_mod q g (t - block_exponent t c₀ k b / 2) =
          factors k j (omega arith) hj ∙ ap (λ (b : ℕ). pow_mod q g (t - block_exponent t c₀ k b / 2)) e in
          let next = layers-suc (λ d. backward_layer q (n * 2 ^ L) (f (L - d))) d w in
          (rw (next, backward_low q (n * 2 ^ L) (f (L - d)) s j hj), rw (next, backward_high q (n * 2 ^ L) (f (L - d)) s j hj, same, z))

-- ---- single coefficients: the last blocks have one entry, with which nothing is to be done

module _ (q g t c₀ L : ℕ) (f : ℕ → ℕ → ℕ) (a : List ℕ) (size : length a ≡ 1 * 2 ^ suc L) where
  abbrev alone : ℕ → List ℕ → List ℕ
  alone c l = l

  in_order : (E : ℕ → ℕ → ℕ) (d b : ℕ) → last_blocks q g t c₀ 1 L alone E d b ≡ table (1 * 2 ^ d) (λ i. E (suc L) (b * (1 * 2 ^ d) + i))
  unfolding last_blocks
  in_order E zero b = table_same 1 _ _ (λ i l. ap (E (suc L)) (let z : i ≡ 0 = omega arith in rw z (omega arith)))
  in_order E (suc d) b =
      let m = 1 * 2 ^ d in
      let entry : ℕ → ℕ = λ i. E (suc L) (b * (1 * 2 ^ suc d) + i) in
      ap₂ (λ (x y : List ℕ). x ++ y)
      (in_order E d (2 * b) ∙ table_same m _ entry (λ i l. ap (λ (p : ℕ). E (suc L) (p + i)) (sym (first 1 d b))))
      (in_order E d (2 * b + 1) ∙ table_same m _ (λ i. entry (m + i)) (λ i l. ap (E (suc L)) (sym (second 1 d b i))))
      ∙ sym (ap (λ (s : ℕ). table s entry) (double 1 d) ∙ table-append m m entry)

  pub forward_join : ForwardFactors q g t c₀ 1 L alone f → forward_state q g t c₀ 1 L alone f a (suc L) ≡ forward_mod q g t 1 (λ c l. l) (suc L) c₀ a
  forward_join factors =
      let s = forward_state q g t c₀ 1 L alone f a (suc L) in
      let whole-state : length s ≡ 1 * 2 ^ suc L = rw (layers-suc, length-forward) (omega (arith, double 1 L)) in
      sym (forward-layers q g t c₀ 1 L alone f factors a size ∙ in_order _ (suc L) 0
      ∙ table_same (1 * 2 ^ suc L) _ _ (λ i l. ap (λ (p : ℕ). get_or s p 0) (omega arith)) ∙ table-get_or (1 * 2 ^ suc L) s 0 whole-state)

  pub backward_join : BackwardFactors q g t c₀ 1 L alone f → backward_state q g t c₀ 1 L alone f a (suc L) ≡ backward_mod q g t 1 (λ c l. l) (suc L) c₀ a
  backward_join factors =
      sym (backward_layers_lem q g t c₀ 1 L alone f factors a a size (λ b l. table_same 1 _ _ (λ i h. ap (λ (p : ℕ). get_or a p 0) (let z : i ≡ 0 = omega arith in rw z (omega arith)))))
