-- The blocks of a padded message.
use mathlib.Core.Path.{◌≡◌, refl, sym, ap, ap₂, ◌∙◌}
use mathlib.Core.List.{List, [], ◌∷◌, ◌++◌, append_assoc}
use Prim.Native.Nat.{ℕ, zero, suc, ◌+◌, ◌*◌, ◌-◌, ◌/◌, ◌%◌, ◌<◌, ◌≤◌}
use native.Mathlib.Nat.{mul-suc, mul-div-le, mul-le-mul_left, mul-le-mul_right, le_trans, le_of_eq, mod-lt, div-add-mod, mul-div_cancel_left, mul-add-div, div-eq_of_lt, add-zero}
use native.Mathlib.Numerals.{add-one}
use native.Mathlib.Omega.{arith}
use lib.ListN.{length, take, drop, set, length-append, length-drop, length-replicate}
use lib.Seq.{take-append-le, drop-append-le, take_all, set_at}
use Rattle.lists.specs.Table.{zeros}
use Rattle.lists.proofs.Zeros.{zeros_around}
use Rattle.shake.specs.Sponge.{block, absorbed, absorb}
use Rattle.shake.specs.Shake.{padding, padded}

-- ---- places of blocks of r bytes in a string of n

-- block k ends within the string where k is below the number of whole blocks
pub block-fits : (r n k : ℕ) → k < n / r → r * k + r ≤ n
block-fits r n k h = le_trans (le_of_eq (sym (mul-suc r k))) (le_trans (mul-le-mul_left r h) (mul-div-le n r))

-- block k starts within it where k is at most that number
pub start_fits : (r n k : ℕ) → k ≤ n / r → r * k ≤ n
start_fits r n k h = le_trans (mul-le-mul_left r h) (mul-div-le n r)

-- there are fewer blocks than bytes
-- fewer than r bytes are left, so block k is the last
pub last_place : (r n k : ℕ) → k ≤ n / r → n - r * k < r → k ≡ n / r
last_place r n k h l =
    let parts : n ≡ r * k + (n - r * k) = omega (arith, start_fits r n k h) in
    sym (ap (λ (x : ℕ). x / r) parts ∙ mul-add-div (omega arith) k (n - r * k) ∙ ap (λ (x : ℕ). k + x) (div-eq_of_lt l) ∙ add-zero k)

pub blocks_few : (r n : ℕ) → 1 < r → 2 * (n / r) ≤ n
blocks_few r n h = le_trans (mul-le-mul_right (n / r) h) (mul-div-le n r)

-- what is left behind the whole blocks
pub rest-fits : (r n : ℕ) → 0 < r → (r * (n / r) ≤ n) × (n - r * (n / r) ≡ n % r) × (n % r < r)
rest-fits r n h = (mul-div-le n r, omega (arith, div-add-mod n r), mod-lt n h)

-- ---- the padding

pub length-padding : (q : ℕ) → length (padding q) ≡ q
unfolding padding
length-padding zero = refl
length-padding (suc zero) = refl
length-padding (suc (suc q)) = ap suc (length-append (zeros q) (0x80 ∷ []) ∙ ap (λ (k : ℕ). k + 1) (length-replicate q 0) ∙ add-one q)

-- the last block of n bytes, with room for one byte of padding
pub padding-one : (t : List ℕ) (r n : ℕ) → length t + 1 ≡ r → r ≤ n
    → set (t ++ zeros (n - length t)) (length t) 0x9F ≡ (t ++ padding (r - length t)) ++ zeros (n - r)
unfolding padding
padding-one t r n h l =
    let a : n - length t ≡ suc (n - r) = omega arith in
    let b : r - length t ≡ 1 = omega arith in
    rw (a, b, set_at t 0 (zeros (n - r)) 0x9F (length t) refl) (sym (append_assoc t (0x9F ∷ []) (zeros (n - r))))

-- with room for more
pub padding_more : (t : List ℕ) (r n : ℕ) → length t + 1 < r → r ≤ n
    → set (set (t ++ zeros (n - length t)) (length t) 0x1F) (r - 1) 0x80 ≡ (t ++ padding (r - length t)) ++ zeros (n - r)
unfolding padding
padding_more t r n h l =
    let q : ℕ = r - 2 - length t in
    let a : n - length t ≡ suc (q + suc (n - r)) = omega arith in
    let b : r - length t ≡ suc (suc q) = omega arith in
    let front : List ℕ = t ++ (0x1F ∷ zeros q) in
    let size : length front ≡ r - 1 = length-append t (0x1F ∷ zeros q) ∙ ap (λ (k : ℕ). length t + suc k) (length-replicate q 0) ∙ omega arith in
    let start : set (t ++ zeros (n - length t)) (length t) 0x1F ≡ front ++ (0 ∷ zeros (n - r)) =
    rw (a, set_at t 0 (zeros (q + suc (n - r))) 0x1F (length t) refl, zeros_around q (n - r))
    (sym (append_assoc t (0x1F ∷ zeros q) (0 ∷ zeros (n - r)))) in
    let end : front ++ (0x80 ∷ zeros (n - r)) ≡ (t ++ (0x1F ∷ (zeros q ++ (0x80 ∷ [])))) ++ zeros (n - r) =
    sym (append_assoc front (0x80 ∷ []) (zeros (n - r))) ∙ ap (λ (p : List ℕ). p ++ zeros (n - r)) (append_assoc t (0x1F ∷ zeros q) (0x80 ∷ [])) in
    rw (start, b, set_at front 0 (zeros (n - r)) 0x80 (r - 1) size) end

-- ---- the padded message

module _ (r : ℕ) (some : 0 < r) (m : List ℕ) where
  n : ℕ
  n = length m / r

  rest : List ℕ
  rest = drop (r * n) m

  length_rest : length rest ≡ length m % r
  unfolding n rest
  length_rest = length-drop (r * n) m ∙ (rest-fits r (length m) some).1

  -- a block within the message
  pub block_inside : (k : ℕ) → r * k + r ≤ length m → block r k (padded r m) ≡ take r (drop (r * k) m)
  block_inside k h =
      let p : List ℕ = padding (r - length m % r) in
      let l : r ≤ length (drop (r * k) m) = simp length-drop (omega arith) in
      rw (drop-append-le (r * k) m p (omega arith), take-append-le r (drop (r * k) m) p l)

  -- the last block
  block_last : block r n (padded r m) ≡ rest ++ padding (r - length rest)
  unfolding n rest
  block_last =
      let fit = rest-fits r (length m) some in
      let p : List ℕ = padding (r - length m % r) in
      let q : length (drop (r * n) m ++ p) ≤ r =
      le_of_eq (length-append (drop (r * n) m) p ∙ ap₂ (λ (x y : ℕ). x + y) length_rest (length-padding (r - length m % r)) ∙ omega (arith, fit.2)) in
      rw (drop-append-le (r * n) m p fit.0, length_rest) (take_all r _ q)

  blocks : length (padded r m) / r ≡ suc n
  unfolding n
  blocks =
      let fit = rest-fits r (length m) some in
      let e : length (padded r m) ≡ r * suc n =
      length-append m (padding (r - length m % r)) ∙ ap (λ (k : ℕ). length m + k) (length-padding (r - length m % r)) ∙ omega (arith, fit, mul-suc r n) in
      ap (λ (k : ℕ). k / r) e ∙ mul-div_cancel_left (suc n) some

  -- b is the last block and zeros, where t is what is left of the message
  pub block_end : (k : ℕ) (t b : List ℕ) → k ≡ length m / r → t ≡ take (length m - r * k) (drop (r * k) m)
      → b ≡ (t ++ padding (r - length t)) ++ zeros (200 - r) → b ≡ block r k (padded r m) ++ zeros (200 - r)
  unfolding n rest
  block_end k t b e f g =
      let whole : t ≡ drop (r * n) m = f ∙ rw e (take_all _ (drop (r * n) m) (le_of_eq (length-drop (r * n) m))) in
      g
      ∙ ap (λ (l : List ℕ). l ++ zeros (200 - r))
      (ap (λ (l : List ℕ). l ++ padding (r - length l)) whole ∙ sym block_last ∙ ap (λ (k : ℕ). block r k (padded r m)) (sym e))

  -- all blocks are absorbed
  pub absorb_all : absorbed r (length m / r + 1) (padded r m) ≡ absorb r (padded r m)
  unfolding absorb n
  absorb_all = rw (blocks, add-one)
