-- The tag, block by block.
use mathlib.Core.Path.{◌≡◌, refl, sym, ap, ap₂, ◌∙◌}
use mathlib.Core.List.{List, ◌++◌}
use Prim.Native.Nat.{ℕ, zero, suc, ◌+◌, ◌*◌, ◌/◌, ◌%◌, ◌^◌, ◌≤◌, ◌<◌}
use native.Mathlib.Nat.{add-zero, add-suc}
use native.Mathlib.Numerals.{add-one}
use native.Mathlib.Omega.{arith}
use lib.Bits.{bit_xor}
use lib.ListN.{length, take, drop, length-append, length-drop, take-append-drop}
use lib.Seq.{take_all, take_at, drop_at, drop-append-le, take-append-le, drop-append-add}
use Rattle.lists.specs.Table.{zeros}
use Rattle.gf128.specs.Field.{times}
use Rattle.gf128.specs.Bytes.{Block, number, bytes, sum, product, block, folded, tag}
use Rattle.gf128.specs.Powers.{power, weighted}
use Rattle.lists.proofs.ByteLists.{Small, small-drop}
use Rattle.gf128.proofs.Digits.{number-bytes}
use Rattle.gf128.proofs.FieldLaws.{bytes-block, part-block, zeros-block, one_block, sum-block, product-block, number-product, number-sum, sum_zeros, sum_comm, sum_assoc, product_comm, product_assoc, product-sum, product-one, product_zeros}

-- ---- the fold

pub folded_none : (k start s : List ℕ) → folded k start 0 s ≡ start
unfolding folded
folded_none k start s = refl

pub folded_more : (k start : List ℕ) (n : ℕ) (s : List ℕ) → folded k start (suc n) s ≡ product k (sum (folded k start n s) (block n s))
unfolding folded
folded_more k start n s = refl

pub folded-block : (k : List ℕ) {start : List ℕ} (n : ℕ) (s : List ℕ) → Block start → Block (folded k start n s)
unfolding folded
folded-block k zero s h = h
folded-block k (suc n) s h = product-block k _

-- one more block, in numbers
pub number-folded : (v : ℕ) {start : List ℕ} (n : ℕ) (s : List ℕ) → v < 2 ^ 128 → Block start → Small s → 16 * n + 16 ≤ length s
    → times v (bit_xor (number (folded (bytes 16 v) start n s)) (number (block n s))) ≡ number (folded (bytes 16 v) start (n + 1) s)
number-folded v {start} n s hv hs small h =
    let k = bytes 16 v in
    sym
    (ap (λ (i : ℕ). number (folded k start i s)) (add-one n)
    ∙ ap number (folded_more k start n s)
    ∙ number-product (sum (folded k start n s) (block n s)) (bytes-block v)
    ∙ ap₂ times (number-bytes 16 v hv) (number-sum (folded-block k n s hs) (part-block (16 * n) s h small)))

-- what stands behind the n blocks has no part in it
pub folded-front : (k start : List ℕ) (n : ℕ) (s rest : List ℕ) → 16 * n ≤ length s → folded k start n (s ++ rest) ≡ folded k start n s
unfolding folded
folded-front k start zero s rest h = refl
folded-front k start (suc n) s rest h =
    let b : block n (s ++ rest) ≡ block n s =
    ap (take 16) (drop-append-le (16 * n) s rest (omega arith))
    ∙ take-append-le 16 (drop (16 * n) s) rest (omega (arith, length-drop (16 * n) s)) in
    rw (b, folded-front k start n s rest (omega arith))

-- the last of n + 1 blocks
pub folded_last : (k start : List ℕ) (n : ℕ) (s b : List ℕ) → length s ≡ 16 * n → length b ≡ 16
    → folded k start (suc n) (s ++ b) ≡ product k (sum (folded k start n s) b)
folded_last k start n s b hs hb =
    let last : block n (s ++ b) ≡ b = ap (take 16) (drop_at s b (16 * n) hs) ∙ take_all 16 b (omega arith) in
    folded_more k start n (s ++ b)
    ∙ ap₂ (λ (x y : List ℕ). product k (sum x y)) (folded-front k start n s b (omega arith)) last

-- the first of n + 1 blocks
pub folded-first : (k start : List ℕ) (n : ℕ) (b s : List ℕ) → length b ≡ 16
    → folded k start (suc n) (b ++ s) ≡ folded k (product k (sum start b)) n s
unfolding folded
folded-first k start zero b s h = ap (λ (x : List ℕ). product k (sum start x)) (take_at b s 16 h)
folded-first k start (suc n) b s h =
    let at : 16 * suc n ≡ length b + 16 * n = omega arith in
    let next : block (suc n) (b ++ s) ≡ block n s =
    ap (λ (i : ℕ). take 16 (drop i (b ++ s))) at ∙ ap (take 16) (drop-append-add b s (16 * n)) in
    ap₂ (λ (x y : List ℕ). product k (sum x y)) (folded-first k start n b s h) next

-- of two strings, the first of whole blocks: it goes on from where the first ends
pub folded_behind : (k start : List ℕ) (n m : ℕ) (s rest : List ℕ) → length s ≡ 16 * n
    → folded k start (n + m) (s ++ rest) ≡ folded k (folded k start n s) m rest
unfolding folded
folded_behind k start n zero s rest h = rw (add-zero n) (folded-front k start n s rest (omega arith))
folded_behind k start n (suc m) s rest h =
    rw (add-suc n m)
    (let at : 16 * (n + m) ≡ length s + 16 * m = omega arith in
    let next : block (n + m) (s ++ rest) ≡ block m rest =
    ap (λ (i : ℕ). take 16 (drop i (s ++ rest))) at ∙ ap (take 16) (drop-append-add s rest (16 * m)) in
    ap₂ (λ (x y : List ℕ). product k (sum x y)) (folded_behind k start n m s rest h) next)

-- ---- the tag

-- of two strings, the first of whole blocks
pub tag_behind : (k1 s rest k2 : List ℕ) → length s % 16 ≡ 0
    → tag k1 (s ++ rest) k2 ≡ sum (folded k1 (folded k1 (zeros 16) (length s / 16) s) (length rest / 16) rest) k2
unfolding tag
tag_behind k1 s rest k2 h =
    let n : length (s ++ rest) / 16 ≡ length s / 16 + length rest / 16 = omega (arith, length-append s rest) in
    rw (n, folded_behind k1 (zeros 16) (length s / 16) (length rest / 16) s rest (omega arith))

-- of no block
pub tag_none : (k1 s k2 : List ℕ) → length s < 16 → length k2 ≡ 16 → tag k1 s k2 ≡ k2
unfolding tag folded
tag_none k1 s k2 h e =
    let n : length s / 16 ≡ 0 = omega arith in
    rw n (sum_zeros 16 k2 e)

-- of one block: k1 × body + k2
pub tag_one : (k1 body k2 : List ℕ) → length body ≡ 16 → tag k1 body k2 ≡ sum (product k1 body) k2
unfolding tag folded
tag_one k1 body k2 e =
    let n : length body / 16 ≡ 1 = omega arith in
    rw n (ap (λ (x : List ℕ). sum (product k1 x) k2) (ap (sum (zeros 16)) (take_all 16 body (omega arith)) ∙ sum_zeros 16 body e))

-- of a block and the blocks behind it: Horner's rule goes on from k1 × b
pub tag-first : (k1 b s k2 : List ℕ) → length b ≡ 16 → tag k1 (b ++ s) k2 ≡ sum (folded k1 (product k1 b) (length s / 16) s) k2
unfolding tag
tag-first k1 b s k2 e =
    let n : length (b ++ s) / 16 ≡ suc (length s / 16) = omega (arith, length-append b s) in
    rw (n, folded-first k1 (zeros 16) (length s / 16) b s e, sum_zeros 16 b e)

-- of whole blocks and one behind them
pub tag_last : (k1 s b k2 : List ℕ) → length s % 16 ≡ 0 → length b ≡ 16
    → tag k1 (s ++ b) k2 ≡ sum (product k1 (sum (folded k1 (zeros 16) (length s / 16) s) b)) k2
unfolding tag
tag_last k1 s b k2 h e =
    let n : length (s ++ b) / 16 ≡ suc (length s / 16) = omega (arith, length-append s b) in
    rw (n, folded_last k1 (zeros 16) (length s / 16) s b (omega arith) e)

-- ---- the sum of powers

power-block : (k : List ℕ) (n : ℕ) → Block (power k n)
unfolding power
power-block k zero = one_block
power-block k (suc n) = product-block k (power k n)

no_power : (k : List ℕ) {a : List ℕ} → Block a → product (power k 0) a ≡ a
unfolding power
no_power k h = product_comm one_block h ∙ product-one h

-- k^n × (k × a) = k^(n + 1) × a
power_more : {k : List ℕ} (n : ℕ) (a : List ℕ) → Block k → product (power k n) (product k a) ≡ product (power k (suc n)) a
unfolding power
power_more {k} n a hk =
    product_assoc a (power-block k n) hk ∙ ap (λ (p : List ℕ). product p a) (product_comm (power-block k n) hk)

weighted-block : (k : List ℕ) (n : ℕ) (s : List ℕ) → Small s → 16 * n ≤ length s → Block (weighted k n s)
unfolding weighted
weighted-block k zero s small h = zeros-block
weighted-block k (suc n) s small h =
    sum-block (product-block (power k (suc n)) (block 0 s))
    (weighted-block k n (drop 16 s) (small-drop 16 s small) (omega (arith, length-drop 16 s)))

pub folded-weighted : {k start : List ℕ} (n : ℕ) (s : List ℕ) → Block k → Block start → Small s → 16 * n ≤ length s
    → folded k start n s ≡ sum (product (power k n) start) (weighted k n s)
unfolding weighted
folded-weighted {k} {start} zero s hk hs small h =
    folded_none k start s
    ∙ sym (sum_comm (product-block (power k 0) start) zeros-block ∙ sum_zeros 16 (product (power k 0) start) (product-block (power k 0) start).size ∙ no_power k hs)
folded-weighted {k} {start} (suc n) s hk hs small h =
    let b = block 0 s in
    let rest = drop 16 s in
    let p = power k (suc n) in
    let left : 16 * n ≤ length (drop 16 s) = omega (arith, length-drop 16 s) in
    let hb = part-block 0 s (omega arith) small in
    let small-rest = small-drop 16 s small in
    ap (folded k start (suc n)) (sym (take-append-drop 16 s))
    ∙ folded-first k start n b rest hb.size
    ∙ folded-weighted {start = product k (sum start b)} n rest hk (product-block k (sum start b)) small-rest left
    ∙ ap (λ (x : List ℕ). sum x (weighted k n rest))
    (power_more n (sum start b) hk ∙ product-sum (power-block k (suc n)) hs hb)
    ∙ sum_assoc (product-block p start) (product-block p b) (weighted-block k n rest small-rest left)

-- k1^m × B1 + .. + k1 × Bm + k2
pub tag-weighted : {k1 : List ℕ} (s k2 : List ℕ) → Block k1 → Small s → tag k1 s k2 ≡ sum (weighted k1 (length s / 16) s) k2
unfolding tag
tag-weighted {k1} s k2 h small =
    let m : ℕ = length s / 16 in
    let within : 16 * m ≤ length s = omega arith in
    ap (λ (x : List ℕ). sum x k2)
    (folded-weighted m s h zeros-block small within
    ∙ ap (λ (x : List ℕ). sum x (weighted k1 m s)) (product_zeros (power-block k1 m))
    ∙ sum_zeros 16 (weighted k1 m s) (weighted-block k1 m s small within).size)

-- of a block and the blocks behind it: k1^(m + 1) × b + k1^m × B1 + .. + k1 × Bm + k2
pub tag-first-weighted : {k1 b : List ℕ} (s k2 : List ℕ) → Block k1 → Block b → Small s
    → tag k1 (b ++ s) k2 ≡ sum (sum (product (power k1 (suc (length s / 16))) b) (weighted k1 (length s / 16) s)) k2
tag-first-weighted {k1} {b} s k2 hk hb small =
    let m : ℕ = length s / 16 in
    tag-first k1 b s k2 hb.size
    ∙ ap (λ (x : List ℕ). sum x k2)
    (folded-weighted m s hk (product-block k1 b) small (omega arith)
    ∙ ap (λ (x : List ℕ). sum x (weighted k1 m s)) (power_more m b hk))
