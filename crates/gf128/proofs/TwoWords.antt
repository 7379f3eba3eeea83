-- Numbers of two words of 64 bits. `omega` takes no number as large as 2^128, so each identity is a law over any word size W.
use mathlib.Core.Path.{◌≡◌, sym, ap, ap₂, ◌∙◌}
use Prim.Native.Nat.{ℕ, ◌+◌, ◌*◌, ◌/◌, ◌%◌, ◌^◌, ◌<◌}
use native.Mathlib.Nat.{mod-lt}
use native.Mathlib.Omega.{arith}
use lib.Arith.{digits_lt}
use lib.Bits.{bit_xor, xor_self, xor_zero_r, xor_block, xor_lt}
use lib.Pow.{pow_pos, split}
use Rattle.lists.specs.Bits.{bit}
use Rattle.lists.proofs.Bits.{bit-above}
use Rattle.gf128.specs.Field.{modulus}
use Rattle.gf128.specs.Words.{times_x}

pub two-words-lt : (hi lo : ℕ) → hi < 2 ^ 64 → lo < 2 ^ 64 → hi * 2 ^ 64 + lo < 2 ^ 128
two-words-lt hi lo hh hl = digits_lt hh hl

double : (W hi lo : ℕ) → 2 * (hi * W + lo) ≡ hi * 2 * W + lo * 2
double W hi lo = omega arith

regroup : (W t h c l : ℕ) → (t * W + h) * W + (c * W + l) ≡ (t * W + (h + c)) * W + l
regroup W t h c l = omega arith

modulus-words : (W t : ℕ) → t * (W * W + 135) ≡ (t * W + 0) * W + t * 135
modulus-words W t = omega arith

no_top : (W h l : ℕ) → (0 * W + h) * W + l ≡ h * W + l
no_top W h l = omega arith

-- twice a word: its highest bit goes over to the next
double-halves : (H q r : ℕ) → (q * H + r) * 2 ≡ q * (H * 2) + r * 2
double-halves H q r = omega arith

double-word : (v : ℕ) → v * 2 ≡ v / 2 ^ 63 * 2 ^ 64 + v % 2 ^ 63 * 2
double-word v = ap (λ (n : ℕ). n * 2) (sym (split v 63)) ∙ double-halves (2 ^ 63) (v / 2 ^ 63) (v % 2 ^ 63)

double_low : (v : ℕ) → v * 2 % 2 ^ 64 ≡ v % 2 ^ 63 * 2
double_low v = omega arith

top_lt : (v : ℕ) → v < 2 ^ 64 → v / 2 ^ 63 < 2
top_lt v h = omega arith

low_terms-lt : (t : ℕ) → t < 2 → t * 135 < 2 ^ 64
low_terms-lt t h = omega arith

pub low-word-lt : (hi lo : ℕ) → hi < 2 ^ 64 → bit_xor (lo * 2 % 2 ^ 64) (hi / 2 ^ 63 * 135) < 2 ^ 64
low-word-lt hi lo h = xor_lt 64 _ _ (mod-lt (lo * 2) (pow_pos 64)) (low_terms-lt (hi / 2 ^ 63) (top_lt hi h))

shifted-lt : (r t : ℕ) → r < 2 ^ 63 → t < 2 → r * 2 + t < 2 ^ 64
shifted-lt r t hr ht = omega arith

-- the bit that goes over fits beside the shifted word
pub carry-fits : (hi lo : ℕ) → lo < 2 ^ 64 → hi * 2 % 2 ^ 64 + lo / 2 ^ 63 < 2 ^ 64
carry-fits hi lo hl = rw (double_low hi) (shifted-lt (hi % 2 ^ 63) (lo / 2 ^ 63) (mod-lt hi (pow_pos 63)) (top_lt lo hl))

top_bit : (hi lo : ℕ) → hi < 2 ^ 64 → lo < 2 ^ 64 → bit 127 (hi * 2 ^ 64 + lo) ≡ hi / 2 ^ 63
top_bit hi lo hh hl =
    let e : hi / 2 ^ 63 % 2 ≡ hi / 2 ^ 63 = omega arith in
    bit-above 64 63 hi lo hl ∙ e

-- x × v on two words
pub times_x-words : (hi lo : ℕ) → hi < 2 ^ 64 → lo < 2 ^ 64
    → (hi * 2 % 2 ^ 64 + lo / 2 ^ 63) * 2 ^ 64 + bit_xor (lo * 2 % 2 ^ 64) (hi / 2 ^ 63 * 135) ≡ times_x (hi * 2 ^ 64 + lo)
unfolding times_x
times_x-words hi lo hh hl =
    let t = hi / 2 ^ 63 in
    let up = hi * 2 % 2 ^ 64 + lo / 2 ^ 63 in
    let l = lo * 2 % 2 ^ 64 in
    let eh : hi * 2 ≡ hi / 2 ^ 63 * 2 ^ 64 + hi * 2 % 2 ^ 64 = rw (double_low hi) (double-word hi) in
    let el : lo * 2 ≡ lo / 2 ^ 63 * 2 ^ 64 + lo * 2 % 2 ^ 64 = rw (double_low lo) (double-word lo) in
    let low-lt : lo * 2 % 2 ^ 64 < 2 ^ 64 = mod-lt (lo * 2) (pow_pos 64) in
    let terms-lt : hi / 2 ^ 63 * 135 < 2 ^ 64 = low_terms-lt _ (top_lt hi hh) in
    sym
    (ap₂ bit_xor
    (double (2 ^ 64) hi lo ∙ ap₂ (λ (x y : ℕ). x * 2 ^ 64 + y) eh el ∙ regroup (2 ^ 64) t (hi * 2 % 2 ^ 64) (lo / 2 ^ 63) l)
    (ap (λ (n : ℕ). n * modulus) (top_bit hi lo hh hl) ∙ modulus-words (2 ^ 64) t)
    ∙ xor_block 64 (t * 2 ^ 64 + up) (t * 2 ^ 64 + 0) l (t * 135) low-lt terms-lt
    ∙ ap (λ (n : ℕ). n * 2 ^ 64 + bit_xor l (t * 135))
    (xor_block 64 t t up 0 (carry-fits hi lo hl) (omega arith)
    ∙ ap₂ (λ (x y : ℕ). x * 2 ^ 64 + y) (xor_self t) (xor_zero_r up))
    ∙ no_top (2 ^ 64) up (bit_xor l (t * 135)))
