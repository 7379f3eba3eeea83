-- Words of 64 bits: known by their bits; rotation.
use mathlib.Core.Path.{◌≡◌, sym, ap, ap₂, ◌∙◌}
use Prim.Native.Nat.{ℕ, zero, suc, ◌+◌, ◌*◌, ◌-◌, ◌/◌, ◌%◌, ◌^◌, ◌<◌}
use native.Mathlib.Nat.{div-one, mul-one, mod-eq_of_lt, mod-lt, lt_of_le_of_lt}
use native.Mathlib.Numerals.{add-one}
use native.Mathlib.Omega.{arith}
use lib.Bits.{bit_xor, bit_or, xor_lt, or_lt, or_self}
use lib.Pow.{pow_pos, shr_lt, shr_le}
use Rattle.lists.specs.Bits.{bit}
use Rattle.lists.proofs.Bits.{bit-xor, bit_shr, bit-rotate}
use Rattle.lists.proofs.Xor.{same-halves}
use Rattle.keccak_steps.specs.Steps.{rotate}

-- two words of k bits with the same bits
pub words_same : (k a b : ℕ) → a < 2 ^ k → b < 2 ^ k → ((z : ℕ) → z < k → bit z a ≡ bit z b) → a ≡ b
words_same zero a b ha hb same = omega arith
words_same (suc k) a b ha hb same =
    let half : (v : ℕ) → v < 2 ^ suc k → v / 2 < 2 ^ k = λ v h. shr_lt k 1 (rw (add-one k) h) in
    let above : (z : ℕ) → z < k → bit z (a / 2) ≡ bit z (b / 2) =
    λ z h. bit_shr 1 z a ∙ same (1 + z) (omega arith) ∙ sym (bit_shr 1 z b) in
    same-halves a b (words_same k (a / 2) (b / 2) (half a ha) (half b hb) above) (rw (div-one a, div-one b) at (same 0 (omega arith)))

-- ---- rotation

pub rotate-lt : (n v : ℕ) → v < 2 ^ 64 → n < 64 → rotate n v < 2 ^ 64
rotate-lt zero v h l = h
rotate-lt (suc n) v h l = or_lt 64 _ _ (mod-lt (v * 2 ^ suc n) (pow_pos 64)) (lt_of_le_of_lt (shr_le v (64 - suc n)) h)

-- bit z comes from bit z - n
pub rotate-bit : (n z v : ℕ) → v < 2 ^ 64 → n < 64 → z < 64 → bit z (rotate n v) ≡ bit ((z + (64 - n)) % 64) v
rotate-bit zero z v h l g = let e : (z + (64 - 0)) % 64 ≡ z = omega arith in rw e
rotate-bit (suc n) z v h l g =
    let from : ℕ = (z + (64 - suc n)) % 64 in
    let e : (from + suc n) % 64 ≡ z = omega arith in
    ap (λ (k : ℕ). bit k (rotate (suc n) v)) (sym e) ∙ bit-rotate 64 (suc n) from v h (omega arith) (omega arith)

-- what the code of a rotation makes
pub rotate-code : (n v : ℕ) → v < 2 ^ 64 → n < 64 → bit_or ((v * 2 ^ n) % 2 ^ 64) (v / 2 ^ ((64 - n) % 64)) ≡ rotate n v
rotate-code zero v h l = ap₂ bit_or (ap (λ (u : ℕ). u % 2 ^ 64) (mul-one v) ∙ mod-eq_of_lt h) (div-one v) ∙ or_self v
rotate-code (suc n) v h l =
    let e : (64 - suc n) % 64 ≡ 64 - suc n = mod-eq_of_lt (omega arith) in
    ap (λ (k : ℕ). bit_or ((v * 2 ^ suc n) % 2 ^ 64) (v / 2 ^ k)) e

-- a rotation of a sum
pub rotate_xor : (n u v : ℕ) → u < 2 ^ 64 → v < 2 ^ 64 → n < 64 → rotate n (bit_xor u v) ≡ bit_xor (rotate n u) (rotate n v)
rotate_xor n u v hu hv l =
    let hs = xor_lt 64 u v hu hv in
    let ru = rotate-lt n u hu l in
    let rv = rotate-lt n v hv l in
    words_same 64 (rotate n (bit_xor u v)) (bit_xor (rotate n u) (rotate n v)) (rotate-lt n (bit_xor u v) hs l) (xor_lt 64 _ _ ru rv)
    (λ z h.
    rotate-bit n z (bit_xor u v) hs l h ∙ bit-xor ((z + (64 - n)) % 64) u v
    ∙ sym (bit-xor z (rotate n u) (rotate n v) ∙ ap₂ (λ (p q : ℕ). (p + q) % 2) (rotate-bit n z u hu l h) (rotate-bit n z v hv l h)))
