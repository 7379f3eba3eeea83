-- The definitions on bytes are those of FIPS 202 on bits.
use mathlib.Core.Path.{◌≡◌, refl, sym, ap, ap₂, ◌∙◌}
use mathlib.Core.List.{List, [], ◌∷◌, ◌++◌, append_assoc}
use Prim.Native.Nat.{ℕ, zero, suc, ◌+◌, ◌*◌, ◌-◌, ◌/◌, ◌%◌, ◌^◌, ◌<◌}
use native.Mathlib.Nat.{add-zero, zero-div, mod-eq_of_lt, mod-lt, div-add-mod, div-div-eq-div-mul, mul-div_cancel_left, mul-add-mod_self_left, mul_assoc}
use native.Mathlib.Omega.{arith}
use lib.ListN.{length, get_or, take, drop, length-append, replicate-append-replicate, get_or-append}
use lib.Bits.{bit_xor, xor_lt}
use lib.Seq.{get_or-append-add, get_or-drop, take-nil, drop-nil, take-append-add, drop-append-add}
use Rattle.lists.specs.Table.{table, table_from, zeros}
use Rattle.lists.specs.Bits.{bit}
use Rattle.lists.proofs.Tables.{length-table, get_or-table, table_same, table_is}
use Rattle.lists.proofs.Zeros.{get_or-append-zeros, zeros-table}
use Rattle.lists.proofs.Bits.{bit-mod, bit_shr, bit-above, bit_below, bit-xor}
use Rattle.keccak_steps.specs.Steps.{State, lane}
use Rattle.keccak_steps.proofs.States.{Wide, wide-state, lane-state}
use Rattle.keccak.specs.Keccak.{keccak_f}
use Rattle.keccak.proofs.Wide.{keccak_wide}
use Rattle.octets.specs.Words.{join8}
use Rattle.string_to_state.specs.Words.{word, state_of}
use Rattle.state_to_string.specs.Bytes.{lane_byte, byte_of, bytes_of}
use Rattle.shake.specs.Sponge.{xor_state, absorb_block, absorbed, permuted, squeezed, absorb, squeeze}
use Rattle.shake.specs.Shake.{padding, padded, shake, shake128, shake256}
use Rattle.fips202.specs.Keccak.{Array, bits, ◌⊕◌}
use Rattle.fips202.proofs.Keccak.{Same, rounds-same, keccak_bits_lem}
use Rattle.fips202.specs.Shake.{bits_of, array_of, string_of, keccak_bits, pad101, absorb_block_bits, absorbed_bits, permuted_bits, squeezed_bits, sponge_bits, shake128_bits, shake256_bits}

-- ---- strings

pub bits-append : (a b : List ℕ) → bits_of (a ++ b) ≡ bits_of a ++ bits_of b
unfolding bits_of
bits-append [] b = refl
bits-append (x ∷ xs) b = ap (λ (l : List ℕ). table 8 (λ i. bit i x) ++ l) (bits-append xs b) ∙ sym (append_assoc (table 8 (λ i. bit i x)) (bits_of xs) (bits_of b))

length-bits : (b : List ℕ) → length (bits_of b) ≡ 8 * length b
unfolding bits_of
length-bits [] = refl
length-bits (x ∷ xs) = length-append (table 8 (λ i. bit i x)) (bits_of xs) ∙ omega (arith, length-table 8 (λ i. bit i x), length-bits xs)

bits-zeros : (n : ℕ) → bits_of (zeros n) ≡ zeros (8 * n)
unfolding bits_of table table_from
bits-zeros zero = refl
bits-zeros (suc n) =
    let e : 8 * suc n ≡ suc (suc (suc (suc (suc (suc (suc (suc (8 * n)))))))) = omega arith in
    rw (e, bits-zeros n)

eight_more : (n : ℕ) (x : ℕ) → 8 * suc n ≡ length (table 8 (λ i. bit i x)) + 8 * n
eight_more n x = omega (arith, length-table 8 (λ i. bit i x))

bits-take : (n : ℕ) (b : List ℕ) → bits_of (take n b) ≡ take (8 * n) (bits_of b)
unfolding bits_of
bits-take zero b = refl
bits-take (suc n) [] = sym (take-nil (8 * suc n))
bits-take (suc n) (x ∷ xs) = rw (eight_more n x, take-append-add, bits-take n xs)

bits-drop : (n : ℕ) (b : List ℕ) → bits_of (drop n b) ≡ drop (8 * n) (bits_of b)
unfolding bits_of
bits-drop zero b = refl
bits-drop (suc n) [] = sym (drop-nil (8 * suc n))
bits-drop (suc n) (x ∷ xs) = rw (eight_more n x, drop-append-add, bits-drop n xs)

-- bit j of byte k stands at 8 k + j
get_d_bits : (b : List ℕ) (k j : ℕ) → j < 8 → get_or (bits_of b) (8 * k + j) 0 ≡ bit j (get_or b k 0)
unfolding bits_of
get_d_bits [] k j h = sym (ap (λ (n : ℕ). n % 2) (zero-div (2 ^ j)))
get_d_bits (x ∷ xs) zero j h =
    let e : 8 * 0 + j ≡ j = omega arith in
    rw e (get_or-append (table 8 (λ i. bit i x)) (bits_of xs) 0 j (rw length-table h) ∙ get_or-table 8 (λ i. bit i x) j 0 h)
get_d_bits (x ∷ xs) (suc k) j h =
    let t : List ℕ = table 8 (λ i. bit i x) in
    let e : 8 * suc k + j ≡ length t + (8 * k + j) = omega (arith, length-table 8 (λ i. bit i x)) in
    ap (λ (n : ℕ). get_or (t ++ bits_of xs) n 0) e ∙ get_or-append-add t (bits_of xs) (8 * k + j) 0 ∙ get_d_bits xs k j h

-- ---- the padding

-- the zeros between the two ones of pad10*1, where q bytes are left of a block
gap : (r n : ℕ) → 0 < r → (8 * r - (8 * n + 4 + 2) % (8 * r)) % (8 * r) ≡ 8 * (r - n % r) - 6
gap r n h =
    let t : ℕ = n % r in
    let small : t < r = mod-lt n h in
    let whole : 8 * n + 4 + 2 ≡ 8 * r * (n / r) + (8 * t + 6) = omega (arith, div-add-mod n r, mul_assoc 8 r (n / r)) in
    let rest : (8 * n + 4 + 2) % (8 * r) ≡ 8 * t + 6 = ap (λ (k : ℕ). k % (8 * r)) whole ∙ mul-add-mod_self_left (8 * r) (n / r) (8 * t + 6) ∙ mod-eq_of_lt (omega arith) in
    rw rest (mod-eq_of_lt (omega arith) ∙ omega arith)

padding-bits : (q : ℕ) → bits_of (padding (suc q)) ≡ 1 ∷ 1 ∷ 1 ∷ 1 ∷ 1 ∷ (zeros (8 * suc q - 6) ++ (1 ∷ []))
unfolding padding bits_of table table_from
padding-bits zero = refl
padding-bits (suc q) =
    let size : 8 * suc (suc q) - 6 ≡ suc (suc (suc (8 * q + 7))) = omega arith in
    let last : List ℕ = bits_of (0x80 ∷ []) in
    let run : bits_of (zeros q ++ (0x80 ∷ [])) ≡ zeros (8 * q + 7) ++ (1 ∷ []) =
    bits-append (zeros q) (0x80 ∷ []) ∙ ap (λ (l : List ℕ). l ++ last) (bits-zeros q)
    ∙ sym (append_assoc (zeros (8 * q)) (zeros 7) (1 ∷ []))
    ∙ ap (λ (l : List ℕ). l ++ (1 ∷ [])) (replicate-append-replicate (8 * q) 7 0) in
    rw (size, run)

-- the bits of the padded bytes are the message's, then 1111, then pad10*1
pub padded-bits : (r : ℕ) (m : List ℕ) → 0 < r → bits_of (padded r m) ≡ (bits_of m ++ (1 ∷ 1 ∷ 1 ∷ 1 ∷ [])) ++ pad101 (8 * r) (8 * length m + 4)
unfolding pad101
padded-bits r m h =
    let t : ℕ = length m % r in
    let some : r - t ≡ suc (r - suc t) = omega (arith, mod-lt (length m) h) in
    let gap_is : (8 * r - (8 * length m + 4 + 2) % (8 * r)) % (8 * r) ≡ 8 * suc (r - suc t) - 6 = gap r (length m) h ∙ ap (λ (k : ℕ). 8 * k - 6) some in
    bits-append m (padding (r - t)) ∙ rw (some, padding-bits (r - suc t), gap_is) (sym (append_assoc (bits_of m) (1 ∷ 1 ∷ 1 ∷ 1 ∷ []) _))

-- ---- states and their strings

-- bit z of lane (x, y) stands at 64 (5 y + x) + z of the state's string
pub state_string : (s : State) → bits_of (bytes_of s) ≡ string_of (bits s)
unfolding string_of bytes_of
state_string s =
    table_is 1600 (λ i. bits s (i / 64 % 5) (i / 320) (i % 64)) (bits_of (bytes_of s)) 0 (length-bits (bytes_of s) ∙ ap (λ (n : ℕ). 8 * n) (length-table 200 (byte_of s))) entry
  where
    entry : (i : ℕ) → i < 1600 → get_or (bits_of (bytes_of s)) i 0 ≡ bits s (i / 64 % 5) (i / 320) (i % 64)
    entry i h =
        let v : ℕ = lane s (i / 64 % 5) (i / 320) in
        let at : i ≡ 8 * (i / 8) + i % 8 = omega arith in
        let a : i / 8 / 8 % 5 ≡ i / 64 % 5 = omega arith in
        let b : i / 8 / 40 ≡ i / 320 = omega arith in
        let c : 8 * (i / 8 % 8) + i % 8 ≡ i % 64 = omega arith in
        ap (λ (n : ℕ). get_or (bits_of (bytes_of s)) n 0) at
        ∙ get_d_bits (bytes_of s) (i / 8) (i % 8) (omega arith)
        ∙ ap (bit (i % 8)) (get_or-table 200 (byte_of s) (i / 8) 0 (omega arith))
        ∙ ap₂ (λ (x y : ℕ). bit (i % 8) (lane_byte (lane s x y) (i / 8 % 8))) a b
        ∙ bit-mod 8 (i % 8) (v / 2 ^ (8 * (i / 8 % 8))) (omega arith)
        ∙ bit_shr (8 * (i / 8 % 8)) (i % 8) v
        ∙ ap (λ (n : ℕ). bit n v) c

abbrev pub Bytes : List ℕ → Type 0
Bytes b = (i : ℕ) → get_or b i 0 < 256

-- bits 8 j to 8 j + 7 of a number whose byte j is b
digit : (j t high b low v : ℕ) → b < 2 ^ 8 → low < 2 ^ (8 * j) → t < 8 → v ≡ high * 2 ^ (8 * j + 8) + (b * 2 ^ (8 * j) + low) → bit (8 * j + t) v ≡ bit t b
digit j t high b low v hb hl ht e =
    ap (bit (8 * j + t)) e ∙ bit_below (8 * j + 8) (8 * j + t) high (b * 2 ^ (8 * j) + low) (omega arith) ∙ bit-above (8 * j) t b low hl

-- byte j of a lane
module _ (b0 b1 b2 b3 b4 b5 b6 b7 : ℕ)
    (h0 : b0 < 256) (h1 : b1 < 256) (h2 : b2 < 256) (h3 : b3 < 256) (h4 : b4 < 256) (h5 : b5 < 256) (h6 : b6 < 256) (h7 : b7 < 256) where
  join_byte : (j t : ℕ) → j < 8 → t < 8 → bit (8 * j + t) (join8 b0 b1 b2 b3 b4 b5 b6 b7) ≡ bit t (get_or (b0 ∷ b1 ∷ b2 ∷ b3 ∷ b4 ∷ b5 ∷ b6 ∷ b7 ∷ []) j 0)
  join_byte zero t hj ht = digit 0 t (b1 + b2 * 2 ^ 8 + b3 * 2 ^ 16 + b4 * 2 ^ 24 + b5 * 2 ^ 32 + b6 * 2 ^ 40 + b7 * 2 ^ 48) b0 0 _ h0 (omega arith) ht (omega arith)
  join_byte (suc zero) t hj ht = digit 1 t (b2 + b3 * 2 ^ 8 + b4 * 2 ^ 16 + b5 * 2 ^ 24 + b6 * 2 ^ 32 + b7 * 2 ^ 40) b1 b0 _ h1 (omega arith) ht (omega arith)
  join_byte (suc (suc zero)) t hj ht = digit 2 t (b3 + b4 * 2 ^ 8 + b5 * 2 ^ 16 + b6 * 2 ^ 24 + b7 * 2 ^ 32) b2 (b0 + b1 * 2 ^ 8) _ h2 (omega arith) ht (omega arith)
  join_byte (suc (suc (suc zero))) t hj ht = digit 3 t (b4 + b5 * 2 ^ 8 + b6 * 2 ^ 16 + b7 * 2 ^ 24) b3 (b0 + b1 * 2 ^ 8 + b2 * 2 ^ 16) _ h3 (omega arith) ht (omega arith)
  join_byte (suc (suc (suc (suc zero)))) t hj ht = digit 4 t (b5 + b6 * 2 ^ 8 + b7 * 2 ^ 16) b4 (b0 + b1 * 2 ^ 8 + b2 * 2 ^ 16 + b3 * 2 ^ 24) _ h4 (omega arith) ht (omega arith)
  join_byte (suc (suc (suc (suc (suc zero))))) t hj ht = digit 5 t (b6 + b7 * 2 ^ 8) b5 (b0 + b1 * 2 ^ 8 + b2 * 2 ^ 16 + b3 * 2 ^ 24 + b4 * 2 ^ 32) _ h5 (omega arith) ht (omega arith)
  join_byte (suc (suc (suc (suc (suc (suc zero)))))) t hj ht = digit 6 t b7 b6 (b0 + b1 * 2 ^ 8 + b2 * 2 ^ 16 + b3 * 2 ^ 24 + b4 * 2 ^ 32 + b5 * 2 ^ 40) _ h6 (omega arith) ht (omega arith)
  join_byte (suc (suc (suc (suc (suc (suc (suc zero))))))) t hj ht = digit 7 t 0 b7 (b0 + b1 * 2 ^ 8 + b2 * 2 ^ 16 + b3 * 2 ^ 24 + b4 * 2 ^ 32 + b5 * 2 ^ 40 + b6 * 2 ^ 48) _ h7 (omega arith) ht (omega arith)
  join_byte (suc (suc (suc (suc (suc (suc (suc (suc j)))))))) t hj ht = absurd (omega arith)

-- a lane of a string of bytes has the string's bits
word_bytes : (b : List ℕ) (k j t : ℕ) → Bytes b → j < 8 → t < 8 → bit (8 * j + t) (word b k) ≡ bit t (get_or b (8 * k + j) 0)
unfolding table table_from
word_bytes b k j t w hj ht =
    let at : (i : ℕ) → ℕ = λ i. get_or b (8 * k + i) 0 in
    let first : get_or b (8 * k) 0 ≡ at 0 = rw add-zero in
    let eight : get_or b (8 * k) 0 ∷ at 1 ∷ at 2 ∷ at 3 ∷ at 4 ∷ at 5 ∷ at 6 ∷ at 7 ∷ [] ≡ table 8 at = rw add-zero in
    join_byte _ _ _ _ _ _ _ _ (w (8 * k)) (w (8 * k + 1)) (w (8 * k + 2)) (w (8 * k + 3)) (w (8 * k + 4)) (w (8 * k + 5)) (w (8 * k + 6)) (w (8 * k + 7)) j t hj ht
    ∙ ap (λ (l : List ℕ). bit t (get_or l j 0)) eight
    ∙ ap (bit t) (get_or-table 8 at j 0 hj)

word-bits : (b : List ℕ) (k z : ℕ) → Bytes b → z < 64 → bit z (word b k) ≡ get_or (bits_of b) (64 * k + z) 0
word-bits b k z w h =
    let at : z ≡ 8 * (z / 8) + z % 8 = omega arith in
    let place : 8 * (8 * k + z / 8) + z % 8 ≡ 64 * k + z = omega arith in
    ap (λ (n : ℕ). bit n (word b k)) at
    ∙ word_bytes b k (z / 8) (z % 8) w (omega arith) (omega arith)
    ∙ sym (get_d_bits b (8 * k + z / 8) (z % 8) (omega arith))
    ∙ ap (λ (n : ℕ). get_or (bits_of b) n 0) place

word_lt : (b : List ℕ) (k : ℕ) → Bytes b → word b k < 2 ^ 64
word_lt b k w =
    omega (arith, w (8 * k), w (8 * k + 1), w (8 * k + 2), w (8 * k + 3), w (8 * k + 4), w (8 * k + 5), w (8 * k + 6), w (8 * k + 7))

state_wide : (b : List ℕ) → Bytes b → Wide (state_of b)
state_wide b w = wide-state (λ x y. word b (5 * y + x)) (λ x y hx hy. word_lt b (5 * y + x) w)

state-bits : (b : List ℕ) → Bytes b → Same (bits (state_of b)) (array_of (bits_of b))
state-bits b w x y z hx hy hz = rw (lane-state (λ x y. word b (5 * y + x)) x y hx hy) (word-bits b (5 * y + x) z w hz)

-- ---- strings of 1,600 bits and state arrays

string-same : (A B : Array) → Same A B → string_of A ≡ string_of B
unfolding string_of
string-same A B e =
    table_same 1600 (λ i. A (i / 64 % 5) (i / 320) (i % 64)) (λ i. B (i / 64 % 5) (i / 320) (i % 64))
    (λ i h. e (i / 64 % 5) (i / 320) (i % 64) (omega arith) (omega arith) (omega arith))

array_string : (A : Array) → Same (array_of (string_of A)) A
unfolding string_of
array_string A x y z hx hy hz =
    let i : ℕ = 64 * (5 * y + x) + z in
    let a : i / 64 % 5 ≡ x = omega arith in
    let b : i / 320 ≡ y = omega arith in
    let c : i % 64 ≡ z = omega arith in
    get_or-table 1600 (λ i. A (i / 64 % 5) (i / 320) (i % 64)) i 0 (omega arith) ∙ rw (a, b, c)

keccak_string : (s : State) → Wide s → keccak_bits (string_of (bits s)) ≡ string_of (bits (keccak_f s))
unfolding keccak_bits
keccak_string s w =
    string-same _ _ (λ x y z hx hy hz.
    rounds-same 24 _ _ (array_string (bits s)) x y z hx hy hz ∙ sym (keccak_bits_lem s w x y z hx hy hz))

-- ---- the sponge

-- S ⊕ P on states is that on strings
xor_string : (s : State) (b : List ℕ) → Bytes b
    → string_of (bits (xor_state s (state_of b))) ≡ table 1600 (λ i. get_or (string_of (bits s)) i 0 ⊕ get_or (bits_of b) i 0)
unfolding string_of
xor_string s b w = table_same 1600 _ (λ i. get_or (string_of (bits s)) i 0 ⊕ get_or (bits_of b) i 0) entry
  where
    entry : (i : ℕ) → i < 1600 → bits (xor_state s (state_of b)) (i / 64 % 5) (i / 320) (i % 64) ≡ get_or (string_of (bits s)) i 0 ⊕ get_or (bits_of b) i 0
    entry i h =
        let x : ℕ = i / 64 % 5 in
        let y : ℕ = i / 320 in
        let z : ℕ = i % 64 in
        let place : 64 * (5 * y + x) + z ≡ i = omega arith in
        let left : bits s x y z ≡ get_or (string_of (bits s)) i 0 = sym (get_or-table 1600 (λ i. bits s (i / 64 % 5) (i / 320) (i % 64)) i 0 h) in
        let right : bits (state_of b) x y z ≡ get_or (bits_of b) i 0 =
        state-bits b w x y z (omega arith) (omega arith) (omega arith) ∙ ap (λ (n : ℕ). get_or (bits_of b) n 0) place in
        rw (lane-state (λ x y. bit_xor (lane s x y) (lane (state_of b) x y)) x y (omega arith) (omega arith))
        (bit-xor z (lane s x y) (lane (state_of b) x y) ∙ ap₂ ◌⊕◌ left right)

bytes_take : (n : ℕ) (b : List ℕ) → Bytes b → Bytes (take n b)
bytes_take zero b w i = omega arith
bytes_take (suc n) [] w i = omega arith
bytes_take (suc n) (x ∷ xs) w zero = w 0
bytes_take (suc n) (x ∷ xs) w (suc i) = bytes_take n xs (λ k. w (suc k)) i

bytes_drop : (n : ℕ) (b : List ℕ) → Bytes b → Bytes (drop n b)
bytes_drop n b w i = rw get_or-drop (w (n + i))

bytes-zeros : (b : List ℕ) (n : ℕ) → Bytes b → Bytes (b ++ zeros n)
bytes-zeros b n w i = rw (get_or-append-zeros b n i) (w i)

bytes-cons : (x : ℕ) (b : List ℕ) → x < 256 → Bytes b → Bytes (x ∷ b)
bytes-cons x b h w zero = h
bytes-cons x b h w (suc i) = w i

bytes-append : (a b : List ℕ) → Bytes a → Bytes b → Bytes (a ++ b)
bytes-append [] b wa wb = wb
bytes-append (x ∷ xs) b wa wb = bytes-cons x (xs ++ b) (wa 0) (bytes-append xs b (λ i. wa (suc i)) wb)

module _ (r : ℕ) where
  absorb-block_wide : (s : State) (p : List ℕ) → Wide s → Bytes p → Wide (absorb_block r s p)
  unfolding absorb_block
  absorb-block_wide s p ws wp =
      let b : List ℕ = p ++ zeros (200 - r) in
      let wb : Wide (state_of b) = state_wide b (bytes-zeros p (200 - r) wp) in
      keccak_wide _ (wide-state (λ x y. bit_xor (lane s x y) (lane (state_of b) x y)) (λ x y hx hy. xor_lt 64 _ _ (ws x y hx hy) (wb x y hx hy)))

  absorb_block_bits_lem : (s : State) (p : List ℕ) → Wide s → Bytes p
      → string_of (bits (absorb_block r s p)) ≡ absorb_block_bits (8 * r) (string_of (bits s)) (bits_of p)
  unfolding absorb_block absorb_block_bits
  absorb_block_bits_lem s p ws wp =
      let b : List ℕ = p ++ zeros (200 - r) in
      let wb : Wide (state_of b) = state_wide b (bytes-zeros p (200 - r) wp) in
      let size : 8 * (200 - r) ≡ 1600 - 8 * r = omega arith in
      let tail : bits_of b ≡ bits_of p ++ zeros (1600 - 8 * r) =
      bits-append p (zeros (200 - r)) ∙ ap (λ (l : List ℕ). bits_of p ++ l) (bits-zeros (200 - r) ∙ ap zeros size) in
      sym (keccak_string _ (wide-state (λ x y. bit_xor (lane s x y) (lane (state_of b) x y)) (λ x y hx hy. xor_lt 64 _ _ (ws x y hx hy) (wb x y hx hy))))
      ∙ ap keccak_bits (xor_string s b (bytes-zeros p (200 - r) wp) ∙ ap (λ (l : List ℕ). table 1600 (λ i. get_or (string_of (bits s)) i 0 ⊕ get_or l i 0)) tail)

  -- the state after n blocks
  absorbed_wide : (n : ℕ) (p : List ℕ) → Bytes p → Wide (absorbed r n p)
  unfolding absorbed
  absorbed_wide zero p w = wide-state (λ x y. 0) (λ x y hx hy. omega arith)
  absorbed_wide (suc n) p w = absorb-block_wide (absorbed r n p) _ (absorbed_wide n p w) (bytes_take r _ (bytes_drop (r * n) p w))

  absorbed_bits_lem : (n : ℕ) (p : List ℕ) → Bytes p → string_of (bits (absorbed r n p)) ≡ absorbed_bits (8 * r) n (bits_of p)
  unfolding absorbed absorbed_bits string_of
  absorbed_bits_lem zero p w =
      sym (zeros-table 1600 _ (λ i h.
      rw (lane-state (λ x y. 0) (i / 64 % 5) (i / 320) (omega arith) (omega arith)) (ap (λ (n : ℕ). n % 2) (zero-div (2 ^ (i % 64))))))
  absorbed_bits_lem (suc n) p w =
      let block-is : bits_of (take r (drop (r * n) p)) ≡ take (8 * r) (drop (8 * r * n) (bits_of p)) =
      bits-take r (drop (r * n) p) ∙ ap (take (8 * r)) (bits-drop (r * n) p ∙ ap (λ (k : ℕ). drop k (bits_of p)) (sym (mul_assoc 8 r n))) in
      absorb_block_bits_lem (absorbed r n p) _ (absorbed_wide n p w) (bytes_take r _ (bytes_drop (r * n) p w))
      ∙ ap₂ (absorb_block_bits (8 * r)) (absorbed_bits_lem n p w) block-is

  permuted_wide : (n : ℕ) (s : State) → Wide s → Wide (permuted n s)
  unfolding permuted
  permuted_wide zero s w = w
  permuted_wide (suc n) s w = keccak_wide _ (permuted_wide n s w)

  permuted_bits_lem : (n : ℕ) (s : State) → Wide s → string_of (bits (permuted n s)) ≡ permuted_bits n (string_of (bits s))
  unfolding permuted permuted_bits
  permuted_bits_lem zero s w = refl
  permuted_bits_lem (suc n) s w = sym (keccak_string (permuted n s) (permuted_wide n s w)) ∙ ap keccak_bits (permuted_bits_lem n s w)

  -- n blocks of output
  squeezed_bits_lem : (n : ℕ) (s : State) → Wide s → bits_of (squeezed r n s) ≡ squeezed_bits (8 * r) n (string_of (bits s))
  unfolding squeezed squeezed_bits bits_of
  squeezed_bits_lem zero s w = refl
  squeezed_bits_lem (suc n) s w =
      bits-append (squeezed r n s) (take r (bytes_of (permuted n s)))
      ∙ ap₂ (λ (x y : List ℕ). x ++ y) (squeezed_bits_lem n s w)
      (bits-take r (bytes_of (permuted n s)) ∙ ap (take (8 * r)) (state_string (permuted n s) ∙ permuted_bits_lem n s w))

padding-bytes : (q : ℕ) → Bytes (padding q)
unfolding padding
padding-bytes zero = λ i. omega arith
padding-bytes (suc zero) = bytes-cons 0x9F [] (omega arith) (λ i. omega arith)
padding-bytes (suc (suc q)) =
    bytes-cons 0x1F (zeros q ++ (0x80 ∷ [])) (omega arith)
    (bytes-append (zeros q) (0x80 ∷ []) (bytes-zeros [] q (λ i. omega arith)) (bytes-cons 0x80 [] (omega arith) (λ i. omega arith)))

-- as many blocks of bits as of bytes
eighths : (n r : ℕ) → 8 * n / (8 * r) ≡ n / r
eighths n r = sym (div-div-eq-div-mul (8 * n) 8 r) ∙ ap (λ (k : ℕ). k / r) (mul-div_cancel_left n (omega arith))

-- a SHAKE of any rate on bytes is the sponge of FIPS 202 on bits, of the message with 1111 behind it
pub shake-bits : (r : ℕ) → 0 < r → (m : List ℕ) (d : ℕ) → Bytes m
    → bits_of (shake r m d) ≡ sponge_bits (8 * r) (bits_of m ++ (1 ∷ 1 ∷ 1 ∷ 1 ∷ [])) (8 * d)
unfolding shake squeeze absorb sponge_bits
shake-bits r h m d w =
    let suffix : List ℕ = 1 ∷ 1 ∷ 1 ∷ 1 ∷ [] in
    let p : List ℕ = padded r m in
    let s : State = absorbed r (length p / r) p in
    let wp : Bytes p = bytes-append m (padding (r - length m % r)) w (padding-bytes (r - length m % r)) in
    let long : 8 * length m + 4 ≡ length (bits_of m ++ suffix) = sym (length-append (bits_of m) suffix ∙ ap (λ (n : ℕ). n + 4) (length-bits m)) in
    let string : bits_of p ≡ (bits_of m ++ suffix) ++ pad101 (8 * r) (length (bits_of m ++ suffix)) =
    padded-bits r m h ∙ ap (λ (n : ℕ). (bits_of m ++ suffix) ++ pad101 (8 * r) n) long in
    let blocks : length p / r ≡ length ((bits_of m ++ suffix) ++ pad101 (8 * r) (length (bits_of m ++ suffix))) / (8 * r) =
    sym (ap (λ (n : ℕ). n / (8 * r)) (sym (ap length string) ∙ length-bits p) ∙ eighths (length p) r) in
    let turns : d / r + 1 ≡ 8 * d / (8 * r) + 1 = ap (λ (n : ℕ). n + 1) (sym (eighths d r)) in
    bits-take d (squeezed r (d / r + 1) s)
    ∙ ap (take (8 * d)) (squeezed_bits_lem r (d / r + 1) s (absorbed_wide r (length p / r) p wp)
    ∙ ap₂ (squeezed_bits (8 * r)) turns (absorbed_bits_lem r (length p / r) p wp ∙ ap₂ (absorbed_bits (8 * r)) blocks string))

-- SHAKE128 on bytes is SHAKE128 of FIPS 202 on bits
pub shake128_bits_lem : (m : List ℕ) (d : ℕ) → Bytes m → bits_of (shake128 m d) ≡ shake128_bits (bits_of m) (8 * d)
unfolding shake128 shake128_bits
shake128_bits_lem m d w = shake-bits 168 (omega arith) m d w

-- SHAKE256 on bytes is SHAKE256 of FIPS 202 on bits
pub shake256_bits_lem : (m : List ℕ) (d : ℕ) → Bytes m → bits_of (shake256 m d) ≡ shake256_bits (bits_of m) (8 * d)
unfolding shake256 shake256_bits
shake256_bits_lem m d w = shake-bits 136 (omega arith) m d w
