-- The field's laws on blocks of 16 bytes: a commutative ring with one, in which each element is its own negative.
use mathlib.Core.Path.{◌≡◌, refl, sym, ap, ap₂, ◌∙◌}
use mathlib.Core.List.{List, [], ◌∷◌, zip_with}
use Prim.Native.Nat.{ℕ, zero, suc, ◌+◌, ◌^◌, ◌<◌, ◌≤◌}
use native.Mathlib.Nat.{suc_inj}
use native.Mathlib.Omega.{arith}
use lib.Bits.{bit_xor, xor_comm, xor_lt}
use lib.ListN.{length, get_or, take, drop, length-drop}
use lib.Seq.{length-take-le}
use Rattle.lists.specs.Table.{zeros}
use Rattle.lists.proofs.Maps.{cons, length-zip_with, get_or-zip_with}
use Rattle.gf128.specs.Field.{times}
use Rattle.gf128.specs.Bytes.{Block, number, bytes, sum, product}
use Rattle.lists.proofs.Xor.{xor_assoc, xor_twice}
use Rattle.gf128.proofs.Horner.{times-lt}
use Rattle.gf128.proofs.NumberLaws.{times_xor, times_comm, times_assoc, times_zero, times-one}
use Rattle.lists.proofs.ByteLists.{Small, small-take, small-drop, small-zeros, small_xor}
use Rattle.gf128.proofs.Digits.{number_lt, length-bytes, small_bytes, number-bytes, bytes-number, number_xor}

-- ---- blocks and numbers

pub bytes-block : (v : ℕ) → Block (bytes 16 v)
bytes-block v = record { size = length-bytes 16 v; small = small_bytes 16 v }

pub part-block : (at : ℕ) (s : List ℕ) → at + 16 ≤ length s → Small s → Block (take 16 (drop at s))
part-block at s h small = record {
  size = length-take-le 16 (drop at s) (omega (arith, length-drop at s));
  small = small-take 16 (drop at s) (small-drop at s small);
}

pub block-lt : {a : List ℕ} → Block a → number a < 2 ^ 128
block-lt {a} h = let l : number a < 256 ^ length a = number_lt a h.small in rw h.size at l

pub bytes_of-block : {a : List ℕ} → Block a → bytes 16 (number a) ≡ a
bytes_of-block {a} h = ap (λ (n : ℕ). bytes n (number a)) (sym h.size) ∙ bytes-number a h.small

-- two blocks with one number
pub block_by-number : {a b : List ℕ} → Block a → Block b → number a ≡ number b → a ≡ b
block_by-number ha hb e = sym (bytes_of-block ha) ∙ ap (bytes 16) e ∙ bytes_of-block hb

pub number-product : {a : List ℕ} (b : List ℕ) → Block a → number (product a b) ≡ times (number a) (number b)
unfolding product
number-product {a} b h = number-bytes 16 (times (number a) (number b)) (times-lt (number a) (number b) (block-lt h))

pub length-sum : (n : ℕ) (a b : List ℕ) → length a ≡ n → length b ≡ n → length (sum a b) ≡ n
unfolding sum
length-sum n a b ha hb = length-zip_with bit_xor a b (ha ∙ sym hb) ∙ ha

pub get_or-sum : (a b : List ℕ) (k : ℕ) → k < length a → k < length b → get_or (sum a b) k 0 ≡ bit_xor (get_or a k 0) (get_or b k 0)
unfolding sum
get_or-sum a b k ha hb = get_or-zip_with bit_xor a b k 0 0 0 ha hb

pub number-sum : {a b : List ℕ} → Block a → Block b → number (sum a b) ≡ bit_xor (number a) (number b)
unfolding sum
number-sum {a} {b} ha hb = number_xor a b (ha.size ∙ sym hb.size) ha.small hb.small

pub product-block : (a b : List ℕ) → Block (product a b)
unfolding product
product-block a b = bytes-block (times (number a) (number b))

pub sum-block : {a b : List ℕ} → Block a → Block b → Block (sum a b)
unfolding sum
sum-block {a} {b} ha hb = record {
  size = length-sum 16 a b ha.size hb.size;
  small = small_xor a b ha.small hb.small;
}

-- the bytes of a sum of numbers
pub bytes-sum : {a b : List ℕ} → Block a → Block b → bytes 16 (bit_xor (number a) (number b)) ≡ sum a b
bytes-sum {a} {b} ha hb =
    block_by-number (bytes-block _) (sum-block ha hb)
    (number-bytes 16 (bit_xor (number a) (number b)) (xor_lt 128 (number a) (number b) (block-lt ha) (block-lt hb)) ∙ sym (number-sum ha hb))

-- ---- sums

pub zeros-block : Block (zeros 16)
zeros-block = record { size = refl; small = small-zeros 16 }

-- adding the same twice gives back what was there, at any length: what was sealed is opened so
pub sum_twice : (a b : List ℕ) → length a ≡ length b → sum (sum a b) b ≡ a
unfolding sum zip_with
sum_twice [] b h = refl
sum_twice (x ∷ a) [] h = absurd (omega arith)
sum_twice (x ∷ a) (y ∷ b) h = cons (xor_twice x y) (sum_twice a b (suc_inj h))

pub sum_zeros : (n : ℕ) (a : List ℕ) → length a ≡ n → sum (zeros n) a ≡ a
unfolding sum zip_with
sum_zeros zero [] h = refl
sum_zeros zero (x ∷ a) h = absurd (omega arith)
sum_zeros (suc n) [] h = absurd (omega arith)
sum_zeros (suc n) (x ∷ a) h = cons refl (sum_zeros n a (suc_inj h))

pub sum_comm : {a b : List ℕ} → Block a → Block b → sum a b ≡ sum b a
sum_comm {a} {b} ha hb =
    sym (bytes-sum ha hb) ∙ ap (bytes 16) (xor_comm (number a) (number b)) ∙ bytes-sum hb ha

pub sum_assoc : {a b c : List ℕ} → Block a → Block b → Block c → sum (sum a b) c ≡ sum a (sum b c)
sum_assoc {a} {b} {c} ha hb hc =
    block_by-number (sum-block (sum-block ha hb) hc) (sum-block ha (sum-block hb hc))
    (number-sum (sum-block ha hb) hc ∙ ap (λ (x : ℕ). bit_xor x (number c)) (number-sum ha hb)
    ∙ xor_assoc (number a) (number b) (number c)
    ∙ sym (number-sum ha (sum-block hb hc) ∙ ap (bit_xor (number a)) (number-sum hb hc)))

-- ---- products

pub product_comm : {a b : List ℕ} → Block a → Block b → product a b ≡ product b a
unfolding product
product_comm {a} {b} ha hb = ap (bytes 16) (times_comm (number a) (number b) (block-lt ha) (block-lt hb))

pub product_assoc : {a b : List ℕ} (c : List ℕ) → Block a → Block b → product a (product b c) ≡ product (product a b) c
product_assoc {a} {b} c ha hb =
    block_by-number (product-block a (product b c)) (product-block (product a b) c)
    (number-product (product b c) ha ∙ ap (times (number a)) (number-product c hb)
    ∙ times_assoc (number a) (number b) (number c) (block-lt ha) (block-lt hb)
    ∙ sym (number-product c (product-block a b) ∙ ap (λ (x : ℕ). times x (number c)) (number-product b ha)))

pub product-sum : {a b c : List ℕ} → Block a → Block b → Block c → product a (sum b c) ≡ sum (product a b) (product a c)
product-sum {a} {b} {c} ha hb hc =
    block_by-number (product-block a (sum b c)) (sum-block (product-block a b) (product-block a c))
    (number-product (sum b c) ha ∙ ap (times (number a)) (number-sum hb hc)
    ∙ times_xor (number a) (number b) (number c) (block-lt ha)
    ∙ sym (number-sum (product-block a b) (product-block a c) ∙ ap₂ bit_xor (number-product b ha) (number-product c ha)))

-- one is byte 1 followed by 15 zero bytes
number-one : number (1 ∷ zeros 15) ≡ 1
number-one = refl

pub product-one : {a : List ℕ} → Block a → product a (1 ∷ zeros 15) ≡ a
product-one {a} h =
    block_by-number (product-block a (1 ∷ zeros 15)) h
    (number-product (1 ∷ zeros 15) h ∙ ap (times (number a)) number-one ∙ times-one (number a) (block-lt h))

pub one_block : Block (1 ∷ zeros 15)
one_block = record { size = refl; small = one-small }
  where
    one-small : (k : ℕ) → get_or (1 ∷ zeros 15) k 0 < 256
    one-small zero = omega arith
    one-small (suc k) = small-zeros 15 k

number-zeros : number (zeros 16) ≡ 0
number-zeros = refl

pub product_zeros : {a : List ℕ} → Block a → product a (zeros 16) ≡ zeros 16
product_zeros {a} h =
    block_by-number (product-block a (zeros 16)) zeros-block
    (number-product (zeros 16) h ∙ ap (times (number a)) number-zeros ∙ times_zero (number a) (block-lt h) ∙ sym number-zeros)
