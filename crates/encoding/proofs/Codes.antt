-- Codes of bytes and bytes of codes, entry by entry.
use mathlib.Core.Path.{◌≡◌, refl, sym, subst, ap, ◌∙◌}
use mathlib.Core.Bool.{Bool, true, false, cond}
use mathlib.Core.Logic.{◌⊎◌, inl, inr}
use mathlib.Core.List.{List, [], ◌∷◌, ◌++◌}
use Prim.Native.Nat.{ℕ, zero, suc, ◌+◌, ◌-◌, ◌*◌, ◌/◌, ◌%◌, ◌^◌, ◌<◌, ◌≤◌, min}
use native.Mathlib.Nat.{le_trans, le_of_eq, add_assoc}
use native.Mathlib.Omega.{arith}
use lib.Dec.{ltb, eqb}
use lib.ListN.{length, get_or, take, set}
use lib.Seq.{take_at}
use mir.Val.{bool_byte}
use borrow.Author.Tests.{lt-ltb, ltb-true, ltb-false, eqb-true, eq-eqb, ne_eqb}
use Rattle.lists.specs.Table.{table}
use Rattle.lists.specs.First.{first_failing}
use Rattle.lists.proofs.Fill.{ZeroFilled}
use Rattle.lists.proofs.TableFill.{zero-filled-next}
use Rattle.lists.proofs.Tables.{length-table, get_or-table, table_same}
use Rattle.lists.proofs.Scan.{Passed, passed_more, passed-stop, before-first, first-none, first_passes, first-within, first-fails}
use Rattle.algebra.specs.Numbers.{Below}
use Rattle.algebra.specs.Size.{magnitude}
use Rattle.algebra.proofs.Numbers.{below_by}
use Rattle.ring.specs.Ring.{q, n}
use Rattle.ring.specs.Centred.{Ternary}
use Rattle.ring.proofs.Centring.{centred-size}
use Rattle.lists.proofs.Scan.{passed-rest}
use Rattle.encoding.proofs.Digits.{digit-first, digit-in, digit_missing, digit-take}
use Rattle.encoding.specs.Codes.{code_at, coefficient_of, code_of, codes_of, first_invalid, unpacked, packed_at, packed, first_invalid_code, ternary_of, ternary_bytes}

-- ---- one coefficient, one code

-- 0, 1 or - 1 modulo q
abbrev pub Trit : (q c : ℕ) → Type 0
Trit q c = (c ≡ 0) ⊎ (c ≡ 1) ⊎ (c ≡ q - 1)

-- a choice by arithmetic: 1 at x, v at y, 0 elsewhere
pub chosen : (c x y v : ℕ) → (x ≡ y → ⊥) → bool_byte (eqb c x) + v * bool_byte (eqb c y) ≡ cond (eqb c x) 1 (cond (eqb c y) v 0)
chosen c x y v ne = by (eqb c x) refl (eqb c y) refl
  where
    by : (a : Bool) → eqb c x ≡ a → (b : Bool) → eqb c y ≡ b → bool_byte a + v * bool_byte b ≡ cond a 1 (cond b v 0)
    by true e true f = absurd (ne (sym (eqb-true c x e) ∙ eqb-true c y f))
    by true e false f = omega arith
    by false e true f = omega arith
    by false e false f = omega arith

pub bool_byte-lt : (b : Bool) → bool_byte b < 2
bool_byte-lt true = omega arith
bool_byte-lt false = omega arith

pub code_lt : (q c : ℕ) → code_of q c < 3
unfolding code_of
code_lt q c = by (eqb c 1) (eqb c (q - 1))
  where
    by : (a b : Bool) → cond a 1 (cond b 2 0) < 3
    by true b = omega arith
    by false true = omega arith
    by false false = omega arith

pub coefficient_none : (q : ℕ) → coefficient_of q 0 ≡ 0
unfolding coefficient_of
coefficient_none q = refl

-- the coefficient of any code is 0, 1 or q - 1
pub coefficient_is : (q code : ℕ) → Trit q (coefficient_of q code)
unfolding coefficient_of
coefficient_is q code = by (eqb code 1) (eqb code 2)
  where
    by : (a b : Bool) → let v = cond a 1 (cond b (q - 1) 0) in Trit q v
    by true b = inr (inl refl)
    by false true = inr (inr refl)
    by false false = inl refl

-- valid codes and ternary coefficients are those of each other
module _ (q : ℕ) (big : 2 < q) where
  pub code-coefficient : (code : ℕ) → code < 3 → code_of q (coefficient_of q code) ≡ code
  unfolding code_of coefficient_of
  code-coefficient zero h = rw (ne_eqb 0 (q - 1) (λ e. omega arith))
  code-coefficient (suc zero) h = refl
  code-coefficient (suc (suc zero)) h = rw (ne_eqb (q - 1) 1 (λ e. omega arith), eq-eqb (q - 1) (q - 1) refl)
  code-coefficient (suc (suc (suc code))) h = absurd (omega arith)

  pub coefficient-code : (c : ℕ) → Trit q c → coefficient_of q (code_of q c) ≡ c
  unfolding code_of coefficient_of
  coefficient-code c (inl e) = rw (e, ne_eqb 0 (q - 1) (λ e. omega arith))
  coefficient-code c (inr (inl e)) = rw e
  coefficient-code c (inr (inr e)) = rw (e, ne_eqb (q - 1) 1 (λ e. omega arith), eq-eqb (q - 1) (q - 1) refl)

-- ---- codes of m bytes

module _ (m : ℕ) where
  pub codes_of_entry : (bytes : List ℕ) (k : ℕ) → k < 4 * m → get_or (codes_of m bytes) k 0 ≡ code_at bytes k
  unfolding codes_of
  codes_of_entry bytes k h = get_or-table (4 * m) (code_at bytes) k 0 h

  pub length-codes_of : (bytes : List ℕ) → length (codes_of m bytes) ≡ 4 * m
  unfolding codes_of
  length-codes_of bytes = length-table (4 * m) (code_at bytes)

  pub invalid-within : (bytes : List ℕ) → first_invalid m bytes ≤ 4 * m
  unfolding first_invalid
  invalid-within bytes = le_trans (first-within (λ code. ltb code 3) (codes_of m bytes)) (le_of_eq (length-codes_of bytes))

  -- the code that is found
  pub invalid-found : (bytes : List ℕ) → first_invalid m bytes < 4 * m → 3 ≤ code_at bytes (first_invalid m bytes)
  unfolding first_invalid
  invalid-found bytes h =
      let found = first_failing (λ code. ltb code 3) (codes_of m bytes) in
      rw (codes_of_entry bytes found h) at
      (ltb-false (get_or (codes_of m bytes) found 0) 3 (first-fails (λ code. ltb code 3) (codes_of m bytes) (rw (length-codes_of bytes) h)))

  -- none is found invalid exactly where every code is below 3
  pub none-invalid : (bytes : List ℕ) → first_invalid m bytes ≡ 4 * m → (k : ℕ) → k < 4 * m → code_at bytes k < 3
  unfolding first_invalid
  none-invalid bytes e k h =
      let size : length (codes_of m bytes) ≡ 4 * m = length-codes_of bytes in
      rw (codes_of_entry bytes k h) at
      (ltb-true (get_or (codes_of m bytes) k 0) 3 (first_passes (λ code. ltb code 3) (codes_of m bytes) (omega arith) k (omega arith)))

  pub invalid_none : (bytes : List ℕ) → ((k : ℕ) → k < 4 * m → code_at bytes k < 3) → first_invalid m bytes ≡ 4 * m
  unfolding first_invalid
  invalid_none bytes h =
      let size : length (codes_of m bytes) ≡ 4 * m = length-codes_of bytes in
      first-none (λ code. ltb code 3) (codes_of m bytes)
      (λ k l. let g : k < 4 * m = omega arith in lt-ltb (get_or (codes_of m bytes) k 0) 3 (rw (codes_of_entry bytes k g) (h k g)))
      ∙ size

-- ---- the search for the first invalid code

-- the first k codes of m bytes are valid
abbrev pub ValidTo : (m : ℕ) (bytes : List ℕ) (k : ℕ) → Type 0
ValidTo m bytes k = Passed (λ code. ltb code 3) (codes_of m bytes) k

-- k entries pass, and so do the c behind them
passed_many : {good : ℕ → Bool} {xs : List ℕ} {k : ℕ} → Passed good xs k → (c : ℕ) → k + c ≤ length xs → ((j : ℕ) → j < c → good (get_or xs (k + j) 0) ≡ true)
    → Passed good xs (k + c)
passed_many {good} {xs} {k} p zero h g = subst (Passed good xs) (omega arith) p
passed_many {good} {xs} {k} p (suc c) h g =
    subst (Passed good xs) (omega arith) (passed_more (passed_many p c (omega arith) (λ j l. g j (omega arith))) (omega arith) (g c (omega arith)))

-- byte i is looked at, and its first invalid code is j
module _ (m : ℕ) (bytes : List ℕ) {i j : ℕ} (p : ValidTo m bytes (4 * i)) (inside : i < m) (found : j ≡ first_invalid 1 (get_or bytes i 0 ∷ [])) where
  abbrev codes : List ℕ
  codes = codes_of 1 (get_or bytes i 0 ∷ [])

  abbrev good : ℕ → Bool
  good code = ltb code 3

  first : j ≡ first_failing good codes
  unfolding first_invalid
  first = found

  same : (k : ℕ) → k < 4 → get_or (codes_of m bytes) (4 * i + k) 0 ≡ get_or codes k 0
  same k h =
      let place : k ≡ 4 * 0 + k = omega arith in
      codes_of_entry m bytes (4 * i + k) (omega arith) ∙ digit-in 4 4 bytes i k h
      ∙ sym (codes_of_entry 1 (get_or bytes i 0 ∷ []) k h ∙ ap (code_at (get_or bytes i 0 ∷ [])) place ∙ digit-in 4 4 (get_or bytes i 0 ∷ []) 0 k h)

  to : (c : ℕ) → c ≤ j → c ≤ 4 → ValidTo m bytes (4 * i + c)
  to c h l =
      passed_many p c (omega (arith, length-codes_of m bytes)) (λ k g. ap good (same k (omega arith)) ∙ before-first good codes k (omega (arith, first)))

  pub byte-stop : j < 4 → 4 * i + j ≡ first_invalid m bytes
  unfolding first_invalid
  byte-stop h =
      passed-stop (to j (omega arith) (omega arith)) (omega (arith, length-codes_of m bytes))
      (ap good (same j h) ∙ ap (λ (k : ℕ). good (get_or codes k 0)) first ∙ first-fails good codes (omega (arith, first, length-codes_of 1 (get_or bytes i 0 ∷ []))))

  pub byte_more : {e : ℕ} → 4 ≤ j → 4 * i + 4 ≡ e → ValidTo m bytes e
  byte_more h e = subst (ValidTo m bytes) e (to 4 h (omega arith))

module _ (m : ℕ) (bytes : List ℕ) {k : ℕ} (p : ValidTo m bytes k) where
  -- the codes of missing bytes are valid
  pub valid_end : min (length bytes) m * 4 ≤ k → 4 * m ≡ first_invalid m bytes
  unfolding first_invalid
  valid_end h =
      sym (passed-rest p (λ j l g.
      let inside : j < 4 * m = omega (arith, length-codes_of m bytes) in
      let none : code_at bytes j ≡ 0 = digit_missing 4 4 bytes j (omega arith) in
      lt-ltb (get_or (codes_of m bytes) j 0) 3 (rw (codes_of_entry m bytes j inside, none) (omega arith)))
      ∙ length-codes_of m bytes)

-- ---- the polynomial of m bytes

-- the first m bytes are read, and no more
module _ (m : ℕ) (bytes : List ℕ) where
  code-take : (k : ℕ) → k < 4 * m → code_at (take m bytes) k ≡ code_at bytes k
  code-take k h = digit-take 4 4 bytes m k (omega arith)

  pub invalid-take : first_invalid m (take m bytes) ≡ first_invalid m bytes
  unfolding first_invalid codes_of
  invalid-take = ap (first_failing (λ code. ltb code 3)) (table_same (4 * m) _ _ code-take)

module _ (q m : ℕ) where
  pub length-unpacked : (bytes : List ℕ) → length (unpacked q m bytes) ≡ 4 * m
  unfolding unpacked
  length-unpacked bytes = length-table (4 * m) _

  pub unpacked_entry : (bytes : List ℕ) (k : ℕ) → k < 4 * m → get_or (unpacked q m bytes) k 0 ≡ coefficient_of q (code_at bytes k)
  unfolding unpacked
  unpacked_entry bytes k h = get_or-table (4 * m) _ k 0 h

  -- any bytes give ternary coefficients
  pub unpacked-trit : (bytes : List ℕ) (k : ℕ) → k < 4 * m → Trit q (get_or (unpacked q m bytes) k 0)
  unpacked-trit bytes k h = rw (unpacked_entry bytes k h) (coefficient_is q (code_at bytes k))

  pub unpacked-take : (bytes : List ℕ) → unpacked q m (take m bytes) ≡ unpacked q m bytes
  unfolding unpacked
  unpacked-take bytes = table_same (4 * m) _ _ (λ k h. ap (λ (code : ℕ). coefficient_of q code) (code-take m bytes k h))

  pub unpacked-append : (front rest : List ℕ) → length front ≡ m → unpacked q m (front ++ rest) ≡ unpacked q m front
  unpacked-append front rest e = sym (unpacked-take (front ++ rest)) ∙ ap (unpacked q m) (take_at front rest m e)

-- the four coefficients of byte i are written behind those of the bytes before it
pub four_more : (q count i : ℕ) (bytes : List ℕ) {n : ℕ} {t : List ℕ} {c0 c1 c2 c3 : ℕ}
    → ZeroFilled n (table (4 * count) (λ k. coefficient_of q (code_at bytes k))) t (4 * i) → i < count → get_or bytes i 0 < 256
    → c0 ≡ coefficient_of q (get_or bytes i 0 % 4) → c1 ≡ coefficient_of q (get_or bytes i 0 / 4 % 4)
    → c2 ≡ coefficient_of q (get_or bytes i 0 / 16 % 4) → c3 ≡ coefficient_of q (get_or bytes i 0 / 64)
    → ZeroFilled n (table (4 * count) (λ k. coefficient_of q (code_at bytes k))) (set (set (set (set t (4 * i) c0) (4 * i + 1) c1) (4 * i + 2) c2) (4 * i + 3) c3) (4 * (i + 1))
four_more q count i bytes z h b e0 e1 e2 e3 =
    let rule : ℕ → ℕ = λ k. coefficient_of q (code_at bytes k) in
    let last : get_or bytes i 0 / 64 ≡ code_at bytes (4 * i + 3) = sym (digit-in 4 4 bytes i 3 (omega arith) ∙ omega arith) in
    let z1 = zero-filled-next rule z (omega arith) (e0 ∙ ap (coefficient_of q) (sym (digit-first 4 4 bytes i (omega arith)))) refl in
    let z2 = zero-filled-next rule z1 (omega arith) (e1 ∙ ap (coefficient_of q) (sym (digit-in 4 4 bytes i 1 (omega arith)))) (add_assoc (4 * i) 1 1) in
    let z3 = zero-filled-next rule z2 (omega arith) (e2 ∙ ap (coefficient_of q) (sym (digit-in 4 4 bytes i 2 (omega arith)))) (add_assoc (4 * i) 2 1) in
    zero-filled-next rule z3 (omega arith) (e3 ∙ ap (coefficient_of q) last) (omega arith)

-- ---- bytes of codes

pub packed_lt : (q : ℕ) (t : List ℕ) (i : ℕ) → packed_at q t i < 256
packed_lt q t i =
    omega (arith, code_lt q (get_or t (4 * i) 0), code_lt q (get_or t (4 * i + 1) 0), code_lt q (get_or t (4 * i + 2) 0), code_lt q (get_or t (4 * i + 3) 0))

-- the digits of c 0 + 4 c 1 + 16 c 2 + 64 c 3 to base 4
digit : (c : ℕ → ℕ) (c0 : ℕ) → c0 ≡ c 0 → ((j : ℕ) → c j < 3) → (j : ℕ) → j < 4 → (c0 + 4 * c 1 + 16 * c 2 + 64 * c 3) / 4 ^ j % 4 ≡ c j
digit c c0 e h zero l = omega (arith, h 0, h 1, h 2, h 3)
digit c c0 e h (suc zero) l = omega (arith, h 0, h 1, h 2, h 3)
digit c c0 e h (suc (suc zero)) l = omega (arith, h 0, h 1, h 2, h 3)
digit c c0 e h (suc (suc (suc zero))) l = omega (arith, h 0, h 1, h 2, h 3)
digit c c0 e h (suc (suc (suc (suc j)))) l = absurd (omega arith)

module _ (q m : ℕ) (t : List ℕ) where
  pub length-packed : length (packed q m t) ≡ m
  unfolding packed
  length-packed = length-table m (packed_at q t)

  pub packed_entry : (i : ℕ) → i < m → get_or (packed q m t) i 0 ≡ packed_at q t i
  unfolding packed
  packed_entry i h = get_or-table m (packed_at q t) i 0 h

  pub packed-below : Below 256 (packed q m t)
  packed-below = below_by 256 (packed q m t) (λ i h. rw (packed_entry i (omega (arith, length-packed))) (packed_lt q t i))

  -- the codes of these bytes are those of the coefficients
  pub packed-code : (k : ℕ) → k < 4 * m → code_at (packed q m t) k ≡ code_of q (get_or t k 0)
  packed-code k h =
      let i : ℕ = k / 4 in
      let first : 4 * i ≡ 4 * i + 0 = omega arith in
      let place : 4 * i + k % 4 ≡ k = omega arith in
      ap (λ (b : ℕ). b / 4 ^ (k % 4) % 4) (packed_entry i (omega arith))
      ∙ digit (λ j. code_of q (get_or t (4 * i + j) 0)) _ (ap (λ (j : ℕ). code_of q (get_or t j 0)) first) (λ j. code_lt q (get_or t (4 * i + j) 0)) (k % 4) (omega arith)
      ∙ ap (λ (j : ℕ). code_of q (get_or t j 0)) place

  pub packed_valid : first_invalid m (packed q m t) ≡ 4 * m
  packed_valid = invalid_none m (packed q m t) (λ k h. rw (packed-code k h) (code_lt q (get_or t k 0)))

-- ---- the ring's ternary polynomials

-- a list of 1,024 entries that are each 0, 1 or q - 1
pub ternary_by : (a : List ℕ) → length a ≡ n → ((k : ℕ) → k < n → Trit q (get_or a k 0)) → Ternary a
ternary_by a size h = (
  record { size = size; below = below_by q a (λ k l. below (get_or a k 0) (h k (omega arith))) },
  λ k l. rw (centred-size (get_or a k 0)) (small (get_or a k 0) (h k l)),
)
  where
    below : (c : ℕ) → Trit q c → c < q
    below c (inl e) = omega arith
    below c (inr (inl e)) = omega arith
    below c (inr (inr e)) = omega arith

    small : (c : ℕ) → Trit q c → magnitude q c ≤ 1
    small c (inl e) = omega arith
    small c (inr (inl e)) = omega arith
    small c (inr (inr e)) = omega arith

pub length-ternary_of : (bytes : List ℕ) → length (ternary_of bytes) ≡ n
length-ternary_of bytes = length-unpacked q 256 bytes

-- any bytes give a ternary polynomial
pub ternary_of-ternary : (bytes : List ℕ) → Ternary (ternary_of bytes)
ternary_of-ternary bytes = ternary_by (ternary_of bytes) (length-ternary_of bytes) (unpacked-trit q 256 bytes)

pub ternary_of-take : (bytes : List ℕ) → ternary_of (take 256 bytes) ≡ ternary_of bytes
ternary_of-take bytes = unpacked-take q 256 bytes

pub length-ternary_bytes : (t : List ℕ) → length (ternary_bytes t) ≡ 256
length-ternary_bytes t = length-packed q 256 t

pub ternary_bytes-below : (t : List ℕ) → Below 256 (ternary_bytes t)
ternary_bytes-below t = packed-below q 256 t

pub ternary_bytes_valid : (t : List ℕ) → first_invalid_code (ternary_bytes t) ≡ n
ternary_bytes_valid t = packed_valid q 256 t
