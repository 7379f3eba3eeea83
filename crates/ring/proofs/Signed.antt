-- The machine's signed values: each step of the code goes through the bits of its result, `to_z w16 (of_z w16 z)`, which is z where z fits.
use mathlib.Core.Path.{◌≡◌, refl, sym, ap, ◌∙◌}
use mathlib.Core.Bool.{Bool, true, false, true≢false}
use Prim.Native.Nat.{ℕ, zero, suc, ◌+◌, ◌-◌, ◌/◌, ◌%◌, ◌^◌, ◌≤◌, ◌<◌}
use native.Mathlib.Nat.{div-le_self, lt_of_le_of_lt}
use native.Mathlib.Omega.{arith}
use lib.Dec.{T, lit<}
use lib.IntN.{ℤ, pos, negsuc, neg_ℤ, nat_abs, ◌-ℤ◌, ◌+ℤ◌, neg_ℤ-neg_ℤ}
use lib.Signed.{mag, lt_z, rem_z, quot_z, mag_rem, non_neg}
use borrow.Author.Tests.{ltb-true, ltb-false}
use mir.Syntax.{Width, w16}
use mir.Val.{hbits, SFits, Fits, to_z, of_z}
use mir.ValLaws.{to_z_pos, to_z-of_z, sfits_le}
use Rattle.ring.specs.Ring.{q}
use Rattle.ring.specs.Centred.{centred, residue, around_zero, centred_remainder, centred_quotient, remainder_of, quotient_of}
use Rattle.ring.proofs.Integers.{minus-up, sub_down}
use Rattle.ring.proofs.Centring.{centred_low, centred_high, centred-bound}
use Rattle.ring.proofs.RemainderLaws.{around_low, around_high, remainder-small}
use Rattle.ring.proofs.QuotientLaws.{quotient-bound}

mag-neg : (k : ℕ) → mag (neg_ℤ (pos k)) ≤ k
mag-neg zero = omega arith
mag-neg (suc k) = omega arith

-- - k for k at most a + 1
mag_down : (a k : ℕ) → k ≤ suc a → mag (neg_ℤ (pos k)) ≤ a
mag_down a zero h = omega arith
mag_down a (suc k) h = omega arith

mag-size : (z : ℤ) → mag z ≤ nat_abs z
mag-size (pos a) = omega arith
mag-size (negsuc a) = omega arith

-- what is small enough in size fits
sized-fits : (w : Width) (z : ℤ) → nat_abs z < 2 ^ hbits w → SFits w z
sized-fits w z h = record { sfits = lt_of_le_of_lt (mag-size z) h }

-- ---- centred values, from the residue y of the word

opposite : (k : ℕ) → pos 0 -ℤ pos k ≡ neg_ℤ (pos k)
opposite zero = refl
opposite (suc k) =
    let e : suc k - 0 ≡ suc k = omega arith in
    minus-up 0 (suc k) (omega arith) ∙ ap (λ (x : ℕ). neg_ℤ (pos x)) e

module _ (c : ℕ) where
  abbrev y : ℕ
  y = c % q

  pub centre_low : y ≤ 29696 → to_z w16 y ≡ centred c
  centre_low h = to_z_pos w16 y (omega arith) ∙ sym (centred_low c h)

  module _ (h : 29696 < y) where
    distance : pos 0 -ℤ to_z w16 (q - y) ≡ neg_ℤ (pos (q - y))
    distance = ap (λ (z : ℤ). pos 0 -ℤ z) (to_z_pos w16 (q - y) (omega arith)) ∙ opposite (q - y)

    pub centre-fits : SFits w16 (pos 0 -ℤ to_z w16 (q - y))
    centre-fits = record { sfits = rw distance (omega (arith, mag-neg (q - y))) }

    pub centre_high : to_z w16 (of_z w16 (pos 0 -ℤ to_z w16 (q - y))) ≡ centred c
    centre_high = to_z-of_z w16 _ centre-fits ∙ distance ∙ sym (centred_high c h)

-- ---- the machine's remainder of m by d

module _ (m : ℤ) (f : SFits w16 m) (d : ℕ) (some : 0 < d) where
  -- the argument, as the code reads it
  abbrev m' : ℤ
  m' = to_z w16 (of_z w16 m)

  -- `m % d`
  abbrev t' : ℤ
  t' = to_z w16 (of_z w16 (rem_z m' (pos d)))

  same : m' ≡ m
  same = to_z-of_z w16 m f

  mag-quot : (z : ℤ) → mag (quot_z z (pos d)) ≤ mag z
  mag-quot (pos a) = div-le_self a d
  mag-quot (negsuc a) = mag_down a (suc a / d) (div-le_self (suc a) d)

  pub quotient_fits : (0 < d) × SFits w16 (quot_z m' (pos d))
  quotient_fits = (some, rw same (sfits_le (mag-quot m) f))

  pub machine-remainder : t' ≡ rem_z m (pos d)
  machine-remainder = to_z-of_z w16 (rem_z m' (pos d)) (rw same (sfits_le (mag_rem m (pos d)) f)) ∙ ap (λ (z : ℤ). rem_z z (pos d)) same

  -- `m / d`
  abbrev v' : ℤ
  v' = to_z w16 (of_z w16 (quot_z m' (pos d)))

  pub machine-quotient : v' ≡ quot_z m (pos d)
  machine-quotient = to_z-of_z w16 (quot_z m' (pos d)) quotient_fits.1 ∙ ap (λ (z : ℤ). quot_z z (pos d)) same

-- ---- the remainder and the quotient by 5, from the machine's t and v

abbrev t5 : ℤ → ℤ
t5 m = rem_z m (pos 5)

abbrev v5 : ℤ → ℤ
v5 m = quot_z m (pos 5)

-- what the tests say of - r
never-above : (r : ℕ) → lt_z (pos 2) (neg_ℤ (pos r)) ≡ true → ⊥
never-above zero e = omega (arith, ltb-true 2 0 e)
never-above (suc r) e = true≢false (sym e)

below : (r : ℕ) → lt_z (neg_ℤ (pos r)) (negsuc 1) ≡ true → 2 < r
below zero e = absurd (true≢false (sym e))
below (suc r) e = omega (arith, ltb-true 1 r e)

not-below : (r : ℕ) → lt_z (neg_ℤ (pos r)) (negsuc 1) ≡ false → r ≤ 2
not-below zero e = omega arith
not-below (suc r) e = omega (arith, ltb-false 1 r e)

less_one : (k : ℕ) → neg_ℤ (pos k) -ℤ pos 1 ≡ neg_ℤ (pos (k + 1))
less_one zero = refl
less_one (suc k) =
    let e : k + 0 ≡ k = omega arith in
    let f : suc k + 1 ≡ suc (suc k) = omega arith in
    ap (λ (x : ℕ). negsuc (suc x)) e ∙ sym (ap (λ (x : ℕ). neg_ℤ (pos x)) f)

-- above 2 the remainder is 5 too high and the quotient 1 too low
lower : (m : ℤ) → lt_z (pos 2) (t5 m) ≡ true → (t5 m -ℤ pos 5 ≡ centred_remainder m) × (v5 m +ℤ pos 1 ≡ centred_quotient m)
unfolding centred_remainder centred_quotient
lower (pos a) h =
    let high : 2 < a % 5 = ltb-true 2 (a % 5) h in
    (minus-up (a % 5) 5 (omega arith) ∙ sym (around_high (a % 5) high (omega arith)), ap pos (omega arith))
lower (negsuc a) h = absurd (never-above (suc a % 5) h)

-- below - 2 the remainder is 5 too low and the quotient 1 too high
raise : (m : ℤ) → lt_z (t5 m) (negsuc 1) ≡ true → (t5 m +ℤ pos 5 ≡ centred_remainder m) × (v5 m -ℤ pos 1 ≡ centred_quotient m)
unfolding centred_remainder centred_quotient
raise (pos a) h = absurd (true≢false (sym h))
raise (negsuc a) h =
    let high : 2 < suc a % 5 = below (suc a % 5) h in
    let e : suc a / 5 + 1 ≡ (suc a + 2) / 5 = omega arith in
    (up (suc a % 5) high (omega arith), less_one (suc a / 5) ∙ ap (λ (k : ℕ). neg_ℤ (pos k)) e)
  where
    up : (r : ℕ) → 2 < r → r < 5 → neg_ℤ (pos r) +ℤ pos 5 ≡ neg_ℤ (around_zero r)
    up zero h l = absurd (omega arith)
    up (suc r) h l = sub_down 5 (suc r) (omega arith) ∙ sym (ap neg_ℤ (around_high (suc r) h l) ∙ neg_ℤ-neg_ℤ (pos (5 - suc r)))

keep : (m : ℤ) → lt_z (pos 2) (t5 m) ≡ false → lt_z (t5 m) (negsuc 1) ≡ false → (t5 m ≡ centred_remainder m) × (v5 m ≡ centred_quotient m)
unfolding centred_remainder centred_quotient
keep (pos a) h g =
    let low : a % 5 ≤ 2 = ltb-false 2 (a % 5) h in
    (sym (around_low (a % 5) low), ap pos (omega arith))
keep (negsuc a) h g =
    let low : suc a % 5 ≤ 2 = not-below (suc a % 5) g in
    let e : suc a / 5 ≡ (suc a + 2) / 5 = omega arith in
    (ap neg_ℤ (sym (around_low (suc a % 5) low)), ap (λ (k : ℕ). neg_ℤ (pos k)) e)

-- the quotient is no larger than m
quotient_mag : (m : ℤ) → mag (centred_quotient m) ≤ mag m
unfolding centred_quotient
quotient_mag (pos a) = omega arith
quotient_mag (negsuc a) = mag_down a ((suc a + 2) / 5) (omega arith)

-- the same of the code's own t and v
module _ (m : ℤ) (f : SFits w16 m) where
  abbrev t : ℤ
  t = t' m f 5 (lit< tt)

  abbrev v : ℤ
  v = v' m f 5 (lit< tt)

  t_is : t ≡ t5 m
  t_is = machine-remainder m f 5 (lit< tt)

  v_is : v ≡ v5 m
  v_is = machine-quotient m f 5 (lit< tt)

  -- a remainder and a quotient that were worked out fit, and are read back
  remainder-fits : (z : ℤ) → z ≡ centred_remainder m → SFits w16 z
  remainder-fits z e = rw e (sized-fits w16 (centred_remainder m) (omega (arith, remainder-small m)))

  quotient_wide : (z : ℤ) → z ≡ centred_quotient m → SFits w16 z
  quotient_wide z e = rw e (sfits_le (quotient_mag m) f)

  lowered : lt_z (pos 2) t ≡ true → (t -ℤ pos 5 ≡ centred_remainder m) × (v +ℤ pos 1 ≡ centred_quotient m)
  lowered h = rw (t_is, v_is) (lower m (ap (lt_z (pos 2)) (sym t_is) ∙ h))

  raised : lt_z t (negsuc 1) ≡ true → (t +ℤ pos 5 ≡ centred_remainder m) × (v -ℤ pos 1 ≡ centred_quotient m)
  raised h = rw (t_is, v_is) (raise m (ap (λ (z : ℤ). lt_z z (negsuc 1)) (sym t_is) ∙ h))

  pub lowered-fits : lt_z (pos 2) t ≡ true → SFits w16 (t -ℤ pos 5)
  lowered-fits h = remainder-fits _ (lowered h).0

  pub lowered-quotient-fits : lt_z (pos 2) t ≡ true → SFits w16 (v +ℤ pos 1)
  lowered-quotient-fits h = quotient_wide _ (lowered h).1

  pub raised-fits : lt_z t (negsuc 1) ≡ true → SFits w16 (t +ℤ pos 5)
  raised-fits h = remainder-fits _ (raised h).0

  pub raised-quotient-fits : lt_z t (negsuc 1) ≡ true → SFits w16 (v -ℤ pos 1)
  raised-quotient-fits h = quotient_wide _ (raised h).1

  pub lowered_is : lt_z (pos 2) t ≡ true
      → (to_z w16 (of_z w16 (t -ℤ pos 5)) ≡ centred_remainder m) × (to_z w16 (of_z w16 (v +ℤ pos 1)) ≡ centred_quotient m)
  lowered_is h = (to_z-of_z w16 _ (lowered-fits h) ∙ (lowered h).0, to_z-of_z w16 _ (lowered-quotient-fits h) ∙ (lowered h).1)

  pub raised_is : lt_z t (negsuc 1) ≡ true
      → (to_z w16 (of_z w16 (t +ℤ pos 5)) ≡ centred_remainder m) × (to_z w16 (of_z w16 (v -ℤ pos 1)) ≡ centred_quotient m)
  raised_is h = (to_z-of_z w16 _ (raised-fits h) ∙ (raised h).0, to_z-of_z w16 _ (raised-quotient-fits h) ∙ (raised h).1)

  pub kept_is : lt_z (pos 2) t ≡ false → lt_z t (negsuc 1) ≡ false → (t ≡ centred_remainder m) × (v ≡ centred_quotient m)
  kept_is h g =
      rw (t_is, v_is) (keep m (ap (lt_z (pos 2)) (sym t_is) ∙ h) (ap (λ (z : ℤ). lt_z z (negsuc 1)) (sym t_is) ∙ g))

-- ---- the residue modulo q of an integer of 16 bits: below 0 it is as far below q

negative : (m : ℤ) → mag m < 32768 → lt_z m (pos 0) ≡ true → (negsuc 0 -ℤ m ≡ pos (mag m)) × (q - 1 - mag m ≡ residue m)
unfolding residue
negative (pos a) f h = absurd (omega (arith, ltb-true a 0 h))
negative (negsuc a) f h =
    let e : suc a - 1 ≡ a = omega arith in
    (sub_down (suc a) 1 (omega arith) ∙ ap pos e, omega arith)

natural : (m : ℤ) → mag m < 32768 → lt_z m (pos 0) ≡ false → (m ≡ pos (mag m)) × (mag m ≡ residue m)
unfolding residue
natural (pos a) f h = (ap pos (omega arith), omega arith)
natural (negsuc a) f h = absurd (true≢false h)

-- the same of the code's own m
module _ (m : ℤ) (f : SFits w16 m) where
  abbrev r : ℤ
  r = to_z w16 (of_z w16 m)

  r_is : r ≡ m
  r_is = to_z-of_z w16 m f

  tested : {b : Bool} → lt_z r (pos 0) ≡ b → lt_z m (pos 0) ≡ b
  tested h = ap (λ (z : ℤ). lt_z z (pos 0)) (sym r_is) ∙ h

  away : lt_z r (pos 0) ≡ true → negsuc 0 -ℤ r ≡ pos (mag m)
  away h = ap (λ (z : ℤ). negsuc 0 -ℤ z) r_is ∙ (negative m f.sfits (tested h)).0

  pub away-fits : lt_z r (pos 0) ≡ true → SFits w16 (negsuc 0 -ℤ r)
  away-fits h = rw (away h) (record { sfits = f.sfits })

  pub away_is : lt_z r (pos 0) ≡ true → to_z w16 (of_z w16 (negsuc 0 -ℤ r)) ≡ pos (mag m)
  away_is h = to_z-of_z w16 _ (away-fits h) ∙ away h

  pub stays : lt_z r (pos 0) ≡ false → r ≡ pos (mag m)
  stays h = r_is ∙ (natural m f.sfits (tested h)).0

  -- what was worked out is a u16
  pub size_word : (z : ℤ) → z ≡ pos (mag m) → T (non_neg z) × Fits w16 (nat_abs z)
  size_word z e = rw e (tt, record { fits = omega (arith, f.sfits) })

  pub negative-residue : lt_z r (pos 0) ≡ true → q - 1 - nat_abs (to_z w16 (of_z w16 (negsuc 0 -ℤ r))) ≡ residue m
  negative-residue h = ap (λ (z : ℤ). q - 1 - nat_abs z) (away_is h) ∙ (negative m f.sfits (tested h)).1

  pub natural-residue : lt_z r (pos 0) ≡ false → nat_abs r ≡ residue m
  natural-residue h = ap nat_abs (stays h) ∙ (natural m f.sfits (tested h)).1

-- ---- one after the other: each result goes to the next call through its bits

-- a quotient that goes through its bits
pub quotient-read : (c : ℕ) {v : ℤ} → v ≡ quotient_of c → to_z w16 (of_z w16 v) ≡ quotient_of c
quotient-read c {v} e = to_z-of_z w16 v (rw e (sized-fits w16 (quotient_of c) (omega (arith, quotient-bound c)))) ∙ e

-- m is a centred value, e and v are its remainder and its quotient
module _ (c : ℕ) {m e v : ℤ} (em : m ≡ centred c) (divided : (e ≡ centred_remainder (to_z w16 (of_z w16 m))) × (v ≡ centred_quotient (to_z w16 (of_z w16 m)))) where
  read-centred : to_z w16 (of_z w16 m) ≡ centred c
  read-centred = to_z-of_z w16 m (rw em (sized-fits w16 (centred c) (omega (arith, centred-bound c)))) ∙ em

  remainder_is : e ≡ centred_remainder (centred c)
  remainder_is = divided.0 ∙ ap centred_remainder read-centred

  quotient_is : v ≡ quotient_of c
  unfolding quotient_of
  quotient_is = divided.1 ∙ ap centred_quotient read-centred

  pub remainder_chain : {r : ℕ} → r ≡ residue (to_z w16 (of_z w16 e)) → r ≡ remainder_of c
  unfolding remainder_of
  remainder_chain er = er ∙ ap residue (to_z-of_z w16 e (rw remainder_is (sized-fits w16 (centred_remainder (centred c)) (omega (arith, remainder-small (centred c))))) ∙ remainder_is)

  pub quotient_chain : to_z w16 (of_z w16 v) ≡ quotient_of c
  quotient_chain = quotient-read c quotient_is
