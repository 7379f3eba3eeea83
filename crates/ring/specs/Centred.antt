-- Centred values, their remainders and quotients by 5, and bounds on coefficients.
use Rattle.std.specs.Prelude.{Bool, cond, List, ℕ, suc, ◌+◌, ◌/◌, ◌%◌, ◌≤◌, ◌<◌, leb, eqb, ℤ, pos, negsuc, neg_ℤ, nat_abs, ◌-ℤ◌, length, get_or}
use Rattle.lists.specs.Table.{table}
use Rattle.lists.specs.First.{first_failing}
use Rattle.algebra.specs.Numbers.{sub_mod}
use Rattle.ring.specs.Ring.{q, n, Element}

-- the centred value of a word: its residue c is c up to 29,696 and c - 59,393 above
unfoldable pub centred : ℕ → ℤ
centred c = cond (leb (c % q) 29696) (pos (c % q)) (pos (c % q) -ℤ pos q)

-- the residue modulo q of an integer
unfoldable pub residue : ℤ → ℕ
residue (pos m) = m % q
residue (negsuc m) = sub_mod q 0 (suc m)

-- ---- the remainder by 5, between - 2 and 2, and the quotient beside it: m = remainder + 5 × quotient

-- of r = 0, 1, 2, 3, 4
unfoldable pub around_zero : ℕ → ℤ
around_zero r = cond (leb r 2) (pos r) (pos r -ℤ pos 5)

unfoldable pub centred_remainder : ℤ → ℤ
centred_remainder (pos m) = around_zero (m % 5)
centred_remainder (negsuc m) = neg_ℤ (around_zero (suc m % 5))

-- the integer nearest to m ÷ 5
unfoldable pub centred_quotient : ℤ → ℤ
centred_quotient (pos m) = pos ((m + 2) / 5)
centred_quotient (negsuc m) = neg_ℤ (pos ((suc m + 2) / 5))

-- of one coefficient
unfoldable pub remainder_of : ℕ → ℕ
remainder_of c = residue (centred_remainder (centred c))

unfoldable pub quotient_of : ℕ → ℤ
quotient_of c = centred_quotient (centred c)

-- of every coefficient: E2 and w of step 3 of document 01's opening, m = E2 + 5 × w (document 02, No. 7)
unfoldable pub remainders : List ℕ → List ℕ
remainders m = table n (λ k. remainder_of (get_or m k 0))

unfoldable pub quotients : List ℕ → List ℤ
quotients m = table n (λ k. quotient_of (get_or m k 0))

-- ---- bounds

-- every centred coefficient is between - k and k
abbrev pub Within : ℕ → List ℕ → Type 0
Within k a = (i : ℕ) → i < n → nat_abs (centred (get_or a i 0)) ≤ k

-- document 01's short: every centred coefficient is - 1, 0 or 1
abbrev pub Ternary : List ℕ → Type 0
Ternary a = Element a × Within 1 a

-- the centred value of a word is between - k and k
unfoldable pub is_near : ℕ → ℕ → Bool
is_near k c = leb (nat_abs (centred c)) k

-- every entry passes: as `Within`, for a list of n words
unfoldable pub is_within : ℕ → List ℕ → Bool
is_within k a = eqb (first_failing (is_near k) a) (length a)
