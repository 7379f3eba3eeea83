-- What is promised of the division of every coefficient by 5, on every input (document 02, No. 7).
use Rattle.std.specs.Prelude.{◌≡◌, List, ℕ, ◌≤◌, ◌<◌, ℤ, pos, nat_abs, ◌+ℤ◌, ◌*ℤ◌, get_or}
use Rattle.ring.specs.Ring.{n}
use Rattle.ring.specs.Centred.{centred, Within}

-- every entry is between - k and k
abbrev pub QuotientsWithin : ℕ → List ℤ → Type 0
QuotientsWithin k w = (i : ℕ) → i < n → nat_abs (get_or w i (pos 0)) ≤ k

-- of m, the remainders e and the quotients w
pub record DivisionExact (m e : List ℕ) (w : List ℤ) : Type 0 where
  -- m = e + 5 × w, as integers
  pub split : (i : ℕ) → i < n → centred (get_or m i 0) ≡ centred (get_or e i 0) +ℤ pos 5 *ℤ get_or w i (pos 0)
  pub remainders-bound : Within 2 e
  pub quotients-bound : QuotientsWithin 5939 w
