-- The noise bound at 1,024 coefficients.
use Rattle.std.specs.Prelude.{◌≡◌, cond, List, [], ◌∷◌, ℕ, suc, ◌+◌, ◌*◌, ◌≤◌, ◌<◌, eqb, pos, ◌+ℤ◌, ◌*ℤ◌, get_or}
use Rattle.exactness.specs.Promises.{sums}
use Rattle.exactness.specs.Promises as P
use Rattle.ring.specs.Ring.{n}
use Rattle.ring.specs.Centred.{centred, quotients, Within}
use Rattle.ring.specs.Division.{QuotientsWithin}
use Rattle.scheme.specs.Scheme.{Triple, setting, key_error, step2}

-- how many entries are not 0
unfoldable pub nonzeros : List ℕ → ℕ
nonzeros [] = 0
nonzeros (x ∷ a) = cond (eqb x 0) (nonzeros a) (suc (nonzeros a))

-- the W of a key: how many coefficients of s and of e = b ÷ 5 - a × s are not 0
unfoldable pub key_weight : (a b s : List ℕ) → ℕ
key_weight a b s = nonzeros s + nonzeros (key_error a b s)

-- m of step 2, where the formula turns the triple R, E1, E2 into the sums
abbrev pub phase_of : (a b s : List ℕ) (t : Triple) → List ℕ
phase_of a b s t = P.phase_of setting a b s t

-- w = e × R - E1 × s
abbrev pub phase_quotient : (a b s : List ℕ) (t : Triple) → List ℕ
phase_quotient a b s t = P.phase_quotient setting s (key_error a b s) t

-- for a sound key, and R, E1, E2 between - 2 and 2
pub record NoiseBound (a b s : List ℕ) (t : Triple) : Type 0 where
  -- m = E2 + 5 × w, as integers
  pub split : (k : ℕ) → k < n
      → centred (get_or (phase_of a b s t) k 0) ≡ centred (get_or t.e2 k 0) +ℤ pos 5 *ℤ centred (get_or (phase_quotient a b s t) k 0)
  -- by the weight W of the key, w is at most 2 W and m at most 2 + 10 W in size
  pub quotient-bound : Within (2 * key_weight a b s) (phase_quotient a b s t)
  pub bound : Within (2 + 10 * key_weight a b s) (phase_of a b s t)
  -- W is at most 2,048; so w is at most 4,096, and m at most 20,482, which is below 29,696
  pub weight-bound : key_weight a b s ≤ 2048
  pub largest-quotient : Within 4096 (phase_quotient a b s t)
  pub largest : Within 20482 (phase_of a b s t)

-- ---- in a decapsulation

-- for a sound key, a ternary triple t that the formula turns into (c1, c2), and any ternary dummy
pub record DecapsulationPhase (a b s c1 c2 : List ℕ) (t dummy : Triple) : Type 0 where
  -- m is that of R, E1, E2, which are the triple plus the dummy
  pub same : step2 a b s dummy c1 c2 ≡ phase_of a b s (sums setting t dummy)
  pub bound : NoiseBound a b s (sums setting t dummy)
  -- so it never passes 20,482
  pub largest : Within 20482 (step2 a b s dummy c1 c2)
  -- w of step 3 is e × R - E1 × s, as integers: at most 2 W, and so at most 4,096, in size
  pub quotient : (k : ℕ) → k < n
      → get_or (quotients (step2 a b s dummy c1 c2)) k (pos 0) ≡ centred (get_or (phase_quotient a b s (sums setting t dummy)) k 0)
  pub quotient-bound : QuotientsWithin (2 * key_weight a b s) (quotients (step2 a b s dummy c1 c2))
  pub largest-quotient : QuotientsWithin 4096 (quotients (step2 a b s dummy c1 c2))
