-- The residues modulo q: the numbers below q.
use Rattle.std.specs.Prelude.{List, map, ◌≢◌, ℕ, ◌+◌, ◌-◌, ◌*◌, ◌%◌, ◌<◌}
use Rattle.std.proofs.Common.{mod-lt}

abbrev pub Residue : ℕ → Type 0
Residue q = (n : ℕ) × (n < q)

-- The residue of a number. It takes the proof that q is positive, since it is an element of the subtype: use one such proof a modulus.
unfoldable pub residue : (q : ℕ) → 0 < q → ℕ → Residue q
residue q pos n = (n % q, mod-lt n pos)

-- the operations of ℤ/q
module _ (q : ℕ) (pos : 0 < q) where
  abbrev pub add_residue : Residue q → Residue q → Residue q
  add_residue x y = residue q pos (x.0 + y.0)

  abbrev pub mul_residue : Residue q → Residue q → Residue q
  mul_residue x y = residue q pos (x.0 * y.0)

  abbrev pub neg_residue : Residue q → Residue q
  neg_residue x = residue q pos (q - x.0)

-- the residues of a list of numbers
abbrev pub residues : (q : ℕ) → 0 < q → List ℕ → List (Residue q)
residues q pos l = map (residue q pos) l

pub record Prime (q : ℕ) : Type 0 where
  pub above-one : 1 < q
  pub no_divisor : (x : ℕ) → 1 < x → x < q → q % x ≢ 0
