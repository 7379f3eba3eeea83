-- Whether an element has an inverse, the inverse, and whether two elements are inverse to each other.
use Rattle.std.specs.Prelude.{◌≡◌, ℕ}
use mathlib.Core.List.{List, List-discrete}
use Rattle.std.proofs.Math.Decide.{ℕ_discrete}
use Rattle.lists.specs.Table.{zeros}
use Rattle.algebra.proofs.Negacyclic as N
use Rattle.modq.proofs.Prime.{q-positive, negacyclic-root}
use Rattle.ring.specs.Ring.{n, one, product, Invertible}

-- Decided for every list, with the inverse as witness. Crate algebra finds it by a transform; the type says all that counts: an inverse, or
-- the proof that there is none. Law `inverse-unique` says that there is one inverse at most.
pub is_invertible : (b : List ℕ) → Dec (Invertible b)
is_invertible b = N.is_invertible q-positive negacyclic-root b

abbrev pub witness : (b : List ℕ) → Dec (Invertible b) → List ℕ
witness b (yes i) = i.0
witness b (no none) = zeros n

-- the inverse of b; 1,024 zeros where there is none
unfoldable pub inverse_of : List ℕ → List ℕ
inverse_of b = witness b (is_invertible b)

-- b × i = 1, decided for every two lists
pub is_inverse : (b i : List ℕ) → Dec (product b i ≡ one)
is_inverse b i = List-discrete ℕ_discrete (product b i) one
