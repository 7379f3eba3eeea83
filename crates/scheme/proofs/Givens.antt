-- The ring at 1,024 coefficients has what the promises of crate exactness are argued from.
use mathlib.Core.Path.{◌≡◌, refl, sym, ap, ◌∙◌}
use mathlib.Core.List.{List}
use Prim.Native.Nat.{ℕ, ◌+◌, ◌*◌, ◌/◌, ◌%◌, ◌≤◌, ◌<◌}
use native.Mathlib.Nat.{mod-eq_of_lt, mod-mod, add-mod-mod}
use native.Mathlib.Omega.{arith}
use lib.Dec.{lit≤}
use lib.ListN.{get_or}
use Rattle.lists.proofs.Tables.{table_is}
use Rattle.algebra.specs.Polynomials.{negacyclic}
use Rattle.algebra.specs.Numbers.{add_mod, mul_mod}
use Rattle.algebra.specs.Size.{magnitude}
use Rattle.algebra.proofs.Residues.{ℤ/}
use Rattle.algebra.proofs.Numbers.{below_at}
use Rattle.algebra.proofs.Elements.{plus-at, scale_at}
use Rattle.algebra.proofs.PlainProduct.{plain-product}
use Rattle.algebra.proofs.Size.{spread-negacyclic}
use Rattle.modq.proofs.Prime.{q-positive}
use Rattle.exactness.specs.Setting.{Bounded}
use Rattle.exactness.specs.Givens.{Givens}
use Rattle.ring.specs.Ring.{q, n, sum, multiple}
use Rattle.ring.specs.Centred.{Within, remainder_of, remainders}
use Rattle.ring.proofs.RingLaws.{five-fifth}
use Rattle.ring.proofs.Centring.{centred-size}
use Rattle.ring.proofs.RemainderLaws.{remainder-recovers, remainders-element}
use Rattle.ring.proofs.Scans.{within_iff}
use Rattle.scheme.specs.Scheme.{setting}

-- an entry of e + 5 w
pub combination-at : (e w : List ℕ) (k : ℕ) → k < n → get_or (sum e (multiple 5 w)) k 0 % q ≡ (get_or e k 0 + 5 * get_or w k 0) % q
combination-at e w k h =
    ap (λ (x : ℕ). x % q) (plus-at q q-positive n e (multiple 5 w) k h ∙ ap (add_mod q (get_or e k 0)) (scale_at q q-positive n 5 w k h))
    ∙ mod-mod (get_or e k 0 + mul_mod q 5 (get_or w k 0)) q ∙ add-mod-mod (get_or e k 0) (5 * get_or w k 0) q

-- the size of an entry, as the laws of the ring have it
pub magnitude-at : {k : ℕ} (a : List ℕ) → Within k a → (j : ℕ) → j < n → magnitude q (get_or a j 0) ≤ k
magnitude-at a w j h = rw (centred-size (get_or a j 0)) at (w j h)

pub remainders_are : (k : ℕ) (e w : List ℕ) → 2 + 5 * k ≤ q / 2 → Bounded setting 2 e → Within k w → remainders (sum e (multiple 5 w)) ≡ e
unfolding remainders
remainders_are k e w enough (he, small) bound = sym (table_is n _ e 0 he.size entry)
  where
    entry : (j : ℕ) → j < n → get_or e j 0 ≡ remainder_of (get_or (sum e (multiple 5 w)) j 0)
    entry j h =
        let near : magnitude q (get_or w j 0) ≤ 5938 = omega (arith, magnitude-at w bound j h) in
        sym (remainder-recovers _ (get_or e j 0) (get_or w j 0) (combination-at e w j h) (magnitude-at e small j h) near
        ∙ mod-eq_of_lt (below_at q q-positive e he.below j))

unfoldable pub givens : Givens setting
givens = record {
  q-positive = q-positive;
  p = 1023;
  degree = refl;
  rule = negacyclic (ℤ/ q q-positive);
  is-product = plain-product q q-positive 1023;
  κ = 1;
  spread = spread-negacyclic (ℤ/ q q-positive) 1023;
  five-fifth = five-fifth;
  centred-size = centred-size;
  within_iff = within_iff;
  remainders-element = remainders-element;
  remainders_are = remainders_are;
  noise-bound = lit≤ tt;
}
