-- Step 1, for an encapsulation of a ternary triple: R, E1, E2 are between - 2 and 2, and the formula turns them into the sums.
use mathlib.Core.Path.{◌≡◌, ap, ◌∙◌}
use mathlib.Core.List.{List}
use Prim.Native.Nat.{ℕ}
use Rattle.exactness.specs.Setting.{Setting, Element, Bounded, Ternary, sum}
use Rattle.exactness.specs.Scheme.{Triple, summed, without_dummy, TernaryTriple, Encapsulates}
use Rattle.exactness.specs.Givens.{Givens}
use Rattle.exactness.specs.Promises.{sums, Step1}
use Rattle.exactness.proofs.Elements.{sum-element}
use Rattle.exactness.proofs.Identities.{summed-masked, sum_less}
use Rattle.exactness.proofs.Sizes.{sum-size}

same_triple : (t u : Triple) → t.r ≡ u.r → t.e1 ≡ u.e1 → t.e2 ≡ u.e2 → t ≡ u
same_triple t u r e1 e2 = λ i. record { r = r i; e1 = e1 i; e2 = e2 i }

module _ (S : Setting) (G : Givens S) where
  sum_bounded : (x y : List ℕ) → Ternary S x → Ternary S y → Bounded S 2 (sum S x y)
  sum_bounded x y hx hy = (sum-element S G x y, sum-size S G 1 1 x y hx.1 hy.1)

  pub step1 : (a b c1 c2 : List ℕ) (t dummy : Triple) → Element S a → Element S b → Encapsulates S a b c1 c2 t → TernaryTriple S dummy
      → Step1 S a b c1 c2 t dummy
  unfolding sums
  step1 a b c1 c2 t d ha hb (ht, f) hd = record {
    within = record {
      r_bounded = sum_bounded t.r d.r ht.r-ternary hd.r-ternary;
      e1_bounded = sum_bounded t.e1 d.e1 ht.e1-ternary hd.e1-ternary;
      e2_bounded = sum_bounded t.e2 d.e2 ht.e2-ternary hd.e2-ternary;
    };
    formula = record {
      first = ap (summed S a d.r d.e1) f.first
          ∙ summed-masked S G a t.r t.e1 d.r d.e1 ha ht.r-ternary.0 ht.e1-ternary.0 hd.r-ternary.0 hd.e1-ternary.0;
      second = ap (summed S b d.r d.e2) f.second
          ∙ summed-masked S G b t.r t.e2 d.r d.e2 hb ht.r-ternary.0 ht.e2-ternary.0 hd.r-ternary.0 hd.e2-ternary.0;
    };
  }

  -- step 5 takes the dummy away again
  pub sums-without_dummy : (t d : Triple) → TernaryTriple S t → TernaryTriple S d → without_dummy S d (sums S t d) ≡ t
  unfolding without_dummy sums
  sums-without_dummy t d ht hd = same_triple _ t
      (sum_less S G t.r d.r ht.r-ternary.0 hd.r-ternary.0)
      (sum_less S G t.e1 d.e1 ht.e1-ternary.0 hd.e1-ternary.0)
      (sum_less S G t.e2 d.e2 ht.e2-ternary.0 hd.e2-ternary.0)
