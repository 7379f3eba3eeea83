-- Soundness: the formula turns what is found into (c1, c2). It needs no bound on m, and of the key only that i is the inverse of b.
use mathlib.Core.Path.{◌≡◌, sym, subst}
use mathlib.Core.List.{List}
use Prim.Native.Nat.{ℕ}
use Rattle.exactness.specs.Setting.{Setting, Element, one}
use Rattle.exactness.specs.Scheme.{Triple, found, summed, recovered, without_dummy, core, decapsulation}
use Rattle.exactness.specs.Scheme.{TernaryTriple, Formula, Encapsulates}
use Rattle.exactness.specs.Givens.{Givens}
use Rattle.exactness.proofs.Elements.{recovered_r-element}
use Rattle.exactness.proofs.Identities.{first_back, second_back}
use Rattle.exactness.proofs.Outcomes.{judged-found, found-ternary}

module _ (S : Setting) (G : Givens S) (a b i : List ℕ)
    (ha : Element S a) (hb : Element S b) (hi : Element S i) (inverse : S.product b i ≡ one S) where
  -- whatever E2 is
  formula-back : (dummy : Triple) (c1 c2 e2 : List ℕ) → TernaryTriple S dummy → Element S c1 → Element S c2 → Element S e2
      → Formula S a b c1 c2
      (without_dummy S dummy (recovered S a i (summed S a dummy.r dummy.e1 c1) (summed S b dummy.r dummy.e2 c2) e2))
  unfolding without_dummy recovered
  formula-back dummy c1 c2 e2 hd h1 h2 he = record {
    first = sym (first_back S G a _ dummy.r dummy.e1 c1 ha (recovered_r-element S G i _ e2) hd.r-ternary.0 hd.e1-ternary.0 h1);
    second = sym (second_back S G b i dummy.r dummy.e2 e2 c2 hb hi hd.r-ternary.0 hd.e2-ternary.0 he h2 inverse);
  }

  pub soundness : (s : List ℕ) (dummy : Triple) (c1 c2 : List ℕ) (t : Triple) → TernaryTriple S dummy → Element S c1 → Element S c2
      → decapsulation S a b i s dummy c1 c2 ≡ found t → Encapsulates S a b c1 c2 t
  unfolding decapsulation core
  soundness s dummy c1 c2 t hd h1 h2 e = (
    found-ternary S G a b i s dummy c1 c2 t e,
    subst (Formula S a b c1 c2) (judged-found S G dummy _ t e).1 (formula-back dummy c1 c2 _ hd h1 h2 (G.remainders-element _)),
  )
