-- What the tests of steps 4 and 5 say, and what an outcome says of them.
use mathlib.Core.Path.{◌≡◌, refl, ◌∙◌, subst}
use mathlib.Core.Bool.{Bool, true, false, ◌&&◌, and-eq-true_iff}
use mathlib.Core.List.{List}
use Prim.Native.Nat.{ℕ}
use native.Mathlib.Omega.{arith}
use Rattle.exactness.specs.Setting.{Setting, Element}
use Rattle.exactness.specs.Scheme.{Triple, Outcome, found, failed, provided, TernaryTriple}
use Rattle.exactness.specs.Scheme.{without_dummy, recovers, is_ternary, judged, core, decapsulation}
use Rattle.exactness.specs.Givens.{Givens}
use Rattle.exactness.specs.Promises.{TripleWithin}
use Rattle.exactness.proofs.Elements.{difference-element}

-- ---- outcomes

pub never-found : (t : Triple) → failed ≡ found t → ⊥
never-found t h = let k : ◌≡◌ {A = ℕ} 0 1 = cc in omega arith

pub found-same : (t u : Triple) → found t ≡ found u → t ≡ u
found-same t u h = cc

pub provided-true : (b : Bool) (o : Outcome) → b ≡ true → provided b o ≡ o
provided-true b o h = rw h

pub provided-found : (b : Bool) (o : Outcome) (t : Triple) → provided b o ≡ found t → (b ≡ true) × (o ≡ found t)
provided-found true o t h = (refl, h)
provided-found false o t h = absurd (never-found t h)

-- ---- the tests

module _ (S : Setting) (G : Givens S) where
  pub recovers-true : (t : Triple) → TripleWithin S 2 t → recovers S t ≡ true
  unfolding recovers
  recovers-true t h = (and-eq-true_iff (S.is_within 2 t.r) (S.is_within 2 t.e1)).1 (
    (G.within_iff 2 t.r h.r_bounded.0.size).1 h.r_bounded.1,
    (G.within_iff 2 t.e1 h.e1_bounded.0.size).1 h.e1_bounded.1,
  )

  true-ternary : (t : Triple) → Element S t.r → Element S t.e1 → Element S t.e2 → is_ternary S t ≡ true → TernaryTriple S t
  unfolding is_ternary
  true-ternary t hr h1 h2 e =
      let (front, last) = (and-eq-true_iff (S.is_within 1 t.r && S.is_within 1 t.e1) (S.is_within 1 t.e2)).0 e in
      let (first, second) = (and-eq-true_iff (S.is_within 1 t.r) (S.is_within 1 t.e1)).0 front in
      record {
        r-ternary = (hr, (G.within_iff 1 t.r hr.size).0 first);
        e1-ternary = (h1, (G.within_iff 1 t.e1 h1.size).0 second);
        e2-ternary = (h2, (G.within_iff 1 t.e2 h2.size).0 last);
      }

  pub ternary-true : (t : Triple) → TernaryTriple S t → is_ternary S t ≡ true
  unfolding is_ternary
  ternary-true t h = (and-eq-true_iff (S.is_within 1 t.r && S.is_within 1 t.e1) (S.is_within 1 t.e2)).1 (
    (and-eq-true_iff (S.is_within 1 t.r) (S.is_within 1 t.e1)).1 (
      (G.within_iff 1 t.r h.r-ternary.0.size).1 h.r-ternary.1,
      (G.within_iff 1 t.e1 h.e1-ternary.0.size).1 h.e1-ternary.1,
    ),
    (G.within_iff 1 t.e2 h.e2-ternary.0.size).1 h.e2-ternary.1,
  )

  -- ---- steps 4 and 5

  pub judged_passes : (dummy t : Triple) → TripleWithin S 2 t → TernaryTriple S (without_dummy S dummy t) → judged S dummy t ≡ found (without_dummy S dummy t)
  unfolding judged
  judged_passes dummy t h g =
      provided-true (recovers S t) _ (recovers-true t h) ∙ provided-true (is_ternary S (without_dummy S dummy t)) _ (ternary-true (without_dummy S dummy t) g)

  -- what is found is R, E1, E2 less the dummy, and passed the last test
  pub judged-found : (dummy t u : Triple) → judged S dummy t ≡ found u → (is_ternary S (without_dummy S dummy t) ≡ true) × (without_dummy S dummy t ≡ u)
  unfolding judged
  judged-found dummy t u e =
      let (near, rest) = provided-found (recovers S t) _ u e in
      let (short, same) = provided-found (is_ternary S (without_dummy S dummy t)) _ u rest in
      (short, found-same (without_dummy S dummy t) u same)

  -- so it is ternary, whatever the dummy, R, E1 and E2
  judged-ternary : (dummy t u : Triple) → judged S dummy t ≡ found u → TernaryTriple S u
  unfolding without_dummy
  judged-ternary dummy t u e =
      let (short, same) = judged-found dummy t u e in
      subst (TernaryTriple S) same
      (true-ternary (without_dummy S dummy t) (difference-element S G _ _) (difference-element S G _ _) (difference-element S G _ _) short)

  pub found-ternary : (a b i s : List ℕ) (dummy : Triple) (c1 c2 : List ℕ) (t : Triple) → decapsulation S a b i s dummy c1 c2 ≡ found t
      → TernaryTriple S t
  unfolding decapsulation core
  found-ternary a b i s dummy c1 c2 t e = judged-ternary dummy _ t e
