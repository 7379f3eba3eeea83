-- The noise bound, by the weight of s and e.
use mathlib.Core.Path.{◌≡◌}
use mathlib.Core.List.{List}
use Prim.Native.Nat.{ℕ, ◌+◌, ◌*◌, ◌≤◌}
use native.Mathlib.Nat.{le_refl, mul-le-mul}
use native.Mathlib.Omega.{arith}
use Rattle.exactness.specs.Setting.{Setting, Element, Within, Ternary, weight, sum, multiple}
use Rattle.exactness.specs.Scheme.{Triple, key_element, Matches, SoundKey}
use Rattle.exactness.specs.Givens.{Givens}
use Rattle.exactness.specs.Promises.{TripleWithin, phase_of, phase_quotient, NoiseBound}
use Rattle.exactness.proofs.Identities.{product_comm, phase-split}
use Rattle.exactness.proofs.Sizes.{within-up, weight-bound, sum-size, difference-size, multiple-size, product-size}

module _ (S : Setting) (G : Givens S) where
  -- w, of e × R and of s × E1
  quotient-size : (s e : List ℕ) (t : Triple) → Element S s → Element S e → TripleWithin S 2 t
      → Within S (2 * G.κ * (weight S s + weight S e)) (phase_quotient S s e t)
  unfolding phase_quotient
  quotient-size s e t hs he h =
      within-up S (phase_quotient S s e t) (omega arith)
      (difference-size S G (weight S e * (G.κ * 2)) (weight S s * (G.κ * 2)) (S.product e t.r) (S.product t.e1 s)
      (product-size S G 2 e t.r he.size h.r_bounded.0.size h.r_bounded.1)
      (rw (product_comm S G t.e1 s h.e1_bounded.0 hs) (product-size S G 2 s t.e1 hs.size h.e1_bounded.0.size h.e1_bounded.1)))

  pub noise-bound : (a s e : List ℕ) (t : Triple) → Element S a → Element S s → Element S e → TripleWithin S 2 t → NoiseBound S G.κ a s e t
  noise-bound a s e t ha hs he h = record {
    split = is-split;
    quotient-bound = quotient-size s e t hs he h;
    bound = rw is-split (within-up S (sum S t.e2 (multiple S 5 (phase_quotient S s e t))) (omega arith)
        (sum-size S G 2 (5 * (2 * G.κ * (weight S s + weight S e))) t.e2 (multiple S 5 (phase_quotient S s e t)) h.e2_bounded.1
        (multiple-size S G 5 _ (phase_quotient S s e t) (quotient-size s e t hs he h))));
  }
    where
      is-split : phase_of S a (key_element S a s e) s t ≡ sum S t.e2 (multiple S 5 (phase_quotient S s e t))
      is-split = phase-split S G a s e t ha hs he h.r_bounded.0 h.e1_bounded.0 h.e2_bounded.0

  -- ---- a ternary s and a ternary e have a weight of at most 2 n

  module _ (s e : List ℕ) (hs : Ternary S s) (he : Ternary S e) where
    weights : weight S s + weight S e ≤ 2 * S.n
    weights = omega (arith, weight-bound S 1 s hs.1, weight-bound S 1 e he.1)

    spread_weights : G.κ * (weight S s + weight S e) ≤ G.κ * (2 * S.n)
    spread_weights = mul-le-mul (le_refl G.κ) weights

    pub largest-quotient : (t : Triple) → TripleWithin S 2 t → Within S (4 * G.κ * S.n) (phase_quotient S s e t)
    largest-quotient t h = within-up S (phase_quotient S s e t) (omega (arith, spread_weights)) (quotient-size s e t hs.0 he.0 h)

    largest_for : (a : List ℕ) (t : Triple) → Element S a → TripleWithin S 2 t → Within S (2 + 20 * G.κ * S.n) (phase_of S a (key_element S a s e) s t)
    largest_for a t ha h =
        within-up S (phase_of S a (key_element S a s e) s t) (omega (arith, spread_weights)) (noise-bound a s e t ha hs.0 he.0 h).bound

  pub largest-phase : (a b i s : List ℕ) (t : Triple) → SoundKey S a b i s → TripleWithin S 2 t → Within S (2 + 20 * G.κ * S.n) (phase_of S a b s t)
  largest-phase a b i s t key h = by key.matches
    where
      by : Matches S a b s → Within S (2 + 20 * G.κ * S.n) (phase_of S a b s t)
      by (e, he, is) = rw is (largest_for s e key.s-ternary he a t key.a-element h)
