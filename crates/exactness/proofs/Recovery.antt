-- Steps 2 to 4 recover a triple between - 2 and 2 from its sums; so no two such triples have the same sums.
use mathlib.Core.Path.{◌≡◌, sym, ap, ◌∙◌}
use mathlib.Core.List.{List}
use Prim.Native.Nat.{ℕ, ◌*◌}
use native.Mathlib.Omega.{arith}
use Rattle.exactness.specs.Setting.{Setting}
use Rattle.exactness.specs.Scheme.{Triple, phase, recovered, Formula, Matches, SoundKey}
use Rattle.exactness.specs.Givens.{Givens}
use Rattle.exactness.specs.Promises.{TripleWithin, phase_of, phase_quotient, Recovers}
use Rattle.exactness.proofs.Identities.{r-recovered, e1-recovered}
use Rattle.exactness.proofs.Noise.{noise-bound, largest-quotient}

module _ (S : Setting) (G : Givens S) (a b i s : List ℕ) (key : SoundKey S a b i s) where
  pub recovers : (t : Triple) → TripleWithin S 2 t → Recovers S a b i s t
  recovers t h = record {
    finds-e2 = by key.matches;
    finds-r = r-recovered S G b i t.r t.e2 key.b-element key.i-element h.r_bounded.0 h.e2_bounded.0 key.inverse;
    finds-e1 = e1-recovered S G a t.r t.e1 h.e1_bounded.0;
  }
    where
      by : Matches S a b s → S.remainders (phase_of S a b s t) ≡ t.e2
      by (e, he, is) =
          ap (λ (x : List ℕ). S.remainders (phase_of S a x s t)) is
          ∙ ap S.remainders (noise-bound S G a s e t key.a-element key.s-ternary.0 he.0 h).split
          ∙ G.remainders_are (4 * G.κ * S.n) t.e2 (phase_quotient S s e t) (omega (arith, G.noise-bound)) h.e2_bounded
          (largest-quotient S G s e key.s-ternary he t h)

  -- the triple of c1 and c2, by steps 2 to 4
  pub recovered_is : (c1 c2 : List ℕ) (t : Triple) → TripleWithin S 2 t → Formula S a b c1 c2 t
      → recovered S a i c1 c2 (S.remainders (phase S c2 (S.product c1 s))) ≡ t
  unfolding recovered
  recovered_is c1 c2 t h f = rw (f.first, f.second, (recovers t h).finds-e2, (recovers t h).finds-r, (recovers t h).finds-e1)

  pub unique-within_2 : (c1 c2 : List ℕ) (t u : Triple) → TripleWithin S 2 t → TripleWithin S 2 u
      → Formula S a b c1 c2 t → Formula S a b c1 c2 u → t ≡ u
  unique-within_2 c1 c2 t u ht hu ft fu = sym (recovered_is c1 c2 t ht ft) ∙ recovered_is c1 c2 u hu fu
