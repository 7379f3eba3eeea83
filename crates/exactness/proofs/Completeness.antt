-- Completeness: for a sound key, what the formula makes of a ternary triple is decapsulated to that triple.
use mathlib.Core.Path.{◌≡◌, ap, ◌∙◌}
use mathlib.Core.List.{List}
use Prim.Native.Nat.{ℕ}
use Rattle.exactness.specs.Setting.{Setting}
use Rattle.exactness.specs.Scheme.{Triple, found, without_dummy, judged, core, decapsulation, TernaryTriple, Encapsulates, SoundKey}
use Rattle.exactness.specs.Givens.{Givens}
use Rattle.exactness.specs.Promises.{sums, Step1}
use Rattle.exactness.proofs.Step1.{step1, sums-without_dummy}
use Rattle.exactness.proofs.Recovery.{recovered_is}
use Rattle.exactness.proofs.Outcomes.{judged_passes}

module _ (S : Setting) (G : Givens S) where
  pub completeness : (a b i s : List ℕ) (dummy : Triple) (c1 c2 : List ℕ) (t : Triple) → SoundKey S a b i s → TernaryTriple S dummy
      → Encapsulates S a b c1 c2 t → decapsulation S a b i s dummy c1 c2 ≡ found t
  unfolding decapsulation core
  completeness a b i s dummy c1 c2 t key hd m =
      ap (judged S dummy) (recovered_is S G a b i s key _ _ (sums S t dummy) first.within first.formula)
      ∙ judged_passes S G dummy (sums S t dummy) first.within (rw same m.0)
      ∙ ap found same
    where
      first : Step1 S a b c1 c2 t dummy
      first = step1 S G a b c1 c2 t dummy key.a-element key.b-element m hd

      same : without_dummy S dummy (sums S t dummy) ≡ t
      same = sums-without_dummy S G t dummy m.0 hd
