-- Exactness: for a sound key, elements c1 and c2 and any ternary dummy, decapsulation answers by whether there is a triple.
use mathlib.Core.Path.{◌≡◌, refl, sym, ◌∙◌}
use mathlib.Core.List.{List}
use Prim.Native.Nat.{ℕ}
use Rattle.exactness.specs.Setting.{Setting, Element}
use Rattle.exactness.specs.Scheme.{Triple, Outcome, found, failed, masked, decapsulation, TernaryTriple, Encapsulates, HasTriple, SoundKey}
use Rattle.exactness.specs.Givens.{Givens}
use Rattle.exactness.specs.Promises.{Exact}
use Rattle.exactness.proofs.Outcomes.{never-found, found-same}
use Rattle.exactness.proofs.Soundness.{soundness}
use Rattle.exactness.proofs.Completeness.{completeness}

-- what the formula makes of a ternary triple opens to it
pub round_trip : (S : Setting) → Givens S → (a b i s : List ℕ) (dummy t : Triple) → SoundKey S a b i s → TernaryTriple S dummy → TernaryTriple S t
    → decapsulation S a b i s dummy (masked S a t.r t.e1) (masked S b t.r t.e2) ≡ found t
round_trip S G a b i s dummy t key hd ht = completeness S G a b i s dummy _ _ t key hd (ht, record { first = refl; second = refl })

module _ (S : Setting) (G : Givens S) (a b i s c1 c2 : List ℕ) (key : SoundKey S a b i s) (h1 : Element S c1) (h2 : Element S c2) where
  abbrev outcome : Triple → Outcome
  outcome dummy = decapsulation S a b i s dummy c1 c2

  complete : (dummy t : Triple) → TernaryTriple S dummy → Encapsulates S a b c1 c2 t → outcome dummy ≡ found t
  complete dummy t hd m = completeness S G a b i s dummy c1 c2 t key hd m

  sound : (dummy t : Triple) → TernaryTriple S dummy → outcome dummy ≡ found t → Encapsulates S a b c1 c2 t
  sound dummy t hd e = soundness S G a b i key.a-element key.b-element key.i-element key.inverse s dummy c1 c2 t hd h1 h2 e

  -- none is found where there is none
  fails : (dummy : Triple) → TernaryTriple S dummy → ¬ (HasTriple S a b c1 c2) → (o : Outcome) → outcome dummy ≡ o → outcome dummy ≡ failed
  fails dummy hd none failed e = e
  fails dummy hd none (found t) e = absurd (none (t, sound dummy t hd e))

  none : (dummy : Triple) → TernaryTriple S dummy → outcome dummy ≡ failed → ¬ (HasTriple S a b c1 c2)
  none dummy hd e (t, m) = never-found t (sym e ∙ complete dummy t hd m)

  same : (dummy other : Triple) → TernaryTriple S dummy → TernaryTriple S other → (o : Outcome) → outcome dummy ≡ o → outcome dummy ≡ outcome other
  same dummy other hd ho failed e = e ∙ sym (fails other ho (none dummy hd e) (outcome other) refl)
  same dummy other hd ho (found t) e = e ∙ sym (complete other t ho (sound dummy t hd e))

  pub exact : (dummy : Triple) → TernaryTriple S dummy → Exact S a b i s c1 c2 dummy
  exact dummy hd = record {
    opens = λ t. (complete dummy t hd, sound dummy t hd);
    answers = ((λ (t, m). (t, complete dummy t hd m)), (λ (t, e). (t, sound dummy t hd e)));
    refuses = ((λ f. fails dummy hd f (outcome dummy) refl), none dummy hd);
    unique = λ t u m k. found-same t u (sym (complete dummy t hd m) ∙ complete dummy u hd k);
    dummy_free = λ other ho. same dummy other hd ho (outcome dummy) refl;
  }
