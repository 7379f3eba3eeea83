-- What decapsulation by a sound key finds, and what both openings say of it.
use mathlib.Core.Path.{◌≡◌, refl, sym, ap}
use mathlib.Core.Bool.{Bool, true, false, not-eq-not}
use mathlib.Core.Logic.{◌↔◌, ◌⊎◌, inl, inr}
use mathlib.Core.List.{List}
use Prim.Native.Nat.{ℕ}
use native.Mathlib.Omega.{arith}
use Rattle.exactness.specs.Promises.{Exact}
use Rattle.ring.specs.Ring.{Element}
use Rattle.scheme.specs.Scheme.{Triple, Outcome, found, failed, setting}
use Rattle.exactness.specs.Scheme.{SoundKey}
use Rattle.scheme.proofs.Exactness.{exact, found-ternary}
use Rattle.encoding.proofs.Codes.{ternary_of-ternary}
use Rattle.sampling.proofs.NoiseLaws.{ternary_noise-ternary}
use Rattle.derivation.specs.Derivation.{tag_of, is_genuine}
use Rattle.answers.specs.declared.Refusal.TheVariants.{TagMismatch}
use Rattle.answers.specs.Answers.{number, unless, Done}
use Rattle.records.specs.Records.{first_of, second_of}
use Rattle.triples.specs.Triple.{triple_of}
use Rattle.secret_keys.specs.SecretKeys.{KeyElements, elements_of}
use Rattle.keys.specs.Keys.{noise_triple}
use Rattle.calls.specs.Calls.{outcome, outcome_answer, opened_answer}
use Rattle.calls.specs.Promises.{Accepted, Ternaries}
use Rattle.answers.proofs.AnswerLaws.{unless-refuses}
use Rattle.derivation.proofs.Laws.{genuine_iff}
use Rattle.secret_keys.proofs.ElementLaws.{secret-elements, secret-sound}
use Rattle.calls.proofs.CheckExact.{accepted-done}

-- ---- dummies are ternary, whatever bytes are lent

pub coded-ternary : (d : List ℕ) → Ternaries (triple_of d)
coded-ternary d = record { r-ternary = ternary_of-ternary _; e1-ternary = ternary_of-ternary _; e2-ternary = ternary_of-ternary _ }

pub noise-ternary : (noise : List ℕ) → Ternaries (noise_triple noise)
noise-ternary noise = record { r-ternary = ternary_noise-ternary _; e1-ternary = ternary_noise-ternary _; e2-ternary = ternary_noise-ternary _ }

-- ---- exactness of the outcome, for a sound key

abbrev pub Sound : KeyElements → Type 0
Sound key = SoundKey setting key.a key.b key.inverse key.s

pub accepted-sound : (k : List ℕ) → Accepted k → Sound (elements_of k)
accepted-sound k accepted =
    let done = accepted-done k accepted in
    rw (secret-elements k done) (secret-sound k done)

-- its a and b
pub accepted-a : (k : List ℕ) → Accepted k → first_of k ≡ (elements_of k).a
accepted-a k accepted = sym (ap (λ (p : KeyElements). p.a) (secret-elements k (accepted-done k accepted)))

pub accepted-b : (k : List ℕ) → Accepted k → second_of k ≡ (elements_of k).b
accepted-b k accepted = sym (ap (λ (p : KeyElements). p.b) (secret-elements k (accepted-done k accepted)))

module _ (key : KeyElements) (c1 c2 : List ℕ) (dummy : Triple) where
  pub outcome-exact : Sound key → Element c1 → Element c2 → Ternaries dummy → Exact setting key.a key.b key.inverse key.s c1 c2 dummy
  outcome-exact = exact key.a key.b key.inverse key.s c1 c2 dummy

  -- under another dummy it is the same
  pub outcome_free : Sound key → Element c1 → Element c2 → Ternaries dummy → (other : Triple) → Ternaries other → outcome key other c1 c2 ≡ outcome key dummy c1 c2
  unfolding outcome
  outcome_free sound h1 h2 h other ho = sym ((outcome-exact sound h1 h2 h).dummy_free other ho)

  pub outcome-ternary : (t : Triple) → outcome key dummy c1 c2 ≡ found t → Ternaries t
  unfolding outcome
  outcome-ternary t e = found-ternary key.a key.b key.inverse key.s dummy c1 c2 t e

-- ---- 0 and 9 of bare opening

pub found-answer : (o : Outcome) → ((t : Triple) × (o ≡ found t)) ↔ (number (outcome_answer o) ≡ 0)
found-answer o = (λ (t, e). ap (λ (x : Outcome). number (outcome_answer x)) e, says o)
  where
    says : (o : Outcome) → number (outcome_answer o) ≡ 0 → (t : Triple) × (o ≡ found t)
    says (found t) e = (t, refl)
    says failed e = absurd (omega arith)

pub failed-answer : (o : Outcome) → (o ≡ failed) ↔ (number (outcome_answer o) ≡ 9)
failed-answer o = (λ e. ap (λ (x : Outcome). number (outcome_answer x)) e, says o)
  where
    says : (o : Outcome) → number (outcome_answer o) ≡ 9 → o ≡ failed
    says (found t) e = absurd (omega arith)
    says failed e = refl

-- ---- 0, 10 and 9 of opening a sealed entry

pub right-tag : (t : Triple) (body tag : List ℕ) → tag ≡ tag_of t.r t.e1 t.e2 body → opened_answer (found t) body tag ≡ Done
right-tag t body tag e = rw ((genuine_iff t.r t.e1 t.e2 body tag).1 e)

pub wrong-tag : (t : Triple) (body tag : List ℕ) → ¬ (tag ≡ tag_of t.r t.e1 t.e2 body) → number (opened_answer (found t) body tag) ≡ 10
wrong-tag t body tag other =
    (unless-refuses (is_genuine t.r t.e1 t.e2 body tag) TagMismatch).1
    (not-eq-not.0 (λ e. other ((genuine_iff t.r t.e1 t.e2 body tag).0 e)))

pub found-opened : (o : Outcome) (body tag : List ℕ)
    → ((t : Triple) × (o ≡ found t)) ↔ ((number (opened_answer o body tag) ≡ 0) ⊎ (number (opened_answer o body tag) ≡ 10))
found-opened o body tag = (λ (t, e). rw e (either (is_genuine t.r t.e1 t.e2 body tag)), says o)
  where
    either : (genuine : Bool) → (number (unless genuine TagMismatch Done) ≡ 0) ⊎ (number (unless genuine TagMismatch Done) ≡ 10)
    either true = inl refl
    either false = inr refl

    says : (o : Outcome) → (number (opened_answer o body tag) ≡ 0) ⊎ (number (opened_answer o body tag) ≡ 10) → (t : Triple) × (o ≡ found t)
    says (found t) e = (t, refl)
    says failed (inl e) = absurd (omega arith)
    says failed (inr e) = absurd (omega arith)

pub failed-opened : (o : Outcome) (body tag : List ℕ) → (o ≡ failed) ↔ (number (opened_answer o body tag) ≡ 9)
failed-opened o body tag = (λ e. ap (λ (x : Outcome). number (opened_answer x body tag)) e, says o)
  where
    not_nine : (genuine : Bool) → ¬ (number (unless genuine TagMismatch Done) ≡ 9)
    not_nine true e = omega arith
    not_nine false e = omega arith

    says : (o : Outcome) → number (opened_answer o body tag) ≡ 9 → o ≡ failed
    says (found t) e = absurd (not_nine (is_genuine t.r t.e1 t.e2 body tag) e)
    says failed e = refl
