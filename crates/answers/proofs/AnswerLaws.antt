-- Laws of answers: what a chain of checks says.
use mathlib.Core.Path.{◌≡◌, refl, sym, ap, ◌∙◌}
use mathlib.Core.Bool.{Bool, true, false, true≢false, false≢true, decide, decide_iff, not-eq-not}
use mathlib.Core.Logic.{◌↔◌, ◌⊎◌, inl, inr, ⊎_elim}
use Prim.Native.Nat.{ℕ, ◌<◌}
use native.Mathlib.Omega.{arith}
use Rattle.answers.specs.declared.Refusal.{Refusal}
use Rattle.answers.specs.declared.Refusal.TheVariants.{WrongLength, WrongMark, WrongVersion, KeyOutOfRange, InvalidCode}
use Rattle.answers.specs.declared.Refusal.TheVariants.{NotInvertible, KeyMismatch, StreamExhausted, DecapsulationFailure, TagMismatch, EncapsulationOutOfRange, WrongCount, InverseMismatch}
use Rattle.answers.specs.declared.Location.{Location}
use Rattle.answers.specs.Answers.{refusal_number, number, unless, and_then, on_done, given_or, Answer, Done}
use Rattle.answers.specs.Locations.{Names}
use Rattle.std.specs.Prelude.{Result, Ok, Err}

-- ---- 0 is Done

pub refusal-positive : (r : Refusal) → 0 < refusal_number r
refusal-positive WrongLength = omega arith
refusal-positive WrongMark = omega arith
refusal-positive WrongVersion = omega arith
refusal-positive (KeyOutOfRange k) = omega arith
refusal-positive InvalidCode = omega arith
refusal-positive NotInvertible = omega arith
refusal-positive KeyMismatch = omega arith
refusal-positive StreamExhausted = omega arith
refusal-positive DecapsulationFailure = omega arith
refusal-positive TagMismatch = omega arith
refusal-positive (EncapsulationOutOfRange c) = omega arith
refusal-positive WrongCount = omega arith
refusal-positive InverseMismatch = omega arith

refusal-not-zero : (r : Refusal) → ¬ (refusal_number r ≡ 0)
refusal-not-zero r e = omega (arith, refusal-positive r, e)

pub not_done : {r : Refusal} → ¬ (Err r ≡ Done)
not_done {r} e = refusal-not-zero r (ap number e)

pub number-done : (a : Answer) → (number a ≡ 0) ↔ (a ≡ Done)
number-done a = (zero a, λ e. ap number e)
  where
    zero : (a : Answer) → number a ≡ 0 → a ≡ Done
    zero (Ok _) e = refl
    zero (Err r) e = absurd (refusal-not-zero r e)

-- ---- a chain of checks says Done exactly when each check does

pub unless-done : (t : Bool) (r : Refusal) (a : Answer) → (unless t r a ≡ Done) ↔ ((t ≡ true) × (a ≡ Done))
unless-done true r a = (λ e. (refl, e), λ (p, e). e)
unless-done false r a = (λ e. absurd (not_done e), λ (p, e). absurd (false≢true p))

pub then-done : (a b : Answer) → (and_then a b ≡ Done) ↔ ((a ≡ Done) × (b ≡ Done))
then-done (Ok _) b = (λ e. (refl, e), λ (p, e). e)
then-done (Err r) b = (λ e. absurd (not_done e), λ (p, e). absurd (not_done p))

-- ---- one check: it passes, or it refuses

pub unless_passed : {t : Bool} (r : Refusal) (a : Answer) → t ≡ true → unless t r a ≡ a
unless_passed r a e = rw e

pub unless-failed : {t : Bool} (r : Refusal) (a : Answer) → t ≡ false → unless t r a ≡ Err r
unless-failed r a e = rw e

pub then_passed : {A : Type 0} {a : Answer} (b : Result A Refusal) → a ≡ Done → and_then a b ≡ b
then_passed b e = rw e

-- a test on its own, before what follows
pub unless-then : {A : Type 0} (t : Bool) (r : Refusal) (a : Result A Refusal) → and_then (unless t r Done) a ≡ unless t r a
unless-then true r a = refl
unless-then false r a = refl

-- where nothing follows
pub then_nothing : (a : Answer) → and_then a Done ≡ a
then_nothing (Ok _) = refl
then_nothing (Err r) = refl

pub then-failed : {A : Type 0} {a : Answer} {r : Refusal} (b : Result A Refusal) → a ≡ Err r → and_then a b ≡ Err r
then-failed b e = rw e

-- ---- a chain of checks says a number of its own

-- the answer is not that of the number n
pub record Never (n : ℕ) (a : Answer) : Type 0 where
  pub never : ¬ (number a ≡ n)

pub done_never : {n : ℕ} → 0 < n → Never n Done
done_never h = record { never = λ e. omega arith }

pub unless_never : {n : ℕ} (t : Bool) (r : Refusal) {a : Answer} → ¬ (refusal_number r ≡ n) → Never n a → Never n (unless t r a)
unless_never true r other rest = rest
unless_never false r other rest = record { never = other }

pub then_never : {n : ℕ} {a b : Answer} → Never n a → Never n b → Never n (and_then a b)
then_never {a = Ok _} first rest = rest
then_never {a = Err r} first rest = first

-- the number of a check that follows, and not of this one
pub unless-says : (n : ℕ) (t : Bool) (r : Refusal) (a : Answer) → ¬ (refusal_number r ≡ n)
    → (number (unless t r a) ≡ n) ↔ ((t ≡ true) × (number a ≡ n))
unless-says n true r a other = (λ e. (refl, e), λ (p, e). e)
unless-says n false r a other = (λ e. absurd (other e), λ (p, e). absurd (false≢true p))

pub then-says : {n : ℕ} {a : Answer} (b : Answer) → Never n a → (number (and_then a b) ≡ n) ↔ ((a ≡ Done) × (number b ≡ n))
then-says {a = Ok _} b first = (λ e. (refl, e), λ (p, e). e)
then-says {a = Err r} b first = (λ e. absurd (first.never e), λ (p, e). absurd (not_done p))

-- the number of this check, and not of those that follow
pub unless-refuses : (t : Bool) (r : Refusal) → (number (unless t r Done) ≡ refusal_number r) ↔ (t ≡ false)
unless-refuses true r = (λ e. absurd (refusal-not-zero r (sym e)), λ p. absurd (true≢false p))
unless-refuses false r = (λ e. refl, λ p. refl)

-- a test of what is decided
pub decided-done : {F : Type 0} (d : Dec F) (r : Refusal) → (unless (decide d) r Done ≡ Done) ↔ F
decided-done d r = (λ e. (decide_iff d).0 ((unless-done (decide d) r Done).0 e).0, λ h. (unless-done (decide d) r Done).1 ((decide_iff d).1 h, refl))

pub decided-refuses : {F : Type 0} (d : Dec F) (r : Refusal) → (number (unless (decide d) r Done) ≡ refusal_number r) ↔ ¬ F
decided-refuses d r = (
  λ e h. true≢false (sym ((decide_iff d).1 h) ∙ (unless-refuses (decide d) r).0 e),
  λ none. (unless-refuses (decide d) r).1 (not-eq-not.0 (λ e. none ((decide_iff d).0 e))),
)

-- a test that says its number where F does not hold; no check behind it has that number
pub fails-here : {t : Bool} {F : Type 0} (r : Refusal) {a : Answer} → (t ≡ true) ↔ F → Never (refusal_number r) a
    → (number (unless t r a) ≡ refusal_number r) ↔ ¬ F
fails-here {t = true} r f rest = (λ e. absurd (rest.never e), λ none. absurd (none (f.0 refl)))
fails-here {t = false} r f rest = (λ e h. false≢true (f.1 h), λ none. refl)

-- .. or a check behind it has that number, where G holds
pub fails_or : {t : Bool} {F G : Type 0} (r : Refusal) (a : Answer) → (t ≡ true) ↔ F → (F × (number a ≡ refusal_number r)) ↔ G
    → (number (unless t r a) ≡ refusal_number r) ↔ (¬ F ⊎ G)
fails_or {t = true} r a f g = (λ e. inr (g.0 (f.0 refl, e)), ⊎_elim (λ none. absurd (none (f.0 refl))) (λ h. (g.1 h).1))
fails_or {t = false} r a f g = (λ e. inl (λ h. false≢true (f.1 h)), λ e. refl)

pub then-refuses : {n : ℕ} (a : Answer) {b : Answer} → 0 < n → Never n b → (number (and_then a b) ≡ n) ↔ (number a ≡ n)
then-refuses (Ok _) some rest = (λ e. absurd (rest.never e), λ e. absurd (omega arith))
then-refuses (Err r) some rest = (λ e. e, λ e. e)

-- this check, or where it passes the one that follows
pub says_either : {n : ℕ} (a b : Answer) → 0 < n → (number (and_then a b) ≡ n) ↔ ((number a ≡ n) ⊎ ((a ≡ Done) × (number b ≡ n)))
says_either (Ok _) b some = (λ e. inr (refl, e), ⊎_elim (λ e. absurd (omega arith)) (λ (p, e). e))
says_either (Err r) b some = (λ e. inl e, ⊎_elim (λ e. e) (λ (p, e). absurd (not_done p)))

-- ---- a chain of checks says a number and names a word

pub unless_names : (n : ℕ) (l : Location) (t : Bool) (r : Refusal) (a : Answer) → ¬ (refusal_number r ≡ n)
    → Names n l (unless t r a) ↔ ((t ≡ true) × Names n l a)
unless_names n l true r a other = (λ e. (refl, e), λ (p, e). e)
unless_names n l false r a other = (λ e. absurd (other e.0), λ (p, e). absurd (false≢true p))

pub then_names : {n : ℕ} {l : Location} {a : Answer} (b : Answer) → Never n a → Names n l (and_then a b) ↔ ((a ≡ Done) × Names n l b)
then_names {a = Ok _} b first = (λ e. (refl, e), λ (p, e). e)
then_names {a = Err r} b first = (λ e. absurd (first.never e.0), λ (p, e). absurd (not_done p))

-- this check, and none of those that follow
pub names-first : {n : ℕ} {l : Location} (a : Answer) {b : Answer} → 0 < n → Never n b → Names n l (and_then a b) ↔ Names n l a
names-first (Ok _) some rest = (λ e. absurd (rest.never e.0), λ (e, p). absurd (omega arith))
names-first (Err r) some rest = (λ e. e, λ e. e)

-- this check, or where it passes the one that follows
pub names_either : {n : ℕ} {l : Location} (a b : Answer) → 0 < n → Names n l (and_then a b) ↔ (Names n l a ⊎ ((a ≡ Done) × Names n l b))
names_either (Ok _) b some = (λ e. inr (refl, e), ⊎_elim (λ (e, p). absurd (omega arith)) (λ (p, e). e))
names_either (Err r) b some = (λ e. inl e, ⊎_elim (λ e. e) (λ (p, e). absurd (not_done p)))

-- ---- outputs

pub on_done_lem : {A : Type 0} {a : Answer} (new old : A) → a ≡ Done → on_done a new old ≡ new
on_done_lem new old e = rw e

-- under any other number nothing has changed
pub on_refusal : {A : Type 0} (a : Answer) (new old : A) → ¬ (number a ≡ 0) → on_done a new old ≡ old
on_refusal (Ok _) new old other = absurd (other refl)
on_refusal (Err r) new old other = refl

-- ---- a call that gives a value where its checks are done

abbrev answer_of : {A : Type 0} → Result A Refusal → Answer
answer_of (Ok x) = Done
answer_of (Err r) = Err r

-- it gave the value, so they are
pub given-done : {A : Type 0} {a : Answer} {x y : A} → Ok x ≡ and_then a (Ok y) → (a ≡ Done) × (x ≡ y)
given-done {a = Ok _} {x} {y} e = (refl, ap (given_or x) e)
given-done {a = Err r} e = absurd (refusal-not-zero r (sym (ap number e)))

-- it refused, so one of them does
pub given-refused : {A : Type 0} {a : Answer} {r : Refusal} (y : A) → Err r ≡ and_then a (Ok y) → a ≡ Err r
given-refused {a = Ok _} {r} y e = absurd (refusal-not-zero r (ap number e))
given-refused {a = Err r'} {r} y e = sym (ap answer_of e)

-- what stands in its place is said by the answer
pub given_by : {A : Type 0} (a : Answer) (x none : A) → given_or none (and_then a (Ok x)) ≡ on_done a x none
given_by (Ok _) x none = refl
given_by (Err r) x none = refl

pub number_by : {A : Type 0} (a : Answer) (x : A) → number (and_then a (Ok x)) ≡ number a
number_by (Ok _) x = refl
number_by (Err r) x = refl
