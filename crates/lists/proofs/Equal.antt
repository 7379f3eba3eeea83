-- One function of several equal arguments.
use mathlib.Core.Path.{◌≡◌, ap, ap₂, ◌∙◌}

pub ap₃ : {A B C D : Type 0} (f : A → B → C → D) {a a' : A} {b b' : B} {c c' : C} → a ≡ a' → b ≡ b' → c ≡ c' → f a b c ≡ f a' b' c'
ap₃ {A} {B} f {a} {a'} {b} {b'} {c} {c'} p q r = ap₂ (λ (x : A) (y : B). f x y c) p q ∙ ap (f a' b') r

pub ap₄ : {A B C D E : Type 0} (f : A → B → C → D → E) {a a' : A} {b b' : B} {c c' : C} {d d' : D}
    → a ≡ a' → b ≡ b' → c ≡ c' → d ≡ d' → f a b c d ≡ f a' b' c' d'
ap₄ {A} {B} f {a} {a'} {b} {b'} {c} {c'} {d} {d'} p q r s = ap₂ (λ (x : A) (y : B). f x y c d) p q ∙ ap₂ (f a' b') r s

pub ap₅ : {A B C D E F : Type 0} (f : A → B → C → D → E → F) {a a' : A} {b b' : B} {c c' : C} {d d' : D} {e e' : E}
    → a ≡ a' → b ≡ b' → c ≡ c' → d ≡ d' → e ≡ e' → f a b c d e ≡ f a' b' c' d' e'
ap₅ {A} {B} {C} {D} f {a} {a'} {b} {b'} {c} {c'} {d} {d'} {e} {e'} p q r s t =
    ap₄ (λ (w : A) (x : B) (y : C) (z : D). f w x y z e) p q r s ∙ ap (f a' b' c' d') t
