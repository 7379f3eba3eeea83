-- Laws of `map` and `zip_with`.
use mathlib.Core.Path.{◌≡◌, refl, ap, ap₂}
use mathlib.Core.List.{List, [], ◌∷◌, ◌++◌, map, zip_with}
use Prim.Native.Nat.{ℕ, zero, suc, ◌<◌}
use native.Mathlib.Nat.{suc_inj}
use native.Mathlib.Omega.{arith}
use lib.ListN.{length, get_or, take, drop}

pub cons {ℓ} : {A : Type ℓ} {x y : A} {a b : List A} → x ≡ y → a ≡ b → x ∷ a ≡ y ∷ b
cons {A = A} p q = ap₂ (λ (x : A) (l : List A). x ∷ l) p q

-- ---- map

module _ {ℓ κ} {A : Type ℓ} {B : Type κ} where
  pub map-append : (f : A → B) (a b : List A) → map f (a ++ b) ≡ map f a ++ map f b
  map-append f [] b = refl
  map-append f (x ∷ a) b = cons refl (map-append f a b)

  pub map-take : (f : A → B) (n : ℕ) (a : List A) → map f (take n a) ≡ take n (map f a)
  map-take f zero a = refl
  map-take f (suc n) [] = refl
  map-take f (suc n) (x ∷ a) = cons refl (map-take f n a)

  pub map-drop : (f : A → B) (n : ℕ) (a : List A) → map f (drop n a) ≡ drop n (map f a)
  map-drop f zero a = refl
  map-drop f (suc n) [] = refl
  map-drop f (suc n) (x ∷ a) = map-drop f n a

  pub map_same : (f g : A → B) → ((x : A) → f x ≡ g x) → (a : List A) → map f a ≡ map g a
  map_same f g h [] = refl
  map_same f g h (x ∷ a) = cons (h x) (map_same f g h a)

  -- the entry at k, whatever stands past the end
  pub get_d_map : (f : A → B) (a : List A) (k : ℕ) (d : A) (e : B) → k < length a → get_or (map f a) k e ≡ f (get_or a k d)
  get_d_map f [] k d e h = absurd (omega arith)
  get_d_map f (x ∷ a) zero d e h = refl
  get_d_map f (x ∷ a) (suc k) d e h = get_d_map f a k d e (omega arith)

pub map-map {ℓ κ μ} : {A : Type ℓ} {B : Type κ} {C : Type μ} (f : A → B) (g : B → C) (a : List A) → map g (map f a) ≡ map (λ x. g (f x)) a
map-map f g [] = refl
map-map f g (x ∷ a) = cons refl (map-map f g a)

pub map-id {ℓ} : {A : Type ℓ} (f : A → A) → ((x : A) → f x ≡ x) → (a : List A) → map f a ≡ a
map-id f h [] = refl
map-id f h (x ∷ a) = cons (h x) (map-id f h a)

-- ---- zip_with

module _ {ℓ κ μ} {A : Type ℓ} {B : Type κ} {C : Type μ} where
  pub length-zip_with : (f : A → B → C) (a : List A) (b : List B) → length a ≡ length b → length (zip_with f a b) ≡ length a
  unfolding zip_with
  length-zip_with f [] b h = refl
  length-zip_with f (x ∷ a) [] h = absurd (omega arith)
  length-zip_with f (x ∷ a) (y ∷ b) h = ap suc (length-zip_with f a b (suc_inj h))

  pub zip_with-append : (f : A → B → C) (a : List A) (b : List B) (a' : List A) (b' : List B) → length a ≡ length b
      → zip_with f (a ++ a') (b ++ b') ≡ zip_with f a b ++ zip_with f a' b'
  unfolding zip_with
  zip_with-append f [] [] a' b' h = refl
  zip_with-append f [] (y ∷ b) a' b' h = absurd (omega arith)
  zip_with-append f (x ∷ a) [] a' b' h = absurd (omega arith)
  zip_with-append f (x ∷ a) (y ∷ b) a' b' h = cons refl (zip_with-append f a b a' b' (suc_inj h))

  pub get_or-zip_with : (f : A → B → C) (a : List A) (b : List B) (k : ℕ) (d : A) (d' : B) (e : C) → k < length a → k < length b
      → get_or (zip_with f a b) k e ≡ f (get_or a k d) (get_or b k d')
  unfolding zip_with
  get_or-zip_with f [] b k d d' e h h' = absurd (omega arith)
  get_or-zip_with f (x ∷ a) [] k d d' e h h' = absurd (omega arith)
  get_or-zip_with f (x ∷ a) (y ∷ b) zero d d' e h h' = refl
  get_or-zip_with f (x ∷ a) (y ∷ b) (suc k) d d' e h h' = get_or-zip_with f a b k d d' e (omega arith) (omega arith)

  -- where f x y does not depend on y, or not on x
  pub zip_with-left : (f : A → B → C) (g : A → C) → ((x : A) (y : B) → f x y ≡ g x) → (a : List A) (b : List B) → length a ≡ length b
      → zip_with f a b ≡ map g a
  unfolding zip_with
  zip_with-left f g e [] b h = refl
  zip_with-left f g e (x ∷ a) [] h = absurd (omega arith)
  zip_with-left f g e (x ∷ a) (y ∷ b) h = cons (e x y) (zip_with-left f g e a b (suc_inj h))

  pub zip_with-right : (f : A → B → C) (g : B → C) → ((x : A) (y : B) → f x y ≡ g y) → (a : List A) (b : List B) → length a ≡ length b
      → zip_with f a b ≡ map g b
  unfolding zip_with
  zip_with-right f g e [] [] h = refl
  zip_with-right f g e [] (y ∷ b) h = absurd (omega arith)
  zip_with-right f g e (x ∷ a) [] h = absurd (omega arith)
  zip_with-right f g e (x ∷ a) (y ∷ b) h = cons (e x y) (zip_with-right f g e a b (suc_inj h))

  pub zip_with-same : (f g : A → B → C) → ((x : A) (y : B) → f x y ≡ g x y) → (a : List A) (b : List B) → zip_with f a b ≡ zip_with g a b
  unfolding zip_with
  zip_with-same f g e [] b = refl
  zip_with-same f g e (x ∷ a) [] = refl
  zip_with-same f g e (x ∷ a) (y ∷ b) = cons (e x y) (zip_with-same f g e a b)

pub map-zip {ℓ κ} : {A : Type ℓ} {B : Type κ} (h : A → B) (f : A → A → A) (a b : List A) → map h (zip_with f a b) ≡ zip_with (λ x y. h (f x y)) a b
unfolding zip_with
map-zip h f [] b = refl
map-zip h f (x ∷ a) [] = refl
map-zip h f (x ∷ a) (y ∷ b) = cons refl (map-zip h f a b)

-- a map h that takes f to g takes `zip_with f` to `zip_with g`
pub map-zip_with {ℓ κ} : {A : Type ℓ} {B : Type κ} (h : A → B) (f : A → A → A) (g : B → B → B) → ((x y : A) → h (f x y) ≡ g (h x) (h y))
    → (a b : List A) → map h (zip_with f a b) ≡ zip_with g (map h a) (map h b)
unfolding zip_with
map-zip_with h f g e [] b = refl
map-zip_with h f g e (x ∷ a) [] = refl
map-zip_with h f g e (x ∷ a) (y ∷ b) = cons (e x y) (map-zip_with h f g e a b)

-- h at the results of f and of g, entry by entry
pub zip_with-zip_with {ℓ} : {A : Type ℓ} (h f g : A → A → A) (a b : List A)
    → zip_with h (zip_with f a b) (zip_with g a b) ≡ zip_with (λ x y. h (f x y) (g x y)) a b
unfolding zip_with
zip_with-zip_with h f g [] b = refl
zip_with-zip_with h f g (x ∷ a) [] = refl
zip_with-zip_with h f g (x ∷ a) (y ∷ b) = cons refl (zip_with-zip_with h f g a b)
