-- Laws of `state`: it is known by its lanes, and they may be of 64 bits.
use mathlib.Core.Path.{◌≡◌, refl}
use mathlib.Core.List.{List, [], ◌∷◌}
use Prim.Native.Nat.{ℕ, zero, suc, ◌^◌, ◌<◌}
use native.Mathlib.Omega.{arith}
use lib.ListN.{get_or}
use Rattle.keccak_steps.specs.Steps.{State, lane, plane, state}

-- five equal lanes
pub lanes-same : {a0 b0 a1 b1 a2 b2 a3 b3 a4 b4 : ℕ} → a0 ≡ b0 → a1 ≡ b1 → a2 ≡ b2 → a3 ≡ b3 → a4 ≡ b4
    → ◌≡◌ {A = List ℕ} (a0 ∷ a1 ∷ a2 ∷ a3 ∷ a4 ∷ []) (b0 ∷ b1 ∷ b2 ∷ b3 ∷ b4 ∷ [])
lanes-same p0 p1 p2 p3 p4 = λ i. p0 i ∷ p1 i ∷ p2 i ∷ p3 i ∷ p4 i ∷ []

-- five equal planes
pub planes-same : {a0 b0 a1 b1 a2 b2 a3 b3 a4 b4 : List ℕ} → a0 ≡ b0 → a1 ≡ b1 → a2 ≡ b2 → a3 ≡ b3 → a4 ≡ b4
    → ◌≡◌ {A = State} (a0 ∷ a1 ∷ a2 ∷ a3 ∷ a4 ∷ []) (b0 ∷ b1 ∷ b2 ∷ b3 ∷ b4 ∷ [])
planes-same p0 p1 p2 p3 p4 = λ i. p0 i ∷ p1 i ∷ p2 i ∷ p3 i ∷ p4 i ∷ []

plane-same : (f g : ℕ → ℕ) → ((x : ℕ) → x < 5 → f x ≡ g x) → plane f ≡ plane g
plane-same f g h = rw (h 0 (omega arith), h 1 (omega arith), h 2 (omega arith), h 3 (omega arith), h 4 (omega arith))

pub state-same : (f g : ℕ → ℕ → ℕ) → ((x y : ℕ) → x < 5 → y < 5 → f x y ≡ g x y) → state f ≡ state g
state-same f g h =
    let p : (y : ℕ) → y < 5 → plane (λ x. f x y) ≡ plane (λ x. g x y) = λ y l. plane-same (λ x. f x y) (λ x. g x y) (λ x k. h x y k l) in
    planes-same (p 0 (omega arith)) (p 1 (omega arith)) (p 2 (omega arith)) (p 3 (omega arith)) (p 4 (omega arith))

plane-at : (f : ℕ → ℕ) (x : ℕ) → x < 5 → get_or (plane f) x 0 ≡ f x
plane-at f zero h = refl
plane-at f (suc zero) h = refl
plane-at f (suc (suc zero)) h = refl
plane-at f (suc (suc (suc zero))) h = refl
plane-at f (suc (suc (suc (suc zero)))) h = refl
plane-at f (suc (suc (suc (suc (suc x))))) h = absurd (omega arith)

-- lane (x, y) of a state that is given by its lanes
pub lane-state : (f : ℕ → ℕ → ℕ) (x y : ℕ) → x < 5 → y < 5 → lane (state f) x y ≡ f x y
lane-state f x zero h g = plane-at (λ x. f x 0) x h
lane-state f x (suc zero) h g = plane-at (λ x. f x 1) x h
lane-state f x (suc (suc zero)) h g = plane-at (λ x. f x 2) x h
lane-state f x (suc (suc (suc zero))) h g = plane-at (λ x. f x 3) x h
lane-state f x (suc (suc (suc (suc zero)))) h g = plane-at (λ x. f x 4) x h
lane-state f x (suc (suc (suc (suc (suc y))))) h g = absurd (omega arith)

-- the lanes are of 64 bits
abbrev pub Wide : State → Type 0
Wide a = (x y : ℕ) → x < 5 → y < 5 → lane a x y < 2 ^ 64

pub wide-state : (f : ℕ → ℕ → ℕ) → ((x y : ℕ) → x < 5 → y < 5 → f x y < 2 ^ 64) → Wide (state f)
wide-state f h x y hx hy = rw (lane-state f x y hx hy) (h x y hx hy)
