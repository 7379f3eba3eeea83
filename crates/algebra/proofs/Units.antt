-- Over a field, a polynomial is a unit of R[X]/(X^n - r) exactly when no value at a root is zero, that is no entry of its transform.
use mathlib.Core.Path.{◌≡◌, refl, sym, ap, ◌∙◌}
use mathlib.Core.List.{List, [], ◌∷◌, zip_with, head-eq_of_cons-eq, tail-eq_of_cons-eq}
use mathlib.Core.Logic.{◌↔◌}
use Prim.Native.Nat.{ℕ, suc}
use native.Mathlib.Nat.{suc_inj}
use native.Mathlib.Omega.{arith}
use lib.ListN.{length, replicate}
use Rattle.lists.proofs.Tables.{length-table}
use Rattle.lists.proofs.Maps.{cons}
use Rattle.algebra.specs.Ring.{CommRing, IsField, IsUnit}
use Rattle.algebra.specs.Polynomials.{coefficient, padded, product, Invertible}
use Rattle.algebra.specs.Evaluation.{NoZero, pointwise}
use Rattle.algebra.specs.Transform.{Transform, forward, backward}
use Rattle.algebra.proofs.Ring as L
use Rattle.algebra.proofs.Polynomials.{length-product}
use Rattle.algebra.proofs.Transform as T

module _ {F : Type 0} (R : CommRing F) where
  infixl 70 ◌⊗◌
  open R use {◌⊗◌, 𝟘, 𝟙}

  -- ---- entry by entry

  module _ (field : IsField R) where
    inverses : (v : List F) → NoZero R v → (w : List F) × (length w ≡ length v) × (pointwise R v w ≡ replicate (length v) 𝟙)
    unfolding zip_with
    inverses [] g = ([], refl, refl)
    inverses (x ∷ v) g = join (field.inverse x g.0) (inverses v g.1)
      where
        join : IsUnit R x → (w : List F) × (length w ≡ length v) × (pointwise R v w ≡ replicate (length v) 𝟙)
            → (w : List F) × (length w ≡ suc (length v)) × (pointwise R (x ∷ v) w ≡ 𝟙 ∷ replicate (length v) 𝟙)
        join (y, e) (w, h, f) = (y ∷ w, ap suc h, cons e f)

    no-zeros : (v w : List F) → length v ≡ length w → pointwise R v w ≡ replicate (length v) 𝟙 → NoZero R v
    unfolding zip_with
    no-zeros [] w h e = tt
    no-zeros (x ∷ v) [] h e = absurd (omega arith)
    no-zeros (x ∷ v) (y ∷ w) h e = (entry (head-eq_of_cons-eq e), no-zeros v w (suc_inj h) (tail-eq_of_cons-eq e))
      where
        entry : x ⊗ y ≡ 𝟙 → ¬ (x ≡ 𝟘)
        entry e f = field.one_not_zero (sym e ∙ ap (λ (s : F). s ⊗ y) f ∙ L.zero-times R y)

  -- ---- in the ring

  module _ {p : ℕ} {r : List F} (t : Transform R p r) where
    -- from the inverses of the entries to the inverse
    pub inverse_by_transform : (b v : List F) → length b ≡ suc p → length v ≡ suc p → pointwise R (forward R t b) v ≡ replicate (suc p) 𝟙
        → product R p r b (backward R t v) ≡ padded R (suc p) (𝟙 ∷ [])
    inverse_by_transform b v hb hv e =
        sym (T.backward-forward R t _ (length-product R p r b _))
        ∙ ap (backward R t) (T.forward-product R t b _ hb (T.length-backward R t v hv)
        ∙ ap (pointwise R (forward R t b)) (T.forward-backward R t v hv) ∙ e ∙ sym (T.forward-one R t))
        ∙ T.backward-forward R t _ (length-table (suc p) (coefficient R (𝟙 ∷ [])))

    pub unit_iff : IsField R → (b : List F) → length b ≡ suc p → Invertible R p r b ↔ NoZero R (forward R t b)
    unit_iff field b h = (only, made)
      where
        size : length (forward R t b) ≡ suc p
        size = T.length-forward R t b h

        only : Invertible R p r b → NoZero R (forward R t b)
        only (i, hi, e) =
            no-zeros field (forward R t b) (forward R t i) (size ∙ sym (T.length-forward R t i hi))
            (sym (T.forward-product R t b i h hi) ∙ ap (forward R t) e ∙ T.forward-one R t ∙ ap (λ (n : ℕ). replicate n 𝟙) (sym size))

        made : NoZero R (forward R t b) → Invertible R p r b
        made g = put (inverses field (forward R t b) g)
          where
            put : (w : List F) × (length w ≡ length (forward R t b)) × (pointwise R (forward R t b) w ≡ replicate (length (forward R t b)) 𝟙)
                → Invertible R p r b
            put (w, hw, e) =
                let f = e ∙ ap (λ (n : ℕ). replicate n 𝟙) size in
                (backward R t w, T.length-backward R t w (hw ∙ size), inverse_by_transform b w h (hw ∙ size) f)
