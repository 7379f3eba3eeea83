-- Encapsulation with a key that is given by its spectra.
use mathlib.Core.Path.{◌≡◌, ap, ap₂, ◌∙◌}
use mathlib.Core.List.{List}
use Prim.Native.Nat.{ℕ}
use lib.ListN.{length}
use Rattle.ntt.specs.Spectrum.{coefficients_of}
use Rattle.ring.specs.Ring.{n}
use Rattle.scheme.specs.Scheme.{Triple, masked}
use Rattle.scheme.specs.declared.Triple as Struct
use Rattle.scheme.specs.declared.PublicKey.{PublicKey}
use Rattle.scheme.specs.declared.Encapsulation.{Encapsulation}
use Rattle.scheme.specs.Answers.{triple_of, public_key}
use Rattle.scheme.proofs.Steps.{masked_through}
use Rattle.sealing.specs.declared.Prepared.{Prepared}
use Rattle.sealing.specs.Parts.{encapsulation, prepared_with}

-- the key is that of a and b, t is u as a struct
module _ (a b : List ℕ) {key : PublicKey} {t : Struct.Triple} {u : Triple} (a-size : length a ≡ n) (b-size : length b ≡ n) (same : key ≡ public_key a b)
    (read : triple_of t ≡ u) where
  pub encapsulated : {c : Encapsulation} → c.c1 ≡ masked (coefficients_of key.a) t.r t.e1 → c.c2 ≡ masked (coefficients_of key.b) t.r t.e2 → c ≡ encapsulation a b u
  encapsulated {c} e1 e2 =
      let both : List ℕ → List ℕ → Encapsulation = λ x y. record { c1 = x; c2 = y } in
      ap₂ both
      (e1 ∙ ap (λ (k : PublicKey). masked (coefficients_of k.a) t.r t.e1) same ∙ masked_through a a-size t.r t.e1)
      (e2 ∙ ap (λ (k : PublicKey). masked (coefficients_of k.b) t.r t.e2) same ∙ masked_through b b-size t.r t.e2)
      ∙ ap (encapsulation a b) read

  pub noise_encapsulated : {c : Encapsulation} → c ≡ encapsulation a b u → record { c = c; triple = t } ≡ prepared_with a b u
  noise_encapsulated e =
      let whole : Encapsulation → Struct.Triple → Prepared = λ c t. record { c = c; triple = t } in
      ap₂ whole e (ap (λ (u : Triple). record { r = u.r; e1 = u.e1; e2 = u.e2 }) read)
