-- The layers make the transform of X^1024 + 1 modulo 59393. The two ways are inverse to each other, and the pointwise product of two spectra
-- is the spectrum of the plain product.
use mathlib.Core.Path.{◌≡◌, refl, sym, ap, ap₂, ◌∙◌}
use mathlib.Core.List.{List, [], ◌∷◌, map, zip_with}
use Prim.Native.Nat.{ℕ, ◌+◌, ◌*◌, ◌%◌, ◌<◌}
use native.Mathlib.Nat.{mod-mod, mod-add-mod}
use native.Mathlib.Omega.{arith}
use lib.ListN.{length, get_or, length-map}
use Rattle.lists.proofs.Tables.{length-table, get_or-table, table_is, table_same, table-get_or, zip_with-table}
use Rattle.lists.proofs.Maps.{get_d_map}
use Rattle.algebra.specs.Transform.{backward}
use Rattle.algebra.specs.Halving.{reversed}
use Rattle.algebra.specs.Numbers.{mul_mod, value_mod, Element, reduced, scale, product, backward_mod}
use Rattle.algebra.specs.Negacyclic.{spectrum, from_spectrum}
use Rattle.algebra.proofs.Residues.{ℤ/}
use Rattle.algebra.proofs.Numbers.{residues_injective}
use Rattle.algebra.proofs.Elements as El
use Rattle.algebra.proofs.PlainProduct.{product_by-residues}
use Rattle.algebra.proofs.Negacyclic as N
use Rattle.modq.proofs.Prime.{q-positive, negacyclic-root}
use Rattle.ntt.specs.Spectrum.{q, degree, ψ, inverse_degree, power, spectrum_of, coefficients_of, pointwise}
use Rattle.ntt.specs.Factors.{forward_factor, backward_factor, backward_layers}
use Rattle.butterflies.specs.Layers.{forward_layer}
use Rattle.ntt.specs.Layers.{layers}
use Rattle.ntt.proofs.Join.{forward_join, backward_join}
use Rattle.ntt.proofs.Scaling.{backward-multiple}
use Rattle.ntt.proofs.Factors.{forward_factors_are, backward_factors_are}

-- ---- lists entry by entry

module _ (n : ℕ) (a : List ℕ) (size : length a ≡ n) where
  reduced_map : reduced q n a ≡ map (λ x. x % q) a
  unfolding reduced
  reduced_map = sym (table_is n _ (map (λ x. x % q) a) 0 (length-map a _ ∙ size) (λ k h. get_d_map (λ x. x % q) a k 0 0 (omega arith)))

  scale_map : (u : ℕ) → scale q n u a ≡ map (mul_mod q u) a
  unfolding scale
  scale_map u = sym (table_is n _ (map (mul_mod q u) a) 0 (length-map a _ ∙ size) (λ k h. get_d_map (mul_mod q u) a k 0 0 (omega arith)))

-- the value does not change where the coefficients are reduced
value_mod_lem : (x : ℕ) (a : List ℕ) → value_mod q x (map (λ c. c % q) a) ≡ value_mod q x a
unfolding value_mod
value_mod_lem x [] = refl
value_mod_lem x (c ∷ a) = rw (value_mod_lem x a) (mod-add-mod c q (mul_mod q x (value_mod q x a)))

-- ---- there

module _ (a : List ℕ) (size : length a ≡ degree) where
  abbrev a' : List ℕ
  a' = reduced q degree a

  element : Element q degree a'
  element = El.reduced-element q q-positive degree a

  pub spectrum_of-reduced : spectrum_of a ≡ spectrum q 10 ψ a'
  unfolding spectrum_of
  spectrum_of-reduced =
      table_same degree _ _ (λ k h. sym (ap (value_mod q (power (1 + 2 * reversed 10 k))) (reduced_map degree a size) ∙ value_mod_lem _ a))
      ∙ sym (N.spectrum_is q-positive negacyclic-root a' element)

  -- the ten layers give the values at the roots
  pub forward-layers_are : layers (λ k. forward_layer q 512 (forward_factor k)) 10 a' ≡ spectrum_of a
  unfolding spectrum
  forward-layers_are = forward_join q ψ 1024 1024 9 forward_factor a' element.size forward_factors_are ∙ sym spectrum_of-reduced

  pub length-spectrum : length (spectrum_of a) ≡ degree
  unfolding spectrum_of
  length-spectrum = length-table degree _

  pub coefficients_of-spectrum : coefficients_of (spectrum_of a) ≡ reduced q degree a
  unfolding coefficients_of
  coefficients_of-spectrum = ap (from_spectrum q 10 ψ inverse_degree) spectrum_of-reduced ∙ N.from-spectrum_of q-positive negacyclic-root a' element

-- ---- and back

module _ (v : List ℕ) (size : length v ≡ degree) where
  -- the ten layers, on the values divided by 1024, give the coefficients
  pub backward-layers_are : backward_layers (scale q degree inverse_degree v) ≡ coefficients_of v
  unfolding coefficients_of from_spectrum backward_layers
  backward-layers_are =
      backward_join q ψ 1024 1024 9 backward_factor (scale q degree inverse_degree v) (El.scale-element q q-positive degree inverse_degree v).size backward_factors_are
      ∙ ap (backward_mod q ψ 1024 1 (λ c l. l) 10 1024) (scale_map degree v size inverse_degree)
      ∙ backward-multiple q q-positive ψ 1024 1 inverse_degree 10 1024 v

  pub coefficients-element : Element q degree (coefficients_of v)
  unfolding coefficients_of
  coefficients-element = N.from-spectrum-element q-positive negacyclic-root v size

  of-reduced : coefficients_of v ≡ coefficients_of (reduced q degree v)
  unfolding coefficients_of
  of-reduced =
      let v' = reduced q degree v in
      let short : length v' ≡ degree = (El.reduced-element q q-positive degree v).size in
      residues_injective q q-positive _ _ (N.from-spectrum-element q-positive negacyclic-root v size).below (N.from-spectrum-element q-positive negacyclic-root v' short).below
      ((N.transform_is q-positive negacyclic-root).back_is v size ∙ ap (backward (ℤ/ q q-positive) (N.transform q-positive negacyclic-root)) (sym (El.residues_of-reduced q q-positive degree v size)) ∙ sym ((N.transform_is q-positive negacyclic-root).back_is v' short))

  pub spectrum_of-coefficients : spectrum_of (coefficients_of v) ≡ reduced q degree v
  spectrum_of-coefficients =
      let w = coefficients_of v in
      let e : Element q degree w = coefficients-element in
      spectrum_of-reduced w e.size ∙ ap (spectrum q 10 ψ) (El.reduced-same q q-positive degree w e ∙ of-reduced)
      ∙ unfold coefficients_of in N.spectrum_of_from q-positive negacyclic-root (reduced q degree v) (El.reduced-element q q-positive degree v)

-- ---- the product by transform is the plain product

module _ (v w : List ℕ) where
  pub length-pointwise : length (pointwise v w) ≡ degree
  unfolding pointwise
  length-pointwise = length-table degree _

  pub pointwise-at : (k : ℕ) → k < degree → get_or (pointwise v w) k 0 ≡ mul_mod q (get_or v k 0) (get_or w k 0)
  unfolding pointwise
  pointwise-at k h = get_or-table degree _ k 0 h

module _ (a b : List ℕ) (ha : length a ≡ degree) (hb : length b ≡ degree) where
  pub product_by_transform : coefficients_of (pointwise (spectrum_of a) (spectrum_of b)) ≡ product q degree a b
  unfolding coefficients_of pointwise
  product_by_transform =
      let x = spectrum_of a in
      let y = spectrum_of b in
      ap (from_spectrum q 10 ψ inverse_degree)
      (sym (zip_with-table (mul_mod q) degree (λ k. get_or x k 0) (λ k. get_or y k 0))
      ∙ ap₂ (zip_with (mul_mod q))
      (table-get_or degree x 0 (length-spectrum a ha) ∙ spectrum_of-reduced a ha) (table-get_or degree y 0 (length-spectrum b hb) ∙ spectrum_of-reduced b hb))
      ∙ N.product_by-spectrum q-positive negacyclic-root (reduced q degree a) (reduced q degree b) (element a ha).size (element b hb).size
      ∙ product_by-residues q q-positive 1023 _ a _ b (entry a) (entry b)
    where
      entry : (c : List ℕ) (k : ℕ) → k < degree → get_or (reduced q degree c) k 0 % q ≡ get_or c k 0 % q
      entry c k h = ap (λ (x : ℕ). x % q) (El.reduced-at q q-positive degree c k h) ∙ mod-mod (get_or c k 0) q
