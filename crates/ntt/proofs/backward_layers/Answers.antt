use mathlib.Core.Path.{◌≡◌, refl, sym, ap, subst, ◌∙◌}
use mathlib.Core.List.{List}
use Prim.Native.Nat.{ℕ, ◌-◌}
use native.Mathlib.Omega.{arith}
use lib.ListN.{length}
use Rattle.algebra.specs.Numbers.{Below}
use Rattle.modq.proofs.Prime.{q-positive}
use Rattle.ntt.specs.Spectrum.{q}
use Rattle.ntt.specs.Factors.{backward_factor, backward_layers}
use Rattle.butterflies.specs.Layers.{unzipped, pairs, halves}
use Rattle.butterflies.proofs.Layers.{length_pairs, length-unzipped, length-backward, below-backward, below-unzipped, halves_of-pairs, backward_of-unzipped}
use Rattle.ntt.specs.Layers.{layers}
use Rattle.ntt.proofs.Layers.{layers-zero, layers-suc, layers_more}
use borrow.Author.Rules.{rules}
use Rattle.ntt.proofs.backward_layers.Invariants.{Layer, Made}
use Rattle.ntt.proofs.backward_layers.Goals as goal

layers-are : (a : List ℕ) → backward_layers a ≡ layers Layer 10 a
unfolding backward_layers
layers-are a = refl

layers-one : (a : List ℕ) → layers Layer 1 a ≡ Layer 0 a
layers-one a = layers-suc Layer 0 a ∙ ap (Layer 0) (layers-zero Layer a)

-- p has the entries of x at even places, then those at odd places
record Unzipped (x p : List ℕ) : Type 0 where
  same : p ≡ unzipped 512 x
  size : length p ≡ 1024
  below : Below q p

unzip : (x : List ℕ) {v p : List ℕ} → Below q x → v ≡ pairs 512 x → p ≡ halves 512 v → Unzipped x p
unzip x {v} b e g =
    let same = g ∙ halves_of-pairs 512 q q-positive (omega arith) x v b e in
    record { same = same; size = ap length same ∙ length-unzipped 512 x; below = subst (Below q) (sym same) (below-unzipped 512 x q q-positive b) }

made : {s : List ℕ} (k : ℕ) (x : List ℕ) → s ≡ Layer k x → Made s
made k x e = record {
  size = ap length e ∙ length-backward q 512 (backward_factor (9 - k)) x;
  below = subst (Below q) (sym e) (below-backward q 512 (backward_factor (9 - k)) x q-positive);
}

pub backward_layer-requires : goal.backward_layer-requires
backward_layer-requires c =
    let first-parts : Unzipped c.args.a c.halves.new.p =
    unzip _ c.requires.below c.pairs.ensures c.halves.ensures in
    let at = c in
    let parts = first-parts in record { r_len = (refl, parts.size, parts.below, omega arith); w_value = at.requires.w_value }

pub loop-k-init : goal.loop-k-init
loop-k-init c =
    let first-parts : Unzipped c.args.a c.halves.new.p =
    unzip _ c.requires.below c.pairs.ensures c.halves.ensures in
    let first-layer : c.backward_layer.new.r ≡ Layer 0 c.args.a =
    c.backward_layer.ensures ∙ backward_of-unzipped q 512 _ _ _ first-parts.same in (
      search rules,
      search rules,
      ap length c.pairs.ensures ∙ length_pairs 512 _,
      first-parts.size,
      made 0 _ first-layer,
      (λ a e. e),
    )

pub backward_layer-requires-in-loop-k : goal.backward_layer-requires-in-loop-k
backward_layer-requires-in-loop-k c =
    let at = c in
    let s = at.loop-k.invariant.4 in
    let parts = unzip _ s.below c.pairs-in-loop-k.ensures c.halves-in-loop-k.ensures in
    record { r_len = (s.size, parts.size, parts.below, omega arith); w_value = at.requires.w_value }

pub loop-k-preserved : goal.loop-k-preserved
loop-k-preserved c =
    let at = c in
    let paired = c.pairs-in-loop-k.ensures in
    let parts = unzip _ at.loop-k.invariant.4.below paired c.halves-in-loop-k.ensures in
    let layer = c.backward_layer-in-loop-k.ensures ∙ backward_of-unzipped q 512 _ _ _ parts.same in (
      search rules,
      search rules,
      ap length paired ∙ length_pairs 512 _,
      parts.size,
      made at.loop-k.k _ layer,
      (λ a e. layer ∙ ap (Layer at.loop-k.k) (at.loop-k.invariant.5 a e) ∙ sym (layers_more Layer at.loop-k.k a)),
    )

pub returns : goal.returns
returns c =
    let first-parts : Unzipped c.args.a c.halves.new.p =
    unzip _ c.requires.below c.pairs.ensures c.halves.ensures in
    let first-layer : c.backward_layer.new.r ≡ Layer 0 c.args.a =
    c.backward_layer.ensures ∙ backward_of-unzipped q 512 _ _ _ first-parts.same in
    let a = c.args.a in
    let all : c.loop-k.k ≡ 10 = omega arith in
    let first = first-layer ∙ sym (layers-one a) in
    c.loop-k.invariant.5 a first ∙ ap (λ (k : ℕ). layers Layer k a) all ∙ sym (layers-are a)
