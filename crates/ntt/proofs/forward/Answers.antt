use mathlib.Core.Path.{◌≡◌, sym, ap, ap₂, subst, ◌∙◌}
use Prim.Native.Nat.{ℕ, ◌+◌, ◌*◌}
use native.Mathlib.Omega.{arith}
use lib.ListN.{length}
use Rattle.algebra.specs.Numbers.{Below}
use Rattle.algebra.proofs.Elements as El
use Rattle.modq.proofs.Prime.{q-positive}
use Rattle.ntt.specs.Spectrum.{q, degree}
use Rattle.butterflies.proofs.Layers.{length-forward, below-forward}
use Rattle.ntt.specs.Layers.{layers}
use Rattle.ntt.proofs.Layers.{layers-zero, layers_more}
use Rattle.ntt.proofs.Spectrum.{forward-layers_are}
use borrow.Author.Rules.{rules}
use Rattle.ntt.proofs.forward.Invariants.{Layer}
use Rattle.ntt.proofs.forward.Goals as goal

pub loop-k-init : goal.loop-k-init
loop-k-init c =
    let element = El.reduced-element q q-positive degree c.args.a in (
      search rules,
      ap length c.reduced-s.ensures ∙ element.size,
      search rules,
      subst (Below q) (sym c.reduced-s.ensures) element.below,
      sym (layers-zero Layer _),
    )

pub forward_layer-requires : goal.forward_layer-requires
forward_layer-requires c =
    let at = c in record { r_len = (at.loop-k.invariant.2, at.loop-k.invariant.1, at.loop-k.invariant.3, omega arith); w_value = at.requires }

pub forward_layer-requires-in-loop-k : goal.forward_layer-requires-in-loop-k
forward_layer-requires-in-loop-k c =
    let at = c in
    let first = c.forward_layer.ensures in
    record {
      r_len = (at.loop-k.invariant.1, ap length first ∙ length-forward q 512 _ _, subst (Below q) (sym first) (below-forward q 512 _ _ q-positive), omega arith);
      w_value = at.requires;
    }

pub loop-k-preserved : goal.loop-k-preserved
loop-k-preserved c =
    let at = c in
    let k = at.loop-k.k in
    let first = c.forward_layer.ensures in
    let second = c.forward_layer-in-loop-k.ensures in
    let next : 2 * k + 1 + 1 ≡ 2 * (k + 1) = omega arith in (
      search rules,
      ap length second ∙ length-forward q 512 _ _,
      ap length first ∙ length-forward q 512 _ _,
      subst (Below q) (sym second) (below-forward q 512 _ _ q-positive),
      second ∙ ap (Layer (2 * k + 1)) (first ∙ ap (Layer (2 * k)) at.loop-k.invariant.4 ∙ sym (layers_more Layer (2 * k) _))
          ∙ sym (layers_more Layer (2 * k + 1) _) ∙ ap (λ (n : ℕ). layers Layer n at.reduced-s.result) next,
    )

pub returns : goal.returns
returns c =
    let a = c.args.a in
    let all : 2 * c.loop-k.k ≡ 10 = omega arith in
    c.loop-k.invariant.4 ∙ ap₂ (layers Layer) all c.reduced-s.ensures
    ∙ forward-layers_are a (search rules)
