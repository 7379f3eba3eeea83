use mathlib.Core.Path.{◌≡◌, sym, ap, subst, ◌∙◌}
use mathlib.Core.List.{List}
use Prim.Native.Nat.{ℕ, ◌+◌, ◌*◌, ◌<◌}
use native.Mathlib.Omega.{arith}
use lib.ListN.{length-set, length, get_or}
use Rattle.lists.proofs.Fill.{Filled, filled_none, filled_more, filled-all}
use Rattle.algebra.specs.Numbers.{add_mod, sub_mod}
use Rattle.algebra.proofs.Numbers.{below_at}
use Rattle.modq.specs.Montgomery.{montgomery_form}
use Rattle.modq.proofs.Prime.{q-positive}
use Rattle.twiddles.specs.Powers.{q}
use Rattle.twiddles.specs.Factors.{forward_factor}
use Rattle.twiddles.proofs.Factors.{forward-at, length-forward_factors, by-power}
use Rattle.butterflies.proofs.Layers.{length-forward, forward_even, forward_odd}
use borrow.Author.Rules.{rules}
use Rattle.butterflies.proofs.forward_layer.Goals as goal

pub loop-j-init : goal.loop-j-init
loop-j-init c = filled_none _ _ (length-forward q 512 _ _) c.requires.r_len.0

pub bounds-w-k : goal.bounds-w-k
bounds-w-k c =
    let start = c in
    omega (arith, ap length start.requires.w_value ∙ length-forward_factors, start.requires.r_len.3)

pub montgomery_product-product-requires : goal.montgomery_product-product-requires
montgomery_product-product-requires c =
    let factor : get_or c.args.w.now (512 * c.args.k + c.loop-j.j) 0 ≡ montgomery_form (forward_factor c.args.k c.loop-j.j) =
    let start = c in
    ap (λ (l : List ℕ). get_or l (512 * start.args.k + c.loop-j.j) 0) start.requires.w_value
    ∙ forward-at start.args.k c.loop-j.j start.requires.r_len.3 (search rules) in
    omega (arith, factor)

pub add_reduced-sum-requires : goal.add_reduced-sum-requires
add_reduced-sum-requires c =
    let entry : (i : ℕ) → get_or c.args.a.now i 0 < q =
    λ i. let start = c in
    below_at q q-positive start.args.a.now start.requires.r_len.2 i in
    (entry _, omega (arith, c.montgomery_product-product.ensures))

pub sub_reduced-difference-requires : goal.sub_reduced-difference-requires
sub_reduced-difference-requires c =
    let entry : (i : ℕ) → get_or c.args.a.now i 0 < q =
    λ i. let start = c in
    below_at q q-positive start.args.a.now start.requires.r_len.2 i in
    (entry _, omega (arith, c.montgomery_product-product.ensures))

pub bounds-r-j-in-loop-j : goal.bounds-r-j-in-loop-j
bounds-r-j-in-loop-j c = rw length-set (omega (arith, c.loop-j.invariant.size))

pub loop-j-preserved : goal.loop-j-preserved
loop-j-preserved c =
    let factor : get_or c.args.w.now (512 * c.args.k + c.loop-j.j) 0 ≡ montgomery_form (forward_factor c.args.k c.loop-j.j) =
    let start = c in
    ap (λ (l : List ℕ). get_or l (512 * start.args.k + c.loop-j.j) 0) start.requires.w_value
    ∙ forward-at start.args.k c.loop-j.j start.requires.r_len.3 (search rules) in
    let inside = c in
    let at = inside in
    let start = at in
    let k = start.args.k in
    let j = at.loop-j.j in
    let a = start.args.a.now in
    let times = c.montgomery_product-product.ensures ∙ by-power _ (get_or a (512 + j) 0) _ (factor) in
    let next : 2 * j + 1 + 1 ≡ 2 * (j + 1) = omega arith in
    subst (Filled 1024 _ _) next
    (filled_more 0
    (filled_more 0 at.loop-j.invariant (search rules)
    (c.add_reduced-sum.ensures ∙ ap (add_mod q (get_or a j 0)) times ∙ sym (forward_even q 512 (forward_factor k) a j (search rules))))
    (search rules) (c.sub_reduced-difference.ensures ∙ ap (sub_mod q (get_or a j 0)) times ∙ sym (forward_odd q 512 (forward_factor k) a j (search rules))))

pub shape_of-r : goal.shape_of-r
shape_of-r c = c.loop-j.invariant.size ∙ sym c.requires.r_len.0

pub returns : goal.returns
returns c = filled-all c.loop-j.invariant (omega arith)
