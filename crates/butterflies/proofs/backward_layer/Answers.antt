use mathlib.Core.Path.{◌≡◌, sym, ap, ◌∙◌}
use mathlib.Core.List.{List}
use Prim.Native.Nat.{ℕ, ◌+◌, ◌*◌, ◌<◌}
use native.Mathlib.Nat.{le_of_lt}
use native.Mathlib.Omega.{arith}
use lib.ListN.{length-set, length, get_or}
use Rattle.lists.proofs.Fill.{filled-halves_none, filled-halves_more, filled-halves_all}
use Rattle.lists.proofs.Tables.{length-table, get_or-table}
use Rattle.algebra.specs.Numbers.{mul_mod}
use Rattle.algebra.proofs.Numbers.{below_at}
use Rattle.modq.specs.Montgomery.{montgomery_form}
use Rattle.modq.proofs.Prime.{q-positive}
use Rattle.twiddles.specs.Powers.{q}
use Rattle.twiddles.specs.Factors.{backward_factor}
use Rattle.twiddles.proofs.Factors.{backward-at, length-backward_factors, by-power}
use Rattle.butterflies.proofs.Layers.{unzipped_layer_is, halves-size}
use borrow.Author.Rules.{rules}
use Rattle.butterflies.proofs.backward_layer.Goals as goal

pub loop-j-init : goal.loop-j-init
loop-j-init c = filled-halves_none 512 _ _ _ (length-table 512 _) (length-table 512 _) c.requires.r_len.0

pub sub_reduced-difference-requires : goal.sub_reduced-difference-requires
sub_reduced-difference-requires c =
    let entry : (i : ℕ) → get_or c.args.p.now i 0 < q =
    λ i. let start = c in
    below_at q q-positive start.args.p.now start.requires.r_len.2 i in
    (entry _, le_of_lt (entry _))

pub add_reduced-requires : goal.add_reduced-requires
add_reduced-requires c =
    let entry : (i : ℕ) → get_or c.args.p.now i 0 < q =
    λ i. let start = c in
    below_at q q-positive start.args.p.now start.requires.r_len.2 i in
    (entry _, entry _)

pub bounds-r-j : goal.bounds-r-j
bounds-r-j c = let size = halves-size c.loop-j.invariant in search rules

pub bounds-w-k : goal.bounds-w-k
bounds-w-k c =
    let start = c in
    omega (arith, ap length start.requires.w_value ∙ length-backward_factors, start.requires.r_len.3)

pub montgomery_product-requires : goal.montgomery_product-requires
montgomery_product-requires c =
    let factor : get_or c.args.w.now (512 * c.args.k + c.loop-j.j) 0 ≡ montgomery_form (backward_factor c.args.k c.loop-j.j) =
    let start = c in
    ap (λ (l : List ℕ). get_or l (512 * start.args.k + c.loop-j.j) 0) start.requires.w_value
    ∙ backward-at start.args.k c.loop-j.j start.requires.r_len.3 (search rules) in
    omega (arith, factor)

pub bounds-r-j-in-loop-j : goal.bounds-r-j-in-loop-j
bounds-r-j-in-loop-j c = rw length-set (omega (arith, halves-size c.loop-j.invariant))

pub loop-j-preserved : goal.loop-j-preserved
loop-j-preserved c =
    let factor : get_or c.args.w.now (512 * c.args.k + c.loop-j.j) 0 ≡ montgomery_form (backward_factor c.args.k c.loop-j.j) =
    let start = c in
    ap (λ (l : List ℕ). get_or l (512 * start.args.k + c.loop-j.j) 0) start.requires.w_value
    ∙ backward-at start.args.k c.loop-j.j start.requires.r_len.3 (search rules) in
    let inside = c in
    let at = inside in
    let k = at.args.k in
    let j = at.loop-j.j in
    filled-halves_more 0 at.loop-j.invariant (search rules)
    (c.add_reduced.ensures ∙ sym (get_or-table 512 _ j 0 (search rules)))
    (c.montgomery_product.ensures ∙ by-power _ _ _ (factor)
    ∙ ap (mul_mod q (backward_factor k j)) c.sub_reduced-difference.ensures ∙ sym (get_or-table 512 _ j 0 (search rules)))

pub shape_of-r : goal.shape_of-r
shape_of-r c = halves-size c.loop-j.invariant ∙ sym c.requires.r_len.0

pub returns : goal.returns
returns c = filled-halves_all c.loop-j.invariant (search rules) ∙ sym (unzipped_layer_is q 512 _ _)
