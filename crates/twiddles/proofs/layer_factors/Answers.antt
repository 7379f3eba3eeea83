use mathlib.Core.Path.{◌≡◌, ◌∙◌}
use mathlib.Core.List.{List}
use Prim.Native.Nat.{ℕ, ◌<◌, ◌-◌, ◌*◌, ◌%◌, ◌^◌}
use native.Mathlib.Omega.{arith}
use lib.ListN.{length, take}
use lib.Seq.{length-take-le}
use Rattle.twiddles.proofs.Factors.{shifted}
use Rattle.twiddles.proofs.Repeats.{small, row_of_blocks}
use Rattle.twiddles.proofs.layer_factors.Goals as goal

-- the part that is lent has 2^k entries
first-size : (k : ℕ) (w : List ℕ) → k < 10 → length w ≡ 512 → length (take (1 * 2 ^ k % 18446744073709551616 - 0) w) ≡ 2 ^ k
first-size k w h e =
    let shift : 1 * 2 ^ k % 18446744073709551616 ≡ 2 ^ k = shifted k h in
    let whole : 1 * 2 ^ k % 18446744073709551616 - 0 ≡ 2 ^ k = omega (arith, shift) in
    length-take-le _ w (omega (arith, whole, small k h, e)) ∙ whole

pub slice_bounds-first_factors-end : goal.slice_bounds-first_factors-end
slice_bounds-first_factors-end c = rw (shifted c.args.k c.requires.2) (omega (arith, small c.args.k c.requires.2, c.requires.0))

pub first_factors-requires : goal.first_factors-requires
first_factors-requires c = omega (arith, first-size c.args.k c.args.w.now c.requires.2 c.requires.0, small c.args.k c.requires.2, c.requires.1)

pub returns : goal.returns
returns c =
    let start = c in
    let first = c.first_factors.ensures in
    c.repeat.ensures
    ∙ row_of_blocks start.args.f.now _ _ start.args.k _ (first-size c.args.k c.args.w.now c.requires.2 c.requires.0) start.requires.2 start.requires.1 first
