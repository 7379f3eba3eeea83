use mathlib.Core.Path.{ap, ◌∙◌}
use Prim.Native.Nat.{ℕ, ◌*◌}
use native.Mathlib.Omega.{arith}
use Rattle.algebra.specs.Numbers.{sub_mod}
use Rattle.modq.specs.Modulus.{q}
use Rattle.modq.proofs.Montgomery.{top, top_less, over_less, plain}
use borrow.Author.Rules.{rules}
use Rattle.modq.proofs.montgomery_product.Goals as goal

pub sub_reduced-requires : goal.sub_reduced-requires
sub_reduced-requires c =
    let args = c.args in (
      omega (arith, c.high.ensures, top_less args.w args.y (search rules) (search rules)),
      omega (arith, c.reduction.ensures, over_less (args.w * args.y)),
    )

pub returns : goal.returns
returns c =
    let args = c.args in
    c.sub_reduced.ensures
    ∙ ap (λ (n : ℕ). sub_mod q n c.reduction.result) c.high.ensures
    ∙ ap (sub_mod q (top (args.w * args.y))) c.reduction.ensures
    ∙ plain args.w args.y (search rules) (search rules)
