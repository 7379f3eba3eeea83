use mathlib.Core.Path.{ap, ◌∙◌}
use Prim.Native.Nat.{ℕ}
use Rattle.modq.specs.Montgomery.{montgomery_product}
use Rattle.modq.proofs.Montgomery.{product_of_form}
use Rattle.ntt.proofs.multiply.Goals as goal

pub returns : goal.returns
returns c =
    let args = c.args in
    c.montgomery_product.ensures ∙ ap (λ (n : ℕ). montgomery_product n args.y) c.montgomery_form.ensures ∙ product_of_form args.x args.y
