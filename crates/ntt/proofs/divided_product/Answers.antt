use mathlib.Core.Path.{◌≡◌, sym, ap, ◌∙◌}
use Prim.Native.Nat.{ℕ, ◌*◌, ◌%◌}
use native.Mathlib.Omega.{arith}
use Rattle.algebra.specs.Numbers.{mul_mod}
use Rattle.algebra.proofs.Residues.{mod-mul-left}
use Rattle.modq.specs.Montgomery.{montgomery_form, montgomery_product}
use Rattle.modq.proofs.Montgomery.{product_of_form}
use Rattle.modq.proofs.Products.{mul_mod_assoc}
use Rattle.ntt.specs.Spectrum.{q, inverse_degree}
use Rattle.ntt.proofs.divided_product.Goals as goal

-- the form of x / 1024
form : (x : ℕ) → montgomery_product 36794 x ≡ montgomery_form (mul_mod q inverse_degree x)
form x = step x ∙ sym (mod-mul-left (59335 * x) 65536 q)
  where
    step : (x : ℕ) → (64 * x) % q ≡ (59335 * x * 65536) % q
    step x = omega arith

pub returns : goal.returns
returns c =
    let args = c.args in
    c.montgomery_product-2.ensures
    ∙ ap (λ (w : ℕ). montgomery_product w args.y) (c.montgomery_product.ensures ∙ form args.x)
    ∙ product_of_form (mul_mod q inverse_degree args.x) args.y ∙ mul_mod_assoc q inverse_degree args.x args.y
