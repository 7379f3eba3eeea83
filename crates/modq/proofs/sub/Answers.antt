use mathlib.Core.Path.{◌≡◌, ap₂, ◌∙◌}
use Prim.Native.Nat.{ℕ, ◌%◌}
use native.Mathlib.Omega.{arith}
use Rattle.algebra.specs.Numbers.{sub_mod}
use Rattle.modq.specs.Modulus.{q}
use Rattle.modq.proofs.sub.Goals as goal

of-residues : (a b : ℕ) → sub_mod q (a % q) (b % q) ≡ sub_mod q a b
of-residues a b = omega arith

pub returns : goal.returns
returns c =
    c.sub_reduced.ensures ∙ ap₂ (sub_mod q) c.reduce.ensures c.reduce-2.ensures ∙ of-residues _ _
