-- The key check at 1,024 coefficients, but for the inverse of b.
use mathlib.Core.Path.{◌≡◌, refl}
use mathlib.Core.Bool.{true}
use mathlib.Core.List.{List}
use mathlib.Core.Logic.{◌↔◌}
use Prim.Native.Nat.{ℕ}
use Rattle.exactness.specs.Scheme.{Matches}
use Rattle.exactness.proofs.Elements.{key_element-element}
use Rattle.ring.specs.Ring.{Element}
use Rattle.ring.specs.Centred.{is_within, Ternary}
use Rattle.scheme.specs.Scheme.{setting, key_element, key_error}
use Rattle.scheme.proofs.Givens.{givens}
use Rattle.scheme.proofs.Promises.{promises}

-- the test passes exactly when b = 5 × (a × s + e) for some ternary e
pub key-matches : (a b s : List ℕ) → Element b → (is_within 1 (key_error a b s) ≡ true) ↔ Matches setting a b s
key-matches = promises.key-check

-- so a key made from a ternary e passes
pub made-key_passes : (a s e : List ℕ) → Ternary e → is_within 1 (key_error a (key_element a s e) s) ≡ true
made-key_passes a s e he = (key-matches a (key_element a s e) s (key_element-element setting givens a s e)).1 (e, he, refl)

-- and e is what the check finds
pub key_error_is : (a s e : List ℕ) → Ternary e → key_error a (key_element a s e) s ≡ e
key_error_is = promises.key_error_is
