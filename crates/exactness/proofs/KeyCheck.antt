-- The key check accepts exactly the keys that were made from some ternary e.
use mathlib.Core.Path.{◌≡◌, sym}
use mathlib.Core.Bool.{true}
use mathlib.Core.List.{List}
use mathlib.Core.Logic.{◌↔◌}
use Prim.Native.Nat.{ℕ}
use Rattle.exactness.specs.Setting.{Setting, Element, Ternary}
use Rattle.exactness.specs.Scheme.{key_error, Matches}
use Rattle.exactness.specs.Givens.{Givens}
use Rattle.exactness.proofs.Elements.{key_error-element}
use Rattle.exactness.proofs.Identities.{error_of-key, key_of_error}

module _ (S : Setting) (G : Givens S) where
  -- the e of a key that matches is b ÷ 5 - a × s
  pub error-ternary : (a b s : List ℕ) → Matches S a b s → Ternary S (key_error S a b s)
  error-ternary a b s (e, he, is) = rw (is, error_of-key S G a s e he.0) he

  pub key-check : (a b s : List ℕ) → Element S b → (S.is_within 1 (key_error S a b s) ≡ true) ↔ Matches S a b s
  key-check a b s hb = (made, passes)
    where
      element : Element S (key_error S a b s)
      element = key_error-element S G a b s

      made : S.is_within 1 (key_error S a b s) ≡ true → Matches S a b s
      made t = (key_error S a b s, (element, (G.within_iff 1 (key_error S a b s) element.size).0 t), sym (key_of_error S G a b s hb))

      passes : Matches S a b s → S.is_within 1 (key_error S a b s) ≡ true
      passes m = (G.within_iff 1 (key_error S a b s) element.size).1 (error-ternary a b s m).1
