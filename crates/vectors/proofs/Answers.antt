-- Whether two lists are the same.
use mathlib.Core.Path.{◌≡◌, refl, sym, ap}
use mathlib.Core.Bool.{Bool, true, false, ◌&&◌, false≢true}
use mathlib.Core.List.{List, [], ◌∷◌}
use Prim.Native.Nat.{ℕ}
use lib.Dec.{eqb}
use lib.ListN.{length, replicate}
use Rattle.std.specs.List.{list_all}
use borrow.Author.Tests.{eqb-true, eq-eqb}
use Rattle.lists.proofs.Maps.{cons}
use Rattle.lists.proofs.Both.{both}
use Rattle.vectors.specs.Answers.{is_same}

same_itself : (a : List ℕ) → is_same a a ≡ true
same_itself [] = refl
same_itself (x ∷ a) = rw (eq-eqb x x refl, same_itself a)

same_lists : (a b : List ℕ) → is_same a b ≡ true → a ≡ b
same_lists [] [] e = refl
same_lists [] (y ∷ b) e = absurd (false≢true e)
same_lists (x ∷ a) [] e = absurd (false≢true e)
same_lists (x ∷ a) (y ∷ b) e = let (head, rest) = both (eqb x y) (is_same a b) e in cons (eqb-true x y head) (same_lists a b rest)

-- each byte is tested against one value
pub same-filled : (value : ℕ) (l : List ℕ) → list_all (λ x. eqb x value) l ≡ is_same l (replicate (length l) value)
same-filled value [] = refl
same-filled value (x ∷ l) = ap (λ (b : Bool). eqb x value && b) (same-filled value l)

pub same-yes : {a b : List ℕ} → a ≡ b → true ≡ is_same a b
same-yes {a} e = rw (← e) (sym (same_itself a))

pub same-no : {a b : List ℕ} → (a ≡ b → ⊥) → false ≡ is_same a b
same-no {a} {b} h = by (is_same a b) refl
  where
    by : (r : Bool) → is_same a b ≡ r → false ≡ r
    by true e = absurd (h (same_lists a b e))
    by false e = refl
