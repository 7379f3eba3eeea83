-- Laws of lines and their parts.
use mathlib.Core.Path.{◌≡◌, refl, sym, ap, ◌∙◌}
use mathlib.Core.Bool.{Bool, true, false, cond, not, ◌&&◌}
use mathlib.Core.List.{List, [], ◌∷◌}
use Prim.Native.Nat.{ℕ, suc, ◌+◌, ◌-◌, ◌<◌, ◌≤◌}
use native.Mathlib.Numerals.{add-one}
use native.Mathlib.Omega.{arith}
use lib.Dec.{eqb}
use lib.ListN.{length, get_or, take, drop, length-drop}
use borrow.Author.Tests.{eq-eqb, eqb-true, lt-ltb, le-ltb}
use Rattle.lists.proofs.Both.{both}
use Rattle.std.specs.Prelude.{bytes_eq, count_by}
use Rattle.std.proofs.lemmas.List.Sums.{sum_by-cons}
use Rattle.lists.specs.First.{first_failing}
use Rattle.response_files.specs.Lines.{in_line, after_line, without_return, line_of, lines_after, lines, feeds}

-- two tests that are true of the same are one
pub same_test : (r s : Bool) → (r ≡ true → s ≡ true) → (s ≡ true → r ≡ true) → r ≡ s
same_test true s f g = sym (f refl)
same_test false true f g = g refl
same_test false false f g = refl

-- ---- the parts of a text

-- the last byte, as the list that ends a list
last-byte : (l : List ℕ) (c : ℕ) → false ≡ eqb 0 c → bytes_eq (drop (length l - 1) l) (c ∷ []) ≡ eqb (get_or l (length l - 1) 0) c
last-byte [] c some = some
last-byte (x ∷ []) c some = by (eqb x c)
  where
    by : (b : Bool) → b && true ≡ b
    by true = refl
    by false = refl
last-byte (x ∷ y ∷ l) c some = let e : suc (suc (length l)) - 1 ≡ suc (suc (length l) - 1) = omega arith in rw e (last-byte (y ∷ l) c some)

-- the first byte, as the list that starts a list, and the last one
pub first-byte : (l : List ℕ) (c : ℕ) → false ≡ eqb 0 c → bytes_eq (c ∷ []) (take 1 l) ≡ eqb (get_or l 0 0) c
first-byte [] c some = some
first-byte (x ∷ l) c some = same_test (eqb c x && true) (eqb x c) (λ e. eq-eqb x c (sym (eqb-true c x (both (eqb c x) true e).0))) (λ e. rw (eq-eqb c x (sym (eqb-true x c e))) refl)

pub byte-last : (l : List ℕ) (c : ℕ) → false ≡ eqb 0 c → bytes_eq (c ∷ []) (drop (length l - 1) l) ≡ eqb (get_or l (length l - 1) 0) c
byte-last [] c some = some
byte-last (x ∷ []) c some = first-byte (x ∷ []) c some
byte-last (x ∷ y ∷ l) c some = let e : suc (suc (length l)) - 1 ≡ suc (suc (length l) - 1) = omega arith in rw e (byte-last (y ∷ l) c some)

pub return_cut : (l : List ℕ) → bytes_eq (drop (length l - 1) l) (13 ∷ []) ≡ true → take (length l - 1) l ≡ without_return l
unfolding without_return
return_cut l e = rw (sym (last-byte l 13 refl) ∙ e)

pub return_kept : (l : List ℕ) → bytes_eq (drop (length l - 1) l) (13 ∷ []) ≡ false → l ≡ without_return l
unfolding without_return
return_kept l e = rw (sym (last-byte l 13 refl) ∙ e)

module _ (text : List ℕ) where
  pub line_there : first_failing in_line text < length text → line_of text ≡ without_return (take (first_failing in_line text) text)
  unfolding line_of
  line_there h = rw (lt-ltb _ _ h)

  pub line_none : length text ≤ first_failing in_line text → line_of text ≡ []
  unfolding line_of
  line_none h = rw (le-ltb _ _ h)

  pub after-within : length (after_line text) ≤ length text - 1
  unfolding after_line
  after-within = rw length-drop (omega arith)

-- ---- all lines

after_lines_lem : (text : List ℕ) → lines_after text ≡ lines (after_line text)
unfolding lines_after lines after_line first_failing
after_lines_lem [] = refl
after_lines_lem (c ∷ []) = by (in_line c)
  where
    by : (t : Bool) → [] ≡ lines (drop (cond t 1 0 + 1) (c ∷ []))
    by true = refl
    by false = refl
after_lines_lem (c ∷ d ∷ text) = by (in_line c) (after_lines_lem (d ∷ text))
  where
    by : (t : Bool) → lines_after (d ∷ text) ≡ lines (drop (first_failing in_line (d ∷ text) + 1) (d ∷ text))
        → cond t (lines_after (d ∷ text)) ((d ∷ text) ∷ lines_after (d ∷ text))
        ≡ lines (drop (cond t (suc (first_failing in_line (d ∷ text))) 0 + 1) (c ∷ d ∷ text))
    by true e = rw add-one (rw add-one at e)
    by false e = refl

pub lines_more : (text : List ℕ) → 0 < length text → lines text ≡ text ∷ lines (after_line text)
unfolding lines
lines_more [] h = absurd (omega arith)
lines_more (c ∷ text) h = ap (λ (l : List (List ℕ)). (c ∷ text) ∷ l) (after_lines_lem (c ∷ text))

pub lines_none : (text : List ℕ) → length text ≡ 0 → lines text ≡ []
unfolding lines
lines_none [] h = refl
lines_none (c ∷ text) h = absurd (omega arith)

-- ---- line feeds

pub feeds-count : (text : List ℕ) → count_by (λ c. eqb c 10) text ≡ feeds text
unfolding feeds
feeds-count [] = refl
feeds-count (c ∷ text) = sum_by-cons (λ x. cond (eqb x 10) 1 0) c text ∙ by (eqb c 10) (feeds-count text)
  where
    by : (t : Bool) → count_by (λ x. eqb x 10) text ≡ feeds text
        → cond t 1 0 + count_by (λ x. eqb x 10) text ≡ cond (not t) (feeds text) (suc (feeds text))
    by true e = omega (arith, e)
    by false e = omega (arith, e)
