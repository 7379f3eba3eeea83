-- The first entry of a list that fails a test, as `position` finds it.
use mathlib.Core.Path.{◌≡◌, refl, sym}
use mathlib.Core.Bool.{Bool, true, false}
use mathlib.Core.List.{List}
use Prim.Native.Nat.{ℕ, ◌<◌}
use native.Mathlib.Numerals.{add-one}
use lib.ListN.{length}
use Rattle.std.specs.Prelude.{Option, unwrap_or}
use Rattle.std.specs.Option.{MatchOption}
use Rattle.std.specs.List.{AllWithin, HoldsAt}
use Rattle.std.proofs.lemmas.Iterator.{index_from_first}
use Rattle.lists.specs.First.{first_failing}

pub first_found : (good : ℕ → Bool) (xs : List ℕ) (r : Option ℕ)
    → MatchOption r (AllWithin (λ x. true ≡ good x) xs 0 (length xs)) (λ i. (i < length xs) × HoldsAt (λ x. false ≡ good x) xs i × AllWithin (λ x. true ≡ good x) xs 0 i)
    → first_failing good xs ≡ unwrap_or r (length xs)
unfolding first_failing
first_found good xs r h =
    index_from_first (first_failing good) (λ x. false ≡ good x) (λ x. true ≡ good x) refl (λ x l e. rw (sym e)) (λ x l e. rw (sym e) (sym (add-one _))) xs r h
