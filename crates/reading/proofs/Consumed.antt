-- Two reads, one behind the other, take what they gave together.
use Rattle.std.proofs.Common.{◌≡◌, ℕ, ◌+◌, List, ◌++◌, None, Some, sym, ap, subst, ◌∙◌, append_assoc, take, drop}
use Rattle.std.proofs.Math.Seq.{take-add}
use Rattle.std.specs.declared.option.Option.{Option}
use Rattle.std.specs.Io.KnownBytes.{Consumes}

Consumes-trans : (a b c : Option (List ℕ)) (bs cs : List ℕ) → Consumes a b bs → Consumes b c cs → Consumes a c (bs ++ cs)
Consumes-trans None b c bs cs p q = tt
Consumes-trans (Some x) None c bs cs p q = absurd p
Consumes-trans (Some x) (Some y) None bs cs p q = absurd q
Consumes-trans (Some x) (Some y) (Some z) bs cs p q = p ∙ ap (λ l. bs ++ l) q ∙ sym (append_assoc bs cs z)

-- the front of a buffer holds what was consumed, and stays while a read fills what stands behind it
pub consumed_more : (a b c : Option (List ℕ)) (at n : ℕ) (old new : List ℕ) → take at new ≡ take at old
    → Consumes a b (take at old) → Consumes b c (take n (drop at new)) → Consumes a c (take (at + n) new)
consumed_more a b c at n old new front first second =
    subst (Consumes a c) (sym (take-add at n new ∙ ap (λ (l : List ℕ). l ++ take n (drop at new)) front)) (Consumes-trans a b c _ _ first second)
