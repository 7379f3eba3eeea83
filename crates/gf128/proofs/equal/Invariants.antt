use mathlib.Core.Path.{◌≡◌}
use Prim.Native.Nat.{ℕ, ◌<◌}
use lib.ListN.{length, get_or}
use Rattle.gf128.proofs.equal.Given as goal

abbrev pub invariant-loop-x : goal.invariant-loop-x
invariant-loop-x l =
    (l.difference ≡ 0 → (k : ℕ) → k < length l.yielded → get_or l.fn.a k 0 ≡ get_or l.fn.b k 0) × (l.fn.a ≡ l.fn.b → l.difference ≡ 0)
