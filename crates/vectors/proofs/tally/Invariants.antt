use Prim.Native.Nat.{ℕ, ◌-◌}
use mathlib.Core.List.{List}
use lib.ListN.{length}
use Rattle.vectors.specs.declared.Verdict.{Verdict}
use Rattle.vectors.specs.Answers.{Adds, Judges}
use Rattle.vectors.proofs.Cases.{Counted}
use Rattle.vectors.proofs.tally.Given as goal

abbrev pub invariant-loop-at : goal.invariant-loop-at
invariant-loop-at g l =
    (sum : _) (verdict : List ℕ → Verdict) → Adds g.G.Fn l.add sum → Judges g.J.Fn l.judge verdict
    → Counted sum verdict l.fields l.text l.fn.none l.so_far l.at

abbrev pub decreases-loop-at : goal.decreases-loop-at
decreases-loop-at g l = length l.text - l.at
