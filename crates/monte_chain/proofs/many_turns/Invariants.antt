use mathlib.Core.Path.{◌≡◌}
use Prim.Native.Nat.{◌≤◌}
use Rattle.monte_chain.specs.Monte.{turns}
use Rattle.monte_chain.proofs.many_turns.Given as goal

abbrev pub invariant-loop : goal.invariant-loop
invariant-loop l = (l.counter ≤ l.n) × (l.c ≡ turns l.function l.counter l.fn.c)
