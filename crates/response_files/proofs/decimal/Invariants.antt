use mathlib.Core.Path.{◌≡◌}
use Prim.Native.Nat.{◌<◌, ◌≤◌}
use lib.ListN.{length, drop}
use Rattle.response_files.specs.Fields.{decimal_of, continued}
use Rattle.response_files.proofs.decimal.Given as goal

abbrev pub invariant-loop-c : goal.invariant-loop-c
invariant-loop-c l = (l.c-index ≤ length l.text) × (l.n < 1000000000) × (decimal_of l.text ≡ continued l.n (drop l.c-index l.text))
