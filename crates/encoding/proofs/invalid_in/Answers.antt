use mathlib.Core.List.{[]}
use mathlib.Core.Path.{◌≡◌}
use mathlib.Core.Bool.{cond}
use mathlib.Core.List.{◌∷◌}
use Prim.Native.Nat.{ℕ, ◌/◌, ◌%◌, ◌<◌}
use native.Mathlib.Omega.{arith}
use lib.Dec.{eqb, eqb→eq}
use borrow.Author.Tests.{eq-eqb, ne_eqb}
use Rattle.lists.specs.Table.{table, table_from}
use Rattle.lists.specs.First.{first_failing}
use Rattle.lists.proofs.Finite.{at_each}
use Rattle.encoding.specs.Codes.{codes_of, first_invalid}
use Rattle.encoding.proofs.invalid_in.Goals as goal

-- what the tests say of b
abbrev tested : ℕ → ℕ
tested b = cond (eqb (b % 4) 3) 0 (cond (eqb (b / 4 % 4) 3) 1 (cond (eqb (b / 16 % 4) 3) 2 (cond (eqb (b / 64) 3) 3 4)))

by_tests : (b : ℕ) → b < 256 → tested b ≡ first_invalid 1 (b ∷ [])
unfolding first_invalid codes_of first_failing table table_from
by_tests b h = eqb→eq _ _ (at_each 256 (λ k. eqb (tested k) (first_invalid 1 (k ∷ []))) tt b h)

pub returns-then-b-eq3 : goal.returns-then-b-eq3
returns-then-b-eq3 c = rw (eq-eqb _ 3 c.if-b-eq3.true) at (by_tests c.args.b (omega arith))

pub returns-then-b-eq3-2 : goal.returns-then-b-eq3-2
returns-then-b-eq3-2 c = rw (ne_eqb _ 3 c.if-b-eq3.false, eq-eqb _ 3 c.if-b-eq3-2.true) at (by_tests c.args.b (omega arith))

pub returns-then-b-eq3-3 : goal.returns-then-b-eq3-3
returns-then-b-eq3-3 c = rw (ne_eqb _ 3 c.if-b-eq3.false, ne_eqb _ 3 c.if-b-eq3-2.false, eq-eqb _ 3 c.if-b-eq3-3.true) at (by_tests c.args.b (omega arith))

pub returns-then-b-eq3-4 : goal.returns-then-b-eq3-4
returns-then-b-eq3-4 c = rw (ne_eqb _ 3 c.if-b-eq3.false, ne_eqb _ 3 c.if-b-eq3-2.false, ne_eqb _ 3 c.if-b-eq3-3.false, eq-eqb _ 3 c.if-b-eq3-4.true) at (by_tests c.args.b (omega arith))

pub returns : goal.returns
returns c = rw (ne_eqb _ 3 c.if-b-eq3.false, ne_eqb _ 3 c.if-b-eq3-2.false, ne_eqb _ 3 c.if-b-eq3-3.false, ne_eqb _ 3 c.if-b-eq3-4.false) at (by_tests c.args.b (omega arith))
