use mathlib.Core.Path.{ap, ◌∙◌}
use mathlib.Core.List.{List}
use Prim.Native.Nat.{ℕ, ◌<◌, ◌≤◌}
use native.Mathlib.Omega.{arith}
use lib.Dec.{eqb}
use lib.ListN.{length}
use borrow.Author.Tests.{lt-ltb, le-ltb}
use Rattle.lists.specs.First.{first_failing}
use Rattle.response_files.specs.Lines.{in_line, is_blank}
use Rattle.response_files.proofs.is_blank.Goals as goal

pub returns-then-line_feed-text : goal.returns-then-line_feed-text
unfolding is_blank
returns-then-line_feed-text c =
    let text = c.args.text.now in
    let there : first_failing in_line text < length text = omega (arith, c.line_feed.ensures) in
    rw (lt-ltb _ _ there) (c.is_empty.ensures ∙ ap (λ (l : List ℕ). eqb (length l) 0) c.first_line.ensures)

pub returns-else-line_feed-text : goal.returns-else-line_feed-text
unfolding is_blank
returns-else-line_feed-text c =
    let text = c.args.text.now in
    let none : length text ≤ first_failing in_line text = omega (arith, c.line_feed.ensures) in
    rw (le-ltb _ _ none, le-ltb _ _ c.if-line_feed-text.false)
