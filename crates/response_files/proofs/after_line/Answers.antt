use mathlib.Core.Path.{sym, ap, ◌∙◌}
use Prim.Native.Nat.{ℕ, ◌+◌, ◌≤◌}
use native.Mathlib.Omega.{arith}
use lib.ListN.{length, drop, drop_of_length-le}
use Rattle.lists.specs.First.{first_failing}
use Rattle.lists.proofs.Parts.{take-to-end}
use Rattle.response_files.specs.Lines.{in_line, after_line}
use Rattle.response_files.proofs.after_line.Goals as goal

pub returns-then-n-text : goal.returns-then-n-text
unfolding after_line
returns-then-n-text c =
    let n = c.line_feed-n.result in
    let text = c.args.text.now in
    take-to-end (n + 1) text ∙ ap (λ (k : ℕ). drop (k + 1) text) c.line_feed-n.ensures

pub returns : goal.returns
unfolding after_line
returns c =
    let text = c.args.text.now in
    let past : length text ≤ first_failing in_line text + 1 = omega (arith, c.line_feed-n.ensures) in
    sym (drop_of_length-le text past)
