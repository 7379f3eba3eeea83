use mathlib.Core.Path.{◌≡◌, sym, ap, ◌∙◌}
use Prim.Native.Nat.{ℕ}
use native.Mathlib.Omega.{arith}
use lib.ListN.{take}
use lib.Seq.{length-take-le}
use Rattle.lists.specs.First.{first_failing}
use Rattle.response_files.specs.Lines.{in_line, without_return}
use Rattle.response_files.proofs.Lines.{line_there, line_none}
use Rattle.response_files.proofs.first_line.Goals as goal

pub slice_bounds-without_return-end : goal.slice_bounds-without_return-end
slice_bounds-without_return-end c = sym (length-take-le _ _ (omega arith))

pub returns-then-n-text : goal.returns-then-n-text
returns-then-n-text c =
    let found = c in
    let text = found.args.text.now in
    let e : found.line_feed-n.result ≡ first_failing in_line text = found.line_feed-n.ensures in
    c.without_return.ensures ∙ ap (λ (k : ℕ). without_return (take k text)) e ∙ sym (line_there text (omega arith))

pub returns : goal.returns
returns c =
    let found = c in
    sym (line_none found.args.text.now (omega (arith, found.line_feed-n.ensures)))
