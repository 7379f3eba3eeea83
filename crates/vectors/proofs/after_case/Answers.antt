use mathlib.Core.Path.{◌≡◌, ap, ◌∙◌}
use Prim.Native.Nat.{◌+◌}
use native.Mathlib.Omega.{arith}
use lib.ListN.{drop, length-drop}
use Rattle.lists.proofs.Parts.{take-to-end}
use Rattle.vectors.specs.Fields.{start}
use Rattle.vectors.proofs.Texts.{start-within, start-some}
use Rattle.vectors.proofs.after_case.Goals as goal

pub returns : goal.returns
returns c =
    let entry = c in
    let text = entry.args.text.now in
    let at = entry.args.at in
    let fields = entry.args.fields in
    let is : c.start.result ≡ start fields (drop at text) = c.start.ensures.0 ∙ ap (start fields) (take-to-end at text) in
    let rest = length-drop at text in
    let some = start-some fields (drop at text) (omega (arith, rest, entry.requires)) entry.requires.1 in
    (ap (◌+◌ at) is, omega (arith, is, some), omega (arith, is, entry.requires, rest, start-within fields (drop at text)))
