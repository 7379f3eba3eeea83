use mathlib.Core.Path.{ap, ◌∙◌}
use mathlib.Core.List.{List, ◌++◌}
use Prim.Native.Nat.{ℕ}
use Rattle.derivation.specs.Derivation.{tag_of}
use Rattle.derivation.proofs.Laws.{body_by, tag_by}
use Rattle.derivation.proofs.protect.Goals as goal

pub returns : goal.returns
returns c =
    let put = c in
    let derived = put in
    let args = derived.args in
    let r = args.t.r in
    let e1 = args.t.e1 in
    let e2 = args.t.e2 in
    let entry = args.entry.now in
    let (first, second, third) = derived.derive_keys-keys.ensures in
    let body = body_by r e1 e2 entry first put.under_keystream.ensures in record { body_after = body; value = tag_by r e1 e2 _ second third c.tag.ensures ∙ ap (λ (s : List ℕ). tag_of r e1 e2 (args.front.now ++ s)) body }
