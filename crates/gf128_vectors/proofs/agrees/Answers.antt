use mathlib.Core.Path.{ap, ap₂, ◌∙◌}
use mathlib.Core.Bool.{◌&&◌}
use Prim.Native.Nat.{ℕ}
use native.Mathlib.Omega.{arith}
use lib.Dec.{eqb}
use lib.ListN.{length}
use Rattle.gf128.specs.Bytes.{product}
use Rattle.vectors.specs.Answers.{is_same}
use Rattle.vectors.proofs.Texts.{sized-field}
use Rattle.gf128_vectors.proofs.agrees.Goals as goal

pub read_block-x-requires : goal.read_block-x-requires
read_block-x-requires c = ap length c.field.ensures ∙ sized-field _ _ 0 c.requires (omega arith)

pub read_block-y-requires : goal.read_block-y-requires
read_block-y-requires c = ap length c.field-2.ensures ∙ sized-field _ _ 1 c.requires (omega arith)

pub returns : goal.returns
returns c =
    let told = c in
    let multiplied = told in
    let second = multiplied in
    let first = second in
    let found =
    multiplied.product-found.ensures
    ∙ ap₂ product (first.read_block-x.ensures ∙ first.field.ensures) (second.read_block-y.ensures ∙ second.field-2.ensures) in
    ap₂ ◌&&◌ (ap (λ (k : ℕ). eqb k 0) told.number.ensures) (c.same.ensures ∙ ap₂ is_same found c.field-3.ensures)
