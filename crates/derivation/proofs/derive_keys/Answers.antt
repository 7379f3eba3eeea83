use mathlib.Core.Path.{ap, ◌∙◌}
use mathlib.Core.List.{List}
use Prim.Native.Nat.{ℕ}
use Rattle.gf128.specs.Bytes.{block}
use Rattle.derivation.specs.Derivation.{key0, key1, key2}
use Rattle.derivation.proofs.derive_keys.Goals as goal

pub returns : goal.returns
unfolding key0 key1 key2
returns c =
    let material = c.key_material-material.ensures in (
      c.part.ensures ∙ ap (λ (k : List ℕ). block 0 k) material,
      c.part-2.ensures ∙ ap (λ (k : List ℕ). block 1 k) material,
      c.part-3.ensures ∙ ap (λ (k : List ℕ). block 2 k) material,
    )
