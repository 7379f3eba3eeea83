use mathlib.Core.Path.{ap, ◌∙◌}
use mathlib.Core.List.{List, ◌∷◌, append-nil}
use Prim.Native.Nat.{ℕ}
use Rattle.encoding.proofs.Buffers.{put-exact}
use Rattle.triples.proofs.Triples.{length-triple_bytes}
use Rattle.derivation.proofs.key_input.Goals as goal

pub returns : goal.returns
returns c =
    let triple = c.write_triple.ensures in
    ap (λ (l : List ℕ). 0x01 ∷ l) (append-nil _ ∙ triple ∙ put-exact _ _ (length-triple_bytes _ _ _))
