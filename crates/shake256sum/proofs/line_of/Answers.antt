use mathlib.Core.Path.{◌≡◌, ap, ◌∙◌}
use mathlib.Core.List.{List, [], ◌∷◌, ◌++◌}
use Prim.Native.Nat.{ℕ}
use native.Mathlib.Omega.{arith}
use lib.ListN.{length, set, replicate}
use lib.Seq.{take_all, set_at}
use Rattle.shake.specs.Shake.{shake256}
use Rattle.hexadecimal.specs.Hex.{text_of, written}
use Rattle.hexadecimal.proofs.Text.{length_text}
use Rattle.shake256sum.specs.Line.{line_of}
use Rattle.shake256sum.proofs.line_of.Goals as goal

-- the text of 32 bytes fills all but the last of 65 bytes
full : (output : List ℕ) → length output ≡ 32 → set (written (text_of output) (replicate 65 0)) 64 10 ≡ text_of output ++ (10 ∷ [])
full output e =
    let size : length (text_of output) ≡ 64 = omega (arith, length_text output) in
    rw (take_all 65 (text_of output) (omega arith), size) (set_at (text_of output) 0 [] 10 64 size)

pub returns : goal.returns
unfolding line_of
returns c =
    let shaken = c in
    let message = shaken.args.message.now in
    let output = shaken.shake256.new.out in
    let size : length output ≡ 32 = shaken.shake256.auto.out in
    let same : output ≡ shake256 message 32 = shaken.shake256.ensures in
    ap (λ (l : List ℕ). set l 64 10) c.encode.ensures ∙ full output size ∙ ap (λ (l : List ℕ). text_of l ++ (10 ∷ [])) same
