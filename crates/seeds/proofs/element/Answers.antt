use mathlib.Core.Path.{◌≡◌, ap, ◌∙◌}
use mathlib.Core.List.{List}
use Prim.Native.Nat.{ℕ}
use native.Mathlib.Omega.{arith}
use lib.ListN.{length}
use lib.Seq.{take_all}
use Rattle.sampling.specs.Stream.{taken, uniform_element}
use Rattle.seeds.proofs.SeedStream.{length-seed_stream}
use Rattle.seeds.proofs.element.Goals as goal

pub returns : goal.returns
returns c =
    let made = c.stream-bytes in
    let size : length made.result ≡ 2688 = ap length made.ensures ∙ length-seed_stream _ in
    let words = take_all 2688 made.result (omega arith) ∙ made.ensures in
    let read = c.uniform.ensures in
    (read.0 ∙ ap (λ (b : List ℕ). length (taken b)) words, read.1 ∙ ap uniform_element words)
