use mathlib.Core.Path.{◌≡◌, refl, ap, ◌∙◌}
use Prim.Native.Nat.{ℕ}
use native.Mathlib.Omega.{arith}
use native.Mathlib.Numerals.{add-one}
use Rattle.monte_chain.specs.Monte.{turned, turns}
use Rattle.monte_chain.proofs.many_turns.Goals as goal

pub loop-init : goal.loop-init
unfolding turns
loop-init c = (omega arith, refl)

pub loop-preserved : goal.loop-preserved
unfolding turns
loop-preserved c = (omega arith, rw add-one (c.turn-c.ensures ∙ ap (turned _) c.loop.invariant.1))

pub returns : goal.returns
returns c =
    let e : c.loop.counter ≡ c.args.n = omega arith in
    c.loop.invariant.1 ∙ ap (λ (k : ℕ). turns c.args.function k c.args.c) e
