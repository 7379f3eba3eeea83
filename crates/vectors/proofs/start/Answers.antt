use mathlib.Core.Path.{◌≡◌, refl, ap, ◌∙◌}
use Prim.Native.Nat.{ℕ, min}
use native.Mathlib.Omega.{arith}
use lib.ListN.{length}
use Rattle.vectors.specs.Fields.{end_from, start}
use Rattle.vectors.proofs.Texts.{start-within, start-next}
use borrow.Author.Rules.{rules}
use Rattle.vectors.proofs.start.Goals as goal

pub loop-k-init : goal.loop-k-init
unfolding start
loop-k-init c = (search rules, refl)

pub end_from-requires : goal.end_from-requires
end_from-requires c = omega (arith, c.loop-k.invariant.1, start-within c.loop-k.k c.args.text.now)

pub loop-k-preserved : goal.loop-k-preserved
loop-k-preserved c =
    let at-loop = c in
    let text = at-loop.args.text.now in (
      search rules,
      c.min-at.ensures
          ∙ ap (λ (n : ℕ). min n (length text)) (c.end_from.ensures ∙ ap (λ (at : ℕ). end_from at text) at-loop.loop-k.invariant.1)
          ∙ start-next at-loop.loop-k.k text,
    )

pub returns : goal.returns
returns c =
    let args = c.args in
    let end : c.loop-k.k ≡ args.i = omega arith in
    let is = c.loop-k.invariant.1 ∙ ap (λ (k : ℕ). start k args.text.now) end in
    (is, omega (arith, is, start-within args.i args.text.now))
