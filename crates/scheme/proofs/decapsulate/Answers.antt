use mathlib.Core.Path.{◌≡◌, ap, ap₂, ◌∙◌}
use mathlib.Core.List.{List}
use Prim.Native.Nat.{ℕ}
use lib.ListN.{length}
use Rattle.exactness.specs.Scheme as AnySetting
use Rattle.ntt.specs.Spectrum.{coefficients_of}
use Rattle.ring.specs.Ring.{product}
use Rattle.ring.specs.Centred.{quotients}
use Rattle.ring.proofs.Transforms.{product_by-spectra}
use Rattle.scheme.specs.Scheme.{core, phase}
use Rattle.scheme.specs.declared.Decapsulation.{Decapsulation}
use Rattle.scheme.specs.Answers.{triple_of, answer}
use Rattle.scheme.proofs.Steps.{summed_through, summed-size}
use borrow.Author.Rules.{rules}
use Rattle.scheme.proofs.decapsulate.Goals as goal

pub returns : goal.returns
unfolding AnySetting.decapsulation
returns c =
    let sums = c in
    let start = sums in
    let args = start.args in
    let first = sums.add_dummy-sums.result.first in
    let size : length first ≡ 1024 = summed-size (coefficients_of args.key.a) args.dummy.r args.dummy.e1 args.c.c1 first sums.add_dummy-sums.ensures.first_value in
    let hs : length args.key.s ≡ 1024 = search (rules, start.well_formed.1.1.0) in
    let s1 = ap coefficients_of sums.add_dummy-sums.ensures.first_value ∙ summed_through (coefficients_of args.key.a) args.dummy.r args.dummy.e1 args.c.c1 in
    let s2 = ap coefficients_of sums.add_dummy-sums.ensures.second_value ∙ summed_through (coefficients_of args.key.b) args.dummy.r args.dummy.e2 args.c.c2 in
    let outcome : List ℕ → List ℕ → List ℕ → Decapsulation = λ s1 s2 s1s.
    answer (core (coefficients_of args.key.a) (coefficients_of args.key.inverse) (triple_of args.dummy) s1 s2 s1s) (quotients (phase s2 s1s)) in
    c.core.ensures
    ∙ ap (outcome _ _) (ap coefficients_of c.pointwise-product.ensures ∙ product_by-spectra first args.key.s size hs)
    ∙ ap₂ (λ (s1 s2 : List ℕ). outcome s1 s2 (product s1 (coefficients_of args.key.s))) s1 s2
