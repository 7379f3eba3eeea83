use mathlib.Core.Path.{◌≡◌, ap₂, ◌∙◌}
use Prim.Native.Nat.{ℕ}
use native.Mathlib.Omega.{arith}
use lib.ListN.{length}
use Rattle.std.proofs.lemmas.List.{length_push}
use Rattle.std.proofs.lemmas.Slice.Zip.{zip_turn, zip_end}
use Rattle.algebra.specs.Numbers.{mul_mod}
use Rattle.ntt.specs.Spectrum.{q, degree}
use Rattle.reciprocals.proofs.AreReciprocals.{multiplied_none, multiplied_next, multiplied_all}
use borrow.Author.Rules.{rules}
use Rattle.reciprocals.proofs.are_reciprocals.Goals as goal

pub loop-a-init : goal.loop-a-init
loop-a-init c = multiplied_none _ _

pub loop-a-preserved : goal.loop-a-preserved
loop-a-preserved c =
    let x = c.args.x in
    let y = c.args.y in
    let n = length c.loop-a.yielded in
    let size : length x ≡ degree = search rules in
    let t = zip_turn x y c.loop-a.yielded c.into_iter-a-iterator.result c.loop-a.a-iterator c.next.new.self c.next.result
    (search rules) (search rules) c.loop-a.yielded_by (c.in-Some.a, c.in-Some.b) c.in-Some.is c.next.ensures.steps in
    rw (length_push c.loop-a.yielded (c.in-Some.a, c.in-Some.b))
    (multiplied_next x y c.loop-a.invariant (omega (arith, t.0)) c.mul.result (c.mul.ensures ∙ ap₂ (λ (u v : ℕ). mul_mod q u v) (t.2 0) (t.3 0)))

pub returns : goal.returns
returns c =
    let x = c.args.x in
    let y = c.args.y in
    let size-x : length x ≡ degree = search rules in
    let size-y : length y ≡ degree = search rules in
    let n = zip_end x y c.loop-a.yielded c.into_iter-a-iterator.result c.loop-a.a-iterator c.next.new.self c.next.result
    (search rules) (search rules) c.loop-a.yielded_by c.in-None.is c.next.ensures.steps in
    multiplied_all x y c.loop-a.invariant (omega arith)
