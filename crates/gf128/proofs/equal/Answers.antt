use mathlib.Core.Path.{◌≡◌, sym, ap, ◌∙◌}
use mathlib.Core.List.{List}
use Prim.Native.Nat.{ℕ}
use native.Mathlib.Omega.{arith}
use lib.ListN.{length, get_or}
use lib.Seq.{ext_get_or}
use borrow.Author.Count.{below_more}
use Rattle.std.proofs.lemmas.List.{length_push}
use Rattle.std.proofs.lemmas.Slice.Zip.{zip_turn, zip_end}
use Rattle.gf128.proofs.Comparison.{or-zero, or_same, equal_by}
use borrow.Author.Rules.{rules}
use Rattle.gf128.proofs.equal.Goals as goal

pub loop-x-preserved : goal.loop-x-preserved
loop-x-preserved c =
    let before = c.loop-x.invariant in
    let n = length c.loop-x.yielded in
    let t = zip_turn c.args.a c.args.b c.loop-x.yielded c.into_iter-x-iterator.result c.loop-x.x-iterator c.next.new.self c.next.result
    (search rules) (search rules) c.loop-x.yielded_by (c.in-Some.x, c.in-Some.y) c.in-Some.is c.next.ensures.steps in (
      (λ e.
          let p = or-zero _ _ _ e in
          rw (length_push c.loop-x.yielded (c.in-Some.x, c.in-Some.y)) (below_more _ _ (before.0 p.0) (sym (t.2 0) ∙ p.1 ∙ t.3 0))),
      (λ e. or_same _ _ _ (before.1 e) (t.2 0 ∙ ap (λ (l : List ℕ). get_or l n 0) e ∙ sym (t.3 0))),
    )

pub returns : goal.returns
returns c =
    let a = c.args.a in
    let b = c.args.b in
    let ha : length a ≡ 16 = search rules in
    let hb : length b ≡ 16 = search rules in
    let n = zip_end a b c.loop-x.yielded c.into_iter-x-iterator.result c.loop-x.x-iterator c.next.new.self c.next.result
    (search rules) (search rules) c.loop-x.yielded_by c.in-None.is c.next.ensures.steps in
    equal_by _ a b (λ e. ext_get_or 0 a b (omega arith) (λ k h. c.loop-x.invariant.0 e k (omega arith))) c.loop-x.invariant.1
