use mathlib.Core.Path.{sym, ap, ◌∙◌}
use mathlib.Core.Bool.{Bool, ◌&&◌, cond}
use Prim.Native.Nat.{◌*◌}
use lib.Dec.{eqb}
use Rattle.batch_records.specs.Batches.{batch_length}
use Rattle.batch_records.proofs.Laws.{body-within}
use borrow.Author.Rules.{rules}
use Rattle.batch_records.proofs.body_length.Goals as goal

pub returns-then-is_count-size : goal.returns-then-is_count-size
returns-then-is_count-size c =
    let args = c.args in
    let test = ap (λ (b : Bool). b && eqb args.size (batch_length args.m)) (sym c.is_count.ensures) ∙ c.if-is_count-size.true in
    let is = sym (ap (λ (b : Bool). cond b (16 * args.m) 0) test) in record { value = is; upper_bound = rw is (body-within args.m args.size c.requires.1) }

pub returns : goal.returns
returns c =
    let args = c.args in
    let test = ap (λ (b : Bool). b && eqb args.size (batch_length args.m)) (sym c.is_count.ensures) ∙ c.if-is_count-size.false in
    let is = sym (ap (λ (b : Bool). cond b (16 * args.m) 0) test) in record { value = is; upper_bound = search rules }
