use mathlib.Core.Path.{ap, ◌∙◌}
use mathlib.Core.List.{List}
use Prim.Native.Nat.{ℕ, ◌%◌}
use lib.ListN.{get_or}
use Rattle.lists.proofs.FromFn.{from_fn-table}
use Rattle.lists.proofs.Tables.{table_same}
use Rattle.twiddles.specs.Powers.{degree}
use Rattle.twiddles.proofs.Factors.{form-at}
use borrow.Author.Rules.{rules}
use Rattle.twiddles.proofs.block_factors.Goals as goal

pub returns : goal.returns
returns c =
    let t = c.power_forms-t.result in
    from_fn-table _ _ (λ k. get_or t (get_or c.args.e k 0 % degree) 0) c.from_fn.result degree 0 (λ k y q h call. search rules) c.from_fn.ensures.items
    ∙ table_same degree _ _ (λ k h.
    let e = get_or c.args.e k 0 % degree in
    ap (λ (l : List ℕ). get_or l e 0) c.power_forms-t.ensures ∙ form-at e (search rules))
