use mathlib.Core.Path.{◌≡◌, ap, ◌∙◌}
use mathlib.Core.List.{List}
use Prim.Native.Nat.{ℕ, ◌-◌, ◌<◌, ◌≤◌}
use native.Mathlib.Omega.{arith}
use lib.ListN.{get_or}
use Rattle.lists.specs.Table.{table}
use Rattle.lists.proofs.FromFn.{from_fn-table, from_fn-callable}
use Rattle.lists.proofs.Tables.{get_or-table, table_same}
use Rattle.algebra.specs.Halving.{reversed}
use Rattle.twiddles.specs.Powers.{degree}
use Rattle.twiddles.proofs.Reversal.{reversed-below}
use borrow.Author.Rules.{rules}
use Rattle.twiddles.proofs.opposites.Goals as goal

entry : (e : List ℕ) → e ≡ table degree (reversed 10) → (k : ℕ) → k < degree → get_or e k 0 ≡ reversed 10 k
entry e is k h = ap (λ (l : List ℕ). get_or l k 0) is ∙ get_or-table degree (reversed 10) k 0 h

pub from_fn-requires : goal.from_fn-requires
from_fn-requires c = (
  search rules,
  from_fn-callable _ _ degree (λ k y q call. search rules)
      (λ k h. let fits : get_or c.args.e k 0 ≤ 1024 = omega (arith, reversed-below k h, entry c.args.e c.requires k h) in search rules),
)

pub returns : goal.returns
returns c =
    let e = c.args.e in
    from_fn-table _ _ (λ k. degree - get_or e k 0) c.from_fn.result degree 0 (λ k y q h call. search rules) c.from_fn.ensures.items
    ∙ table_same degree _ _ (λ k h. ap (λ (n : ℕ). degree - n) (entry e c.requires k h))
