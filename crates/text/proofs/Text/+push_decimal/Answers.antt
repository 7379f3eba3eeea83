use Rattle.std.proofs.Common.{◌∙◌, sym, ap, take, ◌+◌, ◌%◌, ◌/◌, ◌++◌, ◌∷◌, [], List, ℕ}
use Rattle.text.specs.Text.{decimal}
use Rattle.text.proofs.Texts.{put_both}
use Rattle.text.proofs.Decimals.{decimal-one, decimal-more}
use Rattle.text.proofs.Text.+push_decimal.Goals as goal
use Rattle.text.proofs.Text.+push_decimal.Goals.{then-n-ge10, else-n-ge10}

pub returns : goal.returns
returns g t c =
    let old : List ℕ = c.args.self.now in
    let n : ℕ = c.args.n in
    let digit : List ℕ = (48 + n % 10) ∷ [] in
    elim c.if-n-ge10.branch [
      | then-n-ge10 w ↦
          put_both g.row.N old (decimal (n / 10)) digit (w.self-is ∙ w.push_decimal.ensures) c.push.ensures
          ∙ ap (λ (l : List ℕ). take g.row.N (old ++ l)) (sym (decimal-more n c.ranges.n.fits w.if-n-ge10.true))
      | else-n-ge10 w ↦
          c.push.ensures ∙ ap (λ (l : List ℕ). take g.row.N (l ++ digit)) w.self-is
          ∙ ap (λ (l : List ℕ). take g.row.N (old ++ l)) (sym (decimal-one n w.if-n-ge10.false))
    ]
