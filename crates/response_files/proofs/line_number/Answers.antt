use Rattle.std.proofs.Common.{rules, ℕ, ◌+◌, ◌≡◌, ◌∙◌, ap, take, nat_eq}
use Rattle.std.specs.Prelude.{count_by}
use Rattle.response_files.specs.Lines.{feeds, line_at}
use Rattle.response_files.proofs.Lines.{feeds-count}
use Rattle.response_files.proofs.line_number.Goals as goal

pub returns : goal.returns
unfolding line_at
returns c =
    let text = c.args.text.now in
    let found : c.count.result ≡ count_by (λ x. nat_eq x 10) (take c.saturating_sub-before.result text) = search rules in
    ap (λ (n : ℕ). 1 + n) (found ∙ feeds-count _ ∙ ap (λ (n : ℕ). feeds (take n text)) c.saturating_sub-before.ensures)
