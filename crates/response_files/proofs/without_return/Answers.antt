use Rattle.std.proofs.Common.{Bor, List, ℕ, ◌+◌, ◌-◌, ◌≡◌, ◌∙◌, ap, ◌∷◌, [], true, false, length, take, drop}
use Rattle.std.specs.Prelude.{Option, Some, None, unwrap_or, bytes_eq}
use Rattle.std.specs.Option.{MatchOption}
use Rattle.response_files.specs.Lines.{without_return}
use Rattle.response_files.proofs.Lines.{return_cut, return_kept}
use Rattle.response_files.proofs.without_return.Goals as goal

stripped : (line : Bor (List ℕ)) (r : Option (Bor (List ℕ)))
    → MatchOption r (bytes_eq (drop (length line.now - 1) line.now) (13 ∷ []) ≡ false)
    (λ x. (bytes_eq (drop (length line.now - 1) line.now) (13 ∷ []) ≡ true) × (x.now ≡ take (length line.now - 1) line.now) × (length x.now + 1 ≡ length line.now))
    → (unwrap_or r line).now ≡ without_return line.now
stripped line None h = return_kept line.now h
stripped line (Some x) h = h.1 ∙ return_cut line.now h.0

pub returns : goal.returns
returns c = ap (λ (b : Bor (List ℕ)). b.now) c.unwrap_or.ensures ∙ stripped c.args.line c.strip_suffix.result c.strip_suffix.ensures.cases
