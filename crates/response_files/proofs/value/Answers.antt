use Rattle.std.proofs.Common.{Bor, List, ℕ, ◌+◌, ◌≡◌, ◌∙◌, ap, [], true, false, cond, length, drop, refl}
use Rattle.std.specs.Prelude.{Option, Some, None, unwrap_or}
use Rattle.std.specs.Option.{MatchOption}
use Rattle.response_files.specs.Lines.{starts_with, value_of}
use Rattle.response_files.proofs.value.Goals as goal

stripped : (name line : List ℕ) (none : Bor (List ℕ)) (r : Option (Bor (List ℕ))) → none.now ≡ []
    → MatchOption r (starts_with name line ≡ false)
    (λ x. (starts_with name line ≡ true) × (x.now ≡ drop (length name) line) × (length x.now + length name ≡ length line))
    → (unwrap_or r none).now ≡ cond (starts_with name line) (drop (length name) line) []
stripped name line none None e h = rw h e
stripped name line none (Some x) e h = rw h.0 h.1

pub returns : goal.returns
unfolding value_of
returns c =
    let name = c.args.name.now in
    ap (λ (b : Bor (List ℕ)). b.now) c.unwrap_or.ensures
    ∙ stripped name c.first_line.result.now _ c.strip_prefix.result refl c.strip_prefix.ensures.cases
    ∙ ap (λ (line : List ℕ). cond (starts_with name line) (drop (length name) line) []) c.first_line.ensures
