use Rattle.std.proofs.Common.{rules, tests, ◌∙◌, sym, false, true, ◌≡◌}
use Rattle.std.proofs.lemmas.Iterator.{YieldsList-from_slice, IsFirst-from_position}
use Rattle.hexadecimal.proofs.First.{first_found}
use Rattle.response_files.specs.Lines.{in_line}
use Rattle.response_files.proofs.line_feed.Goals as goal

pub returns : goal.returns
returns c =
    let found = IsFirst-from_position _ _ c.position.result (λ x. false ≡ in_line x) (λ x. true ≡ in_line x) c.position.ensures.ran
    (YieldsList-from_slice c.args.text.now c.iter.ensures.rest) (λ x q k. search (rules, tests)) (λ x q k. search (rules, tests)) in
    c.unwrap_or.ensures ∙ sym (first_found in_line c.args.text.now c.position.result found)
