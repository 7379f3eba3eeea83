use Rattle.std.proofs.Common.{rules, tests, ◌∙◌, sym, false, true, ◌≡◌}
use Rattle.std.proofs.lemmas.Iterator.{YieldsList-from_slice, IsFirst-from_position}
use Rattle.hexadecimal.proofs.First.{first_found}
use Rattle.hexadecimal.specs.Hex.{is_digit}
use Rattle.hexadecimal.proofs.count_digits.Goals as goal

pub returns : goal.returns
returns c =
    let found = IsFirst-from_position _ _ c.position.result (λ x. false ≡ is_digit x) (λ x. true ≡ is_digit x) c.position.ensures.ran
    (YieldsList-from_slice c.args.text.now c.iter.ensures.rest) (λ x q k. search (rules, tests)) (λ x q k. search (rules, tests)) in
    c.unwrap_or.ensures ∙ sym (first_found is_digit c.args.text.now c.position.result found)
