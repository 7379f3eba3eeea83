use Rattle.std.proofs.Common.{◌∙◌, ap, sym, take, List, ℕ, [], ◌∷◌, ◌++◌}
use Rattle.text.specs.Text.{decimal}
use Rattle.text.proofs.Texts.{put_more}
use Rattle.location_text.specs.Words.{record_name, part_name}
use Rattle.location_text.proofs.WordLaws.{words-put, no_words}
use Rattle.location_text.proofs.words.Goals as goal

pub returns-then-l-eq0 : goal.returns-then-l-eq0
returns-then-l-eq0 c = c.new-text.ensures ∙ sym (no_words c.args.l c.if-l-eq0.true)

pub returns : goal.returns
returns c =
    let l = c.args.l in
    let record_put = c.push.ensures ∙ ap (λ (s : List ℕ). take 53 (c.new-text.result ++ s)) c.record_name.ensures in
    let part_put = c.push-3.ensures ∙ ap (λ (s : List ℕ). take 53 (c.push-2.new.self ++ s)) c.part_name.ensures in
    let kind = put_more 53 [] (record_name l.kind) c.new-text.ensures record_put in
    let apart = put_more 53 _ (32 ∷ []) kind c.push-2.ensures in
    let inside = put_more 53 _ (part_name l.part) apart part_put in
    let before = put_more 53 _ (32 ∷ []) inside c.push-4.ensures in
    put_more 53 _ (decimal l.index) before c.push_decimal.ensures ∙ words-put l c.if-l-eq0.false
