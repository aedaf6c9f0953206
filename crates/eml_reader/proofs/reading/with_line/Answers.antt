use Rattle.std.proofs.Common.{◌++◌, [], ◌∷◌, None, map, option_map, sym, ap, ◌∙◌}
use Rattle.choice_tree.specs.RuleViews.{correction_of}
use Rattle.eml_reader.specs.RuleReading.{behind, rules_behind}
use Rattle.eml_reader.proofs.LineLaws.{message_next}
use Rattle.eml_reader.proofs.reading.with_line.Goals as goal

pub returns-in_ok-rules-in-Some-2 : goal.returns-in_ok-rules-in-Some-2
returns-in_ok-rules-in-Some-2 c =
    let before = map correction_of c.args.read.rules.items in
    λ ls.
    ap (λ o. behind before (rules_behind (option_map correction_of o) (c.args.line.now ∷ ls)))
    c.in-Some.is
    ∙ message_next before (correction_of c.in-Some.rule) c.args.line.now ls c.in-Some-2.text
    (sym c.in_ok-message_of-in-Some.ensures ∙ c.in-Some-2.is)
    ∙ ap (λ rs. behind rs (rules_behind None ls))
    (sym (c.in_ok-rules-in-Some-2.ensures ∙ ap (λ r. before ++ r ∷ []) c.with_message.ensures))
