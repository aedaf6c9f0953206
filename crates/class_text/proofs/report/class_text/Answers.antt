-- the compact text, and the end of the line
use Rattle.std.proofs.Common.{◌≡◌, ◌∷◌, ◌++◌, [], map, ap, ◌∙◌, arith}
use Rattle.std.specs.String.{string_bytes}
use Rattle.serde_json.specs.View.{view}
use Rattle.serde_json.specs.Written.{compact_text, has_float}
use Rattle.class_text.specs.EntryViews.{entry_of}
use Rattle.class_text.specs.Reports.{class_data}
use Rattle.class_text.proofs.WholeNumbers.{whole_class}
use Rattle.class_text.proofs.report.class_text.Goals as goal

pub returns : goal.returns
returns c =
    let entries = map entry_of c.args.entries.items in
    let is : view c.in_ok-class_value.field-0 ≡ class_data entries = c.in_ok-class_value.ensures in
    let text : string_bytes c.in_ok-text.text ≡ compact_text (class_data entries) =
    c.in_ok-text.ensures.text (ap has_float is ∙ whole_class entries) ∙ ap compact_text is in
    c.in_ok-push.ensures.bytes ∙ ap (λ e. string_bytes c.in_ok-text.text ++ e) (c.in_ok-push.ensures.ascii (omega arith))
    ∙ ap (λ t. t ++ 10 ∷ []) text
