use Rattle.std.proofs.Common.{map, sym, ap, ◌∙◌}
use Rattle.choice_tree.specs.RuleViews.{correction_of}
use Rattle.eml_faults.specs.LimitFaults.{limit_fault}
use Rattle.eml_faults.specs.MeaningFaults.{meaning_fault}
use Rattle.eml_reader.specs.RuleFiles.{by_limit, by_meaning}
use Rattle.eml_reader.proofs.reading.parse.Goals as goal

pub returns-in-Some-clause-refused : goal.returns-in-Some-clause-refused
returns-in-Some-clause-refused c =
    by_limit (map correction_of c.in_ok-rules.rules.items) c.in-Some.line
    c.in_ok-rules.ensures.read
    (ap (λ rs. limit_fault (map correction_of rs)) (sym c.deref.ensures.value)
    ∙ sym c.limit_line.ensures ∙ c.in-Some.is)

pub returns-in-Some-2-clause-refused : goal.returns-in-Some-2-clause-refused
returns-in-Some-2-clause-refused c =
    by_meaning (map correction_of c.in_ok-rules.rules.items) c.in-Some-2.fault
    c.in_ok-rules.ensures.read
    (ap (λ rs. limit_fault (map correction_of rs)) (sym c.deref.ensures.value)
    ∙ sym c.limit_line.ensures ∙ c.in-None.is)
    (ap (λ rs. meaning_fault (map correction_of rs)) (sym c.deref-in-None.ensures.value)
    ∙ sym c.in_ok-meaning_fault-in-None.ensures ∙ c.in-Some-2.is)
