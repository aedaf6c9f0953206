use Rattle.std.proofs.Common.{ap, sym, ◌∙◌, length}
use Rattle.mpy_tree.specs.Builtins.{builtin_of}
use Rattle.choice_tree.specs.RuleViews.{template_of}
use Rattle.eml_faults.specs.MeaningFaults.{is_miscall, takes_others}
use Rattle.eml_faults.proofs.Walks.{call_seen, parts_counted}
use Rattle.eml_faults.proofs.meanings.is_miscall.Goals as goal

pub returns-in-Call : goal.returns-in-Call
returns-in-Call c =
    c.takes_others.ensures
    ∙ ap (takes_others (builtin_of c.in-Call.f))
    (ap length c.as_slice.ensures.value ∙ sym (parts_counted c.in-Call.es.items.items))
    ∙ ap is_miscall (sym (ap template_of c.in-Call.is ∙ call_seen c.in-Call.f c.in-Call.es))
