use Rattle.std.proofs.Common.{length, map, sym, ap, ◌∙◌}
use Rattle.std.proofs.lemmas.List.{length-map}
use Rattle.mpy_tree.specs.View.{routine_of}
use Rattle.mpy_tree.specs.Entries.{entry_of}
use Rattle.mpy_types.specs.Views.{place_of}
use Rattle.mpy_types.proofs.Linked.{least_facts}
use Rattle.mpy_types.proofs.check.least_set.Goals as goal

pub returns-clause-least : goal.returns-clause-least
returns-clause-least c =
    let p = map routine_of c.args.scopes.now.funcs.now in
    least_facts c.in_ok-sets.sets.items p (entry_of c.args.s.now) (length c.args.places.now) c.deref.result.now c.in_ok-sets.ensures
    (sym (length-map c.args.places.now place_of) ∙ ap length c.requires)
    (c.deref.ensures.value ∙ c.in_ok-inflows.ensures)
