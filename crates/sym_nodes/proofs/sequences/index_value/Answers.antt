use Rattle.std.proofs.Common.{ap, ◌∙◌, is_some}
use Rattle.mpy_tree.specs.Operations.{index}
use Rattle.mpy_tree.specs.Rules.{index_type}
use Rattle.sym_nodes.specs.Operands.{ty_of}
use Rattle.sym_nodes.proofs.Giving.{item_form_is, sequence_gives, sequence_in, sequence_room}
use Rattle.sym_nodes.proofs.TypeRules.{index_is, some_type}
use Rattle.sym_nodes.proofs.sequences.index_value.Goals as goal

pub item-requires-clause-list : goal.item-requires-clause-list
item-requires-clause-list g c =
    let a = c.args.a.now in
    let place = c.args.place.now in
    let typed = some_type (index_type (ty_of a) (ty_of place)) c.requires.typed in
    sequence_in c.args.limits.now a c.requires.list (ap is_some (index_is (ty_of a) (ty_of place) typed.0 typed.1).1)

pub returns-clause-made : goal.returns-clause-made
returns-clause-made g c t e =
    let a = c.args.a.now in
    let made = c.in_ok-found.ensures.made in
    let index = index_is (ty_of a) (ty_of c.args.place.now) t e in
    record { owned = made.owned; owned_fault = made.owned_fault; form = made.form ∙ item_form_is c.args.limits.now a t c.requires.list.form index.1 }

pub returns-clause-value : goal.returns-clause-value
returns-clause-value g c =
    let l = c.args.limits.now in
    let a = c.args.a.now in
    let place = c.args.place.now in
    let typed = some_type (index_type (ty_of a) (ty_of place)) c.requires.typed in
    let items = ap is_some (index_is (ty_of a) (ty_of place) typed.0 typed.1).1 in
    sequence_gives g.L.Logic.reads c.args.g.now c.item.new.g a place c.word_of-word.result.now c.in_ok-found.found (λ l. index) l
    c.word_of-word.ensures (sequence_room l a c.requires.list.form items) c.in_ok-found.ensures.value
