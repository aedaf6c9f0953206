use Rattle.mpy_tree.specs.Rules.{slice_type}
use Rattle.sym_nodes.specs.Operands.{ty_of}
use Rattle.sym_nodes.proofs.Giving.{sequence_in, sequence_room, slice_gives}
use Rattle.sym_nodes.proofs.TypeRules.{slice_is, some_type}
use Rattle.sym_nodes.proofs.sequences.slice_value.Goals as goal

pub part-requires-clause-list : goal.part-requires-clause-list
part-requires-clause-list g c =
    let a = c.args.a.now in
    let typed = some_type (slice_type (ty_of a)) c.requires.typed in
    sequence_in c.args.limits.now a c.requires.list (slice_is (ty_of a) typed.0 typed.1).1

pub returns-clause-value : goal.returns-clause-value
returns-clause-value g c =
    let l = c.args.limits.now in
    let a = c.args.a.now in
    let typed = some_type (slice_type (ty_of a)) c.requires.typed in
    slice_gives g.L.Logic.reads c.args.g.now c.part.new.g a c.args.from c.args.to c.end_word-low.result c.end_word-high.result c.in_ok-items.items l
    c.end_word-low.ensures c.end_word-high.ensures (sequence_room l a c.requires.list.form (slice_is (ty_of a) typed.0 typed.1).1) c.in_ok-items.ensures.value
