use Rattle.std.proofs.Common.{◌∙◌, ap, sym}
use Rattle.sym_paths.specs.Endings.{seen_from}
use Rattle.sym_blocks.specs.Bodies.{scope_in}
use Rattle.sym_blocks.proofs.Returning.{give_nothing, give_value, value_picks, value_typed}
use Rattle.sym_blocks.proofs.leaves.exec_return.Goals as goal

pub return_value-requires-clause-typed : goal.return_value-requires-clause-typed
return_value-requires-clause-typed g c =
    let run = c.args.run.now in
    value_typed (scope_in (g.C.Functions.signatures run.functions.now) run) c.args.e.now c.in-Some.value c.in-Some.is c.requires.typed

pub return_value-requires-clause-picks : goal.return_value-requires-clause-picks
return_value-requires-clause-picks g c = value_picks c.args.run.now.picks.now c.args.e.now c.in-Some.value c.in-Some.is c.requires.picks

pub returns-in_ok-out-in-None-clause-value : goal.returns-in_ok-out-in-None-clause-value
returns-in_ok-out-in-None-clause-value g c line vs m calls o t chosen at plain =
    c.in_ok-out-in-None.ensures.value line vs o at ∙ give_nothing c.args.run.now.slots.now.limits calls m line c.args.e.now o t c.in-None.is plain

pub returns-in_ok-out-in-Some-clause-value : goal.returns-in_ok-out-in-Some-clause-value
returns-in_ok-out-in-Some-clause-value g c line vs m calls o t chosen at plain =
    let value = give_value c.args.run.now.slots.now.limits calls m line c.args.e.now c.in-Some.value t c.in-Some.is plain in
    c.in_ok-out-in-Some.ensures.value line vs m calls o value.0 chosen at value.1 ∙ ap (seen_from o) (sym value.2)
