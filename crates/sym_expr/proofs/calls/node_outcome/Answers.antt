use Rattle.std.proofs.Common.{ap, is_some, sym, ◌∙◌}
use Rattle.choice_tree.specs.WeightedViews.{weighted_of}
use Rattle.sym_nodes.specs.Operands.{types_of}
use Rattle.sym_nodes.specs.Views.{env_of}
use Rattle.sym_nodes.proofs.TypeRules.{some_type}
use Rattle.sym_expr.proofs.Calling.{call_plain, call_typed, is_call, no_call_typed}
use Rattle.sym_expr.proofs.calls.node_outcome.Goals as goal

pub call_outcome-requires-clause-typed : goal.call_outcome-requires-clause-typed
call_outcome-requires-clause-typed g c =
    let env = env_of c.args.view.now in
    let called = g.C.Functions.signatures c.args.functions.now in
    let w = weighted_of c.args.e.now in
    let f = c.in-Some.f.now in
    let typed = some_type _ c.requires.typed in
    let os = types_of c.args.parts.items in
    let call = is_call w f (sym c.in-Some.ensures) in
    ap is_some (call_typed called env w f os typed.0 call typed.1)

pub returns-in_ok-given-in-Some-clause-made : goal.returns-in_ok-given-in-Some-clause-made
returns-in_ok-given-in-Some-clause-made g c t e =
    let env = env_of c.args.view.now in
    let called = g.C.Functions.signatures c.args.functions.now in
    let w = weighted_of c.args.e.now in
    let f = c.in-Some.f.now in
    let os = types_of c.args.parts.items in
    let call = is_call w f (sym c.in-Some.ensures) in
    c.in_ok-given-in-Some.ensures.made t (call_typed called env w f os t call e)

pub returns-in_ok-given-in-Some-clause-value : goal.returns-in_ok-given-in-Some-clause-value
returns-in_ok-given-in-Some-clause-value g c vs s m calls line a k p all =
    let reads = g.L.Logic.reads in
    let l = c.args.view.now.limits.now in
    let w = weighted_of c.args.e.now in
    let f = c.in-Some.f.now in
    let given = c.in_ok-given-in-Some in
    let call = is_call w f (sym c.in-Some.ensures) in
    call_plain (reads c.args.g.now vs) (reads c.call_outcome.new.g vs) l calls s line m f w
    c.args.parts.items given.given call
    (λ rs h. given.ensures.value vs m calls line rs a p h) all

pub node_in_view-requires-clause-typed : goal.node_in_view-requires-clause-typed
node_in_view-requires-clause-typed g c =
    let env = env_of c.args.view.now in
    let called = g.C.Functions.signatures c.args.functions.now in
    let w = weighted_of c.args.e.now in
    let typed = some_type _ c.requires.typed in
    let same = no_call_typed called env w (types_of c.args.parts.items) (sym c.in-None.ensures) in
    ap is_some (sym same ∙ typed.1)

pub returns-in_ok-made-in-None-clause-made : goal.returns-in_ok-made-in-None-clause-made
returns-in_ok-made-in-None-clause-made g c t e =
    let env = env_of c.args.view.now in
    let called = g.C.Functions.signatures c.args.functions.now in
    let w = weighted_of c.args.e.now in
    let same = no_call_typed called env w (types_of c.args.parts.items) (sym c.in-None.ensures) in
    c.in_ok-made-in-None.ensures.made t (sym same ∙ e)

pub returns-in_ok-made-in-None-clause-value : goal.returns-in_ok-made-in-None-clause-value
returns-in_ok-made-in-None-clause-value g c vs s m calls line a k p all =
    c.in_ok-made-in-None.ensures.value vs s m calls line k p all
