use Rattle.std.proofs.Common.{◌∙◌, ap, sym, is_some}
use Rattle.bit_words.specs.Logic.{extends_keeps, extends_trans}
use Rattle.sym_paths.specs.Later.{path_later}
use Rattle.sym_paths.specs.Paths.{reached}
use Rattle.sym_blocks.specs.Bodies.{scope_in}
use Rattle.sym_blocks.proofs.Laters.{leads_later}
use Rattle.choice_tree.specs.WeightedViews.{weighted_of}
use Rattle.mpy_tree.specs.declared.typing.Ty.TheVariants as ty
use Rattle.mpy_tree.specs.Operations.{append}
use Rattle.mpy_tree.specs.Statements.{local_at, set_by, value_at}
use Rattle.sym_values.specs.Later.{outcome_in_later, outcome_later}
use Rattle.sym_blocks.proofs.Settings.{local_type_is}
use Rattle.sym_blocks.proofs.TypedParts.{appended}
use Rattle.sym_blocks.proofs.leaves.exec_append.Goals as goal

pub local_on-requires-clause-typed : goal.local_on-requires-clause-typed
local_on-requires-clause-typed g c =
    let run = c.args.run.now in
    let sigs = g.C.Functions.signatures run.functions.now in
    let σ = scope_in sigs run in
    let typed = appended σ c.args.x.now (weighted_of c.args.e.now) c.requires.typed in
    ap is_some typed.0

pub eval_on-requires-clause-typed : goal.eval_on-requires-clause-typed
eval_on-requires-clause-typed g c =
    let run = c.args.run.now in
    let sigs = g.C.Functions.signatures run.functions.now in
    let σ = scope_in sigs run in
    let typed = appended σ c.args.x.now (weighted_of c.args.e.now) c.requires.typed in
    ap is_some typed.1

pub append_outcome-requires : goal.append_outcome-requires
append_outcome-requires g c =
    let run = c.args.run.now in
    let sigs = g.C.Functions.signatures run.functions.now in
    let σ = scope_in sigs run in
    let typed = appended σ c.args.x.now (weighted_of c.args.e.now) c.requires.typed in
    record {
      list = outcome_in_later (extends_keeps c.eval_on.ensures.extends) (c.in_ok-list.ensures.made ty.List typed.0);
      number = c.in_ok-number.ensures.made ty.Int typed.1;
    }

pub out_stored-requires : goal.out_stored-requires
out_stored-requires g c =
    let run = c.args.run.now in
    let sigs = g.C.Functions.signatures run.functions.now in
    let σ = scope_in sigs run in
    let l = run.slots.now.limits in
    let typed = appended σ c.args.x.now (weighted_of c.args.e.now) c.requires.typed in
    let both = extends_trans c.eval_on.ensures.extends c.append_outcome.ensures.extends in
    record {
      held = path_later (extends_keeps both) c.requires.path;
      typed = (ty.List, sym (local_type_is sigs run.slots.now c.args.x.now) ∙ typed.0, c.in_ok-outcome.ensures.made);
    }

pub returns-clause-extends : goal.returns-clause-extends
returns-clause-extends g c = extends_trans c.eval_on.ensures.extends (extends_trans c.append_outcome.ensures.extends c.out_stored.ensures.extends)

pub returns-clause-value : goal.returns-clause-value
returns-clause-value g c line vs m calls o t chosen at plain =
    let run = c.args.run.now in
    let sigs = g.C.Functions.signatures run.functions.now in
    let σ = scope_in sigs run in
    let slots = run.slots.now in
    let typed = appended σ c.args.x.now (weighted_of c.args.e.now) c.requires.typed in
    let one = extends_keeps c.eval_on.ensures.extends in
    let both = extends_trans c.eval_on.ensures.extends c.append_outcome.ensures.extends in
    let here = leads_later slots vs (extends_keeps both) c.requires.path at in
    let local = c.in_ok-list in
    c.in_ok-out.ensures.value vs o (λ s. set_by slots.limits calls s line c.args.x.now (append slots.limits) t) here
    (λ s e.
    let there = at ∙ ap reached e in
    let first = local_at slots.limits calls s line c.args.x.now in
    let old = outcome_later local.list one (c.in_ok-list.ensures.made ty.List typed.0) vs first (local.ensures.value vs s line there) in
    c.in_ok-outcome.ensures.value vs line first (value_at slots.limits calls s line t) old (c.in_ok-number.ensures.value vs m calls s line t chosen there plain))
