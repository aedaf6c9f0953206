use Rattle.std.proofs.Common.{◌∙◌, ap, sym, is_some}
use Rattle.bit_words.specs.Logic.{extends_keeps, extends_trans}
use Rattle.sym_paths.specs.Later.{path_later}
use Rattle.sym_paths.specs.Paths.{reached}
use Rattle.sym_blocks.specs.Bodies.{scope_in}
use Rattle.sym_blocks.proofs.Laters.{leads_later}
use Rattle.choice_tree.specs.WeightedViews.{weighted_of}
use Rattle.mpy_tree.specs.declared.typing.Ty.TheVariants as ty
use Rattle.mpy_tree.specs.Operations.{arith}
use Rattle.mpy_tree.specs.Statements.{local_at, set_by, value_at}
use Rattle.sym_values.specs.Later.{outcome_in_later, outcome_later}
use Rattle.sym_nodes.proofs.Typed.{typed_as}
use Rattle.sym_blocks.proofs.Settings.{local_type_is}
use Rattle.sym_blocks.proofs.TypedParts.{arith_typed, augmented}
use Rattle.sym_blocks.proofs.leaves.exec_augment.Goals as goal

pub local_on-requires-clause-typed : goal.local_on-requires-clause-typed
local_on-requires-clause-typed g c =
    let run = c.args.run.now in
    let sigs = g.C.Functions.signatures run.functions.now in
    let σ = scope_in sigs run in
    let typed = augmented σ c.args.x.now c.args.by.op (weighted_of c.args.by.value.now) c.requires.typed in
    ap is_some typed.2

pub eval_on-requires-clause-typed : goal.eval_on-requires-clause-typed
eval_on-requires-clause-typed g c =
    let run = c.args.run.now in
    let sigs = g.C.Functions.signatures run.functions.now in
    let σ = scope_in sigs run in
    let typed = augmented σ c.args.x.now c.args.by.op (weighted_of c.args.by.value.now) c.requires.typed in
    ap is_some typed.3

pub arith_outcome-requires : goal.arith_outcome-requires
arith_outcome-requires g c =
    let run = c.args.run.now in
    let sigs = g.C.Functions.signatures run.functions.now in
    let σ = scope_in sigs run in
    let typed = augmented σ c.args.x.now c.args.by.op (weighted_of c.args.by.value.now) c.requires.typed in
    let l = run.slots.now.limits in
    let old = outcome_in_later (extends_keeps c.eval_on.ensures.extends) (c.in_ok-old.ensures.made typed.0 typed.2) in
    let operand = c.in_ok-operand.ensures.made typed.1 typed.3 in
    record {
      left = typed_as l typed.0 c.in_ok-old.old old;
      right = typed_as l typed.1 c.in_ok-operand.operand operand;
      typed = ap is_some (arith_typed l c.args.by.op typed.0 typed.1 typed.0 _ _ old.form operand.form typed.4);
    }

pub out_stored-requires : goal.out_stored-requires
out_stored-requires g c =
    let run = c.args.run.now in
    let sigs = g.C.Functions.signatures run.functions.now in
    let σ = scope_in sigs run in
    let l = run.slots.now.limits in
    let typed = augmented σ c.args.x.now c.args.by.op (weighted_of c.args.by.value.now) c.requires.typed in
    let both = extends_trans c.eval_on.ensures.extends c.arith_outcome.ensures.extends in
    record {
      held = path_later (extends_keeps both) c.requires.path;
      typed = (typed.0, sym (local_type_is sigs run.slots.now c.args.x.now) ∙ typed.2, c.in_ok-outcome.ensures.made typed.0 (arith_typed l c.args.by.op typed.0 typed.1 typed.0 _ _ (c.in_ok-old.ensures.made typed.0 typed.2).form (c.in_ok-operand.ensures.made typed.1 typed.3).form typed.4));
    }

pub returns-clause-extends : goal.returns-clause-extends
returns-clause-extends g c = extends_trans c.eval_on.ensures.extends (extends_trans c.arith_outcome.ensures.extends c.out_stored.ensures.extends)

pub returns-clause-value : goal.returns-clause-value
returns-clause-value g c line vs m calls o t chosen at plain =
    let run = c.args.run.now in
    let sigs = g.C.Functions.signatures run.functions.now in
    let σ = scope_in sigs run in
    let slots = run.slots.now in
    let typed = augmented σ c.args.x.now c.args.by.op (weighted_of c.args.by.value.now) c.requires.typed in
    let one = extends_keeps c.eval_on.ensures.extends in
    let both = extends_trans c.eval_on.ensures.extends c.arith_outcome.ensures.extends in
    let here = leads_later slots vs (extends_keeps both) c.requires.path at in
    let local = c.in_ok-old in
    c.in_ok-out.ensures.value vs o (λ s. set_by slots.limits calls s line c.args.x.now (arith slots.limits c.args.by.op) t) here
    (λ s e.
    let there = at ∙ ap reached e in
    let first = local_at slots.limits calls s line c.args.x.now in
    let old = outcome_later local.old one (c.in_ok-old.ensures.made typed.0 typed.2) vs first (local.ensures.value vs s line there) in
    c.in_ok-outcome.ensures.value vs line first (value_at slots.limits calls s line t) old (c.in_ok-operand.ensures.value vs m calls s line t chosen there plain))
