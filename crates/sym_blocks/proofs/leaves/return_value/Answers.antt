use Rattle.std.proofs.Common.{◌∙◌, ap, sym, is_some}
use Rattle.bit_words.specs.Logic.{extends_keeps, extends_trans}
use Rattle.mpy_tree.specs.Statements.{value_at}
use Rattle.sym_paths.specs.Later.{path_later}
use Rattle.sym_paths.specs.Paths.{reached}
use Rattle.sym_blocks.specs.Bodies.{scope_in}
use Rattle.sym_blocks.proofs.Laters.{leads_later}
use Rattle.choice_tree.specs.WeightedViews.{weighted_of}
use Rattle.sym_blocks.proofs.Settings.{result_type_is}
use Rattle.sym_blocks.proofs.TypedParts.{returned}
use Rattle.sym_blocks.proofs.leaves.return_value.Goals as goal

pub eval_on-requires-clause-typed : goal.eval_on-requires-clause-typed
eval_on-requires-clause-typed g c =
    let run = c.args.run.now in
    let sigs = g.C.Functions.signatures run.functions.now in
    let σ = scope_in sigs run in
    let typed = returned σ (weighted_of c.args.e.now) c.requires.typed in
    ap is_some typed.1

pub out_returned-requires : goal.out_returned-requires
out_returned-requires g c =
    let run = c.args.run.now in
    let sigs = g.C.Functions.signatures run.functions.now in
    let σ = scope_in sigs run in
    let typed = returned σ (weighted_of c.args.e.now) c.requires.typed in
    record {
      held = path_later (extends_keeps c.eval_on.ensures.extends) c.requires.path;
      outcome = (typed.0, sym (result_type_is sigs run.slots.now) ∙ typed.2, c.in_ok-outcome.ensures.made typed.0 typed.1);
    }

pub returns-clause-extends : goal.returns-clause-extends
returns-clause-extends g c = extends_trans c.eval_on.ensures.extends c.out_returned.ensures.extends

pub returns-clause-value : goal.returns-clause-value
returns-clause-value g c line vs m calls o t chosen at plain =
    let slots = c.args.run.now.slots.now in
    let here = leads_later slots vs (extends_keeps c.eval_on.ensures.extends) c.requires.path at in
    c.in_ok-out.ensures.value vs o (λ s. value_at slots.limits calls s line t) here
    (λ s e. c.in_ok-outcome.ensures.value vs m calls s line t chosen (at ∙ ap reached e) plain)
