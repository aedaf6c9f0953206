use Rattle.mpy_tree.specs.Statements.{value_at}
use Rattle.std.proofs.Common.{◌∙◌, ap, sym}
use Rattle.bit_words.specs.Logic.{extends_keeps, extends_trans}
use Rattle.sym_nodes.specs.Plain.{type_of}
use Rattle.sym_paths.specs.Later.{path_later}
use Rattle.sym_paths.specs.Paths.{reached}
use Rattle.sym_blocks.specs.Bodies.{scope_in}
use Rattle.sym_blocks.proofs.Laters.{leads_later}
use Rattle.choice_tree.specs.WeightedViews.{weighted_of}
use Rattle.sym_blocks.proofs.TypedParts.{some_of}
use Rattle.sym_blocks.proofs.leaves.exec_print.Goals as goal

pub out_printed-requires : goal.out_printed-requires
out_printed-requires g c =
    let run = c.args.run.now in
    let σ = scope_in (g.C.Functions.signatures run.functions.now) run in
    let typed = some_of (type_of σ (weighted_of c.args.e.now)) c.requires.typed in
    record {
      held = path_later (extends_keeps c.eval_on.ensures.extends) c.requires.path;
      each = sym c.requires.run.types;
      keeps = c.requires.run.keeps;
      outcome = (typed.0, c.in_ok-outcome.ensures.made typed.0 typed.1);
    }

pub returns-clause-extends : goal.returns-clause-extends
returns-clause-extends g c = extends_trans c.eval_on.ensures.extends c.out_printed.ensures.extends

pub returns-clause-value : goal.returns-clause-value
returns-clause-value g c line vs m calls o t chosen at plain =
    let slots = c.args.run.now.slots.now in
    let here = leads_later slots vs (extends_keeps c.eval_on.ensures.extends) c.requires.path at in
    c.in_ok-out.ensures.value vs o (λ s. value_at slots.limits calls s line t) line here
    (λ s e. c.in_ok-outcome.ensures.value vs m calls s line t chosen (at ∙ ap reached e) plain)
