use Rattle.std.proofs.Common.{◌∙◌, ap, is_some}
use Rattle.choice_tree.specs.WeightedViews.{weighted_of}
use Rattle.sym_blocks.proofs.Settings.{env_in, same_type_on, state_on}
use Rattle.sym_blocks.proofs.evaluation.eval_on.Goals as goal

pub eval-requires : goal.eval-requires
eval-requires g c =
    let run = c.args.run.now in
    let same = same_type_on (g.C.Functions.signatures run.functions.now) run c.args.path.now c.requires.run.types c.requires.path (weighted_of c.args.e.now) in
    record {
      env = env_in run c.args.path.now c.requires.run c.requires.path;
      typed = ap is_some same ∙ c.requires.typed;
      picks = c.requires.picks;
      many = c.requires.run.many;
    }

pub returns-clause-made : goal.returns-clause-made
returns-clause-made g c t e =
    let run = c.args.run.now in
    let same = same_type_on (g.C.Functions.signatures run.functions.now) run c.args.path.now c.requires.run.types c.requires.path (weighted_of c.args.e.now) in
    c.in_ok-outcome.ensures.made t (same ∙ e)

pub returns-clause-value : goal.returns-clause-value
returns-clause-value g c vs m calls s line t chosen at plain =
    let run = c.args.run.now in
    let state = state_on (g.L.Logic.reads c.args.g.now vs) run c.args.path.now s c.requires.run.differ at in
    c.in_ok-outcome.ensures.value vs s.locals m calls line chosen.called state chosen.members t plain
