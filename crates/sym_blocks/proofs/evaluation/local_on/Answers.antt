use Rattle.std.proofs.Common.{◌∙◌, ap, is_some}
use Rattle.mpy_tree.specs.Values.{set_or_fault}
use Rattle.sym_values.specs.Reading.{read}
use Rattle.sym_blocks.proofs.Outcomes.{on_its_line}
use Rattle.sym_blocks.proofs.Settings.{env_in, local_same, state_on}
use Rattle.sym_blocks.proofs.evaluation.local_on.Goals as goal

pub local-requires : goal.local-requires
local-requires g c =
    let run = c.args.run.now in
    let same = local_same (g.C.Functions.signatures run.functions.now) run c.args.path.now c.requires.run.types c.requires.path c.args.x.now in
    record {
      env = env_in run c.args.path.now c.requires.run c.requires.path;
      typed = ap is_some same ∙ c.requires.typed;
    }

pub returns-clause-made : goal.returns-clause-made
returns-clause-made g c t e =
    let run = c.args.run.now in
    let same = local_same (g.C.Functions.signatures run.functions.now) run c.args.path.now c.requires.run.types c.requires.path c.args.x.now in
    c.in_ok-outcome.ensures.made t (same ∙ e)

pub returns-clause-value : goal.returns-clause-value
returns-clause-value g c vs s line at =
    let run = c.args.run.now in
    let rd = g.L.Logic.reads c.args.g.now vs in
    let outcome = c.in_ok-outcome.outcome in
    let state = state_on rd run c.args.path.now s c.requires.run.differ at in
    on_its_line line (rd outcome.fault) (read rd outcome.value) (set_or_fault (s.locals c.args.x.now)) (c.in_ok-outcome.ensures.value vs s.locals state)
