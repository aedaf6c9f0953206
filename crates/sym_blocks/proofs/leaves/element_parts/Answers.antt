use Rattle.std.proofs.Common.{ap, is_some}
use Rattle.bit_words.specs.Logic.{extends_keeps, extends_trans}
use Rattle.choice_tree.specs.WeightedViews.{weighted_of}
use Rattle.mpy_tree.specs.declared.typing.Ty.TheVariants as ty
use Rattle.mpy_tree.specs.Statements.{local_at, value_at}
use Rattle.sym_paths.specs.Later.{path_later}
use Rattle.sym_values.specs.Later.{outcome_in_later, outcome_later}
use Rattle.sym_blocks.specs.Bodies.{scope_in}
use Rattle.sym_blocks.proofs.Laters.{body_later, chosen_later, leads_later}
use Rattle.sym_blocks.proofs.TypedParts.{put}
use Rattle.sym_blocks.proofs.leaves.element_parts.Goals as goal

pub local_on-requires-clause-typed : goal.local_on-requires-clause-typed
local_on-requires-clause-typed g c =
    let run = c.args.run.now in
    let sigs = g.C.Functions.signatures run.functions.now in
    let σ = scope_in sigs run in
    ap is_some (put σ c.args.at.name.now (weighted_of c.args.at.place.now) (weighted_of c.args.e.now) c.requires.typed).0

pub eval_on-requires-clause-typed : goal.eval_on-requires-clause-typed
eval_on-requires-clause-typed g c =
    let run = c.args.run.now in
    let sigs = g.C.Functions.signatures run.functions.now in
    let σ = scope_in sigs run in
    ap is_some (put σ c.args.at.name.now (weighted_of c.args.at.place.now) (weighted_of c.args.e.now) c.requires.typed).1

pub eval_on-requires-2 : goal.eval_on-requires-2
eval_on-requires-2 g c =
    let run = c.args.run.now in
    let sigs = g.C.Functions.signatures run.functions.now in
    let σ = scope_in sigs run in
    let one = extends_keeps c.eval_on.ensures.extends in
    record {
      run = body_later one c.requires.run;
      path = path_later one c.requires.path;
      typed = ap is_some (put σ c.args.at.name.now (weighted_of c.args.at.place.now) (weighted_of c.args.e.now) c.requires.typed).2;
      picks = c.requires.picks_2;
    }

pub returns-clause-extends : goal.returns-clause-extends
returns-clause-extends g c = extends_trans c.eval_on.ensures.extends c.eval_on-2.ensures.extends

pub returns-clause-made : goal.returns-clause-made
returns-clause-made g c =
    let run = c.args.run.now in
    let sigs = g.C.Functions.signatures run.functions.now in
    let σ = scope_in sigs run in
    let typed = put σ c.args.at.name.now (weighted_of c.args.at.place.now) (weighted_of c.args.e.now) c.requires.typed in
    let two = extends_keeps c.eval_on-2.ensures.extends in
    let both = extends_keeps (extends_trans c.eval_on.ensures.extends c.eval_on-2.ensures.extends) in
    record {
      list = outcome_in_later both (c.in_ok-list.ensures.made ty.List typed.0);
      place = outcome_in_later two (c.in_ok-place.ensures.made ty.Int typed.1);
      number = c.in_ok-number.ensures.made ty.Int typed.2;
    }

pub returns-clause-value : goal.returns-clause-value
returns-clause-value g c vs m calls s line p chosen at plain =
    let run = c.args.run.now in
    let sigs = g.C.Functions.signatures run.functions.now in
    let σ = scope_in sigs run in
    let slots = run.slots.now in
    let l = slots.limits in
    let typed = put σ c.args.at.name.now (weighted_of c.args.at.place.now) (weighted_of c.args.e.now) c.requires.typed in
    let one = extends_keeps c.eval_on.ensures.extends in
    let two = extends_keeps c.eval_on-2.ensures.extends in
    let both = extends_keeps (extends_trans c.eval_on.ensures.extends c.eval_on-2.ensures.extends) in
    let first = local_at l calls s line c.args.at.name.now in
    let second = value_at l calls s line p.0 in
    let later = chosen_later one c.requires.run chosen in
    let then = leads_later slots vs one c.requires.path at in
    record {
      list = outcome_later c.in_ok-list.list both (c.in_ok-list.ensures.made ty.List typed.0) vs first (c.in_ok-list.ensures.value vs s line at);
      place = outcome_later c.in_ok-place.place two (c.in_ok-place.ensures.made ty.Int typed.1) vs second (c.in_ok-place.ensures.value vs m calls s line p.0 chosen at plain.0);
      number = c.in_ok-number.ensures.value vs m calls s line p.1 later then plain.1;
    }
