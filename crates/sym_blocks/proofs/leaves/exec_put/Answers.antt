use Rattle.std.proofs.Common.{◌∙◌, ap, sym}
use Rattle.bit_words.specs.Logic.{extends_keeps, extends_trans}
use Rattle.choice_tree.specs.WeightedViews.{weighted_of}
use Rattle.mpy_tree.specs.declared.typing.Ty.TheVariants as ty
use Rattle.mpy_tree.specs.Statements.{local_at, set_at, value_at}
use Rattle.sym_paths.specs.Later.{path_later}
use Rattle.sym_paths.specs.Paths.{reached}
use Rattle.sym_blocks.specs.Bodies.{scope_in}
use Rattle.sym_blocks.proofs.Laters.{leads_later}
use Rattle.sym_blocks.proofs.Settings.{local_type_is}
use Rattle.sym_blocks.proofs.TypedParts.{put}
use Rattle.sym_blocks.proofs.leaves.exec_put.Goals as goal

pub out_stored-requires : goal.out_stored-requires
out_stored-requires g c =
    let run = c.args.run.now in
    let sigs = g.C.Functions.signatures run.functions.now in
    let σ = scope_in sigs run in
    let typed = put σ c.args.at.name.now (weighted_of c.args.at.place.now) (weighted_of c.args.e.now) c.requires.typed in
    let both = extends_trans c.element_parts.ensures.extends c.put_outcome.ensures.extends in
    record {
      held = path_later (extends_keeps both) c.requires.path;
      typed = (ty.List, sym (local_type_is sigs run.slots.now c.args.at.name.now) ∙ typed.0, c.in_ok-outcome.ensures.made);
    }

pub returns-clause-extends : goal.returns-clause-extends
returns-clause-extends g c = extends_trans c.element_parts.ensures.extends (extends_trans c.put_outcome.ensures.extends c.out_stored.ensures.extends)

pub returns-clause-value : goal.returns-clause-value
returns-clause-value g c line vs m calls o p chosen at plain =
    let slots = c.args.run.now.slots.now in
    let l = slots.limits in
    let x = c.args.at.name.now in
    let both = extends_trans c.element_parts.ensures.extends c.put_outcome.ensures.extends in
    let here = leads_later slots vs (extends_keeps both) c.requires.path at in
    c.in_ok-out.ensures.value vs o (λ s. set_at l calls s line x p.0 p.1) here
    (λ s e.
    let parts = c.in_ok-parts.ensures.value vs m calls s line p chosen (at ∙ ap reached e) plain in
    c.in_ok-outcome.ensures.value vs line (local_at l calls s line x) (value_at l calls s line p.0) (value_at l calls s line p.1) parts.list parts.place parts.number)
