use Rattle.std.proofs.Common.{is_some, ap}
use Rattle.bit_words.specs.Logic.{extends_keeps, extends_trans}
use Rattle.mpy_tree.specs.declared.typing.Ty.TheVariants as ty
use Rattle.mpy_tree.specs.Operations.{arith, index, put}
use Rattle.sym_values.specs.Later.{outcome_in_later, outcome_later}
use Rattle.sym_values.specs.Reading.{read}
use Rattle.sym_nodes.proofs.Typed.{typed_as}
use Rattle.sym_blocks.specs.Operating.{on_both}
use Rattle.sym_blocks.proofs.Outcomes.{put_order}
use Rattle.sym_blocks.proofs.TypedParts.{arith_typed, numbers_give}
use Rattle.sym_blocks.proofs.operations.changed_outcome.Goals as goal

pub arith_outcome-requires : goal.arith_outcome-requires
arith_outcome-requires g c =
    let l = c.args.limits.now in
    let number = outcome_in_later (extends_keeps c.item_outcome.ensures.extends) c.requires.parts.number in
    record {
      left = typed_as l ty.Int c.in_ok-old.old c.in_ok-old.ensures.made;
      right = typed_as l ty.Int c.args.parts.now.number number;
      typed = ap is_some (arith_typed l c.args.op ty.Int ty.Int ty.Int _ _ c.in_ok-old.ensures.made.form number.form (numbers_give c.args.op));
    }

pub put_outcome-requires : goal.put_outcome-requires
put_outcome-requires g c =
    let l = c.args.limits.now in
    let both = extends_keeps (extends_trans c.item_outcome.ensures.extends c.arith_outcome.ensures.extends) in
    record {
      list = outcome_in_later both c.requires.parts.list;
      place = outcome_in_later both c.requires.parts.place;
      number = c.in_ok-new.ensures.made ty.Int (arith_typed l c.args.op ty.Int ty.Int ty.Int _ _ c.in_ok-old.ensures.made.form c.requires.parts.number.form (numbers_give c.args.op));
    }

pub returns-clause-extends : goal.returns-clause-extends
returns-clause-extends g c = extends_trans c.item_outcome.ensures.extends (extends_trans c.arith_outcome.ensures.extends c.put_outcome.ensures.extends)

pub returns-clause-value : goal.returns-clause-value
returns-clause-value g c vs line x y z h =
    let l = c.args.limits.now in
    let parts = c.args.parts.now in
    let op = arith l c.args.op in
    let one = c.item_outcome.ensures.extends in
    let two = c.arith_outcome.ensures.extends in
    let both = extends_keeps (extends_trans one two) in
    let end = g.L.Logic.reads c.put_outcome.new.g vs in
    let item = on_both line index x y in
    let old = c.in_ok-old.ensures.value vs line x y h.list h.place in
    let number = outcome_later parts.number (extends_keeps one) c.requires.parts.number vs z h.number in
    let new = c.in_ok-new.ensures.value vs line item z old number in
    let list = outcome_later parts.list both c.requires.parts.list vs x h.list in
    let place = outcome_later parts.place both c.requires.parts.place vs y h.place in
    put_order (end c.in_ok-outcome.outcome.fault) (read end c.in_ok-outcome.outcome.value) line x y z index op put
    (c.in_ok-outcome.ensures.value vs line x y (on_both line op item z) list place new)
