use Rattle.std.proofs.Common.{ap, subst, sym, arith}
use Rattle.bit_words.specs.Logic.{extends_keeps, extends_trans}
use Rattle.mpy_tree.specs.declared.typing.Ty.TheVariants as ty
use Rattle.sym_nodes.proofs.Typed.{type_is}
use Rattle.list_values.specs.Typed.{list_sequence}
use Rattle.sym_values.specs.Later.{value_later}
use Rattle.sym_values.specs.Owned.{word_owned}
use Rattle.sym_values.specs.Reading.{IsOutcome, Reading, read, spelled}
use Rattle.mpy_tree.specs.Operations.{put}
use Rattle.sym_blocks.proofs.Lists.{replacement_gives, width_of, word_for}
use Rattle.sym_blocks.proofs.Outcomes.{three_is}
use Rattle.sym_blocks.proofs.operations.put_outcome.Goals as goal

pub word_of-index-requires : goal.word_of-index-requires
word_of-index-requires g c = type_is c.args._limits.now ty.Int c.args.place.now.value c.requires.place.form

pub word_of-word-requires : goal.word_of-word-requires
word_of-word-requires g c = type_is c.args._limits.now ty.Int c.args.number.now.value c.requires.number.form

pub replacement-requires : goal.replacement-requires
replacement-requires g c =
    let l = c.args._limits.now in
    let a = c.args.list.now.value in
    let k = c.word_of-index.result.now in
    let w = c.word_of-word.result.now in
    let width = width_of l k c.args.place.now.value c.word_of-index.ensures c.requires.place.form in
    let range = l.width_range in
    record {
      list = list_sequence l a c.requires.list.owned c.requires.list.form;
      alike = word_for l a w c.requires.list.form (width_of l w c.args.number.now.value c.word_of-word.ensures c.requires.number.form);
      wide = omega arith;
      short = omega arith;
      place = word_owned c.requires.place.owned c.word_of-index.ensures;
      number = word_owned c.requires.number.owned c.word_of-word.ensures;
    }

pub or-requires-clause-left : goal.or-requires-clause-left
or-requires-clause-left g c = c.replacement.ensures.extends.kept _ c.requires.list.owned_fault

pub or-requires-clause-right : goal.or-requires-clause-right
or-requires-clause-right g c = c.replacement.ensures.extends.kept _ c.requires.place.owned_fault

pub or-requires-2-clause-right : goal.or-requires-2-clause-right
or-requires-2-clause-right g c = (extends_trans c.replacement.ensures.extends c.or.ensures.extends).kept _ c.requires.number.owned_fault

pub or-requires-3-clause-right : goal.or-requires-3-clause-right
or-requires-3-clause-right g c = (extends_trans c.or.ensures.extends c.or-2.ensures.extends).kept _ c.in_ok-made.ensures.made.owned_fault

pub returns-clause-extends : goal.returns-clause-extends
returns-clause-extends g c = extends_trans c.replacement.ensures.extends (extends_trans c.or.ensures.extends (extends_trans c.or-2.ensures.extends c.or-3.ensures.extends))

pub returns-clause-value : goal.returns-clause-value
returns-clause-value g c vs line x y z h i j =
    let reads = g.L.Logic.reads in
    let start = reads c.args.g.now vs in
    let mid = reads c.replacement.new.g vs in
    let l = c.args._limits.now in
    let a = c.args.list.now in
    let b = c.args.place.now in
    let d = c.args.number.now in
    let made = c.in_ok-made in
    let held = made.ensures.made in
    let zero = c.replacement.ensures.extends in
    let one = c.or.ensures.extends in
    let two = extends_trans one c.or-2.ensures.extends in
    let later = extends_trans two c.or-3.ensures.extends in
    let left = zero.same _ c.requires.list.owned_fault vs in
    let place = zero.same _ c.requires.place.owned_fault vs in
    let first = rw (left, place) at (c.in_ok-first.ensures.value vs) in
    let number = (extends_trans zero one).same _ c.requires.number.owned_fault vs in
    let early = rw (first, number) at (c.in_ok-early.ensures.value vs) in
    let own = two.same made.made.fault held.owned_fault vs in
    let fault = rw (early, own) at (c.in_ok-fault.ensures.value vs) in
    let same = ap spelled (value_later (extends_keeps later) made.made.value held.owned vs) in
    let gives = replacement_gives reads c.args.g.now c.replacement.new.g a.value b.value d.value c.word_of-index.result.now c.word_of-word.result.now made.made put l c.requires.list.form c.word_of-index.ensures c.word_of-word.ensures made.ensures.value vs in
    three_is (start a.fault) (start b.fault) (start d.fault) (mid made.made.fault) _ (read start a.value) (read start b.value) (read start d.value) _ x y z line put h i j
    (λ v k w p q r. subst (λ (t : Reading). IsOutcome (mid made.made.fault) t (put v k w)) (sym same) (gives v k w p q r)) fault
