use Rattle.std.proofs.Common.{ap, subst, sym}
use Rattle.bit_words.specs.Logic.{extends_keeps, extends_trans}
use Rattle.mpy_tree.specs.declared.typing.Ty.TheVariants as ty
use Rattle.sym_nodes.proofs.Typed.{type_is}
use Rattle.list_values.specs.Typed.{list_sequence}
use Rattle.sym_values.specs.Later.{value_later}
use Rattle.sym_values.specs.Owned.{word_owned}
use Rattle.sym_values.specs.Reading.{IsOutcome, Reading, read, spelled}
use Rattle.mpy_tree.specs.Operations.{append}
use Rattle.sym_blocks.proofs.Lists.{extension_gives, width_of, word_for}
use Rattle.sym_blocks.proofs.Outcomes.{two_is}
use Rattle.sym_blocks.proofs.operations.append_outcome.Goals as goal

pub word_of-word-requires : goal.word_of-word-requires
word_of-word-requires g c = type_is c.args._limits.now ty.Int c.args.number.now.value c.requires.number.form

pub extension-requires : goal.extension-requires
extension-requires g c =
    let l = c.args._limits.now in
    let a = c.args.list.now.value in
    let w = c.word_of-word.result.now in
    let is = c.word_of-word.ensures in
    record {
      list = list_sequence l a c.requires.list.owned c.requires.list.form;
      alike = word_for l a w c.requires.list.form (width_of l w c.args.number.now.value is c.requires.number.form);
      number = word_owned c.requires.number.owned is;
    }

pub or-requires-clause-left : goal.or-requires-clause-left
or-requires-clause-left g c = c.extension.ensures.extends.kept _ c.requires.list.owned_fault

pub or-requires-clause-right : goal.or-requires-clause-right
or-requires-clause-right g c = c.extension.ensures.extends.kept _ c.requires.number.owned_fault

pub or-requires-2-clause-right : goal.or-requires-2-clause-right
or-requires-2-clause-right g c = c.or.ensures.extends.kept _ c.in_ok-made.ensures.made.owned_fault

pub returns-clause-extends : goal.returns-clause-extends
returns-clause-extends g c = extends_trans c.extension.ensures.extends (extends_trans c.or.ensures.extends c.or-2.ensures.extends)

pub returns-clause-value : goal.returns-clause-value
returns-clause-value g c vs line x y h k =
    let reads = g.L.Logic.reads in
    let start = reads c.args.g.now vs in
    let mid = reads c.extension.new.g vs in
    let l = c.args._limits.now in
    let a = c.args.list.now in
    let b = c.args.number.now in
    let made = c.in_ok-made in
    let held = made.ensures.made in
    let later = extends_trans c.or.ensures.extends c.or-2.ensures.extends in
    let left = c.extension.ensures.extends.same _ c.requires.list.owned_fault vs in
    let right = c.extension.ensures.extends.same _ c.requires.number.owned_fault vs in
    let early = rw (left, right) at (c.in_ok-early.ensures.value vs) in
    let own = c.or.ensures.extends.same made.made.fault held.owned_fault vs in
    let fault = rw (early, own) at (c.in_ok-fault.ensures.value vs) in
    let same = ap spelled (value_later (extends_keeps later) made.made.value held.owned vs) in
    let gives = extension_gives reads c.args.g.now c.extension.new.g a.value b.value c.word_of-word.result.now made.made append l c.requires.list.form c.word_of-word.ensures made.ensures.value vs in
    two_is (start a.fault) (start b.fault) (mid made.made.fault) _ (read start a.value) (read start b.value) _ x y line (append l) h k
    (λ v w p q. subst (λ (r : Reading). IsOutcome (mid made.made.fault) r (append l v w)) (sym same) (gives v w p q)) fault
