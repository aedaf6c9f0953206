use Rattle.std.proofs.Common.{◌∙◌, ap, arith, sym, subst, List, length}
use Rattle.mpy_tree.specs.declared.value.Value.{Value}
use Rattle.mpy_tree.specs.Expressions.{list_of}
use Rattle.bit_words.specs.Logic.{OwnsAll}
use Rattle.bit_lists.proofs.Held.{words_push}
use Rattle.sym_values.specs.Owned.{word_owned}
use Rattle.sym_values.specs.Reading.{OutcomeReads}
use Rattle.sym_nodes.proofs.Arguments.{number_at, numbers_more, numbers_read, values_all}
use Rattle.sym_nodes.proofs.Choosing.{part_at}
use Rattle.sym_nodes.proofs.Typed.{width_is}
use Rattle.sym_nodes.proofs.literals.list_operation.Goals as goal

pub word_of-requires : goal.word_of-requires
word_of-requires g c = number_at c.args.parts.now c.loop-part.part-index c.part-item.result c.requires.numbers (omega arith) c.part-item.is

pub loop-part-preserved : goal.loop-part-preserved
loop-part-preserved g c =
    let before = c.loop-part.invariant in
    let parts = c.args.parts.now in
    let i = c.loop-part.part-index in
    let part = c.part-item.result in
    let l = c.args.limits.now in
    let held = part_at l parts i part c.requires.parts (omega arith) c.part-item.is in
    let word = c.word_of in
    let same = c.in_ok-word.ensures in
    record {
      made = words_push before.made
          (record { owned = subst (OwnsAll g.L.Logic.owns c.args.g.now) (sym same) (word_owned held.owned word.ensures); width = ap length same ∙ width_is l word.result.now part.value word.ensures held.form })
          c.in_ok-push.ensures.ok;
      values = numbers_more parts i part word.result.now c.in_ok-word.word c.loop-part.numbers _ (omega arith) c.part-item.is word.ensures same before.values c.in_ok-push.ensures.ok;
    }

pub returns-clause-value : goal.returns-clause-value
returns-clause-value g c vs ws e =
    let reads = g.L.Logic.reads in
    let list = c.in_ok-list in
    let all = values_all c.args.parts.now c.loop-part.part-index c.loop-part.numbers (omega arith) c.loop-part.invariant.values in
    let same = numbers_read (reads c.args.g.now vs) c.loop-part.numbers _ ws all e in
    subst (λ (us : List Value). OutcomeReads (reads c.args.g.now vs) list.list (list_of c.args.limits.now us)) same (list.ensures.value vs)
