use Rattle.std.proofs.Common.{◌∙◌, ap, map, sym, subst, List}
use Rattle.std.specs.Prelude.{nat_eq, ◌||◌}
use Rattle.mpy_tree.specs.Operations.{range}
use Rattle.bit_words.specs.Logic.{extends_trans}
use Rattle.bit_words.specs.Words.{int_read, nat_of}
use Rattle.bit_words.proofs.Kept.{reads_kept}
use Rattle.bit_lists.proofs.Ends.{list_kept}
use Rattle.bit_lists.proofs.Held.{words_as, words_same}
use Rattle.sym_values.proofs.Tests.{zero_word}
use Rattle.sym_values.specs.Reading.{IsOutcome, Reading}
use Rattle.list_values.proofs.Singles.{list_made}
use Rattle.list_values.proofs.Written.{list_reads, range_gives}
use Rattle.list_values.proofs.ranges.range_value.Goals as goal

pub returns-clause-made : goal.returns-clause-made
returns-clause-made g c =
    let until = extends_trans c.equal_number.ensures.extends c.or.ensures.extends in
    let list = list_kept until c.in_ok-numbers.ensures.made in
    let made = list_made list.length_of (words_as c.requires.from.width list.items_of) list.many in
    record { owned = made.owned; owned_fault = c.in_ok-fault.ensures.owned; form = made.form }

pub returns-clause-value : goal.returns-clause-value
returns-clause-value g c vs =
    let reads = g.L.Logic.reads in
    let numbers = c.in_ok-numbers in
    let made = numbers.ensures.made in
    let ends = c.args.ends.now in
    let one = c.range.ensures.extends in
    let two = c.equal_number.ensures.extends in
    let until = extends_trans two c.or.ensures.extends in
    let step = ap (λ (w : List _). nat_eq (nat_of w) 0) (ap (λ (w : List _). map (reads c.range.new.g vs) w) c.as_slice.ensures ∙ reads_kept one c.requires.step.owned vs) in
    let still = c.in_ok-still.ensures.value vs ∙ step ∙ zero_word _ in
    let fault = c.in_ok-fault.ensures.value vs ∙ ap (λ t. reads c.equal_number.new.g vs c.in_ok-still.still || t) (two.same _ numbers.ensures.owned vs) in
    let same = list_reads (reads c.range.new.g vs) (reads c.or.new.g vs) numbers.numbers.len numbers.numbers.items (reads_kept until made.length_of.owned vs) (words_same until made.items_of vs) in
    subst (λ (r : Reading). IsOutcome (reads c.or.new.g vs c.in_ok-fault.fault) r
    (range c.args.limits.now (int_read reads c.args.g.now vs ends.from.now) (int_read reads c.args.g.now vs ends.to.now) (int_read reads c.args.g.now vs ends.step.now))) (sym same)
    (range_gives (reads c.range.new.g vs) c.args.limits.now _ _ _ _ _ _ numbers.numbers.len numbers.numbers.items still fault (numbers.ensures.proper vs) (numbers.ensures.value vs))
