use Rattle.std.proofs.Common.{◌∙◌}
use Rattle.bit_words.specs.Logic.{extends_keeps}
use Rattle.sym_values.specs.Later.{value_later}
use Rattle.sym_values.specs.Reading.{map_bits}
use Rattle.sym_nodes.proofs.Outcomes.{chosen_is}
use Rattle.sym_nodes.proofs.shortcuts.choose_outcome.Goals as goal

pub returns-clause-value : goal.returns-clause-value
returns-clause-value g c vs x h k =
    let reads = g.L.Logic.reads in
    let start = reads c.args.g.now vs in
    let first = c.args.yes.now in
    let other = c.args.no.now in
    let one = c.choose.ensures.extends in
    let fault = c.choose_value.ensures.extends.same c.in_ok-fault.fault c.in_ok-fault.ensures.owned vs ∙ c.in_ok-fault.ensures.value vs in
    let test = one.same c.args.test c.requires.test vs in
    let left = value_later (extends_keeps one) first.value c.requires.yes.owned vs in
    let right = value_later (extends_keeps one) other.value c.requires.no.owned vs in
    let value = rw (test, left, right) at (c.in_ok-value.ensures.value vs) in
    chosen_is (start c.args.test) _ (start first.fault) (start other.fault) _ (map_bits start first.value) (map_bits start other.value) x fault value h k
