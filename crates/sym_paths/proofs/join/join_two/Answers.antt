use Rattle.std.proofs.Common.{◌∙◌, ap, length}
use Rattle.bit_words.specs.Logic.{extends_trans, extends_keeps}
use Rattle.bit_words.specs.Later.{owned_later, read_later}
use Rattle.sym_values.specs.Later.{values_later}
use Rattle.sym_paths.specs.Later.{path_bit, path_values, path_set, holds_path}
use Rattle.sym_paths.specs.Paths.{way}
use Rattle.sym_paths.proofs.Joins.{joined_way}
use Rattle.sym_paths.proofs.join.join_two.Goals as goal

pub choose_values-requires-clause-test : goal.choose_values-requires-clause-test
choose_values-requires-clause-test g c = c.or.ensures.extends.kept _ (path_bit c.requires.first)

pub choose_values-requires-clause-yes : goal.choose_values-requires-clause-yes
choose_values-requires-clause-yes g c =
    owned_later (extends_keeps c.or.ensures.extends) (path_values c.requires.first)

pub choose_values-requires-clause-no : goal.choose_values-requires-clause-no
choose_values-requires-clause-no g c =
    owned_later (extends_keeps c.or.ensures.extends) (path_values c.requires.second)

pub choose_bits-requires-clause-test : goal.choose_bits-requires-clause-test
choose_bits-requires-clause-test g c =
    let both = extends_trans c.or.ensures.extends c.choose_values.ensures.extends in
    both.kept _ (path_bit c.requires.first)

pub choose_bits-requires-clause-yes : goal.choose_bits-requires-clause-yes
choose_bits-requires-clause-yes g c =
    let both = extends_trans c.or.ensures.extends c.choose_values.ensures.extends in
    rw c.as_slice.ensures (owned_later (extends_keeps both) (path_set c.requires.first))

pub choose_bits-requires-clause-no : goal.choose_bits-requires-clause-no
choose_bits-requires-clause-no g c =
    let both = extends_trans c.or.ensures.extends c.choose_values.ensures.extends in
    rw c.as_slice-2.ensures (owned_later (extends_keeps both) (path_set c.requires.second))

pub returns-clause-extends : goal.returns-clause-extends
returns-clause-extends g c =
    extends_trans (extends_trans c.or.ensures.extends c.choose_values.ensures.extends)
    c.choose_bits.ensures.extends

pub returns-clause-held : goal.returns-clause-held
returns-clause-held g c =
    let two = c.choose_values.ensures.extends in
    let three = c.choose_bits.ensures.extends in
    let first = c.requires.first in
    holds_path _ ((extends_trans two three).kept _ c.in_ok-bit.ensures.owned)
    (owned_later (extends_keeps three) c.in_ok-values.ensures.owned)
    c.in_ok-set.ensures.made.owned
    (c.in_ok-values.ensures.forms ∙ first.forms_are)
    (c.in_ok-set.ensures.made.width ∙ ap length c.as_slice.ensures ∙ first.long)

pub returns-clause-value : goal.returns-clause-value
returns-clause-value g c vs =
    let reads = g.L.Logic.reads in
    let start = reads c.args.g.now vs in
    let a = c.args.a.now in
    let b = c.args.b.now in
    let first = c.requires.first in
    let second = c.requires.second in
    let one = extends_keeps c.or.ensures.extends in
    let three = extends_keeps c.choose_bits.ensures.extends in
    let before = extends_trans c.or.ensures.extends c.choose_values.ensures.extends in
    let both = extends_keeps before in
    let later = extends_trans c.choose_values.ensures.extends c.choose_bits.ensures.extends in
    let bit = later.same _ c.in_ok-bit.ensures.owned vs ∙ c.in_ok-bit.ensures.value vs in
    let test_one = one.same _ (path_bit first) vs in
    let left_one = values_later one a.values (path_values first) vs in
    let right_one = values_later one b.values (path_values second) vs in
    let chosen = rw (test_one, left_one, right_one) at (c.in_ok-values.ensures.value vs) in
    let same = values_later three c.in_ok-values.values c.in_ok-values.ensures.owned vs in
    let values = same ∙ chosen in
    let test_two = both.same _ (path_bit first) vs in
    let left_two = read_later both (path_set first) vs in
    let right_two = read_later both (path_set second) vs in
    let chosen_set = c.in_ok-set.ensures.value vs in
    let slices = rw (c.as_slice.ensures, c.as_slice-2.ensures) at chosen_set in
    let set = rw (test_two, left_two, right_two) at slices in
    joined_way c.args.slots.now (way start a) (way start b) _ bit values set
