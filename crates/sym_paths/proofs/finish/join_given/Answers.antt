use Rattle.std.proofs.Common.{◌∙◌}
use Rattle.bit_words.specs.Logic.{extends_trans, extends_keeps}
use Rattle.bit_words.specs.Later.{owned_later}
use Rattle.sym_values.specs.Later.{value_later}
use Rattle.sym_values.specs.Reading.{map_bits}
use Rattle.sym_paths.proofs.Endings.{joined_gives}
use Rattle.sym_paths.proofs.finish.join_given.Goals as goal

pub or-requires : goal.or-requires
or-requires g c = record { left = c.requires.first.bit; right = c.requires.second.bit }

pub choose_value-requires : goal.choose_value-requires
choose_value-requires g c =
    let one = extends_keeps c.or.ensures.extends in
    record {
      test = one.kept _ c.requires.first.bit;
      alike = c.requires.second.value.form;
      yes = owned_later one c.requires.first.value.owned;
      no = owned_later one c.requires.second.value.owned;
    }

pub returns-clause-extends : goal.returns-clause-extends
returns-clause-extends g c = extends_trans c.or.ensures.extends c.choose_value.ensures.extends

pub returns-clause-held : goal.returns-clause-held
returns-clause-held g c = record {
  bit = c.choose_value.ensures.extends.kept _ c.in_ok-bit.ensures.owned;
  value = c.in_ok-value.ensures.made;
}

pub returns-clause-value : goal.returns-clause-value
returns-clause-value g c vs =
    let start = g.L.Logic.reads c.args.g.now vs in
    let one = extends_keeps c.or.ensures.extends in
    let two = c.choose_value.ensures.extends in
    let a = c.args.a.now in
    let b = c.args.b.now in
    let first = c.requires.first in
    let second = c.requires.second in
    let bit = two.same _ c.in_ok-bit.ensures.owned vs ∙ c.in_ok-bit.ensures.value vs in
    let test = one.same _ first.bit vs in
    let left = value_later one a.value first.value.owned vs in
    let right = value_later one b.value second.value.owned vs in
    let value = rw (test, left, right) at (c.in_ok-value.ensures.value vs) in
    joined_gives (start a.bit) (start b.bit) _ (map_bits start a.value) (map_bits start b.value) _
    bit value
