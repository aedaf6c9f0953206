use Rattle.std.proofs.Common.{◌∙◌, map, sym}
use Rattle.std.specs.Prelude.{option_map}
use Rattle.bit_words.specs.Logic.{extends_trans, extends_keeps}
use Rattle.bit_words.specs.Later.{owned_later}
use Rattle.sym_values.specs.Later.{values_later}
use Rattle.sym_values.specs.Reading.{map_bits}
use Rattle.sym_paths.specs.Later.{maybe_later}
use Rattle.sym_paths.proofs.Endings.{joined_met, some_chosen, some_from}
use Rattle.sym_paths.proofs.done.join_ended.Goals as goal

pub or-requires : goal.or-requires
or-requires g c = record { left = c.requires.first.bit; right = c.requires.second.bit }

pub choose-requires : goal.choose-requires
choose-requires g c =
    let one = extends_keeps c.or.ensures.extends in
    record {
      test = one.kept _ c.requires.first.bit;
      yes = one.kept _ c.requires.first.has;
      no = one.kept _ c.requires.second.has;
    }

pub choose_values-requires : goal.choose_values-requires
choose_values-requires g c =
    let two = extends_keeps (extends_trans c.or.ensures.extends c.choose.ensures.extends) in
    let first = c.requires.first in
    let second = c.requires.second in
    record {
      test = two.kept _ first.bit;
      alike = second.kept.forms_are ∙ sym first.kept.forms_are;
      yes = owned_later two first.kept.owned;
      no = owned_later two second.kept.owned;
    }

pub choose_maybe-requires : goal.choose_maybe-requires
choose_maybe-requires g c =
    let two = extends_trans c.or.ensures.extends c.choose.ensures.extends in
    let three = extends_keeps (extends_trans two c.choose_values.ensures.extends) in
    let first = c.requires.first in
    let second = c.requires.second in
    record {
      test = three.kept _ first.bit;
      yes_is = first.form_is;
      no_is = second.form_is;
      yes = owned_later three first.value;
      no = owned_later three second.value;
    }

pub returns-clause-extends : goal.returns-clause-extends
returns-clause-extends g c =
    let two = extends_trans c.or.ensures.extends c.choose.ensures.extends in
    let three = extends_trans two c.choose_values.ensures.extends in
    extends_trans three c.choose_maybe.ensures.extends

pub returns-clause-held : goal.returns-clause-held
returns-clause-held g c =
    let reads = g.L.Logic.reads in
    let first = c.requires.first in
    let second = c.requires.second in
    let two = extends_trans c.or.ensures.extends c.choose.ensures.extends in
    let before = extends_trans two c.choose_values.ensures.extends in
    let three = extends_keeps before in
    let last = c.choose_maybe.ensures.extends in
    let from_has = extends_trans c.choose_values.ensures.extends last in
    let from_bit = extends_trans c.choose.ensures.extends from_has in
    record {
      bit = from_bit.kept _ c.in_ok-bit.ensures.owned;
      has = from_has.kept _ c.in_ok-has.ensures.owned;
      value = c.in_ok-value.ensures.owned;
      form_is = c.in_ok-value.ensures.form;
      kept = record {
        owned = owned_later (extends_keeps last) c.in_ok-printed.ensures.owned;
        forms_are = c.in_ok-printed.ensures.forms ∙ first.kept.forms_are;
      };
      some = λ vs e.
          let one = extends_keeps c.or.ensures.extends in
          let start = reads c.args.g.now vs in
          let test_one = one.same _ first.bit vs in
          let left = one.same _ first.has vs in
          let right = one.same _ second.has vs in
          let chosen = rw (test_one, left, right) at (c.in_ok-has.ensures.value vs) in
          let has = from_has.same _ c.in_ok-has.ensures.owned vs ∙ chosen in
          let test = three.same _ first.bit vs in
          some_chosen (start c.args.a.bit) (start c.args.a.has) (start c.args.b.has) (sym has ∙ e)
          (λ p q. some_from _ _ _ _
          (c.in_ok-value.ensures.yes vs (test ∙ p) (first.some vs q)) (first.some vs q))
          (λ p q. some_from _ _ _ _
          (c.in_ok-value.ensures.no vs (test ∙ p) (second.some vs q)) (second.some vs q));
    }

pub returns-clause-value : goal.returns-clause-value
returns-clause-value g c vs =
    let reads = g.L.Logic.reads in
    let start = reads c.args.g.now vs in
    let a = c.args.a in
    let b = c.args.b in
    let l = c.args.slots.now.limits in
    let first = c.requires.first in
    let second = c.requires.second in
    let one = extends_keeps c.or.ensures.extends in
    let two = extends_keeps (extends_trans c.or.ensures.extends c.choose.ensures.extends) in
    let before = extends_trans c.or.ensures.extends
    (extends_trans c.choose.ensures.extends c.choose_values.ensures.extends) in
    let three = extends_keeps before in
    let last = c.choose_maybe.ensures.extends in
    let from_has = extends_trans c.choose_values.ensures.extends last in
    let from_bit = extends_trans c.choose.ensures.extends from_has in
    let bit = from_bit.same _ c.in_ok-bit.ensures.owned vs ∙ c.in_ok-bit.ensures.value vs in
    let test_one = one.same _ first.bit vs in
    let left_has = one.same _ first.has vs in
    let right_has = one.same _ second.has vs in
    let chosen_has = rw (test_one, left_has, right_has) at (c.in_ok-has.ensures.value vs) in
    let has = from_has.same _ c.in_ok-has.ensures.owned vs ∙ chosen_has in
    let test_two = two.same _ first.bit vs in
    let left = values_later two a.printed first.kept.owned vs in
    let right = values_later two b.printed second.kept.owned vs in
    let chosen = rw (test_two, left, right) at (c.in_ok-printed.ensures.value vs) in
    let printed = values_later (extends_keeps last) c.in_ok-printed.printed
    c.in_ok-printed.ensures.owned vs ∙ chosen in
    let test = three.same _ first.bit vs in
    let f = map_bits start in
    joined_met l (start a.bit) (start b.bit) _ (start a.has) (start b.has) _
    (option_map f a.value) (option_map f b.value) _ (map f a.printed) (map f b.printed) _
    bit has printed
    (λ p q. c.in_ok-value.ensures.yes vs (test ∙ p) (first.some vs q)
    ∙ maybe_later three a.value first.value vs)
    (λ p q. c.in_ok-value.ensures.no vs (test ∙ p) (second.some vs q)
    ∙ maybe_later three b.value second.value vs)
