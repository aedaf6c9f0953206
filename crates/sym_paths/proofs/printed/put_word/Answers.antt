use Rattle.std.proofs.Common.{◌≤◌, ◌+◌, ◌∙◌, Some, ap, arith, drop, length, map, refl, set, sym}
use Rattle.std.proofs.lemmas.List.{length-map, length-set, take_all}
use Rattle.std.proofs.lemmas.Option.{slice_get-map}
use Rattle.std.specs.Prelude.{option_map}
use Rattle.bit_words.specs.Logic.{extends_keeps, extends_refl, extends_trans}
use Rattle.bit_words.specs.Later.{nat_later, owned_later}
use Rattle.bit_words.specs.Words.{nat_read}
use Rattle.bit_words.proofs.Kept.{owns_none}
use Rattle.sym_values.specs.Forms.{IntForm, bits_of, form_of, forms_of}
use Rattle.sym_values.specs.Later.{value_later, values_later}
use Rattle.sym_values.specs.Owned.{owns_one, owns_one_more}
use Rattle.sym_values.specs.Printed.{print_width}
use Rattle.sym_values.specs.Reading.{map_bits}
use Rattle.sym_values.proofs.Held.{pushed_read, take_read}
use Rattle.sym_paths.proofs.Kept.{at_form, kept_long, next_at, put_at, rest_long, word_form}
use Rattle.sym_paths.proofs.printed.put_word.Goals as goal

pub loop-i-init : goal.loop-i-init
loop-i-init g c =
    let none = c.new-words.ensures in
    record {
      extends = extends_refl;
      owned = rw none owns_none;
      forms = ap forms_of none;
      value = λ vs. ap (map (map_bits (g.L.Logic.reads c.args.g.now vs))) none;
    }

pub equal_number-requires : goal.equal_number-requires
equal_number-requires g c =
    rw c.as_slice.ensures
    (owned_later (extends_keeps c.loop-i.invariant.extends) c.requires.number)

pub choose_value-requires : goal.choose_value-requires
choose_value-requires g c =
    let slots = c.args.slots.now in
    let kept = c.args.kept.now in
    let i = c.loop-i.i in
    let old = c.at-old.result.now in
    let one = extends_trans c.loop-i.invariant.extends c.equal_number.ensures.extends in
    let form = word_form slots.limits slots.prints c.requires.some kept c.requires.kept.forms_are
    i old c.at-old.ensures in
    record {
      test = c.in_ok-here.ensures.owned;
      alike = form ∙ sym c.requires.word.form;
      yes = owned_later (extends_keeps one) c.requires.word.owned;
      no = owned_later (extends_keeps one)
          (owns_one bits_of kept (1 + i) old c.requires.kept.owned c.at-old.ensures);
    }

pub loop-i-preserved : goal.loop-i-preserved
loop-i-preserved g c =
    let reads = g.L.Logic.reads in
    let slots = c.args.slots.now in
    let kept = c.args.kept.now in
    let number = c.args.number.now in
    let word = c.args.word.now in
    let i = c.loop-i.i in
    let words = c.loop-i.words in
    let old = c.at-old.result.now in
    let chosen = c.in_ok-chosen.chosen in
    let made = c.in_ok-chosen.ensures.made in
    let pushed = c.in_ok-push.ensures.ok in
    let before = c.loop-i.invariant in
    let keeps = extends_keeps before.extends in
    let both = extends_trans before.extends c.equal_number.ensures.extends in
    let two = extends_keeps both in
    let step = extends_keeps
    (extends_trans c.equal_number.ensures.extends c.choose_value.ensures.extends) in
    let form = word_form slots.limits slots.prints c.requires.some kept c.requires.kept.forms_are
    i old c.at-old.ensures in
    let there = next_at (forms_of kept) i (IntForm (print_width slots.limits))
    (at_form kept (1 + i) old c.at-old.ensures ∙ ap Some form) in
    record {
      extends = extends_trans both c.choose_value.ensures.extends;
      owned = owns_one_more bits_of words _ chosen (owned_later step before.owned) made.owned
          pushed;
      forms = pushed_read form_of form_of words _ chosen _ _ refl before.forms
          (made.form ∙ c.requires.word.form) pushed
          ∙ sym (take_read (drop 1 (forms_of kept)) i (IntForm (print_width slots.limits)) there);
      value = λ vs.
          let start = reads c.args.g.now vs in
          let f = map_bits start in
          let place = nat_read reads c.args.g.now vs number in
          let rest = drop 1 (map f kept) in
          let held = owns_one bits_of kept (1 + i) old c.requires.kept.owned c.at-old.ensures in
          let number_later = nat_later keeps c.requires.number vs in
          let sliced = rw c.as_slice.ensures at (c.in_ok-here.ensures.value vs) in
          let here = rw number_later at sliced in
          let left = value_later two word c.requires.word.owned vs in
          let right = value_later two old held vs in
          let one = rw (here, left, right) at (c.in_ok-chosen.ensures.value vs) in
          let at = next_at (map f kept) i (f old)
          (slice_get-map f kept (1 + i) ∙ ap (option_map f) c.at-old.ensures) in
          let put = put_at rest place i (f word) (f old) at in
          pushed_read (map_bits (reads c.loop-i.g vs)) (map_bits (reads c.choose_value.new.g vs))
          words _ chosen _ _ (values_later step words before.owned vs) (before.value vs) one pushed
          ∙ sym (take_read (set rest place (f word)) i _ put);
    }

pub returns-clause-owned : goal.returns-clause-owned
returns-clause-owned g c = c.loop-i.invariant.owned

pub returns-clause-forms : goal.returns-clause-forms
returns-clause-forms g c =
    let slots = c.args.slots.now in
    let kept = c.args.kept.now in
    let i = c.loop-i.i in
    let long = kept_long slots.limits slots.prints c.requires.some kept c.requires.kept.forms_are in
    let many = rest_long (forms_of kept) slots.prints (length-map kept form_of ∙ long) in
    let past : length (drop 1 (forms_of kept)) ≤ i = omega (arith, many) in
    c.loop-i.invariant.forms ∙ take_all i (drop 1 (forms_of kept)) past

pub returns-clause-value : goal.returns-clause-value
returns-clause-value g c vs =
    let slots = c.args.slots.now in
    let kept = c.args.kept.now in
    let i = c.loop-i.i in
    let f = map_bits (g.L.Logic.reads c.args.g.now vs) in
    let place = nat_read g.L.Logic.reads c.args.g.now vs c.args.number.now in
    let rest = drop 1 (map f kept) in
    let long = kept_long slots.limits slots.prints c.requires.some kept c.requires.kept.forms_are in
    let many = rest_long (map f kept) slots.prints (length-map kept f ∙ long) in
    let all = length-set rest place (f c.args.word.now) in
    let past : length (set rest place (f c.args.word.now)) ≤ i = omega (arith, all, many) in
    c.loop-i.invariant.value vs ∙ take_all i (set rest place (f c.args.word.now)) past
