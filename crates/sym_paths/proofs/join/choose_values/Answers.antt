use Rattle.std.proofs.Common.{◌∙◌, ap, sym, refl}
use Rattle.std.proofs.lemmas.List.{map_push}
use Rattle.bit_words.specs.Logic.{extends_trans, extends_keeps}
use Rattle.bit_words.specs.Later.{owned_later}
use Rattle.sym_values.specs.Forms.{bits_of, form_of, forms_of}
use Rattle.sym_values.specs.Later.{value_later, values_later}
use Rattle.sym_values.specs.Owned.{owns_one, owns_one_more}
use Rattle.sym_values.specs.Reading.{map_bits}
use Rattle.sym_values.proofs.Held.{take_read, pushed_read, choice_pushed, same_at}
use Rattle.sym_paths.proofs.join.choose_values.Goals as goal

pub choose_value-requires : goal.choose_value-requires
choose_value-requires g c =
    let before = c.loop-i.invariant in
    let keeps = extends_keeps before.extends in
    let yes = c.args.yes.now in
    let no = c.args.no.now in
    let i = c.loop-i.i in
    let first = owns_one bits_of yes i c.at-first.result.now c.requires.yes c.at-first.ensures in
    let second = owns_one bits_of no i c.at-second.result.now c.requires.no c.at-second.ensures in
    record {
      test = keeps.kept _ c.requires.test;
      alike = same_at form_of yes no i _ _ c.requires.alike c.at-first.ensures
          c.at-second.ensures;
      yes = owned_later keeps first;
      no = owned_later keeps second;
    }

pub loop-i-preserved : goal.loop-i-preserved
loop-i-preserved g c =
    let reads = g.L.Logic.reads in
    let before = c.loop-i.invariant in
    let keeps = extends_keeps before.extends in
    let step = extends_keeps c.choose_value.ensures.extends in
    let yes = c.args.yes.now in
    let no = c.args.no.now in
    let i = c.loop-i.i in
    let chosen = c.loop-i.chosen in
    let value = c.in_ok-value.value in
    let made = c.in_ok-value.ensures.made in
    let pushed = c.in_ok-push.ensures.ok in
    let taken = take_read yes i c.at-first.result.now c.at-first.ensures in
    let other = take_read no i c.at-second.result.now c.at-second.ensures in
    let first = owns_one bits_of yes i c.at-first.result.now c.requires.yes c.at-first.ensures in
    let second = owns_one bits_of no i c.at-second.result.now c.requires.no c.at-second.ensures in
    record {
      extends = extends_trans before.extends c.choose_value.ensures.extends;
      owned = owns_one_more bits_of chosen _ value (owned_later step before.owned) made.owned
          pushed;
      forms = pushed_read form_of form_of chosen _ value _ _ refl before.forms made.form pushed
          ∙ sym (ap forms_of taken ∙ map_push form_of _ _);
      value = λ vs.
          let start = reads c.args.g.now vs in
          let test = keeps.same _ c.requires.test vs in
          let left = value_later keeps c.at-first.result.now first vs in
          let right = value_later keeps c.at-second.result.now second vs in
          let same = values_later step chosen before.owned vs in
          let one = rw (test, left, right) at (c.in_ok-value.ensures.value vs) in
          pushed_read (map_bits (reads c.loop-i.g vs)) (map_bits (reads c.choose_value.new.g vs))
          chosen _ value _ _ same (before.value vs) one pushed
          ∙ sym (choice_pushed (start c.args.test) (map_bits start) _ _ _ _ _ _ taken other);
    }
