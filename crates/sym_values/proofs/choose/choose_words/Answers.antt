use Rattle.std.proofs.Common.{◌∙◌, ap, sym, refl, length, map}
use Rattle.bit_words.specs.Logic.{extends_trans}
use Rattle.sym_values.specs.Owned.{owns_one, owns_one_more}
use Rattle.std.proofs.lemmas.List.{map_push}
use Rattle.sym_values.specs.Forms.{lengths}
use Rattle.sym_values.proofs.Held.{owns_kept, reads_kept, take_read, words_kept, pushed_read, choice_pushed, same_at}
use Rattle.sym_values.proofs.choose.choose_words.Goals as goal

pub choose_word-requires-clause-alike : goal.choose_word-requires-clause-alike
choose_word-requires-clause-alike g c = same_at length c.args.yes.now c.args.no.now c.loop-i.i _ _ c.requires.alike c.at-first.ensures c.at-second.ensures

pub choose_word-requires-clause-yes : goal.choose_word-requires-clause-yes
choose_word-requires-clause-yes g c = owns_kept c.loop-i.invariant.extends (owns_one (λ w. w) c.args.yes.now c.loop-i.i c.at-first.result.now c.requires.yes c.at-first.ensures)

pub choose_word-requires-clause-no : goal.choose_word-requires-clause-no
choose_word-requires-clause-no g c = owns_kept c.loop-i.invariant.extends (owns_one (λ w. w) c.args.no.now c.loop-i.i c.at-second.result.now c.requires.no c.at-second.ensures)

pub loop-i-preserved : goal.loop-i-preserved
loop-i-preserved g c =
    let reads = g.L.Logic.reads in
    let before = c.loop-i.invariant in
    let step = c.choose_word.ensures.extends in
    let first_owned = owns_one (λ w. w) c.args.yes.now c.loop-i.i c.at-first.result.now c.requires.yes c.at-first.ensures in
    let second_owned = owns_one (λ w. w) c.args.no.now c.loop-i.i c.at-second.result.now c.requires.no c.at-second.ensures in
    record {
      extends = extends_trans before.extends step;
      owned = owns_one_more (λ w. w) c.loop-i.chosen _ c.in_ok-word.word (owns_kept step before.owned) c.in_ok-word.ensures.made.owned c.in_ok-push.ensures.ok;
      widths = pushed_read length length c.loop-i.chosen _ c.in_ok-word.word _ _ refl before.widths c.in_ok-word.ensures.made.width c.in_ok-push.ensures.ok ∙ sym (ap lengths (take_read c.args.yes.now c.loop-i.i c.at-first.result.now c.at-first.ensures) ∙ map_push length _ _);
      value = λ vs.
          let start = reads c.args.g.now vs in
          let test = before.extends.same _ c.requires.test vs in
          let left = reads_kept before.extends first_owned vs in
          let right = reads_kept before.extends second_owned vs in
          pushed_read (map (reads c.loop-i.g vs)) (map (reads c.choose_word.new.g vs)) c.loop-i.chosen _ c.in_ok-word.word _ _ (words_kept step c.loop-i.chosen before.owned vs) (before.value vs) (rw (test, left, right) at (c.in_ok-word.ensures.value vs)) c.in_ok-push.ensures.ok
          ∙ sym (choice_pushed (start c.args.test) (map start) _ _ _ _ _ _ (take_read c.args.yes.now c.loop-i.i c.at-first.result.now c.at-first.ensures) (take_read c.args.no.now c.loop-i.i c.at-second.result.now c.at-second.ensures));
    }
