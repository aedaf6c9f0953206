use Rattle.std.proofs.Common.{◌∙◌, ap}
use Rattle.sym_values.specs.Owned.{list_len_owned, list_items_owned, text_len_owned, text_items_owned}
use Rattle.bit_words.specs.Later.{owns_both}
use Rattle.sym_values.specs.Reading.{map_bits}
use Rattle.sym_values.proofs.Held.{owns_kept, reads_kept, list_items_kept, text_items_kept, choice_list, choice_text, list_form, text_form}
use Rattle.sym_values.proofs.choose.choose_value.Goals as goal

pub choose_length-requires-clause-yes : goal.choose_length-requires-clause-yes
choose_length-requires-clause-yes g c = list_len_owned c.requires.yes c.in-List-List.is-0

pub choose_length-requires-clause-no : goal.choose_length-requires-clause-no
choose_length-requires-clause-no g c = list_len_owned c.requires.no c.in-List-List.is-1

pub choose_words-requires-clause-yes : goal.choose_words-requires-clause-yes
choose_words-requires-clause-yes g c = owns_kept c.choose_length.ensures.extends (list_items_owned c.requires.yes c.in-List-List.is-0)

pub choose_words-requires-clause-no : goal.choose_words-requires-clause-no
choose_words-requires-clause-no g c = owns_kept c.choose_length.ensures.extends (list_items_owned c.requires.no c.in-List-List.is-1)

pub returns-in_ok-items-in-List-List-clause-made : goal.returns-in_ok-items-in-List-List-clause-made
returns-in_ok-items-in-List-List-clause-made g c =
    let len = c.in_ok-len-in-List-List.ensures.made in
    let items = c.in_ok-items-in-List-List.ensures.made in
    record {
      owned = owns_both (owns_kept c.choose_words.ensures.extends len.owned) items.owned;
      form = list_form _ _ _ _ c.args.yes.now c.in-List-List.is-0 len.width items.widths;
    }

pub returns-in_ok-items-in-List-List-clause-value : goal.returns-in_ok-items-in-List-List-clause-value
returns-in_ok-items-in-List-List-clause-value g c vs =
    let first = g.L.Logic.reads c.args.g.now vs in
    let one = c.choose_length.ensures.extends in
    let two = c.choose_words.ensures.extends in
    let test = one.same _ c.requires.test vs in
    let left = list_items_kept one c.in-List-List.is-0 c.requires.yes vs in
    let right = list_items_kept one c.in-List-List.is-1 c.requires.no vs in
    choice_list (first c.args.test) _ _ _ _ _ _ (map_bits first c.args.yes.now) (map_bits first c.args.no.now)
    (reads_kept two c.in_ok-len-in-List-List.ensures.made.owned vs ∙ c.in_ok-len-in-List-List.ensures.value vs)
    (rw (test, left, right) at (c.in_ok-items-in-List-List.ensures.value vs))
    (ap (map_bits first) c.in-List-List.is-0) (ap (map_bits first) c.in-List-List.is-1)

pub choose_length-requires-in-Text-Text-clause-yes : goal.choose_length-requires-in-Text-Text-clause-yes
choose_length-requires-in-Text-Text-clause-yes g c = text_len_owned c.requires.yes c.in-Text-Text.is-0

pub choose_length-requires-in-Text-Text-clause-no : goal.choose_length-requires-in-Text-Text-clause-no
choose_length-requires-in-Text-Text-clause-no g c = text_len_owned c.requires.no c.in-Text-Text.is-1

pub choose_words-requires-in-Text-Text-clause-yes : goal.choose_words-requires-in-Text-Text-clause-yes
choose_words-requires-in-Text-Text-clause-yes g c = owns_kept c.choose_length-in-Text-Text.ensures.extends (text_items_owned c.requires.yes c.in-Text-Text.is-0)

pub choose_words-requires-in-Text-Text-clause-no : goal.choose_words-requires-in-Text-Text-clause-no
choose_words-requires-in-Text-Text-clause-no g c = owns_kept c.choose_length-in-Text-Text.ensures.extends (text_items_owned c.requires.no c.in-Text-Text.is-1)

pub returns-in_ok-items-in-Text-Text-clause-made : goal.returns-in_ok-items-in-Text-Text-clause-made
returns-in_ok-items-in-Text-Text-clause-made g c =
    let len = c.in_ok-len-in-Text-Text.ensures.made in
    let items = c.in_ok-items-in-Text-Text.ensures.made in
    record {
      owned = owns_both (owns_kept c.choose_words-in-Text-Text.ensures.extends len.owned) items.owned;
      form = text_form _ _ _ _ c.args.yes.now c.in-Text-Text.is-0 len.width items.widths;
    }

pub returns-in_ok-items-in-Text-Text-clause-value : goal.returns-in_ok-items-in-Text-Text-clause-value
returns-in_ok-items-in-Text-Text-clause-value g c vs =
    let first = g.L.Logic.reads c.args.g.now vs in
    let one = c.choose_length-in-Text-Text.ensures.extends in
    let two = c.choose_words-in-Text-Text.ensures.extends in
    let test = one.same _ c.requires.test vs in
    let left = text_items_kept one c.in-Text-Text.is-0 c.requires.yes vs in
    let right = text_items_kept one c.in-Text-Text.is-1 c.requires.no vs in
    choice_text (first c.args.test) _ _ _ _ _ _ (map_bits first c.args.yes.now) (map_bits first c.args.no.now)
    (reads_kept two c.in_ok-len-in-Text-Text.ensures.made.owned vs ∙ c.in_ok-len-in-Text-Text.ensures.value vs)
    (rw (test, left, right) at (c.in_ok-items-in-Text-Text.ensures.value vs))
    (ap (map_bits first) c.in-Text-Text.is-0) (ap (map_bits first) c.in-Text-Text.is-1)
