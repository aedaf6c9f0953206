use Rattle.std.proofs.Common.{◌∙◌, ap, not, sym}
use Rattle.std.proofs.lemmas.List.{length-map}
use Rattle.sym_values.specs.Owned.{list_len_owned, list_items_owned, text_len_owned, text_items_owned}
use Rattle.sym_values.proofs.Agreements.{int_widths, list_widths, read_widths, text_widths, equal_lists, equal_numbers, equal_texts, equal_truths}
use Rattle.sym_values.proofs.equality.equal_bit.Goals as goal

pub returns-in_ok-same-in-Int-Int-clause-value : goal.returns-in_ok-same-in-Int-Int-clause-value
returns-in_ok-same-in-Int-Int-clause-value g c vs v w e f =
    equal_numbers c.number_decides_word.ensures c.number_decides_bits.ensures _ _ _ v w (length-map _ _ ∙ sym (int_widths _ _ _ _ c.in-Int-Int.is-0 c.in-Int-Int.is-1 c.requires.alike) ∙ sym (length-map _ _)) (rw c.in-Int-Int.is-0 at e) (rw c.in-Int-Int.is-1 at f) (c.in_ok-same-in-Int-Int.ensures.value vs)

pub lists_agree-requires-clause-left_len : goal.lists_agree-requires-clause-left_len
lists_agree-requires-clause-left_len g c = list_len_owned c.requires.left c.in-List-List.is-0

pub lists_agree-requires-clause-left : goal.lists_agree-requires-clause-left
lists_agree-requires-clause-left g c = list_items_owned c.requires.left c.in-List-List.is-0

pub lists_agree-requires-clause-right_len : goal.lists_agree-requires-clause-right_len
lists_agree-requires-clause-right_len g c = list_len_owned c.requires.right c.in-List-List.is-1

pub lists_agree-requires-clause-right : goal.lists_agree-requires-clause-right
lists_agree-requires-clause-right g c = list_items_owned c.requires.right c.in-List-List.is-1

pub lists_agree-requires-clause-short : goal.lists_agree-requires-clause-short
lists_agree-requires-clause-short g c = rw c.in-List-List.is-0 at c.requires.short

pub lists_agree-requires-in-Text-Text-clause-left_len : goal.lists_agree-requires-in-Text-Text-clause-left_len
lists_agree-requires-in-Text-Text-clause-left_len g c = text_len_owned c.requires.left c.in-Text-Text.is-0

pub lists_agree-requires-in-Text-Text-clause-left : goal.lists_agree-requires-in-Text-Text-clause-left
lists_agree-requires-in-Text-Text-clause-left g c = text_items_owned c.requires.left c.in-Text-Text.is-0

pub lists_agree-requires-in-Text-Text-clause-right_len : goal.lists_agree-requires-in-Text-Text-clause-right_len
lists_agree-requires-in-Text-Text-clause-right_len g c = text_len_owned c.requires.right c.in-Text-Text.is-1

pub lists_agree-requires-in-Text-Text-clause-right : goal.lists_agree-requires-in-Text-Text-clause-right
lists_agree-requires-in-Text-Text-clause-right g c = text_items_owned c.requires.right c.in-Text-Text.is-1

pub lists_agree-requires-in-Text-Text-clause-short : goal.lists_agree-requires-in-Text-Text-clause-short
lists_agree-requires-in-Text-Text-clause-short g c = rw c.in-Text-Text.is-0 at c.requires.short

pub returns-in_ok-other-in-Bool-Bool-clause-value : goal.returns-in_ok-other-in-Bool-Bool-clause-value
returns-in_ok-other-in-Bool-Bool-clause-value g c vs v w e f =
    equal_truths _ _ _ v w (rw c.in-Bool-Bool.is-0 at e) (rw c.in-Bool-Bool.is-1 at f) (c.not.ensures.value vs ∙ ap not (c.in_ok-other-in-Bool-Bool.ensures.value vs))

pub returns-in_ok-same-in-List-List-clause-value : goal.returns-in_ok-same-in-List-List-clause-value
returns-in_ok-same-in-List-List-clause-value g c vs v w e f =
    equal_lists c.number_decides_word.ensures c.number_decides_bits.ensures _ _ _ _ _ v w (read_widths _ _ _ _ (list_widths _ _ _ _ _ _ c.in-List-List.is-0 c.in-List-List.is-1 c.requires.alike)) (rw c.in-List-List.is-0 at e) (rw c.in-List-List.is-1 at f) (c.in_ok-same-in-List-List.ensures.value vs)

pub returns-in_ok-same-in-Text-Text-clause-value : goal.returns-in_ok-same-in-Text-Text-clause-value
returns-in_ok-same-in-Text-Text-clause-value g c vs v w e f =
    equal_texts _ _ _ _ _ v w (read_widths _ _ _ _ (text_widths _ _ _ _ _ _ c.in-Text-Text.is-0 c.in-Text-Text.is-1 c.requires.alike)) (rw c.in-Text-Text.is-0 at e) (rw c.in-Text-Text.is-1 at f) (c.in_ok-same-in-Text-Text.ensures.value vs)
