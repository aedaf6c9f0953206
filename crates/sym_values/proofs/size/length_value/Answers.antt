use Rattle.sym_values.specs.Owned.{list_len_owned, text_len_owned}
use Rattle.sym_values.proofs.Tests.{list_length_is, text_length_is}
use Rattle.sym_values.proofs.size.length_value.Goals as goal

pub signed_word-requires-clause-owned : goal.signed_word-requires-clause-owned
signed_word-requires-clause-owned g c = rw c.as_slice.ensures (list_len_owned c.requires.owned c.in-List.is)

pub signed_word-requires-in-Text-clause-owned : goal.signed_word-requires-in-Text-clause-owned
signed_word-requires-in-Text-clause-owned g c = rw c.as_slice-in-Text.ensures (text_len_owned c.requires.owned c.in-Text.is)

pub returns-in_ok-number-in-List-clause-value : goal.returns-in_ok-number-in-List-clause-value
returns-in_ok-number-in-List-clause-value g c vs v e =
    let number = c.in_ok-number-in-List.ensures in
    list_length_is c.args.limits.now _ _ v _ _ (rw c.in-List.is at e) (rw c.as_slice.ensures at (number.over vs)) (rw c.as_slice.ensures at (number.value vs))

pub returns-in_ok-number-in-Text-clause-value : goal.returns-in_ok-number-in-Text-clause-value
returns-in_ok-number-in-Text-clause-value g c vs v e =
    let number = c.in_ok-number-in-Text.ensures in
    text_length_is c.args.limits.now _ _ v _ _ (rw c.in-Text.is at e) (rw c.as_slice-in-Text.ensures at (number.over vs)) (rw c.as_slice-in-Text.ensures at (number.value vs))
