use Rattle.std.proofs.Common.{◌∙◌, ap}
use Rattle.mpy_tree.specs.Operations.{holds}
use Rattle.sym_values.specs.Owned.{word_owned, list_len_owned, text_len_owned}
use Rattle.sym_values.specs.Reading.{Reading}
use Rattle.sym_values.proofs.Tests.{int_test, list_test, text_test}
use Rattle.sym_values.proofs.truth.test_bit.Goals as goal

pub any_bit-requires : goal.any_bit-requires
any_bit-requires g c = rw c.as_slice.ensures (word_owned c.requires c.in-Int.is)

pub any_bit-requires-in-List : goal.any_bit-requires-in-List
any_bit-requires-in-List g c = rw c.as_slice-in-List.ensures (list_len_owned c.requires c.in-List.is)

pub any_bit-requires-in-Text : goal.any_bit-requires-in-Text
any_bit-requires-in-Text g c = rw c.as_slice-in-Text.ensures (text_len_owned c.requires c.in-Text.is)

pub returns-in-Bool-clause-value : goal.returns-in-Bool-clause-value
returns-in-Bool-clause-value g c vs v e = ap (λ (r : Reading). holds r.value) (rw c.in-Bool.is at e)

pub returns-in_ok-some-in-Int-clause-value : goal.returns-in_ok-some-in-Int-clause-value
returns-in_ok-some-in-Int-clause-value g c vs v e = rw c.as_slice.ensures at (c.in_ok-some-in-Int.ensures.value vs) ∙ int_test _ v (rw c.in-Int.is at e)

pub returns-in_ok-some-in-List-clause-value : goal.returns-in_ok-some-in-List-clause-value
returns-in_ok-some-in-List-clause-value g c vs v e = rw c.as_slice-in-List.ensures at (c.in_ok-some-in-List.ensures.value vs) ∙ list_test _ _ v (rw c.in-List.is at e)

pub returns-in_ok-some-in-Text-clause-value : goal.returns-in_ok-some-in-Text-clause-value
returns-in_ok-some-in-Text-clause-value g c vs v e = rw c.as_slice-in-Text.ensures at (c.in_ok-some-in-Text.ensures.value vs) ∙ text_test _ _ v (rw c.in-Text.is at e)
