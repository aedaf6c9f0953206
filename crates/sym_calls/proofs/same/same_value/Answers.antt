use Rattle.std.proofs.Common.{refl}
use Rattle.sym_values.specs.Owned.{list_items_owned, list_len_owned, text_items_owned}
use Rattle.sym_values.specs.Owned.{text_len_owned}
use Rattle.sym_calls.proofs.same.same_value.Goals as goal

pub same_parts-requires-clause-left_len : goal.same_parts-requires-clause-left_len
same_parts-requires-clause-left_len g c = list_len_owned c.requires.left c.in-List-List.is-0

pub same_parts-requires-clause-left : goal.same_parts-requires-clause-left
same_parts-requires-clause-left g c = list_items_owned c.requires.left c.in-List-List.is-0

pub same_parts-requires-clause-right_len : goal.same_parts-requires-clause-right_len
same_parts-requires-clause-right_len g c = list_len_owned c.requires.right c.in-List-List.is-1

pub same_parts-requires-clause-right : goal.same_parts-requires-clause-right
same_parts-requires-clause-right g c = list_items_owned c.requires.right c.in-List-List.is-1

pub same_parts-requires-in-Text-Text-clause-left_len : goal.same_parts-requires-in-Text-Text-clause-left_len
same_parts-requires-in-Text-Text-clause-left_len g c = text_len_owned c.requires.left c.in-Text-Text.is-0

pub same_parts-requires-in-Text-Text-clause-left : goal.same_parts-requires-in-Text-Text-clause-left
same_parts-requires-in-Text-Text-clause-left g c = text_items_owned c.requires.left c.in-Text-Text.is-0

pub same_parts-requires-in-Text-Text-clause-right_len : goal.same_parts-requires-in-Text-Text-clause-right_len
same_parts-requires-in-Text-Text-clause-right_len g c = text_len_owned c.requires.right c.in-Text-Text.is-1

pub same_parts-requires-in-Text-Text-clause-right : goal.same_parts-requires-in-Text-Text-clause-right
same_parts-requires-in-Text-Text-clause-right g c = text_items_owned c.requires.right c.in-Text-Text.is-1

pub returns-in-List-List : goal.returns-in-List-List
returns-in-List-List g c t vs = rw (c.in-List-List.is-0, c.in-List-List.is-1, c.same_parts.ensures.lengths t vs, c.same_parts.ensures.items t vs) refl

pub returns-in-Text-Text : goal.returns-in-Text-Text
returns-in-Text-Text g c t vs = rw (c.in-Text-Text.is-0, c.in-Text-Text.is-1, c.same_parts-in-Text-Text.ensures.lengths t vs, c.same_parts-in-Text-Text.ensures.items t vs) refl
