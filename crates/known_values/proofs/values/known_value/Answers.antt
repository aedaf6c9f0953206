use Rattle.sym_values.specs.Owned.{list_items_owned, text_items_owned, text_len_owned}
use Rattle.known_values.proofs.values.known_value.Goals as goal

pub known_list-requires-clause-items : goal.known_list-requires-clause-items
known_list-requires-clause-items g c = list_items_owned c.requires c.in-List.is

pub known_text-requires-clause-len : goal.known_text-requires-clause-len
known_text-requires-clause-len g c = text_len_owned c.requires c.in-Text.is

pub known_text-requires-clause-items : goal.known_text-requires-clause-items
known_text-requires-clause-items g c = text_items_owned c.requires c.in-Text.is
