use Rattle.std.proofs.Common.{◌∙◌, sym}
use Rattle.list_values.proofs.Singles.{character_made, room_is}
use Rattle.list_values.proofs.items.as_item.Goals as goal

pub returns-in_ok-text-in-Text-clause-made : goal.returns-in_ok-text-in-Text-clause-made
returns-in_ok-text-in-Text-clause-made g c =
    character_made c.requires.list c.in-Text.is (c.len.ensures ∙ sym (room_is c.args.a.now _ _ c.in-Text.is)) c.requires.word.width c.in_ok-text-in-Text.ensures.made
