use Rattle.bit_lists.proofs.Held.{words_as}
use Rattle.list_values.proofs.Singles.{text_made}
use Rattle.list_values.proofs.items.one_character.Goals as goal

pub returns-clause-made : goal.returns-clause-made
returns-clause-made g c =
    let items = c.in_ok-items.ensures in
    text_made c.in_ok-len.ensures.made (words_as c.len-width.ensures items.made) items.many
