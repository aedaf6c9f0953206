use Rattle.list_values.specs.Sequences.{item_width}
use Rattle.list_values.proofs.members.member_bit.Given as goal

abbrev pub ghost-has_part : goal.ghost-has_part
ghost-has_part g a = item_width a.part.now.items.now
