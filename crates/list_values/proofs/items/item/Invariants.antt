use Rattle.list_values.specs.Sequences.{item_width}
use Rattle.list_values.proofs.items.item.Given as goal

abbrev pub ghost-index : goal.ghost-index
ghost-index g a = item_width a.a.now.items.now
