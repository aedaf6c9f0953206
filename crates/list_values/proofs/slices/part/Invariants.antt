use Rattle.list_values.specs.Sequences.{item_width}
use Rattle.list_values.proofs.slices.part.Given as goal

abbrev pub ghost-slice : goal.ghost-slice
ghost-slice g a = item_width a.a.now.items.now
