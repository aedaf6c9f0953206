use Rattle.list_values.specs.Sequences.{item_width}
use Rattle.list_values.proofs.joins.concatenation.Given as goal

abbrev pub ghost-concat : goal.ghost-concat
ghost-concat g a = item_width a.a.now.items.now
