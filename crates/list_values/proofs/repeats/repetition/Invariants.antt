use Rattle.list_values.specs.Sequences.{item_width}
use Rattle.list_values.proofs.repeats.repetition.Given as goal

abbrev pub ghost-repeat : goal.ghost-repeat
ghost-repeat g a = item_width a.a.now.items.now
