use Rattle.std.proofs.Common.{length}
use Rattle.bit_lists.proofs.items.put.Given as goal

abbrev pub ghost-with_item : goal.ghost-with_item
ghost-with_item g a = length a.word.now
