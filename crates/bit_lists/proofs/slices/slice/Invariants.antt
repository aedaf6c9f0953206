use Rattle.bit_lists.proofs.slices.slice.Given as goal

abbrev pub ghost-moved : goal.ghost-moved
ghost-moved g a = g.width
