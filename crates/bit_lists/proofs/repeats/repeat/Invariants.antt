use Rattle.bit_lists.proofs.repeats.repeat.Given as goal

abbrev pub ghost-wrapped : goal.ghost-wrapped
ghost-wrapped g a = g.width
