use Rattle.bit_lists.proofs.parts.agrees_from.Given as goal

abbrev pub ghost-agrees_on : goal.ghost-agrees_on
ghost-agrees_on g a = g.width
