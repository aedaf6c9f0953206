use Rattle.bit_lists.proofs.joins.concat.Given as goal

abbrev pub ghost-moved : goal.ghost-moved
ghost-moved g a = g.width

abbrev pub ghost-splice : goal.ghost-splice
ghost-splice g a = g.width
