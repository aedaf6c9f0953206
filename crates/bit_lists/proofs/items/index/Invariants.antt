use Rattle.bit_lists.proofs.items.index.Given as goal

abbrev pub ghost-item_at : goal.ghost-item_at
ghost-item_at g a = g.width
