use Rattle.bit_graph.proofs.rules.fold_by_both.Goals as goal

pub returns-then-b-clause-below : goal.returns-then-b-clause-below
returns-then-b-clause-below c variables made left right = c.never.ensures.below variables made
