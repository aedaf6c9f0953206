use Rattle.bit_graph.proofs.rules.fold_by_parts.Goals as goal

pub returns-then-a-clause-below : goal.returns-then-a-clause-below
returns-then-a-clause-below c variables made left right = c.never.ensures.below variables made
