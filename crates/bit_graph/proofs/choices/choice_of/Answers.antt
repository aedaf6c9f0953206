use Rattle.std.proofs.Common.{◌∙◌, subst, sym}
use Rattle.bit_graph.specs.declared.gate.GraphBit.{GraphBit}
use Rattle.bit_graph.specs.Gates.{IsBelow, bit_reads, source_of}
use Rattle.bit_graph.proofs.ConjunctionLaws.{settled_first, settled_second}
use Rattle.bit_graph.proofs.choices.choice_of.Goals as goal

pub returns-in-Some-clause-value : goal.returns-in-Some-clause-value
returns-in-Some-clause-value c vs made =
    c.settled_choice.ensures.value vs made ∙ settled_first (bit_reads vs made c.args.c) (bit_reads vs made c.args.yes) c.in-Some.reads (bit_reads vs made c.args.no) (c.in-Some.ensures.value vs made)

pub returns-in-Some-clause-below : goal.returns-in-Some-clause-below
returns-in-Some-clause-below c n m test first second = c.settled_choice.ensures.below n m test second

pub returns-in-Some-settled-clause-value : goal.returns-in-Some-settled-clause-value
returns-in-Some-settled-clause-value c vs made =
    let read = bit_reads vs made in
    rw (c.opposite-in-Some-settled.ensures.value vs made) at (c.settled_choice-in-Some-settled.ensures.value vs made)
    ∙ settled_second (read c.args.c) (read c.args.yes) (read c.args.no) c.in-Some-settled.reads (rw (c.opposite.ensures.value vs made) at (c.in-Some-settled.ensures.value vs made))

pub returns-in-Some-settled-clause-below : goal.returns-in-Some-settled-clause-below
returns-in-Some-settled-clause-below c n m test first second =
    c.settled_choice-in-Some-settled.ensures.below n m (subst (λ (b : GraphBit). IsBelow n m (source_of b)) (sym c.opposite-in-Some-settled.ensures.exact) test) first
