use Rattle.task_bits.proofs.FirstMembers.{AreFirstMembers}
use Rattle.choice_tree.specs.Choices.{member_of}
use Rattle.task_bits.proofs.constants.constant_picks.Given as goal

abbrev pub invariant-loop-i : goal.invariant-loop-i
invariant-loop-i g l =
    AreFirstMembers g.L.Logic.owns g.L.Logic.reads l.g (member_of l.selection) l.i l.picks
