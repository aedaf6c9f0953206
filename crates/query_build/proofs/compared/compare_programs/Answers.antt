use Rattle.std.proofs.Common.{◌∙◌}
use Rattle.bit_words.specs.Logic.{extends_keeps}
use Rattle.mpy_tree.specs.Running.{evaluated}
use Rattle.mpy_tree.specs.View.{routines_of}
use Rattle.input_space.specs.Tasks.{result_type}
use Rattle.sym_values.specs.DoneLater.{done_in_later, done_later}
use Rattle.task_bits.proofs.Later.{arguments_later, arguments_read_later}
use Rattle.task_bits.proofs.Later.{picks_later, picks_read_later}
use Rattle.query_build.proofs.compared.compare_programs.Goals as goal

pub candidates-requires : goal.candidates-requires
candidates-requires g c =
    let keeps = extends_keeps c.reference.ensures.extends in
    record {
      picks = picks_later keeps c.requires.picks;
      args = arguments_later keeps c.requires.args;
    }

pub compare_ends-requires : goal.compare_ends-requires
compare_ends-requires g c =
    let task = c.args.task.now in
    let keeps = extends_keeps c.candidates.ensures.extends in
    let type = result_type task.bounds (routines_of task.reference) task.reference_types.facts in
    record {
      formed = rw c.bounds.ensures
          (type, done_in_later keeps c.in_ok-wanted.ensures.made, c.in_ok-given.ensures.made);
    }

pub returns-clause-ends : goal.returns-clause-ends
returns-clause-ends g c vs xs h =
    let task = c.args.task.now in
    let x = evaluated task.bounds.limits (routines_of task.reference) task.bounds.entry xs in
    let wanted = c.in_ok-wanted.ensures in
    let keeps = extends_keeps c.candidates.ensures.extends in
    let ends = rw c.bounds.ensures at c.in_ok-both.ensures.ends in
    ends vs x (done_later c.in_ok-wanted.wanted keeps wanted.made vs x (wanted.value vs xs h))

pub returns-clause-meets : goal.returns-clause-meets
returns-clause-meets g c vs xs p chosen h =
    let task = c.args.task.now in
    let bounds = task.bounds in
    let x = evaluated bounds.limits (routines_of task.reference) bounds.entry xs in
    let y = evaluated bounds.limits p bounds.entry xs in
    let wanted = c.in_ok-wanted.ensures in
    let first = extends_keeps c.reference.ensures.extends in
    let second = extends_keeps c.candidates.ensures.extends in
    let picks = picks_read_later first c.requires.picks vs chosen.members chosen.read in
    let args = arguments_read_later first c.requires.args vs ∙ h in
    let meets = rw c.bounds.ensures at c.in_ok-both.ensures.meets in
    meets vs x y
    (done_later c.in_ok-wanted.wanted second wanted.made vs x (wanted.value vs xs h))
    (c.in_ok-given.ensures.value vs chosen.members xs p picks args chosen.made)
