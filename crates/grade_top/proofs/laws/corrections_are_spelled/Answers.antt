use Rattle.grade_top.proofs.PrintedPrograms.{corrections_spelled}
use Rattle.grade_top.proofs.laws.corrections_are_spelled.Goals as goal

pub returns : goal.returns
returns c =
    record {
      holds =
          corrections_spelled c.tasks_are_sound.ensures.holds c.candidates_are_proper.ensures
          c.spelled_by_its_text.ensures.holds c.spelled_by_no_other.ensures.holds;
    }
