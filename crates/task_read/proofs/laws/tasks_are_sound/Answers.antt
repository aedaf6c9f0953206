use Rattle.task_read.proofs.Ready.{are_sound}
use Rattle.task_read.proofs.laws.tasks_are_sound.Goals as goal

pub returns : goal.returns
returns c =
    record {
      holds = λ bounds reference submission rules k.
          are_sound c.what_is_read_is_proper.ensures.holds bounds reference submission rules k;
    }
