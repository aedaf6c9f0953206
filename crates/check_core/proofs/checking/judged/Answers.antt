-- the verdict names what is there, and what it leaves open can be written
use Rattle.input_space.specs.TaskParts.{task_with}
use Rattle.check_core.proofs.Reporting.{keeps_more}
use Rattle.check_core.proofs.checking.judged.Goals as goal

pub behind-requires : goal.behind-requires
behind-requires c = keeps_more (task_with c.args.t.now) c.args.c.now c.judge-verdict.result c.count-cases.ensures.few c.requires c.judge-verdict.ensures.verdict c.in_default.not-NoMemory
