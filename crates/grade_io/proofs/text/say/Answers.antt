-- A status of the text says that the whole was written.
use Rattle.std.proofs.Common.{sym, subst}
use Rattle.grade_io.specs.Puts.{PutsSo}
use Rattle.grade_io.proofs.Putting.{of_text}
use Rattle.grade_io.proofs.text.say.Goals as goal

pub returns-in-Ok-clause-puts : goal.returns-in-Ok-clause-puts
returns-in-Ok-clause-puts g c = subst (PutsSo c.args.text.now _ _) (sym (of_text c.args.status c.requires)) c.in-Ok.ensures.puts
