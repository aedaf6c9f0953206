-- the entry of the bytes of a file
use Rattle.std.proofs.Common.{rules}
use Rattle.class_run.specs.Views.{class_with, shared_of}
use Rattle.class_run.proofs.Entering.{entry_of_bytes}
use Rattle.class_run.proofs.entries.Grading.entry.Goals as goal

pub returns-in-Ok-clause-entry : goal.returns-in-Ok-clause-entry
returns-in-Ok-clause-entry g c =
    entry_of_bytes (class_with c.args.self.now.files.now (g.G.Grader.tells c.args.self.now.grader.now)) (shared_of c.args.self.now.shared) c.args.name.now
    (g.S.Shelf.seen c.args.shelf.now) (g.S.Shelf.seen c.fetch.new.self) c.in-Ok.ensures.calls c.in-Ok.text.items c.entry.result
    (search rules) c.in-Ok.ensures.whole c.in-Ok.ensures.faults c.entry.ensures.told c.entry.ensures.read c.entry.ensures.file
