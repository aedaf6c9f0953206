use Rattle.std.proofs.Common.{map, take}
use Rattle.std.specs.String.{string_bytes}
use Rattle.class_text.specs.EntryViews.{entry_of}
use Rattle.class_run.specs.Views.{class_with, shared_of}
use Rattle.class_run.proofs.Entering.{AreSoFar}
use Rattle.class_run.proofs.entries.Grading.entries.Given as goal

-- the names so far have their entries
abbrev pub invariant-loop-name : goal.invariant-loop-name
invariant-loop-name g l =
    AreSoFar (class_with l.self.files.now (g.G.Grader.tells l.self.grader.now)) (shared_of l.self.shared) (map string_bytes (take l.name-index l.names))
    (map entry_of l.entries.items) (g.S.Shelf.seen l.fn.shelf) (g.S.Shelf.seen l.shelf)
