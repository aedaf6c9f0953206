-- what is found of the texts comes of the files
use Rattle.source_files.specs.Views.{texts_of}
use Rattle.class_run.specs.Views.{class_with, names_of}
use Rattle.class_run.proofs.Finding.{calls_so, found_so}
use Rattle.class_run.proofs.find.find_entries.Goals as goal

pub returns-clause-found : goal.returns-clause-found
returns-clause-found g c =
    found_so (class_with c.args.files.now (g.G.Grader.tells c.args.grader.now)) (texts_of c.in_ok-texts.texts.items) c.grade_listed.result
    (g.S.Shelf.seen c.args.shelf.now) (g.S.Shelf.seen c.fetch.new.shelf) (g.S.Shelf.seen c.grade_listed.new.shelf)
    c.in_ok-texts.ensures.held c.in_ok-texts.ensures.fit c.in_ok-texts.ensures.all c.in_ok-texts.ensures.faults c.in_ok-texts.ensures.left
    (rw c.deref.ensures.value at c.grade_listed.ensures.listed) (rw c.deref.ensures.value at c.grade_listed.ensures.calls)

pub returns-clause-calls : goal.returns-clause-calls
returns-clause-calls g c =
    calls_so (names_of c.args.files.now) (texts_of c.in_ok-texts.texts.items)
    (g.S.Shelf.seen c.args.shelf.now) (g.S.Shelf.seen c.fetch.new.shelf) (g.S.Shelf.seen c.grade_listed.new.shelf)
    c.in_ok-texts.ensures.held c.in_ok-texts.ensures.all (rw c.deref.ensures.value at c.grade_listed.ensures.calls)
