-- a list that isn't one, and the fetches of one that is
use Rattle.std.proofs.Common.{refl}
use Rattle.std.specs.String.{string_bytes}
use Rattle.source_files.specs.Views.{texts_of}
use Rattle.class_run.specs.Classes.{Shared}
use Rattle.class_run.specs.Views.{class_with, names_of}
use Rattle.class_run.proofs.Listing.{calls_listed, list_stopped}
use Rattle.class_run.proofs.Texts.{four, four_texts}
use Rattle.class_run.proofs.find.grade_listed.Goals as goal

pub returns-in_err-names-clause-listed : goal.returns-in_err-names-clause-listed
returns-in_err-names-clause-listed g c =
    let shared : Shared = record { bounds = c.bounds-item.result.items; reference = c.reference-item.result.items; rules = c.rules-item.result.items } in
    list_stopped (class_with c.args.files.now (g.G.Grader.tells c.args.grader.now)) (texts_of c.args.texts.now) shared c.deref.result.now
    (four_texts c.args.texts.now c.bounds-item.result c.reference-item.result c.rules-item.result c.list-item.result shared c.deref.result.now
    (four (names_of c.args.files.now) c.args.texts.now c.requires) c.bounds-item.is c.reference-item.is c.rules-item.is c.list-item.is refl refl refl c.deref.ensures.value)
    (g.S.Shelf.seen c.args.shelf.now) c.in_err-names.field-0.0 c.from_residual.result c.from_residual.ensures.1 c.in_err-names.ensures

pub returns-in_err-entries-clause-calls : goal.returns-in_err-entries-clause-calls
returns-in_err-entries-clause-calls g c =
    let shared : Shared = record { bounds = c.bounds-item.result.items; reference = c.reference-item.result.items; rules = c.rules-item.result.items } in
    calls_listed string_bytes (texts_of c.args.texts.now) shared c.deref.result.now c.in_ok-names.names.items c.deref-5.result.now
    (g.S.Shelf.seen c.args.shelf.now) (g.S.Shelf.seen c.entries.new.shelf)
    (four_texts c.args.texts.now c.bounds-item.result c.reference-item.result c.rules-item.result c.list-item.result shared c.deref.result.now
    (four (names_of c.args.files.now) c.args.texts.now c.requires) c.bounds-item.is c.reference-item.is c.rules-item.is c.list-item.is refl refl refl c.deref.ensures.value)
    c.in_ok-names.ensures c.deref-5.ensures.value c.entries.ensures.calls

pub returns-clause-calls : goal.returns-clause-calls
returns-clause-calls g c =
    let shared : Shared = record { bounds = c.bounds-item.result.items; reference = c.reference-item.result.items; rules = c.rules-item.result.items } in
    calls_listed string_bytes (texts_of c.args.texts.now) shared c.deref.result.now c.in_ok-names.names.items c.deref-5.result.now
    (g.S.Shelf.seen c.args.shelf.now) (g.S.Shelf.seen c.entries.new.shelf)
    (four_texts c.args.texts.now c.bounds-item.result c.reference-item.result c.rules-item.result c.list-item.result shared c.deref.result.now
    (four (names_of c.args.files.now) c.args.texts.now c.requires) c.bounds-item.is c.reference-item.is c.rules-item.is c.list-item.is refl refl refl c.deref.ensures.value)
    c.in_ok-names.ensures c.deref-5.ensures.value c.entries.ensures.calls
