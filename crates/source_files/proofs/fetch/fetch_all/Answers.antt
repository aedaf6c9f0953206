-- one file more is fetched, or stops the run
use Rattle.std.proofs.Common.{[], ◌∷◌, map, ap, sym, subst, ◌∙◌, ◌+◌, take}
use Rattle.std.proofs.lemmas.List.{map-append}
use Rattle.source_files.specs.Views.{file_of, texts_of}
use Rattle.source_files.proofs.Fetching.{AreFetched, calls_at_stop, one_fetched, one_long, stopped}
use Rattle.source_files.proofs.fetch.fetch_all.Goals as goal

pub loop-file-preserved : goal.loop-file-preserved
loop-file-preserved g c =
    subst (λ ts. AreFetched (map file_of (take (c.loop-file.file-index + 1) c.args.files.now)) ts (g.S.Shelf.seen c.args.shelf.now) (g.S.Shelf.seen c.fetch.new.shelf))
    (sym (ap texts_of c.in_ok-push.ensures ∙ map-append (λ v. v.items) c.loop-file.texts.items (c.in_ok-text.text ∷ [])))
    (one_fetched file_of c.args.files.now c.loop-file.file-index _ c.loop-file-test.true (texts_of c.loop-file.texts.items) c.in_ok-text.text.items
    (g.S.Shelf.seen c.args.shelf.now) (g.S.Shelf.seen c.loop-file.shelf) (g.S.Shelf.seen c.fetch.new.shelf)
    c.loop-file.invariant c.in_ok-text.ensures.held c.in_ok-text.ensures.fit c.in_ok-text.ensures.calls c.in_ok-text.ensures.kept c.in_ok-text.ensures.faults)

pub returns-in_err-text-clause-long : goal.returns-in_err-text-clause-long
returns-in_err-text-clause-long g c =
    stopped c.from_residual.result c.in_err-text.field-0.0 _ c.from_residual.ensures.1
    (one_long file_of c.args.files.now c.loop-file.file-index _ c.loop-file-test.true (texts_of c.loop-file.texts.items)
    (g.S.Shelf.seen c.args.shelf.now) (g.S.Shelf.seen c.loop-file.shelf) (g.S.Shelf.seen c.fetch.new.shelf) c.in_err-text.field-0.0
    c.loop-file.invariant c.in_err-text.ensures.long)

pub returns-in_err-text-clause-calls : goal.returns-in_err-text-clause-calls
returns-in_err-text-clause-calls g c =
    calls_at_stop file_of c.args.files.now c.loop-file.file-index _ c.loop-file-test.true c.fetch.result (g.S.Shelf.seen c.args.shelf.now) (g.S.Shelf.seen c.loop-file.shelf) (g.S.Shelf.seen c.fetch.new.shelf)
    c.loop-file.invariant.calls c.fetch.ensures.calls

pub returns-in_err-push-clause-calls : goal.returns-in_err-push-clause-calls
returns-in_err-push-clause-calls g c =
    calls_at_stop file_of c.args.files.now c.loop-file.file-index _ c.loop-file-test.true c.fetch.result (g.S.Shelf.seen c.args.shelf.now) (g.S.Shelf.seen c.loop-file.shelf) (g.S.Shelf.seen c.fetch.new.shelf)
    c.loop-file.invariant.calls c.fetch.ensures.calls
