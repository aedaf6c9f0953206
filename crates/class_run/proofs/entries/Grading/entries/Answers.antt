-- one entry more, the end of the names, and what stops them
use Rattle.std.proofs.Common.{◌∷◌, [], map, ap, subst, sym, ◌∙◌, take_all}
use Rattle.std.specs.String.{string_bytes}
use Rattle.std.proofs.lemmas.List.{map-append}
use Rattle.source_files.proofs.Fetching.{left_both}
use Rattle.class_text.specs.EntryViews.{entry_of}
use Rattle.class_run.specs.Listed.{AreEntries}
use Rattle.class_run.specs.Views.{class_with, shared_of}
use Rattle.class_run.proofs.Entering.{fetched_at_end, fetched_at_stop, none_so_far, one_more_entry}
use Rattle.class_run.proofs.entries.Grading.entries.Goals as goal

pub loop-name-init : goal.loop-name-init
loop-name-init g c =
    rw c.new-entries.ensures.items
    (none_so_far (class_with c.args.self.now.files.now (g.G.Grader.tells c.args.self.now.grader.now)) (shared_of c.args.self.now.shared) (g.S.Shelf.seen c.args.shelf.now))

pub loop-name-preserved : goal.loop-name-preserved
loop-name-preserved g c =
    one_more_entry string_bytes (class_with c.args.self.now.files.now (g.G.Grader.tells c.args.self.now.grader.now)) (shared_of c.args.self.now.shared)
    c.args.names.now c.loop-name.name-index c.name-item.result c.as_str.result.now _ _ _ (g.S.Shelf.seen c.args.shelf.now) (g.S.Shelf.seen c.loop-name.shelf) (g.S.Shelf.seen c.entry.new.shelf)
    c.loop-name-test.true (ap string_bytes (sym c.name-item.is) ∙ sym c.as_str.ensures.value)
    (ap (map entry_of) c.in_ok-push.ensures.items ∙ map-append entry_of c.loop-name.entries.items (c.in_ok-entry.entry ∷ []))
    c.loop-name.invariant c.in_ok-entry.ensures.entry c.in_ok-entry.ensures.left

pub returns-in_err-entry-clause-calls : goal.returns-in_err-entry-clause-calls
returns-in_err-entry-clause-calls g c =
    fetched_at_stop string_bytes (class_with c.args.self.now.files.now (g.G.Grader.tells c.args.self.now.grader.now)) (shared_of c.args.self.now.shared)
    c.args.names.now c.loop-name.name-index c.name-item.result c.as_str.result.now (map entry_of c.loop-name.entries.items)
    (g.S.Shelf.seen c.args.shelf.now) (g.S.Shelf.seen c.loop-name.shelf) (g.S.Shelf.seen c.entry.new.shelf)
    c.loop-name-test.true (ap string_bytes (sym c.name-item.is) ∙ sym c.as_str.ensures.value) c.loop-name.invariant c.entry.ensures.call c.entry.ensures.fault

pub returns-in_err-entry-clause-left : goal.returns-in_err-entry-clause-left
returns-in_err-entry-clause-left g c =
    left_both (g.S.Shelf.seen c.args.shelf.now) (g.S.Shelf.seen c.loop-name.shelf) (g.S.Shelf.seen c.entry.new.shelf) c.loop-name.invariant.left c.entry.ensures.left

pub returns-in_err-push-clause-calls : goal.returns-in_err-push-clause-calls
returns-in_err-push-clause-calls g c =
    fetched_at_stop string_bytes (class_with c.args.self.now.files.now (g.G.Grader.tells c.args.self.now.grader.now)) (shared_of c.args.self.now.shared)
    c.args.names.now c.loop-name.name-index c.name-item.result c.as_str.result.now (map entry_of c.loop-name.entries.items)
    (g.S.Shelf.seen c.args.shelf.now) (g.S.Shelf.seen c.loop-name.shelf) (g.S.Shelf.seen c.entry.new.shelf)
    c.loop-name-test.true (ap string_bytes (sym c.name-item.is) ∙ sym c.as_str.ensures.value) c.loop-name.invariant c.entry.ensures.call c.entry.ensures.fault

pub returns-in_err-push-clause-left : goal.returns-in_err-push-clause-left
returns-in_err-push-clause-left g c =
    left_both (g.S.Shelf.seen c.args.shelf.now) (g.S.Shelf.seen c.loop-name.shelf) (g.S.Shelf.seen c.entry.new.shelf) c.loop-name.invariant.left c.entry.ensures.left

pub returns-clause-entries : goal.returns-clause-entries
returns-clause-entries g c =
    subst (λ ns. AreEntries (class_with c.args.self.now.files.now (g.G.Grader.tells c.args.self.now.grader.now)) (shared_of c.args.self.now.shared) (g.S.Shelf.seen c.args.shelf.now)
    (map string_bytes ns) (map entry_of c.loop-name.entries.items) (g.S.Shelf.seen c.args.shelf.now) (g.S.Shelf.seen c.loop-name.shelf))
    (take_all c.loop-name.name-index c.args.names.now c.loop-name-test.false) c.loop-name.invariant.entries

pub returns-clause-calls : goal.returns-clause-calls
returns-clause-calls g c =
    fetched_at_end string_bytes (class_with c.args.self.now.files.now (g.G.Grader.tells c.args.self.now.grader.now)) (shared_of c.args.self.now.shared)
    c.args.names.now c.loop-name.name-index (map entry_of c.loop-name.entries.items) (g.S.Shelf.seen c.args.shelf.now) (g.S.Shelf.seen c.loop-name.shelf)
    (take_all c.loop-name.name-index c.args.names.now c.loop-name-test.false) c.loop-name.invariant
