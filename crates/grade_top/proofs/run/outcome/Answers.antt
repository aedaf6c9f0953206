-- each step that stops is the first
use Rattle.std.specs.String.{string_bytes}
use Rattle.std.proofs.lemmas.List.{length-map}
use Rattle.source_files.specs.Views.{texts_of}
use Rattle.grade_top.specs.Requests.{run_of}
use Rattle.grade_top.specs.Views.{typed_of}
use Rattle.grade_top.proofs.DecidingLaws.{at_count, at_program, at_values, run_given}
use Rattle.file_commands.proofs.Stopping.{stopped}
use Rattle.grade_top.proofs.ReadingLaws.{two_texts}
use Rattle.grade_top.proofs.run.outcome.Goals as goal

pub returns-in_err-typed : goal.returns-in_err-typed
returns-in_err-typed c =
    stopped _ _ _ c.from_residual-in_err-typed.result c.in_err-typed.field-0.0 c.from_residual-in_err-typed.ensures.1 c.in_err-typed.ensures
    (at_program (run_of c.args.words.now) (texts_of c.args.texts.now) c.deref.result.now c.deref-2.result.now c.in_ok-bounds.bounds
    (two_texts c.args.texts.now c.bounds-item.result c.program-item.result _ _ c.requires.two c.bounds-item.is c.program-item.is c.deref.ensures.value c.deref-2.ensures.value) c.in_ok-bounds.ensures.read)

pub returns-then-words-items : goal.returns-then-words-items
returns-then-words-items c = rw c.refused.ensures
    (at_count (run_of c.args.words.now) (texts_of c.args.texts.now) c.deref.result.now c.deref-2.result.now c.in_ok-bounds.bounds (typed_of c.in_ok-typed.typed)
    (two_texts c.args.texts.now c.bounds-item.result c.program-item.result _ _ c.requires.two c.bounds-item.is c.program-item.is c.deref.ensures.value c.deref-2.ensures.value) (record { bounds = c.in_ok-bounds.ensures.read; program = c.in_ok-typed.ensures })
    (λ same. c.if-words-items.true (rw c.items.ensures (rw (length-map c.args.words.now.values.now string_bytes) at same))))

pub returns-in_err-values : goal.returns-in_err-values
returns-in_err-values c =
    stopped _ _ _ c.from_residual-in_err-values.result c.in_err-values.field-0.0 c.from_residual-in_err-values.ensures.1 (rw c.items-2.ensures at c.in_err-values.ensures)
    (at_values (run_of c.args.words.now) (texts_of c.args.texts.now) c.deref.result.now c.deref-2.result.now c.in_ok-bounds.bounds (typed_of c.in_ok-typed.typed)
    (two_texts c.args.texts.now c.bounds-item.result c.program-item.result _ _ c.requires.two c.bounds-item.is c.program-item.is c.deref.ensures.value c.deref-2.ensures.value) (record { bounds = c.in_ok-bounds.ensures.read; program = c.in_ok-typed.ensures })
    (rw (length-map c.args.words.now.values.now string_bytes) (rw c.items.ensures at c.if-words-items.false)))

pub returns : goal.returns
returns c = rw c.in_ok-run.ensures
    (run_given (run_of c.args.words.now) (texts_of c.args.texts.now) c.deref.result.now c.deref-2.result.now c.in_ok-bounds.bounds (typed_of c.in_ok-typed.typed) c.in_ok-values.values
    (two_texts c.args.texts.now c.bounds-item.result c.program-item.result _ _ c.requires.two c.bounds-item.is c.program-item.is c.deref.ensures.value c.deref-2.ensures.value) (record { bounds = c.in_ok-bounds.ensures.read; program = c.in_ok-typed.ensures })
    (rw (length-map c.args.words.now.values.now string_bytes) (rw c.items.ensures at c.if-words-items.false)) (rw c.items-2.ensures at c.in_ok-values.ensures))
