-- each source that isn't read stops all, and those before it are read
use Rattle.std.proofs.Common.{arith, map}
use Rattle.file_commands.proofs.Stopping.{stopped}
use Rattle.source_files.specs.Views.{texts_of}
use Rattle.pick_command.specs.Requests.{typed_of}
use Rattle.pick_command.proofs.Reading.{all_behind, at_others, at_program, fit_at, parts_given, two_and_more}
use Rattle.pick_command.proofs.request.read_parts.Goals as goal

pub read_typed-requires : goal.read_typed-requires
read_typed-requires c =
    fit_at c.args.texts.now 1073741824 1 c.reference-item.result c.as_slice-2.result.now
    c.requires.fit (omega arith) c.reference-item.is c.as_slice-2.ensures.value

pub returns-in_err-reference : goal.returns-in_err-reference
returns-in_err-reference c =
    let whole =
    two_and_more c.args.texts.now c.bounds-item.result c.reference-item.result c.as_slice.result.now
    c.as_slice-2.result.now (omega arith) c.bounds-item.is c.reference-item.is
    c.as_slice.ensures.value c.as_slice-2.ensures.value in
    stopped _ _ _ c.from_residual-in_err-reference.result c.in_err-reference.field-0.0
    c.from_residual-in_err-reference.ensures.1 c.in_err-reference.ensures
    (at_program (texts_of c.args.texts.now) c.as_slice.result.now c.as_slice-2.result.now _ whole
    c.in_ok-bounds.bounds c.in_ok-bounds.ensures.read)

pub read_submissions-requires-clause-fit : goal.read_submissions-requires-clause-fit
read_submissions-requires-clause-fit c =
    let whole =
    two_and_more c.args.texts.now c.bounds-item.result c.reference-item.result c.as_slice.result.now
    c.as_slice-2.result.now (omega arith) c.bounds-item.is c.reference-item.is
    c.as_slice.ensures.value c.as_slice-2.ensures.value in
    all_behind 1073741824 (texts_of c.args.texts.now) c.as_slice.result.now
    c.as_slice-2.result.now _ whole c.requires.fit

pub returns-in_err-submissions : goal.returns-in_err-submissions
returns-in_err-submissions c =
    let whole =
    two_and_more c.args.texts.now c.bounds-item.result c.reference-item.result c.as_slice.result.now
    c.as_slice-2.result.now (omega arith) c.bounds-item.is c.reference-item.is
    c.as_slice.ensures.value c.as_slice-2.ensures.value in
    stopped _ _ _ c.from_residual-in_err-submissions.result c.in_err-submissions.field-0.0
    c.from_residual-in_err-submissions.ensures.1 c.in_err-submissions.ensures
    (at_others (texts_of c.args.texts.now) c.as_slice.result.now c.as_slice-2.result.now _ whole
    c.in_ok-bounds.bounds c.in_ok-bounds.ensures.read (typed_of c.in_ok-reference.reference)
    c.in_ok-reference.ensures)

pub returns : goal.returns
returns c =
    let whole =
    two_and_more c.args.texts.now c.bounds-item.result c.reference-item.result c.as_slice.result.now
    c.as_slice-2.result.now (omega arith) c.bounds-item.is c.reference-item.is
    c.as_slice.ensures.value c.as_slice-2.ensures.value in
    parts_given (texts_of c.args.texts.now) c.as_slice.result.now c.as_slice-2.result.now _ whole
    c.in_ok-bounds.bounds c.in_ok-bounds.ensures.read (typed_of c.in_ok-reference.reference)
    c.in_ok-reference.ensures (map typed_of c.in_ok-submissions.submissions)
    c.in_ok-submissions.ensures
