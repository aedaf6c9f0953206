-- a program more, one that is refused, and the end
use Rattle.std.proofs.Common.{arith, map}
use Rattle.std.proofs.lemmas.List.{length-map}
use Rattle.file_commands.proofs.Stopping.{stopped}
use Rattle.source_files.specs.Views.{texts_of}
use Rattle.input_space.specs.Tasks.{entry_at}
use Rattle.pick_command.specs.Requests.{typed_of}
use Rattle.pick_command.proofs.Reading.{all_read, fit_at, mapped_at, mapped_push, one_refused, read_on}
use Rattle.pick_command.proofs.request.read_submissions.Goals as goal

pub read_typed-requires : goal.read_typed-requires
read_typed-requires c =
    fit_at c.args.texts.now 1073741824 c.loop-i.i c.index-texts-i.result c.as_slice.result.now
    c.requires.fit (omega arith) c.index-texts-i.is c.as_slice.ensures.value

pub returns-in_err-typed : goal.returns-in_err-typed
returns-in_err-typed c =
    stopped _ _ _ c.from_residual.result c.in_err-typed.field-0.0 c.from_residual.ensures.1
    c.in_err-typed.ensures
    (one_refused (entry_at c.args.bounds.now) (texts_of c.args.texts.now) c.loop-i.i
    (map typed_of c.loop-i.programs.items) c.submission-source.result c.as_slice.result.now
    c.submission-source.ensures
    (rw c.as_slice.ensures.value (mapped_at (λ v. v.items) c.args.texts.now c.loop-i.i
    c.index-texts-i.result (omega arith) c.index-texts-i.is))
    c.loop-i.invariant)

pub loop-i-preserved : goal.loop-i-preserved
loop-i-preserved c =
    read_on (entry_at c.args.bounds.now) (texts_of c.args.texts.now) c.loop-i.i
    (map typed_of c.loop-i.programs.items) (map typed_of c.push.new.programs.items)
    c.submission-source.result c.as_slice.result.now (typed_of c.in_ok-typed.typed)
    c.submission-source.ensures
    (rw c.as_slice.ensures.value (mapped_at (λ v. v.items) c.args.texts.now c.loop-i.i
    c.index-texts-i.result (omega arith) c.index-texts-i.is))
    c.in_ok-typed.ensures
    (mapped_push typed_of c.loop-i.programs.items c.push.new.programs.items c.in_ok-typed.typed
    c.in_ok-push.ensures)
    c.loop-i.invariant

pub returns : goal.returns
returns c =
    let many = length-map c.args.texts.now (λ v. v.items) in
    rw c.from_vec.ensures
    (all_read (entry_at c.args.bounds.now) (texts_of c.args.texts.now) c.loop-i.i
    (map typed_of c.loop-i.programs.items) (omega (arith, many, c.loop-i-test.false))
    c.loop-i.invariant)
