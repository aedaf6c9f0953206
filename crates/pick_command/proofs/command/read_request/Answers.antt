-- each step that stops is the first
use Rattle.std.proofs.Common.{arith}
use Rattle.file_commands.proofs.Stopping.{stopped}
use Rattle.source_files.specs.Views.{texts_of}
use Rattle.pick_command.specs.Requests.{request_of}
use Rattle.pick_command.proofs.Asked.{few_submissions}
use Rattle.pick_command.proofs.Steps.{at_large, at_types, request_read}
use Rattle.pick_command.proofs.command.read_request.Goals as goal

pub compare_types-requires : goal.compare_types-requires
compare_types-requires c =
    let many = few_submissions c.args.texts.now c.in_ok-request.request c.in_ok-request.ensures in
    omega (arith, many, c.requires.few)

pub returns-in_err-compare_types : goal.returns-in_err-compare_types
returns-in_err-compare_types c =
    stopped _ _ _ c.from_residual-in_err-compare_types.result c.in_err-compare_types.field-0.0
    c.from_residual-in_err-compare_types.ensures.1 c.in_err-compare_types.ensures
    (at_types (texts_of c.args.texts.now) (request_of c.in_ok-request.request)
    c.in_ok-request.ensures)

pub are_too_large-requires : goal.are_too_large-requires
are_too_large-requires c =
    let many = few_submissions c.args.texts.now c.in_ok-request.request c.in_ok-request.ensures in
    omega (arith, many, c.requires.few)

pub returns-then-branch : goal.returns-then-branch
returns-then-branch c = rw c.at_reference.ensures
    (at_large (texts_of c.args.texts.now) (request_of c.in_ok-request.request)
    c.in_ok-request.ensures c.in_ok-compare_types.field-0 c.in_ok-compare_types.ensures
    (c.in_ok-are_too_large.ensures.0 c.if-branch.true))

pub returns : goal.returns
returns c =
    request_read (texts_of c.args.texts.now) (request_of c.in_ok-request.request)
    c.in_ok-request.ensures c.in_ok-compare_types.field-0 c.in_ok-compare_types.ensures
    (λ large. let so = c.in_ok-are_too_large.ensures.1 large in cc)
