-- the report is that of the request
use Rattle.std.proofs.Common.{arith, refl, subst}
use Rattle.std.specs.String.{string_bytes}
use Rattle.std.proofs.lemmas.List.{length-map}
use Rattle.source_files.specs.Files.{sources_of}
use Rattle.source_files.specs.Views.{texts_of}
use Rattle.test_picker.specs.Choosing.{IsChoice}
use Rattle.test_picker.specs.Programs.{inputs_of, program_of}
use Rattle.pick_command.specs.Commands.{pick_files}
use Rattle.pick_command.specs.Requests.{pick_of, request_of}
use Rattle.pick_command.proofs.Asked.{are_asked, asked_many, marks_many, programs_are}
use Rattle.pick_command.proofs.Fitting.{all_small, texts_many}
use Rattle.pick_command.proofs.Steps.{all_read, at_empty}
use Rattle.pick_command.proofs.command.report_texts.Goals as goal

pub read_request-requires-clause-few : goal.read_request-requires-clause-few
read_request-requires-clause-few c =
    let many = texts_many (pick_of c.args.words.now) c.args.texts.now c.requires.fit in
    let names = length-map c.args.words.now.submissions.now string_bytes in
    omega (arith, many, names, c.requires.few)

pub read_request-requires-clause-fit : goal.read_request-requires-clause-fit
read_request-requires-clause-fit c =
    all_small (sources_of (pick_files (pick_of c.args.words.now))) (texts_of c.args.texts.now)
    c.requires.fit

pub pick-requires-clause-reference : goal.pick-requires-clause-reference
pick-requires-clause-reference c =
    (are_asked (texts_of c.args.texts.now) c.in_ok-request.request c.in_ok-request.ensures).reference

pub pick-requires-clause-others : goal.pick-requires-clause-others
pick-requires-clause-others c =
    (are_asked (texts_of c.args.texts.now) c.in_ok-request.request c.in_ok-request.ensures).others

pub pick-requires-clause-one_type : goal.pick-requires-clause-one_type
pick-requires-clause-one_type c =
    (are_asked (texts_of c.args.texts.now) c.in_ok-request.request c.in_ok-request.ensures).one_type

pub pick-requires-clause-counted : goal.pick-requires-clause-counted
pick-requires-clause-counted c =
    (are_asked (texts_of c.args.texts.now) c.in_ok-request.request c.in_ok-request.ensures).counted

pub pick_text-requires : goal.pick_text-requires
pick_text-requires c =
    let many = texts_many (pick_of c.args.words.now) c.args.texts.now c.requires.fit in
    let names = length-map c.args.words.now.submissions.now string_bytes in
    let programs = asked_many c.args.texts.now c.in_ok-request.request c.in_ok-request.ensures in
    let views = length-map c.in_ok-request.request.submissions program_of in
    let marks = marks_many _ _ _ _ _ _ c.in-Picked.ensures.0 in
    omega (arith, many, names, programs, views, marks)

pub returns-in-Picked : goal.returns-in-Picked
returns-in-Picked c =
    let k = request_of c.in_ok-request.request in
    record {
      answer = record {
        entry = k.bounds.entry;
        cases = inputs_of c.in-Picked.cases;
        marks = c.in-Picked.marks;
      };
      decided = record {
        request = k;
        read = all_read (texts_of c.args.texts.now) k c.in_ok-request.ensures c.in-Picked.ensures.1;
        answers = record {
          entry = refl;
          chosen =
              subst (λ ps. IsChoice k.bounds k.reference.program ps (inputs_of c.in-Picked.cases) c.in-Picked.marks)
              (programs_are c.in_ok-request.request.submissions) c.in-Picked.ensures.0;
        };
      };
      shows = record { text = c.in_ok-text-in-Picked.ensures; status = refl; kept = refl };
    }

pub returns-in-EmptyReference : goal.returns-in-EmptyReference
returns-in-EmptyReference c = rw c.at_reference.ensures
    (at_empty (texts_of c.args.texts.now) (request_of c.in_ok-request.request)
    c.in_ok-request.ensures c.in-EmptyReference.ensures)
