-- The words and the programs of a request, as the program keeps them.
use Rattle.std.specs.Prelude.{map}
use Rattle.std.specs.String.{string_bytes}
use Rattle.task_read.specs.Sources.{Typed}
use Rattle.test_picker.specs.declared.typed_list.Typed as code_typed
use Rattle.test_picker.specs.Programs.{program_of}
use Rattle.pick_command.specs.Decisions.{Request}
use Rattle.pick_command.specs.Words.{PickWords}
use Rattle.pick_command.specs.declared.request.Request as code_request
use Rattle.pick_command.specs.declared.words.PickWords as code_words

abbrev pub pick_of : code_words.PickWords → PickWords
pick_of w = record {
  bounds = w.bounds.now;
  reference = w.reference.now;
  submissions = map string_bytes w.submissions.now;
}

abbrev pub typed_of : code_typed.Typed → Typed
typed_of t = record { program = program_of t; types = t.types.facts }

abbrev pub request_of : code_request.Request → Request
request_of k = record {
  bounds = k.bounds;
  reference = typed_of k.reference;
  submissions = map typed_of k.submissions;
}
