-- The words of `all`, as the program keeps them.
use Rattle.list_command.specs.Words.{AllWords}
use Rattle.list_command.specs.declared.words.AllWords as code

abbrev pub all_of : code.AllWords → AllWords
all_of w = record {
  bounds = w.bounds.now;
  reference = w.reference.now;
  submission = w.submission.now;
  rules = w.rules.now;
  most = w.most;
  budget = w.budget;
}
