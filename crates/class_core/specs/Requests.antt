-- The words of a request, as the program keeps them.
use Rattle.class_core.specs.Words.{ClassWords}
use Rattle.class_core.specs.declared.words.ClassWords as code

abbrev pub words_of : code.ClassWords → ClassWords
words_of w = record {
  bounds = w.files.bounds.now;
  reference = w.files.reference.now;
  rules = w.files.rules.now;
  list = w.files.list.now;
  budget = w.budget;
}
