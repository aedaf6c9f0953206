-- The words of `check`, as the program keeps them.
use Rattle.check_core.specs.Words.{CheckWords}
use Rattle.check_core.specs.declared.words.CheckWords as code

abbrev pub check_of : code.CheckWords → CheckWords
check_of w = record {
  bounds = w.bounds.now;
  reference = w.reference.now;
  submission = w.submission.now;
  rules = w.rules.now;
  cert = w.cert.now;
}
