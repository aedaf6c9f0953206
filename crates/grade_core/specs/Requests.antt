-- The words of `grade`, as the program keeps them.
use Rattle.grade_core.specs.Words.{GradeWords}
use Rattle.grade_core.specs.declared.words.GradeWords as code

abbrev pub grade_of : code.GradeWords → GradeWords
grade_of w = record {
  bounds = w.bounds.now;
  reference = w.reference.now;
  submission = w.submission.now;
  rules = w.rules.now;
  cert = w.cert.now;
  budget = w.budget;
}
