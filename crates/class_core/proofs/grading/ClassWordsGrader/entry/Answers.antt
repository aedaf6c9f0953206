-- the entry is what the four texts decide
use Rattle.grade_core.specs.Requests.{grade_of}
use Rattle.class_run.specs.Views.{shared_of}
use Rattle.class_core.specs.Requests.{words_of}
use Rattle.class_core.proofs.GradedFiles.{entry_graded, four_equal}
use Rattle.class_core.proofs.grading.ClassWordsGrader.entry.Goals as goal

pub returns-clause-told : goal.returns-clause-told
returns-clause-told c =
    entry_graded (words_of c.args.self.now) (shared_of c.args.shared.now) c.args.name.now c.args.text.items (grade_of c.grade-words.result) _
    c.report_texts-found.result c.entry.result c.grade-words.ensures.words
    (four_equal c.in_ok-from_slice.field-0.items c.in_ok-from_slice-2.field-0.items c.args.text.items c.in_ok-from_slice-3.field-0.items
    c.args.shared.now.bounds.now c.args.shared.now.reference.now c.args.shared.now.rules.now
    c.in_ok-from_slice.ensures.items c.in_ok-from_slice-2.ensures.items c.in_ok-from_slice-3.ensures.items)
    c.report_texts-found.ensures c.entry.ensures.told
