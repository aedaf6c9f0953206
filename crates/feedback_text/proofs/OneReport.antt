-- An answer has one report.
use Rattle.std.proofs.Common.{◌≡◌, ℕ, List, [], ◌∷◌, map, refl, sym, ap, ◌∙◌}
use Rattle.mpy_laws.proofs.BackFromTrees.{trees_differ}
use Rattle.input_space.specs.Tasks.{Task}
use Rattle.feedback_text.specs.declared.answer.Answer as code
use Rattle.feedback_text.specs.Answers.{Answer, Correct, Corrected, NoCorrection, EmptyReference, Spent, Edit, edit_tree}
use Rattle.feedback_text.specs.AnswerViews.{StandsFor}
use Rattle.feedback_text.specs.ReportViews.{IsReportOf}
use Rattle.feedback_text.specs.Reports.{report_of}

same_edit : (e f : Edit) → edit_tree e ≡ edit_tree f → e ≡ f
same_edit e f h =
    let line : e.line ≡ f.line = ap (λ t. t.line) h in
    let rule : e.rule ≡ f.rule = ap (λ t. t.rule) h in
    let old : e.old ≡ f.old = trees_differ.of_terms e.old f.old (ap (λ t. t.old) h) in
    let new : e.new ≡ f.new = trees_differ.of_terms e.new f.new (ap (λ t. t.new) h) in
    λ i. record { line = line i; rule = rule i; old = old i; new = new i }

same_edits : (es fs : List Edit) → map edit_tree es ≡ map edit_tree fs → es ≡ fs
same_edits [] [] h = refl
same_edits [] (f ∷ fs) h = cc
same_edits (e ∷ es) [] h = cc
same_edits (e ∷ es) (f ∷ fs) h =
    let first : edit_tree e ≡ edit_tree f = cc in
    let rest : map edit_tree es ≡ map edit_tree fs = cc in
    λ i. same_edit e f first i ∷ same_edits es fs rest i

one_answer : (k : Task) (a : code.Answer) (b c : Answer) → StandsFor k a b → StandsFor k a c → b ≡ c
one_answer k code.TheVariants.Correct b c h g = h ∙ sym g
one_answer k (code.TheVariants.Corrected s n fails) (Corrected m failure es p) (Corrected l other fs q) h g =
    let cost : m ≡ l = sym h.0 ∙ g.0 in
    let failures : failure ≡ other = sym h.1 ∙ g.1 in
    let edits = same_edits es fs (h.2.edits_are ∙ sym g.2.edits_are) in
    let programs = trees_differ.of_programs p q (h.2.program ∙ sym g.2.program) in
    λ i. Corrected (cost i) (failures i) (edits i) (programs i)
one_answer k (code.TheVariants.Corrected s n fails) Correct c h g = absurd h
one_answer k (code.TheVariants.Corrected s n fails) (NoCorrection f) c h g = absurd h
one_answer k (code.TheVariants.Corrected s n fails) EmptyReference c h g = absurd h
one_answer k (code.TheVariants.Corrected s n fails) (Spent m b) c h g = absurd h
one_answer k (code.TheVariants.Corrected s n fails) (Corrected m failure es p) Correct h g = absurd g
one_answer k (code.TheVariants.Corrected s n fails) (Corrected m failure es p) (NoCorrection f) h g = absurd g
one_answer k (code.TheVariants.Corrected s n fails) (Corrected m failure es p) EmptyReference h g = absurd g
one_answer k (code.TheVariants.Corrected s n fails) (Corrected m failure es p) (Spent l b) h g = absurd g
one_answer k (code.TheVariants.NoCorrection fails) b c h g = h ∙ sym g
one_answer k code.TheVariants.EmptyReference b c h g = h ∙ sym g
one_answer k (code.TheVariants.Spent n m) b c h g = h ∙ sym g
one_answer k code.TheVariants.NoMemory b c h g = absurd h

pub one_report : (k : Task) (a : code.Answer) (text other : List ℕ) → IsReportOf k a text → IsReportOf k a other → text ≡ other
one_report k a text other h g =
    h.text_is ∙ ap (report_of k) (one_answer k a h.answer g.answer h.stands g.stands) ∙ sym g.text_is
