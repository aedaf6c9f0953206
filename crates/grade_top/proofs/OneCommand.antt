-- Words ask for one command.
use Rattle.std.proofs.Common.{◌≡◌, sym, ap, ◌∙◌, arith, refl, List, [], ◌∷◌, ℕ, eq-eqb, false, true, ◌==◌}
use Rattle.std.specs.Fmt.{decimal}
use Rattle.std.proofs.lemmas.Fmt.{decimal_injective}
use Rattle.check_core.specs.Words.{CheckWords}
use Rattle.formula_commands.specs.Words.{SatWords, UnsatWords}
use Rattle.grade_core.specs.Words.{GradeWords}
use Rattle.list_command.specs.Words.{AllWords}
use Rattle.pick_command.specs.Words.{PickWords}
use Rattle.grade_top.specs.Requests.{command_of}
use Rattle.grade_top.specs.declared.words.Command as code_command
use Rattle.grade_top.specs.Words.{Command, Grade, Check, Run, Sample, All, Pick, Sat, Unsat, Nothing, RunWords, Asks, grade_words, check_words, run_words, sample_words, sat_words, unsat_words, pick_words, all_words}
use Rattle.grade_top.specs.Words.{AsksGrade, AsksCheck, AsksRun, AsksSample, AsksAll, AsksPick, AsksSat, AsksUnsat}

make : (bounds reference submission rules cert : List ℕ) (budget : ℕ) → GradeWords
make bounds reference submission rules cert budget = record { bounds = bounds; reference = reference; submission = submission; rules = rules; cert = cert; budget = budget }

made : (g h : GradeWords) → grade_words g ≡ grade_words h → g.budget ≡ h.budget → make g.bounds g.reference g.submission g.rules g.cert g.budget ≡ make h.bounds h.reference h.submission h.rules h.cert h.budget
made g h words budget = cc

-- words ask for one thing
same_words : (words : List (List ℕ)) (g h : GradeWords) → AsksGrade words g → AsksGrade words h → g ≡ h
unfolding make
same_words words g h asks other =
    let e : grade_words g ≡ grade_words h = sym asks.0 ∙ other.0 in
    let text : decimal g.budget ≡ decimal h.budget = cc in
    let budget : g.budget ≡ h.budget = decimal_injective g.budget h.budget (omega (arith, asks.1.most)) (omega (arith, other.1.most)) text in
    made g h e budget

make_run : (bounds program : List ℕ) (values : List (List ℕ)) → RunWords
make_run bounds program values = record { bounds = bounds; program = program; values = values }

made_run : (w v : RunWords) → run_words w ≡ run_words v → make_run w.bounds w.program w.values ≡ make_run v.bounds v.program v.values
made_run w v words = cc

same_run : (words : List (List ℕ)) (w v : RunWords) → AsksRun words w → AsksRun words v → w ≡ v
unfolding make_run
same_run words w v asks other = made_run w v (sym asks.0 ∙ other.0)

not_both : (words : List (List ℕ)) (g : GradeWords) (w : RunWords) → AsksGrade words g → AsksRun words w → ⊥
not_both words g w grade run = let no : grade_words g ≡ run_words w = sym grade.0 ∙ run.0 in cc

same_sample : (words : List (List ℕ)) (m n : ℕ) → AsksSample words m → AsksSample words n → m ≡ n
same_sample words m n asks other =
    let e : sample_words m ≡ sample_words n = sym asks.0 ∙ other.0 in
    let text : decimal m ≡ decimal n = cc in
    decimal_injective m n (omega (arith, asks.1)) (omega (arith, other.1)) text

no_grade_sample : (words : List (List ℕ)) (g : GradeWords) (n : ℕ) → AsksGrade words g → AsksSample words n → ⊥
no_grade_sample words g n grade sample = let no : grade_words g ≡ sample_words n = sym grade.0 ∙ sample.0 in cc

no_run_sample : (words : List (List ℕ)) (w : RunWords) (n : ℕ) → AsksRun words w → AsksSample words n → ⊥
no_run_sample words w n run sample = let no : run_words w ≡ sample_words n = sym run.0 ∙ sample.0 in cc

make_check : (bounds reference submission rules cert : List ℕ) → CheckWords
make_check bounds reference submission rules cert = record { bounds = bounds; reference = reference; submission = submission; rules = rules; cert = cert }

made_check : (w v : CheckWords) → check_words w ≡ check_words v
    → make_check w.bounds w.reference w.submission w.rules w.cert ≡ make_check v.bounds v.reference v.submission v.rules v.cert
made_check w v words = cc

same_check : (words : List (List ℕ)) (w v : CheckWords) → AsksCheck words w → AsksCheck words v → w ≡ v
unfolding make_check
same_check words w v asks other = made_check w v (sym asks ∙ other)

no_grade_check : (words : List (List ℕ)) (g : GradeWords) (w : CheckWords) → AsksGrade words g → AsksCheck words w → ⊥
no_grade_check words g w grade check = let no : grade_words g ≡ check_words w = sym grade.0 ∙ check in cc

no_check_run : (words : List (List ℕ)) (w : CheckWords) (r : RunWords) → AsksCheck words w → AsksRun words r → ⊥
no_check_run words w r check run = let no : check_words w ≡ run_words r = sym check ∙ run.0 in cc

no_check_sample : (words : List (List ℕ)) (w : CheckWords) (n : ℕ) → AsksCheck words w → AsksSample words n → ⊥
no_check_sample words w n check sample = let no : check_words w ≡ sample_words n = sym check ∙ sample.0 in cc

abbrev first_word : List (List ℕ) → List ℕ
first_word [] = []
first_word (word ∷ words) = word

abbrev first_byte : List ℕ → ℕ
first_byte [] = 0
first_byte (c ∷ cs) = c

apart : false ≡ true → ⊥
apart e = cc

make_sat : (cnf log : List ℕ) (budget : ℕ) → SatWords
make_sat cnf log budget = record { cnf = cnf; log = log; budget = budget }

made_sat : (w v : SatWords) → sat_words w ≡ sat_words v → w.budget ≡ v.budget → make_sat w.cnf w.log w.budget ≡ make_sat v.cnf v.log v.budget
made_sat w v words budget = cc

same_sat : (words : List (List ℕ)) (w v : SatWords) → AsksSat words w → AsksSat words v → w ≡ v
unfolding make_sat
same_sat words w v asks other =
    let e : sat_words w ≡ sat_words v = sym asks.0 ∙ other.0 in
    let text : decimal w.budget ≡ decimal v.budget = cc in
    let budget : w.budget ≡ v.budget = decimal_injective w.budget v.budget (omega (arith, asks.1.most)) (omega (arith, other.1.most)) text in
    made_sat w v e budget

make_unsat : (cnf log : List ℕ) → UnsatWords
make_unsat cnf log = record { cnf = cnf; log = log }

made_unsat : (w v : UnsatWords) → unsat_words w ≡ unsat_words v → make_unsat w.cnf w.log ≡ make_unsat v.cnf v.log
made_unsat w v words = cc

same_unsat : (words : List (List ℕ)) (w v : UnsatWords) → AsksUnsat words w → AsksUnsat words v → w ≡ v
unfolding make_unsat
same_unsat words w v asks other = made_unsat w v (sym asks ∙ other)

no_grade_sat : (words : List (List ℕ)) (g : GradeWords) (w : SatWords) → AsksGrade words g → AsksSat words w → ⊥
no_grade_sat words g w grade sat = let no : grade_words g ≡ sat_words w = sym grade.0 ∙ sat.0 in cc

no_check_sat : (words : List (List ℕ)) (v : CheckWords) (w : SatWords) → AsksCheck words v → AsksSat words w → ⊥
no_check_sat words v w check sat = let no : check_words v ≡ sat_words w = sym check ∙ sat.0 in cc

no_run_sat : (words : List (List ℕ)) (r : RunWords) (w : SatWords) → AsksRun words r → AsksSat words w → ⊥
no_run_sat words r w run sat = apart (eq-eqb 114 115 (ap (λ ws. first_byte (first_word ws)) (sym run.0 ∙ sat.0)))

no_sample_sat : (words : List (List ℕ)) (n : ℕ) (w : SatWords) → AsksSample words n → AsksSat words w → ⊥
no_sample_sat words n w sample sat = let no : sample_words n ≡ sat_words w = sym sample.0 ∙ sat.0 in cc

no_grade_unsat : (words : List (List ℕ)) (g : GradeWords) (w : UnsatWords) → AsksGrade words g → AsksUnsat words w → ⊥
no_grade_unsat words g w grade unsat = let no : grade_words g ≡ unsat_words w = sym grade.0 ∙ unsat in cc

no_check_unsat : (words : List (List ℕ)) (v : CheckWords) (w : UnsatWords) → AsksCheck words v → AsksUnsat words w → ⊥
no_check_unsat words v w check unsat = let no : check_words v ≡ unsat_words w = sym check ∙ unsat in cc

no_run_unsat : (words : List (List ℕ)) (r : RunWords) (w : UnsatWords) → AsksRun words r → AsksUnsat words w → ⊥
no_run_unsat words r w run unsat = let no : run_words r ≡ unsat_words w = sym run.0 ∙ unsat in cc

no_sample_unsat : (words : List (List ℕ)) (n : ℕ) (w : UnsatWords) → AsksSample words n → AsksUnsat words w → ⊥
no_sample_unsat words n w sample unsat = let no : sample_words n ≡ unsat_words w = sym sample.0 ∙ unsat in cc

no_sat_unsat : (words : List (List ℕ)) (v : SatWords) (w : UnsatWords) → AsksSat words v → AsksUnsat words w → ⊥
no_sat_unsat words v w sat unsat = let no : sat_words v ≡ unsat_words w = sym sat.0 ∙ unsat in cc

-- words that begin otherwise are of another command
abbrev first_of : List (List ℕ) → ℕ
first_of words = first_byte (first_word words)

differ : (words xs ys : List (List ℕ)) → words ≡ xs → words ≡ ys → (first_of xs == first_of ys) ≡ false → ⊥
differ words xs ys here there other = apart (sym other ∙ eq-eqb (first_of xs) (first_of ys) (ap first_of (sym here ∙ there)))

make_pick : (bounds reference : List ℕ) (submissions : List (List ℕ)) → PickWords
make_pick bounds reference submissions = record { bounds = bounds; reference = reference; submissions = submissions }

made_pick : (w v : PickWords) → pick_words w ≡ pick_words v → make_pick w.bounds w.reference w.submissions ≡ make_pick v.bounds v.reference v.submissions
made_pick w v words = cc

same_pick : (words : List (List ℕ)) (w v : PickWords) → AsksPick words w → AsksPick words v → w ≡ v
unfolding make_pick
same_pick words w v asks other = made_pick w v (sym asks.0 ∙ other.0)

make_all : (bounds reference submission rules : List ℕ) (most budget : ℕ) → AllWords
make_all bounds reference submission rules most budget = record { bounds = bounds; reference = reference; submission = submission; rules = rules; most = most; budget = budget }

made_all : (w v : AllWords) → all_words w ≡ all_words v → w.most ≡ v.most → w.budget ≡ v.budget
    → make_all w.bounds w.reference w.submission w.rules w.most w.budget ≡ make_all v.bounds v.reference v.submission v.rules v.most v.budget
made_all w v words most budget = cc

same_all : (words : List (List ℕ)) (w v : AllWords) → AsksAll words w → AsksAll words v → w ≡ v
unfolding make_all
same_all words w v asks other =
    let e : all_words w ≡ all_words v = sym asks.0 ∙ other.0 in
    let mosts : decimal w.most ≡ decimal v.most = cc in
    let budgets : decimal w.budget ≡ decimal v.budget = cc in
    let most : w.most ≡ v.most = decimal_injective w.most v.most (omega (arith, asks.1.most)) (omega (arith, other.1.most)) mosts in
    let budget : w.budget ≡ v.budget = decimal_injective w.budget v.budget (omega (arith, asks.2.most)) (omega (arith, other.2.most)) budgets in
    made_all w v e most budget

pub one_command : (words : List (List ℕ)) (c d : Command) → Asks words c → Asks words d → c ≡ d
one_command words (Grade g) (Grade h) asks other = ap Grade (same_words words g h asks other)
one_command words (Grade g) (Check w) asks other = absurd (no_grade_check words g w asks other)
one_command words (Check w) (Grade g) asks other = absurd (no_grade_check words g w other asks)
one_command words (Check w) (Check v) asks other = ap Check (same_check words w v asks other)
one_command words (Check w) (Run r) asks other = absurd (no_check_run words w r asks other)
one_command words (Check w) (Sample n) asks other = absurd (no_check_sample words w n asks other)
one_command words (Check w) Nothing asks other = absurd (other.no_check w asks)
one_command words (Run r) (Check w) asks other = absurd (no_check_run words w r other asks)
one_command words (Sample n) (Check w) asks other = absurd (no_check_sample words w n other asks)
one_command words Nothing (Check w) asks other = absurd (asks.no_check w other)
one_command words (Grade g) (Run w) asks other = absurd (not_both words g w asks other)
one_command words (Grade g) (Sample n) asks other = absurd (no_grade_sample words g n asks other)
one_command words (Grade g) Nothing asks other = absurd (other.no_grade g asks)
one_command words (Run w) (Grade g) asks other = absurd (not_both words g w other asks)
one_command words (Run w) (Run v) asks other = ap Run (same_run words w v asks other)
one_command words (Run w) (Sample n) asks other = absurd (no_run_sample words w n asks other)
one_command words (Run w) Nothing asks other = absurd (other.no_run w asks)
one_command words (Sample n) (Grade g) asks other = absurd (no_grade_sample words g n other asks)
one_command words (Sample n) (Run w) asks other = absurd (no_run_sample words w n other asks)
one_command words (Sample m) (Sample n) asks other = ap Sample (same_sample words m n asks other)
one_command words (Sample n) Nothing asks other = absurd (other.no_sample n asks)
one_command words Nothing (Grade h) asks other = absurd (asks.no_grade h other)
one_command words Nothing (Run w) asks other = absurd (asks.no_run w other)
one_command words Nothing (Sample n) asks other = absurd (asks.no_sample n other)
one_command words (Grade g) (Sat w) asks other = absurd (no_grade_sat words g w asks other)
one_command words (Sat w) (Grade g) asks other = absurd (no_grade_sat words g w other asks)
one_command words (Grade g) (Unsat w) asks other = absurd (no_grade_unsat words g w asks other)
one_command words (Unsat w) (Grade g) asks other = absurd (no_grade_unsat words g w other asks)
one_command words (Check v) (Sat w) asks other = absurd (no_check_sat words v w asks other)
one_command words (Sat w) (Check v) asks other = absurd (no_check_sat words v w other asks)
one_command words (Check v) (Unsat w) asks other = absurd (no_check_unsat words v w asks other)
one_command words (Unsat w) (Check v) asks other = absurd (no_check_unsat words v w other asks)
one_command words (Run r) (Sat w) asks other = absurd (no_run_sat words r w asks other)
one_command words (Sat w) (Run r) asks other = absurd (no_run_sat words r w other asks)
one_command words (Run r) (Unsat w) asks other = absurd (no_run_unsat words r w asks other)
one_command words (Unsat w) (Run r) asks other = absurd (no_run_unsat words r w other asks)
one_command words (Sample n) (Sat w) asks other = absurd (no_sample_sat words n w asks other)
one_command words (Sat w) (Sample n) asks other = absurd (no_sample_sat words n w other asks)
one_command words (Sample n) (Unsat w) asks other = absurd (no_sample_unsat words n w asks other)
one_command words (Unsat w) (Sample n) asks other = absurd (no_sample_unsat words n w other asks)
one_command words (Sat w) (Sat v) asks other = ap Sat (same_sat words w v asks other)
one_command words (Sat v) (Unsat w) asks other = absurd (no_sat_unsat words v w asks other)
one_command words (Sat w) Nothing asks other = absurd (other.no_sat w asks)
one_command words (Unsat w) (Sat v) asks other = absurd (no_sat_unsat words v w other asks)
one_command words (Unsat w) (Unsat v) asks other = ap Unsat (same_unsat words w v asks other)
one_command words (Unsat w) Nothing asks other = absurd (other.no_unsat w asks)
one_command words Nothing (Sat w) asks other = absurd (asks.no_sat w other)
one_command words Nothing (Unsat w) asks other = absurd (asks.no_unsat w other)
one_command words (Grade g) (Pick p) asks other = absurd (differ words (grade_words g) (pick_words p) asks.0 other.0 refl)
one_command words (Pick p) (Grade g) asks other = absurd (differ words (pick_words p) (grade_words g) asks.0 other.0 refl)
one_command words (Check w) (Pick p) asks other = absurd (differ words (check_words w) (pick_words p) asks other.0 refl)
one_command words (Pick p) (Check w) asks other = absurd (differ words (pick_words p) (check_words w) asks.0 other refl)
one_command words (Run w) (Pick p) asks other = absurd (differ words (run_words w) (pick_words p) asks.0 other.0 refl)
one_command words (Pick p) (Run w) asks other = absurd (differ words (pick_words p) (run_words w) asks.0 other.0 refl)
one_command words (Sample n) (Pick p) asks other = absurd (differ words (sample_words n) (pick_words p) asks.0 other.0 refl)
one_command words (Pick p) (Sample n) asks other = absurd (differ words (pick_words p) (sample_words n) asks.0 other.0 refl)
one_command words (Sat w) (Pick p) asks other = absurd (differ words (sat_words w) (pick_words p) asks.0 other.0 refl)
one_command words (Pick p) (Sat w) asks other = absurd (differ words (pick_words p) (sat_words w) asks.0 other.0 refl)
one_command words (Unsat w) (Pick p) asks other = absurd (differ words (unsat_words w) (pick_words p) asks other.0 refl)
one_command words (Pick p) (Unsat w) asks other = absurd (differ words (pick_words p) (unsat_words w) asks.0 other refl)
one_command words (Pick w) (Pick v) asks other = ap Pick (same_pick words w v asks other)
one_command words (Pick w) Nothing asks other = absurd (other.no_pick w asks)
one_command words Nothing (Pick w) asks other = absurd (asks.no_pick w other)
one_command words (Grade g) (All p) asks other = absurd (differ words (grade_words g) (all_words p) asks.0 other.0 refl)
one_command words (All p) (Grade g) asks other = absurd (differ words (all_words p) (grade_words g) asks.0 other.0 refl)
one_command words (Check w) (All p) asks other = absurd (differ words (check_words w) (all_words p) asks other.0 refl)
one_command words (All p) (Check w) asks other = absurd (differ words (all_words p) (check_words w) asks.0 other refl)
one_command words (Run w) (All p) asks other = absurd (differ words (run_words w) (all_words p) asks.0 other.0 refl)
one_command words (All p) (Run w) asks other = absurd (differ words (all_words p) (run_words w) asks.0 other.0 refl)
one_command words (Sample n) (All p) asks other = absurd (differ words (sample_words n) (all_words p) asks.0 other.0 refl)
one_command words (All p) (Sample n) asks other = absurd (differ words (all_words p) (sample_words n) asks.0 other.0 refl)
one_command words (Pick w) (All p) asks other = absurd (differ words (pick_words w) (all_words p) asks.0 other.0 refl)
one_command words (All p) (Pick w) asks other = absurd (differ words (all_words p) (pick_words w) asks.0 other.0 refl)
one_command words (Sat w) (All p) asks other = absurd (differ words (sat_words w) (all_words p) asks.0 other.0 refl)
one_command words (All p) (Sat w) asks other = absurd (differ words (all_words p) (sat_words w) asks.0 other.0 refl)
one_command words (Unsat w) (All p) asks other = absurd (differ words (unsat_words w) (all_words p) asks other.0 refl)
one_command words (All p) (Unsat w) asks other = absurd (differ words (all_words p) (unsat_words w) asks.0 other refl)
one_command words (All w) (All v) asks other = ap All (same_all words w v asks other)
one_command words (All w) Nothing asks other = absurd (other.no_all w asks)
one_command words Nothing (All w) asks other = absurd (asks.no_all w other)
one_command words Nothing Nothing asks other = refl

-- a command that was read is one
pub asks_something : (c : code_command.Command) → command_of c ≡ Nothing → ⊥
asks_something (code_command.TheVariants.Grade w) is = cc
asks_something (code_command.TheVariants.Check w) is = cc
asks_something (code_command.TheVariants.Run w) is = cc
asks_something (code_command.TheVariants.Sample n) is = cc
asks_something (code_command.TheVariants.Sat w) is = cc
asks_something (code_command.TheVariants.All w) is = cc
asks_something (code_command.TheVariants.Pick w) is = cc
asks_something (code_command.TheVariants.Unsat w) is = cc
