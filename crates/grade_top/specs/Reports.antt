-- The bytes of the usage, of runs, of samples and of refusals of values. Each line ends with
-- byte 10.
use Rattle.std.specs.Prelude.{ℕ, List, [], ◌++◌, Option, None, Some, codes, length}
use Rattle.std.specs.List.{flat_map}
use Rattle.std.specs.Fmt.{decimal}
use Rattle.mpy_tree.specs.declared.value.Value.{Value}
use Rattle.mpy_tree.specs.declared.outcome.Outcome.{Outcome}
use Rattle.mpy_tree.specs.declared.outcome.Outcome.TheVariants as outcome
use Rattle.mpy_tree.specs.declared.refusal.Cause.{Cause}
use Rattle.mpy_tree.specs.Outcomes.{fault_text}
use Rattle.mpy_tree.specs.Printing.{value_text}
use Rattle.mpy_tree.specs.Refusals.{cause_text}
use Rattle.mpy_limits.specs.Limits.{all_statements}
use Rattle.input_space.specs.Tasks.{Task}
use Rattle.feedback_text.specs.Answers.{Answer, Correct, Corrected, NoCorrection, EmptyReference}
use Rattle.feedback_text.specs.Answers.{Spent}
use Rattle.feedback_text.specs.Reports.{maybe_text}
use Rattle.grade_core.specs.Commands.{answer_text}

abbrev pub usage_text : List ℕ
usage_text =
    codes "usage: mpygrade grade BOUNDS REF SUB RULES CERT BUDGET\n"
    ++ codes "       mpygrade check BOUNDS REF SUB RULES CERT\n"
    ++ codes "       mpygrade run BOUNDS PROG VALUE..\n"
    ++ codes "       mpygrade sample NUMBER\n"
    ++ codes "       mpygrade all BOUNDS REF SUB RULES MOST BUDGET\n"
    ++ codes "       mpygrade pick BOUNDS REF SUB..\n"
    ++ codes "       mpygrade sat CNF LOG BUDGET\n"
    ++ codes "       mpygrade unsat CNF LOG\n"

-- the line of a value that was printed
abbrev pub printed_line : Value → List ℕ
printed_line v = codes "printed " ++ value_text v ++ codes "\n"

-- how a run ended: the value or `None`, and then the printed values that were kept, one a line
abbrev pub run_text : Outcome → List ℕ
run_text (outcome.Done v vs) =
    codes "value " ++ maybe_text v ++ codes "\n" ++ flat_map printed_line vs
run_text (outcome.Fault kind line) =
    codes "fault " ++ fault_text kind ++ codes " line " ++ decimal line ++ codes "\n"

-- the lines of a sample that is graded
abbrev pub sample_lines : ℕ → Task → ℕ → ℕ → List ℕ
sample_lines n k edits cost =
    codes "sample " ++ decimal n
    ++ codes "\nstatements " ++ decimal (length (all_statements k.submission))
    ++ codes "\nedits " ++ decimal edits ++ codes "\ncost " ++ decimal cost ++ codes "\n"

-- the bytes of a certificate, if there is one
abbrev pub cert_bytes : Option (List ℕ) → List ℕ
cert_bytes None = []
cert_bytes (Some text) = text

-- what is written of a sample: behind a spent budget stands its certificate
abbrev pub sample_report : ℕ → Task → Answer → Option (List ℕ) → List ℕ
sample_report n k Correct cert = sample_lines n k 0 0
sample_report n k (Corrected cost fails edits p) cert = sample_lines n k (length edits) cost
sample_report n k (Spent at_least budget) cert =
    codes "sample " ++ decimal n ++ codes "\n"
    ++ answer_text (codes "reference") k (Spent at_least budget) ++ cert_bytes cert
-- of other answers, which no sample meets, it is what `grade` writes, by the source's own name
sample_report n k (NoCorrection fails) cert =
    answer_text (codes "reference") k (NoCorrection fails)
sample_report n k EmptyReference cert = answer_text (codes "reference") k EmptyReference

-- a value of `run` is refused, by its number
abbrev pub value_refusal_text : ℕ → Cause → List ℕ
value_refusal_text n c =
    codes "refused value " ++ (decimal n ++ (codes ": " ++ (cause_text c ++ codes "\n")))
