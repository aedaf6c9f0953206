-- The report of an answer, byte by byte. Each line ends with byte 10.
use Rattle.std.specs.Prelude.{ℕ, Bool, true, false, List, [], ◌∷◌, ◌++◌, Option, None, Some}
use Rattle.std.specs.Prelude.{slice_get, codes}
use Rattle.std.specs.List.{flat_map}
use Rattle.std.specs.Fmt.{decimal}
use Rattle.mpy_tree.specs.declared.value.Value.{Value}
use Rattle.mpy_tree.specs.declared.outcome.Outcome.{Outcome}
use Rattle.mpy_tree.specs.declared.outcome.Outcome.TheVariants as outcome
use Rattle.mpy_tree.specs.Outcomes.{fault_text}
use Rattle.mpy_tree.specs.Printing.{text_of, program_text, value_text, values_text}
use Rattle.choice_tree.specs.Templates.{Correction}
use Rattle.bounds_reader.specs.declared.bounds.Bounds.{Bounds}
use Rattle.input_space.specs.Agreement.{Failure, compares}
use Rattle.input_space.specs.Tasks.{Task}
use Rattle.feedback_text.specs.declared.holes.Hole.{Hole}
use Rattle.feedback_text.specs.declared.holes.Hole.TheVariants as hole
use Rattle.feedback_text.specs.Answers.{Answer, Correct, Corrected, NoCorrection, EmptyReference}
use Rattle.feedback_text.specs.Answers.{Spent, Edit}
use Rattle.feedback_text.specs.Messages.{filled}

-- a value, or `None` where there is none
abbrev pub maybe_text : Option Value → List ℕ
maybe_text None = codes "None"
maybe_text (Some v) = value_text v

-- what was printed, or `nothing`
abbrev pub printed_text : List Value → List ℕ
printed_text [] = codes "nothing"
printed_text (v ∷ vs) = values_text (v ∷ vs)

-- how a run ends: a value, and what was printed where that is compared; or `fault` and its kind
abbrev pub outcome_text : Bool → Outcome → List ℕ
outcome_text false (outcome.Done v vs) = maybe_text v
outcome_text true (outcome.Done v vs) = maybe_text v ++ codes " printing " ++ printed_text vs
outcome_text compared (outcome.Fault kind line) = codes "fault " ++ fault_text kind

-- the line for an input on which the submission fails
abbrev pub fails_text : Bounds → Failure → List ℕ
fails_text b f =
    codes "fails " ++ b.entry ++ codes "(" ++ values_text f.input ++ codes "): gives "
    ++ outcome_text (compares b.limits) f.gives ++ codes ", wanted "
    ++ outcome_text (compares b.limits) f.wanted ++ codes "\n"

-- what is put into the holes of the message of an edit by a rule
abbrev pub value_in : Edit → Correction → Hole → List ℕ
value_in e r hole.Line = decimal e.line
value_in e r hole.Old = text_of e.old
value_in e r hole.New = text_of e.new
value_in e r hole.Cost = decimal r.cost

-- the message of an edit by a rule that says a text, or none
abbrev pub message : Edit → Correction → Option (List ℕ) → List ℕ
message e r None = codes "replace " ++ text_of e.old ++ codes " by " ++ text_of e.new
message e r (Some say) = filled (value_in e r) say

-- the line for an edit by a rule
abbrev pub edit_by : Edit → Correction → List ℕ
edit_by e r =
    codes "line " ++ decimal e.line ++ codes " [" ++ r.name ++ codes ", " ++ decimal r.cost
    ++ codes "]: " ++ message e r r.say ++ codes "\n"

-- the line for an edit by the rule that it names
abbrev pub edit_line : Edit → Option Correction → List ℕ
edit_line e None = []
edit_line e (Some r) = edit_by e r

abbrev pub edits_text : List Correction → List Edit → List ℕ
edits_text rules edits = flat_map (λ e. edit_line e (slice_get rules e.rule)) edits

-- the report of an answer; a reference that faults on all inputs is refused, and has none
abbrev pub report_of : Task → Answer → List ℕ
report_of k Correct = codes "correct\n"
report_of k (Corrected cost fails edits p) =
    codes "cost " ++ decimal cost ++ codes "\n" ++ fails_text k.bounds fails
    ++ edits_text k.rules edits ++ codes "program\n" ++ program_text p
report_of k (NoCorrection fails) = codes "no correction\n" ++ fails_text k.bounds fails
report_of k EmptyReference = []
report_of k (Spent at_least budget) =
    codes "budget spent " ++ decimal budget ++ codes "\nat least cost " ++ decimal at_least
    ++ codes "\n"
