-- The bytes and the statuses of the answers of `all`. Each line ends with byte 10.
use Rattle.std.specs.Prelude.{ℕ, zero, suc, Bool, if◌then◌else◌, List, [], ◌∷◌, ◌++◌, Option, None}
use Rattle.std.specs.Prelude.{Some, codes, length}
use Rattle.std.specs.Fmt.{decimal}
use Rattle.grade_io.specs.Words.{refusal_line}
use Rattle.grade_io.specs.declared.status.Status.{Status}
use Rattle.grade_io.specs.declared.status.Status.TheVariants as status
use Rattle.mpy_tree.specs.Printing.{program_text}
use Rattle.choice_tree.specs.Templates.{Correction}
use Rattle.input_space.specs.Tasks.{Task, entry_line}
use Rattle.feedback_text.specs.Answers.{Answer, Correct, Corrected, NoCorrection, EmptyReference}
use Rattle.feedback_text.specs.Answers.{Spent}
use Rattle.feedback_text.specs.Reports.{edits_text, report_of}
use Rattle.grade_core.specs.Commands.{answer_text, status_of}
use Rattle.list_command.specs.Decisions.{AllAnswer, AsGraded, Best, Change, Listed, Listing}
use Rattle.list_command.specs.Decisions.{TooMany, Unlisted}
use Rattle.list_command.specs.Words.{AllWords}

abbrev pub number_text : ℕ → List ℕ
number_text number = codes "correction " ++ decimal number ++ codes "\n"

-- a correction by its number, with a line for each edit and the corrected program
abbrev pub change_text : List Correction → ℕ → Change → List ℕ
change_text rules number c =
    number_text number
    ++ (edits_text rules c.edits ++ codes "program\n" ++ program_text c.program)

-- corrections, the first of which has this number
abbrev pub changes_text : List Correction → ℕ → List Change → List ℕ
changes_text rules number [] = []
changes_text rules number (c ∷ cs) =
    change_text rules number c ++ changes_text rules (suc number) cs

abbrev pub whole_text : Bool → List ℕ
whole_text whole = if whole then codes ", whole\n" else codes ", more\n"

-- the cost, and how many corrections are written
abbrev pub heading_text : ℕ → ℕ → Bool → List ℕ
heading_text cost count whole =
    codes "cost " ++ decimal cost ++ codes "\nfound " ++ decimal count ++ whole_text whole

-- what is written of a listing
abbrev pub listing_text : AllWords → Task → ℕ → Listing → List ℕ
listing_text w k cost (Best changes whole) =
    heading_text cost (length changes) whole ++ changes_text k.rules 1 changes
listing_text w k cost TooMany =
    refusal_line w.submission (entry_line k.bounds k.submission) (codes "Many")
listing_text w k cost (Unlisted cert) = report_of k (Spent cost w.budget) ++ cert

-- the submission is right where the least cost is 0
abbrev pub best_status : ℕ → Status
best_status zero = status.Correct
best_status (suc n) = status.Corrected

abbrev pub listing_status : ℕ → Listing → Status
listing_status cost (Best changes whole) = best_status cost
listing_status cost TooMany = status.Refused
listing_status cost (Unlisted cert) = status.Spent

-- the bytes of a certificate, if there is one
abbrev pub cert_bytes : Option (List ℕ) → List ℕ
cert_bytes None = []
cert_bytes (Some cert) = cert

-- the certificate of a spent budget, which is written behind the answer
abbrev pub spent_cert : Answer → Option (List ℕ) → List ℕ
spent_cert Correct cert = []
spent_cert (Corrected cost fails edits p) cert = []
spent_cert (NoCorrection fails) cert = []
spent_cert EmptyReference cert = []
spent_cert (Spent at_least budget) cert = cert_bytes cert

abbrev pub all_text : AllWords → AllAnswer → List ℕ
all_text w (Listed k cost l) = listing_text w k cost l
all_text w (AsGraded x) =
    answer_text w.reference x.task x.answer ++ spent_cert x.answer x.cert

abbrev pub all_status : AllAnswer → Status
all_status (Listed k cost l) = listing_status cost l
all_status (AsGraded x) = status_of x.answer
