-- What follows from how `unsat` ends.
use Rattle.std.proofs.Common.{◌≡◌, ℕ, List, [], ◌∷◌, inl, inr}
use Rattle.grade_io.specs.Devices.{Devices, ShelfState}
use Rattle.grade_io.specs.Kept.{Holds}
use Rattle.grade_io.specs.Written.{Wrote}
use Rattle.grade_io.specs.declared.status.Status.{Status}
use Rattle.grade_io.specs.declared.status.Status.TheVariants as status
use Rattle.mpy_tree.specs.declared.refusal.Refusal.{Refusal}
use Rattle.source_files.specs.Texts.{AreHeld, Tells}
use Rattle.file_commands.specs.Claims.{AreTold, IsSaid, NoFault}
use Rattle.file_commands.specs.Commands.{Outcome, Answered, Refused, status_of, text_of}
use Rattle.file_commands.specs.Ends.{ComesOfFiles, Ends, EndsBySaying, IsFirstRefusal}
use Rattle.file_commands.proofs.Claims as command
use Rattle.file_commands.proofs.Endings.{IsOwn}
use Rattle.formula_commands.specs.Claims.{IsJudged, TellsProved}
use Rattle.formula_commands.specs.Commands.{unsat_command, unsat_files}
use Rattle.formula_commands.specs.Decisions.{BadStep, IsJudgedAs, NoFormula, NoProof, Proved, UnsatAnswer, WrongClaim, unsat_decides}
use Rattle.formula_commands.specs.Models.{HasNoModel}
use Rattle.formula_commands.specs.Texts.{unsat_status}
use Rattle.formula_commands.specs.Words.{UnsatWords}

pub own_status : (a : UnsatAnswer) → IsOwn (unsat_status a)
own_status (NoFormula line) = tt
own_status (NoProof line) = tt
own_status Proved = tt
own_status WrongClaim = tt
own_status (BadStep step) = tt

-- an answer has no other status than its own
pub no_usage : (a : UnsatAnswer) → status.Usage ≡ unsat_status a → ⊥
no_usage (NoFormula line) e = cc
no_usage (NoProof line) e = cc
no_usage Proved e = cc
no_usage WrongClaim e = cc
no_usage (BadStep step) e = cc

-- the formula's text that was held, which no values satisfy
record HasText (w : UnsatWords) (shelf : ShelfState) : Type 0 where
  cnf : List ℕ
  held : Holds shelf w.cnf cnf
  none : HasNoModel cnf

has_text : (w : UnsatWords) (shelf : ShelfState) (ts : List (List ℕ)) → AreHeld shelf (unsat_files w) ts → unsat_decides ts Proved → HasText w shelf
has_text w shelf [] held h = absurd h
has_text w shelf (cnf ∷ []) held h = absurd h
has_text w shelf (cnf ∷ proof ∷ []) held h = record { cnf = cnf; held = held.0; none = h.none }
has_text w shelf (cnf ∷ proof ∷ t ∷ ts) held h = absurd h

module _ (w : UnsatWords) (before after : Devices) where
  tells : (o : Outcome UnsatAnswer) → ComesOfFiles (unsat_command w) before.shelf after.shelf o → status.Correct ≡ status_of (unsat_command w) o
      → Wrote before.sink after.sink (text_of (unsat_command w) o) → TellsProved w before after
  tells (Answered (NoFormula line)) comes is wrote = absurd (let z : status.Correct ≡ status.Refused = is in cc)
  tells (Answered (NoProof line)) comes is wrote = absurd (let z : status.Correct ≡ status.Refused = is in cc)
  tells (Answered Proved) comes is wrote =
      let text = has_text w before.shelf comes.texts comes.held comes.comes.1 in
      record { cnf = text.cnf; held = text.held; none = text.none; wrote = wrote }
  tells (Answered WrongClaim) comes is wrote = absurd (let z : status.Correct ≡ status.Rejected = is in cc)
  tells (Answered (BadStep step)) comes is wrote = absurd (let z : status.Correct ≡ status.Rejected = is in cc)
  tells (Refused r) comes is wrote = absurd (let z : status.Correct ≡ status.Refused = is in cc)

  pub unsatisfiable : (s : Status) → Ends (unsat_command w) before after s → s ≡ status.Correct → TellsProved w before after
  unsatisfiable s ends is =
      let e : EndsBySaying (unsat_command w) before after status.Correct = rw is at ends in
      tells e.outcome e.comes e.says.0 e.says.2

judged_as : (cnf proof : List ℕ) (a : UnsatAnswer) → IsJudgedAs cnf proof a → IsJudged cnf proof (unsat_status a)
judged_as cnf proof (NoFormula line) h = inl h.none
judged_as cnf proof (NoProof line) h = inr (line, h)
judged_as cnf proof Proved h = h
judged_as cnf proof WrongClaim h = inl h
judged_as cnf proof (BadStep step) h = inr (step, h)

pub judged : (w : UnsatWords) (cnf proof : List ℕ) (before after : Devices) (s : Status) → Ends (unsat_command w) before after s
    → AreTold before (unsat_files w) (cnf ∷ proof ∷ []) → NoFault before after → IsJudged cnf proof s
judged w cnf proof before after s ends told sure =
    command.answered (unsat_command w) (cnf ∷ proof ∷ []) before after s (IsJudged cnf proof) tt (λ a decided wrote. judged_as cnf proof a decided) (λ r h. h) ends told sure

pub refused : (w : UnsatWords) (ts : List (List ℕ)) (r : Refusal) (before after : Devices) (s : Status) → Ends (unsat_command w) before after s
    → Tells before.shelf (unsat_files w) ts → IsFirstRefusal (unsat_command w) ts r → NoFault before after → IsSaid ((unsat_command w).line r) status.Refused before.sink after.sink s
refused w ts r before after s ends tells first sure =
    command.refused (unsat_command w) ts before after s r (λ a decided h. h) (λ q p h g. absurd h) ends tells first sure
