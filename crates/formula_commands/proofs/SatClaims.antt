-- What follows from how `sat` ends.
use Rattle.std.proofs.Common.{◌≡◌, ℕ, List, [], ◌∷◌, Some}
use Rattle.grade_io.specs.Devices.{Devices, ShelfState}
use Rattle.grade_io.specs.Kept.{Holds}
use Rattle.grade_io.specs.Written.{Wrote}
use Rattle.grade_io.specs.declared.status.Status.{Status}
use Rattle.grade_io.specs.declared.status.Status.TheVariants as status
use Rattle.mpy_tree.specs.declared.refusal.Refusal.{Refusal}
use Rattle.source_files.specs.Texts.{AreHeld, Tells}
use Rattle.file_commands.specs.Claims.{AreTold, IsSaid, NoFault}
use Rattle.file_commands.specs.Commands.{Outcome, Answered, Refused, kept_of, status_of, text_of}
use Rattle.file_commands.specs.Ends.{ComesOfFiles, Ends, EndsBySaying, IsFirstRefusal}
use Rattle.file_commands.specs.Keeping.{FilesAfter}
use Rattle.file_commands.proofs.Claims as command
use Rattle.file_commands.proofs.Endings.{IsOwn}
use Rattle.formula_commands.specs.Claims.{IsSolved, PrintsModel, StoresProof, StoresSteps}
use Rattle.formula_commands.specs.Commands.{sat_command, sat_files}
use Rattle.formula_commands.specs.Decisions.{IsSolvedAs, NoCnf, OutOfBudget, SatAnswer, Satisfiable, Unsatisfiable, sat_decides}
use Rattle.formula_commands.specs.Texts.{sat_status}
use Rattle.formula_commands.specs.Words.{SatWords}

pub own_status : (a : SatAnswer) → IsOwn (sat_status a)
own_status (NoCnf line) = tt
own_status (Satisfiable values) = tt
own_status (Unsatisfiable steps) = tt
own_status (OutOfBudget steps) = tt

-- an answer has no other status than its own
pub no_usage : (a : SatAnswer) → status.Usage ≡ sat_status a → ⊥
no_usage (NoCnf line) e = cc
no_usage (Satisfiable values) e = cc
no_usage (Unsatisfiable steps) e = cc
no_usage (OutOfBudget steps) e = cc

-- the text that was held, and what it decides
record HasText (w : SatWords) (shelf : ShelfState) (a : SatAnswer) : Type 0 where
  cnf : List ℕ
  held : Holds shelf w.cnf cnf
  decided : IsSolvedAs w.budget cnf a

has_text : (w : SatWords) (shelf : ShelfState) (ts : List (List ℕ)) (a : SatAnswer) → AreHeld shelf (sat_files w) ts → sat_decides w.budget ts a → HasText w shelf a
has_text w shelf [] a held h = absurd h
has_text w shelf (cnf ∷ []) a held h = record { cnf = cnf; held = held.0; decided = h }
has_text w shelf (cnf ∷ t ∷ ts) a held h = absurd h

module _ (w : SatWords) (before after : Devices) where
  text_held : (a : SatAnswer) → ComesOfFiles (sat_command w) before.shelf after.shelf (Answered a) → HasText w before.shelf a
  text_held a comes = has_text w before.shelf comes.texts a comes.held comes.comes.1

  prints : (o : Outcome SatAnswer) → ComesOfFiles (sat_command w) before.shelf after.shelf o → status.Correct ≡ status_of (sat_command w) o
      → Wrote before.sink after.sink (text_of (sat_command w) o) → FilesAfter (Some w.log) (kept_of (sat_command w) o) before.shelf after.shelf
      → PrintsModel w before after
  prints (Answered (NoCnf line)) comes is wrote files = absurd (let z : status.Correct ≡ status.Refused = is in cc)
  prints (Answered (Satisfiable values)) comes is wrote files =
      let text = text_held (Satisfiable values) comes in
      record { cnf = text.cnf; held = text.held; values = values; model = text.decided; wrote = wrote; files = files }
  prints (Answered (Unsatisfiable steps)) comes is wrote files = absurd (let z : status.Correct ≡ status.NoCorrection = is in cc)
  prints (Answered (OutOfBudget steps)) comes is wrote files = absurd (let z : status.Correct ≡ status.Spent = is in cc)
  prints (Refused r) comes is wrote files = absurd (let z : status.Correct ≡ status.Refused = is in cc)

  stores_proof : (o : Outcome SatAnswer) → ComesOfFiles (sat_command w) before.shelf after.shelf o → status.NoCorrection ≡ status_of (sat_command w) o
      → Wrote before.sink after.sink (text_of (sat_command w) o) → FilesAfter (Some w.log) (kept_of (sat_command w) o) before.shelf after.shelf
      → StoresProof w before after
  stores_proof (Answered (NoCnf line)) comes is wrote files = absurd (let z : status.NoCorrection ≡ status.Refused = is in cc)
  stores_proof (Answered (Satisfiable values)) comes is wrote files = absurd (let z : status.NoCorrection ≡ status.Correct = is in cc)
  stores_proof (Answered (Unsatisfiable steps)) comes is wrote files =
      let text = text_held (Unsatisfiable steps) comes in
      record { cnf = text.cnf; held = text.held; steps = steps; refuted = text.decided; stored = files; wrote = wrote }
  stores_proof (Answered (OutOfBudget steps)) comes is wrote files = absurd (let z : status.NoCorrection ≡ status.Spent = is in cc)
  stores_proof (Refused r) comes is wrote files = absurd (let z : status.NoCorrection ≡ status.Refused = is in cc)

  stores_steps : (o : Outcome SatAnswer) → ComesOfFiles (sat_command w) before.shelf after.shelf o → status.Spent ≡ status_of (sat_command w) o
      → Wrote before.sink after.sink (text_of (sat_command w) o) → FilesAfter (Some w.log) (kept_of (sat_command w) o) before.shelf after.shelf
      → StoresSteps w before after
  stores_steps (Answered (NoCnf line)) comes is wrote files = absurd (let z : status.Spent ≡ status.Refused = is in cc)
  stores_steps (Answered (Satisfiable values)) comes is wrote files = absurd (let z : status.Spent ≡ status.Correct = is in cc)
  stores_steps (Answered (Unsatisfiable steps)) comes is wrote files = absurd (let z : status.Spent ≡ status.NoCorrection = is in cc)
  stores_steps (Answered (OutOfBudget steps)) comes is wrote files =
      let text = text_held (OutOfBudget steps) comes in
      record { cnf = text.cnf; held = text.held; steps = steps; spent = text.decided; stored = files; wrote = wrote }
  stores_steps (Refused r) comes is wrote files = absurd (let z : status.Spent ≡ status.Refused = is in cc)

  pub satisfiable : (s : Status) → Ends (sat_command w) before after s → s ≡ status.Correct → PrintsModel w before after
  satisfiable s ends is =
      let e : EndsBySaying (sat_command w) before after status.Correct = rw is at ends in
      prints e.outcome e.comes e.says.0 e.says.2 e.files

  pub unsatisfiable : (s : Status) → Ends (sat_command w) before after s → s ≡ status.NoCorrection → StoresProof w before after
  unsatisfiable s ends is =
      let e : EndsBySaying (sat_command w) before after status.NoCorrection = rw is at ends in
      stores_proof e.outcome e.comes e.says.0 e.says.2 e.files

  pub spent : (s : Status) → Ends (sat_command w) before after s → s ≡ status.Spent → StoresSteps w before after
  spent s ends is =
      let e : EndsBySaying (sat_command w) before after status.Spent = rw is at ends in
      stores_steps e.outcome e.comes e.says.0 e.says.2 e.files

solved_as : (budget : ℕ) (cnf : List ℕ) (a : SatAnswer) → IsSolvedAs budget cnf a → IsSolved budget cnf (sat_status a)
solved_as budget cnf (NoCnf line) h = h.none
solved_as budget cnf (Satisfiable values) h = (values, h)
solved_as budget cnf (Unsatisfiable steps) h = h.none
solved_as budget cnf (OutOfBudget steps) h = (steps, h)

pub solved : (w : SatWords) (cnf : List ℕ) (before after : Devices) (s : Status) → Ends (sat_command w) before after s → AreTold before (sat_files w) (cnf ∷ []) → NoFault before after
    → IsSolved w.budget cnf s
solved w cnf before after s ends told sure =
    command.answered (sat_command w) (cnf ∷ []) before after s (IsSolved w.budget cnf) tt (λ a decided wrote. solved_as w.budget cnf a decided) (λ r h. h) ends told sure

pub refused : (w : SatWords) (ts : List (List ℕ)) (r : Refusal) (before after : Devices) (s : Status) → Ends (sat_command w) before after s
    → Tells before.shelf (sat_files w) ts → IsFirstRefusal (sat_command w) ts r → NoFault before after → IsSaid ((sat_command w).line r) status.Refused before.sink after.sink s
refused w ts r before after s ends tells first sure =
    command.refused (sat_command w) ts before after s r (λ a decided h. h) (λ q p h g. absurd h) ends tells first sure
