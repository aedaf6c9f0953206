-- What follows from how `pick` ends.
use Rattle.std.proofs.Common.{◌≡◌, ℕ, List, None}
use Rattle.grade_io.specs.Devices.{Devices}
use Rattle.grade_io.specs.Written.{Wrote}
use Rattle.grade_io.specs.declared.status.Status.{Status}
use Rattle.grade_io.specs.declared.status.Status.TheVariants as status
use Rattle.mpy_tree.specs.declared.refusal.Refusal.{Refusal}
use Rattle.source_files.specs.Texts.{Tells}
use Rattle.file_commands.specs.Claims.{AreTold, IsSaid, NoFault}
use Rattle.file_commands.specs.Commands.{Outcome, Answered, Refused, kept_of, status_of, text_of}
use Rattle.file_commands.specs.Ends.{ComesOfFiles, Ends, EndsBySaying, IsFirstRefusal}
use Rattle.file_commands.specs.Keeping.{FilesAfter}
use Rattle.file_commands.proofs.Claims as command
use Rattle.file_commands.proofs.Endings.{IsOwn}
use Rattle.pick_command.specs.Claims.{IsAnswered, TellsPick}
use Rattle.pick_command.specs.Commands.{pick_command, pick_files}
use Rattle.pick_command.specs.Decisions.{PickAnswer, Request, pick_step}
use Rattle.pick_command.specs.Words.{PickWords}
use Rattle.pick_command.proofs.OneOutcome.{one_pick}

pub own_status : (a : PickAnswer) → IsOwn status.Correct
own_status a = tt

-- an answer has no other status than its own
pub no_usage : (a : PickAnswer) → status.Usage ≡ status.Correct → ⊥
no_usage a e = cc

pub one_refuses : (ts : List (List ℕ)) (q r : Refusal) → (pick_step ts).refuses q → (pick_step ts).refuses r → q ≡ r
one_refuses ts q r a b = (one_pick ts).refuses q r a b

module _ (w : PickWords) (before after : Devices) where
  tells : (o : Outcome PickAnswer) → ComesOfFiles (pick_command w) before.shelf after.shelf o
      → status.Correct ≡ status_of (pick_command w) o
      → Wrote before.sink after.sink (text_of (pick_command w) o)
      → FilesAfter None (kept_of (pick_command w) o) before.shelf after.shelf
      → TellsPick w before after
  tells (Answered a) comes is wrote files = record {
    texts = comes.texts;
    held = comes.held;
    answer = a;
    picked = comes.comes.1;
    wrote = wrote;
    files = files;
  }
  tells (Refused r) comes is wrote files = absurd (let z : status.Correct ≡ status.Refused = is in cc)

  pub picked : (s : Status) → Ends (pick_command w) before after s → s ≡ status.Correct
      → TellsPick w before after
  picked s ends is =
      let e : EndsBySaying (pick_command w) before after status.Correct = rw is at ends in
      tells e.outcome e.comes e.says.0 e.says.2 e.files

  pub answered : (s : Status) (ts : List (List ℕ)) (k : Request) → Ends (pick_command w) before after s
      → AreTold before (pick_files w) ts → (pick_step ts).gives k → NoFault before after → IsAnswered s
  answered s ts k ends told given sure =
      command.answered (pick_command w) ts before after s IsAnswered tt (λ a decided wrote. tt)
      (λ r refuses. (one_pick ts).not_both k r given refuses) ends told sure

  pub refused : (s : Status) (ts : List (List ℕ)) (r : Refusal) → Ends (pick_command w) before after s
      → Tells before.shelf (pick_files w) ts → IsFirstRefusal (pick_command w) ts r
      → NoFault before after → IsSaid ((pick_command w).line r) status.Refused before.sink after.sink s
  refused s ts r ends tells first sure =
      command.refused (pick_command w) ts before after s r
      (λ a decided h. (one_pick ts).not_both decided.request r decided.read h)
      (λ q p h g. one_refuses ts q p h g) ends tells first sure
