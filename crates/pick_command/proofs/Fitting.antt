-- The texts of the files of the command fit.
use Rattle.std.proofs.Common.{◌≡◌, ◌==◌, Bool, true, false, if◌then◌else◌, ℕ, suc, ◌≤◌, List, [], ◌∷◌, Ok, Err, Result, IfErr, Vec, ap, arith, inr, length, refl}
use Rattle.std.specs.declared.alloc.Global.{Global}
use Rattle.std.specs.List.{All}
use Rattle.std.proofs.lemmas.List.{length-map}
use Rattle.std.proofs.lemmas.List.Elements.{All-cons, All-nil}
use Rattle.grade_io.specs.Devices.{ShelfState}
use Rattle.mpy_tree.specs.declared.refusal.Source.{Source}
use Rattle.mpy_tree.specs.declared.refusal.Source.TheVariants as source
use Rattle.source_files.specs.Fetches.{OnRefused}
use Rattle.source_files.specs.Files.{limit_of, sources_of}
use Rattle.source_files.specs.Texts.{AllFit, AreHeld}
use Rattle.source_files.specs.Views.{texts_of}
use Rattle.source_files.specs.declared.stop.Stop.{Stop}
use Rattle.source_files.specs.declared.stop.Stop.TheVariants as stop
use Rattle.file_commands.specs.Commands.{FileCommand, Refused}
use Rattle.file_commands.specs.Ends.{ComesOfFiles}
use Rattle.file_commands.specs.Reports.{IsFound}
use Rattle.file_commands.specs.declared.report.Report.{Report}
use Rattle.pick_command.specs.Commands.{pick_files, submission_files}
use Rattle.pick_command.specs.Decisions.{first_place}
use Rattle.pick_command.specs.Words.{PickWords}

either_small : (t : Bool) → (if t then 67108864 else 65536) ≤ 1073741824
either_small true = omega arith
either_small false = omega arith

limit_small : (s : Source) → limit_of s ≤ 1073741824
limit_small source.Bounds = omega arith
limit_small source.Reference = omega arith
limit_small source.Submission = omega arith
limit_small source.Rules = omega arith
limit_small source.Cert = omega arith
limit_small (source.Word n) = either_small (n == 1)

pub all_small : (ss : List Source) (ts : List (List ℕ)) → AllFit ss ts
    → All (λ t. length t ≤ 1073741824) ts
all_small [] [] fit = All-nil (λ t. length t ≤ 1073741824)
all_small [] (t ∷ ts) fit = absurd fit
all_small (s ∷ ss) [] fit = absurd fit
all_small (s ∷ ss) (t ∷ ts) fit =
    let small = limit_small s in
    let here = fit.0 in
    All-cons (λ u. length u ≤ 1073741824) t ts (omega (arith, small, here)) (all_small ss ts fit.1)

fit_many : (ss : List Source) (ts : List (List ℕ)) → AllFit ss ts → length ts ≡ length ss
fit_many [] [] fit = refl
fit_many [] (t ∷ ts) fit = absurd fit
fit_many (s ∷ ss) [] fit = absurd fit
fit_many (s ∷ ss) (t ∷ ts) fit = ap suc (fit_many ss ts fit.1)

files_many : (n : ℕ) (ws : List (List ℕ)) → length (sources_of (submission_files n ws)) ≡ length ws
files_many n [] = refl
files_many n (w ∷ ws) = ap suc (files_many (suc n) ws)

-- there is a text for the bounds, for the reference, and for each submission
pub texts_many : (w : PickWords) (xs : List (Vec ℕ Global))
    → AllFit (sources_of (pick_files w)) (texts_of xs)
    → length xs ≡ suc (suc (length w.submissions))
texts_many w xs fit =
    let all = fit_many (sources_of (pick_files w)) (texts_of xs) fit in
    let files = files_many first_place w.submissions in
    let texts = length-map xs (λ v. v.items) in
    omega (arith, all, files, texts)

-- what is refused of the fetched texts comes of the files
pub found_refused : {A : Type 0} (c : FileCommand A) (before after : ShelfState) (ts : List (List ℕ))
    (found : Result Report Stop) → AllFit (sources_of c.files) ts → AreHeld before c.files ts
    → IsFound c ts found → IfErr found (OnRefused (λ r. ComesOfFiles c before after (Refused r)))
found_refused c before after ts (Ok r) fit held is = tt
found_refused c before after ts (Err (stop.Refused r)) fit held is =
    record { texts = ts; held = held; comes = inr (fit, is) }
found_refused c before after ts (Err stop.Failed) fit held is = tt
found_refused c before after ts (Err stop.NoMemory) fit held is = tt
