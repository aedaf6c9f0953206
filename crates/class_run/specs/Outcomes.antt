-- What comes of a class, and what is written of it.
use Rattle.std.specs.Prelude.{◌≡◌, ◌⊎◌, ℕ, ◌+◌, ◌-◌, ◌^◌, ◌≤◌, List, codes}
use Rattle.grade_io.specs.Devices.{ShelfState}
use Rattle.grade_io.specs.Words.{refusal_line}
use Rattle.grade_io.specs.declared.status.Status.TheVariants as grading
use Rattle.mpy_tree.specs.declared.refusal.Refusal.{Refusal}
use Rattle.mpy_tree.specs.Refusals.{refusal_text}
use Rattle.source_files.specs.Fetches.{FetchedAll, IsLongSource}
use Rattle.source_files.specs.Files.{sources_of}
use Rattle.source_files.specs.Texts.{AllFit, AreHeld}
use Rattle.class_text.specs.Entries.{Entry, count_of}
use Rattle.class_text.specs.Listings.{Lists, StopsAt}
use Rattle.class_text.specs.Reports.{class_text}
use Rattle.class_run.specs.declared.status.ClassStatus.{ClassStatus}
use Rattle.class_run.specs.declared.status.ClassStatus.TheVariants as status
use Rattle.class_run.specs.Classes.{Class, ClassFiles, Shared, files_of, texts_with, word_of}
use Rattle.class_run.specs.Listed.{AreEntries}

-- the entries of a class; or that one of its four files is too long, or that its list isn't of its
-- form from a line on
pub data Outcome : Type 0 where
  Graded : (entries : List Entry) → Outcome
  LongFile : (r : Refusal) → Outcome
  NoList : (line : ℕ) → Outcome

-- what is written of an outcome
abbrev pub text_of : ClassFiles → Outcome → List ℕ
text_of f (Graded entries) = class_text entries
text_of f (LongFile r) = refusal_text (word_of f r.source) r
text_of f (NoList line) = refusal_line f.list line (codes "Listing")

-- the status of an outcome that is written whole
abbrev pub status_of : Outcome → ClassStatus
status_of (Graded entries) = status.Done
status_of (LongFile r) = status.Refused
status_of (NoList line) = status.Refused

-- The four files were fetched, without a fault. Each text is that of its file where that is told.
pub record AreRead (f : ClassFiles) (t : Shared) (list : List ℕ) (before read : ShelfState)
    : Type 0 where
  pub held : AreHeld before (files_of f) (texts_with t list)
  pub fit : AllFit (sources_of (files_of f)) (texts_with t list)
  pub fetched : FetchedAll (files_of f) before read
  pub still : read.faults ≡ before.faults

-- the count rose by at least so many, or stands at the last value of a u64
abbrev pub RoseBy : ℕ → ℕ → ℕ → Type 0
RoseBy n before now = (before + n ≤ now) ⊎ (2 ^ 64 - 1 ≤ now)

-- Behind the four files each listed file was fetched, and has its entry. Each that wasn't read was
-- counted as a fault.
pub record IsGraded (c : Class) (before after : ShelfState) (entries : List Entry)
    : Type 0 where
  pub shared : Shared
  pub list : List ℕ
  pub names : List (List ℕ)
  pub read : ShelfState
  pub files : AreRead c.files shared list before read
  pub listed : Lists list names
  pub told : AreEntries c shared before names entries read after
  pub unread : RoseBy (count_of grading.ReadFailed entries) before.faults after.faults

-- one of the four files is too long
pub record IsLong (f : ClassFiles) (before after : ShelfState) (r : Refusal) : Type 0 where
  pub long : IsLongSource (files_of f) before after r
  pub still : after.faults ≡ before.faults

-- the four files were read, and the list isn't of its form from this line on
pub record IsNoList (f : ClassFiles) (before after : ShelfState) (line : ℕ) : Type 0 where
  pub shared : Shared
  pub list : List ℕ
  pub files : AreRead f shared list before after
  pub stops : StopsAt list line

-- what comes of the files of a class
abbrev pub Comes : Class → ShelfState → ShelfState → Outcome → Type 0
Comes c before after (Graded entries) = IsGraded c before after entries
Comes c before after (LongFile r) = IsLong c.files before after r
Comes c before after (NoList line) = IsNoList c.files before after line
