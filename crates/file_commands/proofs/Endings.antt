-- From what was found of a command, and kept and written of it, to how the command ends.
use Rattle.std.proofs.Common.{◌≡◌, ◌<◌, sym, ap, subst, refl, ◌∙◌, inl, inr, Result, Ok, Err, IfOk, IfErr, OnOk, List, [], ◌∷◌, ℕ, length, None, Some, is_some}
use Rattle.std.specs.Prelude.{Option}
use Rattle.std.specs.Option.{option_map}
use Rattle.grade_io.specs.Devices.{Devices, ShelfState, SinkState, StoreEnd, devices}
use Rattle.grade_io.specs.Kept.{FilesLeft, OthersKept, Stored}
use Rattle.grade_io.specs.Says.{IsOfText, Says}
use Rattle.grade_io.specs.declared.devices.StoreError.TheVariants as store_error
use Rattle.grade_io.specs.declared.status.Status.{Status}
use Rattle.grade_io.specs.declared.status.Status.TheVariants as status
use Rattle.source_files.specs.Fetches.{FetchedAll, FetchesInOrder, OnRefused, ReadFaults}
use Rattle.source_files.specs.Files.{SourceFile, sources_of}
use Rattle.source_files.specs.Texts.{AllFit, AreHeld}
use Rattle.source_files.specs.declared.stop.Stop.{Stop}
use Rattle.source_files.specs.declared.stop.Stop.TheVariants as stop
use Rattle.file_commands.specs.Commands.{FileCommand, Outcome, Answered, Refused, kept_of, status_of, text_of}
use Rattle.file_commands.specs.Ends.{ComesOfFiles, Ends, EndsBySaying, IsSilent, ShelfStoodStill}
use Rattle.file_commands.specs.Keeping.{FilesAfter, KeepsNothing, Keeps, OthersLeft}
use Rattle.file_commands.specs.Reports.{IsFound, IsKeptAndWritten, IsSaidBehind, IsStopWritten, IsWritten, ReportsFiles, Shows}
use Rattle.file_commands.specs.declared.report.Report.{Report}

-- STATUSES OF ANSWERS

-- a status that says something else than that a device failed or memory lacked
abbrev pub IsOwn : Status → Type 0
IsOwn status.ReadFailed = ⊥
IsOwn status.StoreFailed = ⊥
IsOwn status.WriteFailed = ⊥
IsOwn status.NoMemory = ⊥
IsOwn status.Correct = Unit {0}
IsOwn status.Corrected = Unit {0}
IsOwn status.NoCorrection = Unit {0}
IsOwn status.Spent = Unit {0}
IsOwn status.Refused = Unit {0}
IsOwn status.Usage = Unit {0}
IsOwn status.Rejected = Unit {0}

own_text : (s : Status) → IsOwn s → IsOfText s
own_text status.ReadFailed own = absurd own
own_text status.StoreFailed own = absurd own
own_text status.WriteFailed own = own
own_text status.NoMemory own = own
own_text status.Correct own = tt
own_text status.Corrected own = tt
own_text status.NoCorrection own = tt
own_text status.Spent own = tt
own_text status.Refused own = tt
own_text status.Usage own = tt
own_text status.Rejected own = tt

own_outcome : {A : Type 0} (c : FileCommand A) → ((a : A) → IsOwn (c.status a)) → (o : Outcome A) → IsOwn (status_of c o)
own_outcome c own (Answered a) = own a
own_outcome c own (Refused r) = tt

pub report_of_text : {A : Type 0} (c : FileCommand A) (ts : List (List ℕ)) (found : Result Report Stop) → ((a : A) → IsOwn (c.status a)) → IsFound c ts found → IfOk found (λ r. IsOfText r.status)
report_of_text c ts (Ok r) own is = own_text r.status (subst IsOwn (sym is.shows.status) (own is.answer))
report_of_text c ts (Err s) own is = tt

pub files_of_text : {A : Type 0} (c : FileCommand A) (before after : ShelfState) (found : Result Report Stop) → ((a : A) → IsOwn (c.status a)) → IfOk found (ReportsFiles c before after) → IfOk found (λ r. IsOfText r.status)
files_of_text c before after (Ok r) own is = own_text r.status (subst IsOwn (sym is.shows.status) (own is.answer))
files_of_text c before after (Err s) own is = tt

-- WHAT IS FOUND OF THE FETCHED TEXTS COMES OF THE FILES

pub found_files : {A : Type 0} (c : FileCommand A) (before after : ShelfState) (ts : List (List ℕ)) (found : Result Report Stop) → AllFit (sources_of c.files) ts → AreHeld before c.files ts
    → IsFound c ts found → IfOk found (ReportsFiles c before after)
found_files c before after ts (Ok r) fit held is = record {
  answer = is.answer;
  comes = record { texts = ts; held = held; comes = (fit, is.decided) };
  shows = is.shows;
}
found_files c before after ts (Err s) fit held is = tt

-- WHAT STANDS IN THE FILES

left_at : (before read : ShelfState) → FilesLeft before read → (name : List ℕ) → read.holds name ≡ before.holds name
left_at before read left name = ap (λ (h : List ℕ → Option (List ℕ)). h name) left.bytes

others_behind : (name : List ℕ) (before read after : ShelfState) → FilesLeft before read → OthersKept name read after → OthersKept name before after
others_behind name before read after left others = record {
  bytes = λ other differ. others.bytes other differ ∙ left_at before read left other;
  files = λ other differ. others.files other differ ∙ ap (λ h. h other) left.files;
}

stored_behind : (name bytes : List ℕ) (before read after : ShelfState) → FilesLeft before read → Stored name bytes read after → Stored name bytes before after
stored_behind name bytes before read after left stored = record {
  stored = subst (λ o. after.holds name ≡ option_map (λ _. bytes) o) (left_at before read left name) stored.stored;
  others = others_behind name before read after left stored.others;
}

left_files : (place kept : Option (List ℕ)) (before after : ShelfState) → kept ≡ None → FilesLeft before after → FilesAfter place kept before after
left_files None kept before after none left = left
left_files (Some name) None before after none left = left
left_files (Some name) (Some bytes) before after none left = cc

no_place : (place kept : Option (List ℕ)) (before after : ShelfState) → place ≡ None → FilesLeft before after → FilesAfter place kept before after
no_place None kept before after none left = left
no_place (Some name) kept before after none left = cc

others_left : (place : Option (List ℕ)) (before after : ShelfState) → FilesLeft before after → OthersLeft place before after
others_left None before after left = left
others_left (Some name) before after left = record { bytes = λ other differ. left_at before after left other; files = λ other differ. ap (λ h. h other) left.files }

same_files : (before after : ShelfState) → after ≡ before → FilesLeft before after
same_files before after same = record { bytes = ap (λ (s : ShelfState). s.holds) same; files = ap (λ (s : ShelfState). s.absent) same }

-- HOW THE CALL ENDS

silent : (before after : SinkState) → after ≡ before → IsSilent before after
silent before after same = record { written = ap (λ (x : SinkState). x.written) same; still = ap (λ (x : SinkState). x.faults) same }

-- an equal text is said, and an equal status
said_so : (text other : List ℕ) (s t : Status) (before after : SinkState) (r : Status) → text ≡ other → s ≡ t → Says text s before after r → Says other t before after r
said_so text other s t before after r same also says = subst (λ (x : List ℕ). Says x t before after r) same (subst (λ (x : Status). Says text x before after r) also says)

-- an answer comes of the files whatever the shelf took later
answer_comes : {A : Type 0} (c : FileCommand A) (before read after : ShelfState) (a : A) → ComesOfFiles c before read (Answered a) → ComesOfFiles c before after (Answered a)
answer_comes c before read after a comes = record { texts = comes.texts; held = comes.held; comes = comes.comes }

-- all files were fetched, and no call failed
pub record IsRead {A : Type 0} (c : FileCommand A) (before read : ShelfState) : Type 0 where
  pub fetched : FetchedAll c.files before read
  pub well : ShelfStoodStill before read
  pub left : FilesLeft before read

module _ {A : Type 0} (c : FileCommand A) (own : (a : A) → IsOwn (c.status a)) (before after : Devices) where
  saying : (o : Outcome A) (s : Status) → ShelfStoodStill before.shelf after.shelf → ComesOfFiles c before.shelf after.shelf o
      → Says (text_of c o) (status_of c o) before.sink after.sink s → FilesAfter c.place (kept_of c o) before.shelf after.shelf → EndsBySaying c before after s
  saying o s still comes says files = record { still = still; outcome = o; comes = comes; says = says; files = files }

  pub said : (o : Outcome A) (s : Status) → ShelfStoodStill before.shelf after.shelf → ComesOfFiles c before.shelf after.shelf o
      → Says (text_of c o) (status_of c o) before.sink after.sink s → FilesAfter c.place (kept_of c o) before.shelf after.shelf → Ends c before after s
  said o status.ReadFailed still comes says files = absurd (subst IsOwn (sym says.0) (own_outcome c own o))
  said o status.StoreFailed still comes says files = absurd (subst IsOwn (sym says.0) (own_outcome c own o))
  said o status.NoMemory still comes says files = inr (saying o status.NoMemory still comes says files)
  said o status.WriteFailed still comes says files = saying o status.WriteFailed still comes says files
  said o status.Correct still comes says files = saying o status.Correct still comes says files
  said o status.Corrected still comes says files = saying o status.Corrected still comes says files
  said o status.NoCorrection still comes says files = saying o status.NoCorrection still comes says files
  said o status.Spent still comes says files = saying o status.Spent still comes says files
  said o status.Refused still comes says files = saying o status.Refused still comes says files
  said o status.Usage still comes says files = saying o status.Usage still comes says files
  said o status.Rejected still comes says files = saying o status.Rejected still comes says files

  reported : (a : A) (r : Report) (s : Status) → ShelfStoodStill before.shelf after.shelf → ComesOfFiles c before.shelf after.shelf (Answered a) → Shows c a r
      → Says r.text.items r.status before.sink after.sink s → FilesAfter c.place (c.kept a) before.shelf after.shelf → Ends c before after s
  reported a r s still comes shows says files =
      said (Answered a) s still comes (said_so r.text.items (c.text a) r.status (c.status a) before.sink after.sink s shows.text shows.status says) files

  -- what stops a command before anything is stored
  stopped : (e : Stop) (s : Status) → 0 < length c.files → OnRefused (λ r. ComesOfFiles c before.shelf after.shelf (Refused r)) e
      → FilesLeft before.shelf after.shelf → ReadFaults {T = Report} (Err e) before.shelf after.shelf → FetchesInOrder c.files before.shelf after.shelf
      → IsStopWritten c.line e before.sink after.sink s → Ends c before after s
  stopped (stop.Refused q) s some refused left still calls says = said (Refused q) s still refused says (left_files c.place None before.shelf after.shelf refl left)
  stopped stop.Failed s some refused left rose calls says =
      subst (Ends c before after) (sym says.0)
      (record { some = some; rose = rose; calls = calls; files = left; silent = silent before.sink after.sink says.1 })
  stopped stop.NoMemory s some refused left still calls says =
      subst (Ends c before after) (sym says.0)
      (inl (record { still = still; silent = silent before.sink after.sink says.1; files = others_left c.place before.shelf after.shelf left }))

  -- a report that is kept, and then written
  module _ (read : ShelfState) (a : A) (r : Report) (is : IsRead c before.shelf read) (comes : ComesOfFiles c before.shelf read (Answered a)) (shows : Shows c a r) where
    come : ComesOfFiles c before.shelf after.shelf (Answered a)
    come = answer_comes c before.shelf read after.shelf a comes

    -- nothing is stored
    no_store : (e : StoreEnd) (s : Status) → KeepsNothing e read after.shelf → FilesAfter c.place (c.kept a) before.shelf after.shelf
        → IsSaidBehind e r before.sink after.sink s → Ends c before after s
    no_store (Ok x) s nothing files says = reported a r s (ap (λ (s : ShelfState). s.faults) nothing.same ∙ is.well) come shows says files
    no_store (Err x) s nothing files says = let no = nothing.end_is in cc

    left_now : after.shelf ≡ read → FilesLeft before.shelf after.shelf
    left_now same = subst (FilesLeft before.shelf) (sym same) is.left

    kept_said : (place kept : Option (List ℕ)) (e : StoreEnd) (s : Status) → c.place ≡ place → c.kept a ≡ kept → Keeps place kept e read after.shelf
        → IsSaidBehind e r before.sink after.sink s → Ends c before after s
    kept_said None kept e s at bytes keeps says = no_store e s keeps (no_place c.place (c.kept a) before.shelf after.shelf at (left_now keeps.same)) says
    kept_said (Some name) None e s at bytes keeps says = no_store e s keeps (left_files c.place (c.kept a) before.shelf after.shelf bytes (left_now keeps.same)) says
    kept_said (Some name) (Some bytes) (Ok x) s at kept keeps says =
        reported a r s (keeps.still ∙ is.well) come shows says
        (subst (λ p. FilesAfter p (c.kept a) before.shelf after.shelf) (sym at)
        (subst (λ k. FilesAfter (Some name) k before.shelf after.shelf) (sym kept)
        (stored_behind name bytes before.shelf read after.shelf is.left keeps.stored)))
    kept_said (Some name) (Some bytes) (Err store_error.Failed) s at kept keeps says =
        subst (Ends c before after) (sym says.0)
        (record {
          name = name;
          place = at;
          answer = a;
          comes = come;
          kept = ap is_some kept;
          read = read;
          fetched = is.fetched;
          well = is.well;
          stored = keeps.call;
          rose = keeps.rose;
          others = others_behind name before.shelf read after.shelf is.left keeps.others;
          silent = silent before.sink after.sink says.1;
        })
    kept_said (Some name) (Some bytes) (Err store_error.NoMemory) s at kept keeps says =
        subst (Ends c before after) (sym says.0)
        (inl (record {
          still = keeps.still ∙ is.well;
          silent = silent before.sink after.sink says.1;
          files =
              subst (λ p. OthersLeft p before.shelf after.shelf) (sym at)
              (others_behind name before.shelf read after.shelf is.left keeps.others);
        }))

  -- A command that fetched its files. What was found comes of them as they stood behind the fetches.
  pub ends_fetched : (read : ShelfState) (found : Result Report Stop) (s : Status) → 0 < length c.files
      → IfOk found (ReportsFiles c before.shelf read) → IfErr found (OnRefused (λ r. ComesOfFiles c before.shelf read (Refused r)))
      → FilesLeft before.shelf read → ReadFaults found before.shelf read → FetchesInOrder c.files before.shelf read → OnOk found (FetchedAll c.files before.shelf read)
      → IsKeptAndWritten c.place c.line found (devices read before.sink) after s → Ends c before after s
  ends_fetched read (Ok r) s some reports refused left well calls all ends =
      kept_said read reports.answer r (record { fetched = all; well = well; left = left }) reports.comes reports.shows
      c.place (c.kept reports.answer) ends.store s refl refl (subst (λ k. Keeps c.place k ends.store read after.shelf) reports.shows.kept ends.keeps) ends.says
  ends_fetched read (Err e) s some reports refused left faults calls all ends =
      let now : read ≡ after.shelf = sym ends.shelf in
      stopped e s some (subst (λ x. OnRefused (λ r. ComesOfFiles c before.shelf x (Refused r)) e) now refused)
      (subst (FilesLeft before.shelf) now left) (subst (ReadFaults {T = Report} (Err e) before.shelf) now faults)
      (subst (FetchesInOrder c.files before.shelf) now calls) ends.writes

-- COMMANDS THAT TOUCH NO FILE

-- no texts fit no files
none_fit : (shelf : ShelfState) (fs : List SourceFile) → AreHeld shelf fs [] → AllFit (sources_of fs) []
none_fit shelf [] held = tt
none_fit shelf (f ∷ fs) held = absurd held

module _ {A : Type 0} (c : FileCommand A) (own : (a : A) → IsOwn (c.status a)) (shelf : ShelfState) (held : AreHeld shelf c.files []) (before after : SinkState) where
  abbrev first : Devices
  first = devices shelf before

  abbrev last : Devices
  last = devices shelf after

  fit : AllFit (sources_of c.files) []
  fit = none_fit shelf c.files held

  pub ends_at_once : (found : Result Report Stop) (s : Status) → c.place ≡ None → IsFound c [] found → IsWritten c.line found before after s
      → Ends c first last s
  ends_at_once (Ok r) s none is says =
      reported c own first last is.answer r s refl (record { texts = []; held = held; comes = (fit, is.decided) }) is.shows says
      (no_place c.place (c.kept is.answer) shelf shelf none (same_files shelf shelf refl))
  ends_at_once (Err (stop.Refused q)) s none is says =
      said c own first last (Refused q) s refl (record { texts = []; held = held; comes = inr (fit, is) }) says (left_files c.place None shelf shelf refl (same_files shelf shelf refl))
  ends_at_once (Err stop.Failed) s none is says = absurd is
  ends_at_once (Err stop.NoMemory) s none is says =
      subst (Ends c first last) (sym says.0)
      (inl (record { still = refl; silent = silent before after says.1; files = others_left c.place shelf shelf (same_files shelf shelf refl) }))
