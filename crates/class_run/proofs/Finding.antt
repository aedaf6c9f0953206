-- What is found of a class comes of its files.
use Rattle.std.proofs.Common.{◌≡◌, ℕ, List, length, map, take, Ok, Err, IsErrAnd, ap, sym, subst, ◌∙◌, inl, inr}
use lib.Seq.{take-length}
use Rattle.grade_io.specs.Devices.{ShelfState, Fetch, Rose, added}
use Rattle.grade_io.specs.Kept.{FilesLeft}
use Rattle.grade_io.specs.declared.status.Status.TheVariants as grading
use Rattle.grade_io.proofs.Added.{added-added}
use Rattle.source_files.specs.Fetches.{FetchedAll, FetchesInOrder, IsLongSource, OnRefused, ReadFaults}
use Rattle.source_files.specs.Files.{fetches, sources_of}
use Rattle.source_files.specs.Texts.{AllFit, AreHeld}
use Rattle.source_files.specs.declared.stop.Stop.{Stop}
use Rattle.source_files.specs.declared.stop.Stop.TheVariants as stop
use Rattle.class_text.specs.Entries.{count_of}
use Rattle.class_text.specs.EntryViews.{entry_of}
use Rattle.class_run.specs.declared.stop.ClassStop.TheVariants as class
use Rattle.class_run.specs.Classes.{Class, ClassFiles, Shared, files_of, texts_with}
use Rattle.class_run.specs.Ends.{CallsInOrder, ReadsWell}
use Rattle.class_run.specs.Found.{CallsBehind, FetchesListed, IsListed}
use Rattle.class_run.specs.Listed.{FaultsIn}
use Rattle.class_run.specs.Outcomes.{AreRead, RoseBy}
use Rattle.class_run.specs.Stops.{Found, IsFound, stop_of}
use Rattle.class_run.proofs.Counting.{rose_by}
use Rattle.class_run.proofs.Entering.{entries_first}

-- the four texts, by their parts
are_read : (f : ClassFiles) (ts : List (List ℕ)) (t : Shared) (list : List ℕ) (before read : ShelfState) → ts ≡ texts_with t list → AreHeld before (files_of f) ts
    → AllFit (sources_of (files_of f)) ts → FetchedAll (files_of f) before read → read.faults ≡ before.faults → AreRead f t list before read
are_read f ts t list before read is held fit fetched still = record {
  held = subst (AreHeld before (files_of f)) is held;
  fit = subst (AllFit (sources_of (files_of f))) is fit;
  fetched = fetched;
  still = still;
}

rose_since : (n first before now : ℕ) → before ≡ first → RoseBy n before now → RoseBy n first now
rose_since n first before now same rose = subst (λ k. RoseBy n k now) same rose

-- behind the four files, which were read, a fault was counted in a fetch of a listed one alone
behind_listed : (f : ClassFiles) (ts : List (List ℕ)) (before read after : ShelfState) → AreHeld before (files_of f) ts → AllFit (sources_of (files_of f)) ts → FetchedAll (files_of f) before read
    → read.faults ≡ before.faults → (listed : FetchesListed ts read after) → (faults : FaultsIn listed.fetched.count read after) → ReadsWell f before after
behind_listed f ts before read after held fit fetched still listed (inl same) = inl (same ∙ still)
behind_listed f ts before read after held fit fetched still listed (inr rose) = inr (record {
  shared = listed.shared;
  list = listed.list;
  names = listed.names;
  read = read;
  files = are_read f ts listed.shared listed.list before read listed.texts_are held fit fetched still;
  listed = listed.listed;
  fetched = listed.fetched;
  rose = subst (λ n. Rose n after.faults) still rose.1;
})

reads_well : (f : ClassFiles) (ts : List (List ℕ)) (before read after : ShelfState) → AreHeld before (files_of f) ts → AllFit (sources_of (files_of f)) ts → FetchedAll (files_of f) before read
    → read.faults ≡ before.faults → CallsBehind ts read after → ReadsWell f before after
reads_well f ts before read after held fit fetched still (inl same) = inl (ap (λ (s : ShelfState). s.faults) same ∙ still)
reads_well f ts before read after held fit fetched still (inr listed) = behind_listed f ts before read after held fit fetched still listed listed.fetched.faults

pub found_so : (c : Class) (ts : List (List ℕ)) (found : Found) (before read after : ShelfState) → AreHeld before (files_of c.files) ts → AllFit (sources_of (files_of c.files)) ts
    → FetchedAll (files_of c.files) before read → read.faults ≡ before.faults → FilesLeft before read → IsListed c ts found read after → CallsBehind ts read after → IsFound c found before after
found_so c ts (Ok v) before read after held fit fetched still left is calls = record {
  shared = is.shared;
  list = is.list;
  names = is.names;
  read = read;
  files = are_read c.files ts is.shared is.list before read is.texts_are held fit fetched still;
  listed = is.listed;
  told = entries_first c is.shared before read is.names (map entry_of v.items) read after left is.told;
  unread = rose_since (count_of grading.ReadFailed (map entry_of v.items)) before.faults read.faults after.faults still (rose_by c is.shared read is.names (map entry_of v.items) read after is.told);
}
found_so c ts (Err (class.NoList line)) before read after held fit fetched still left is calls = record {
  shared = is.shared;
  list = is.list;
  files =
      subst (AreRead c.files is.shared is.list before) (sym is.same)
      (are_read c.files ts is.shared is.list before read is.texts_are held fit fetched still);
  stops = is.stops;
}
found_so c ts (Err (class.LongFile r)) before read after held fit fetched still left is calls = absurd is
found_so c ts (Err class.Failed) before read after held fit fetched still left is calls = absurd is
found_so c ts (Err class.NoMemory) before read after held fit fetched still left is calls = reads_well c.files ts before read after held fit fetched still calls

module _ (c : Class) (before after : ShelfState) where
  stop_found : (e : Stop) → OnRefused (IsLongSource (files_of c.files) before after) e → ReadFaults {T = Unit {0}} (Err e) before after → FetchesInOrder (files_of c.files) before after
      → IsFound c (Err (stop_of e)) before after
  stop_found (stop.Refused r) long still calls = record { long = long; still = still }
  stop_found stop.Failed long rose calls = record { rose = rose; calls = calls }
  stop_found stop.NoMemory long still calls = inl still

  pub stopped_so : (e : Stop) (found : Found) → IsErrAnd found (λ x. x ≡ stop_of e) → OnRefused (IsLongSource (files_of c.files) before after) e
      → ReadFaults {T = Unit {0}} (Err e) before after → FetchesInOrder (files_of c.files) before after → IsFound c found before after
  stopped_so e (Ok v) is long faults calls = absurd is
  stopped_so e (Err x) is long faults calls = subst (λ y. IsFound c (Err y) before after) (sym is) (stop_found e long faults calls)

-- THE CALLS

pub calls_so : (f : ClassFiles) (ts : List (List ℕ)) (before read after : ShelfState) → AreHeld before (files_of f) ts → FetchedAll (files_of f) before read
    → CallsBehind ts read after → CallsInOrder f before after
calls_so f ts before read after held fetched calls = elim calls [
  | inl none ↦ inl (length (fetches (files_of f)), ap (λ (s : ShelfState). s.calls) none ∙ fetched ∙ ap (added before.calls) (sym (take-length (fetches (files_of f)))))
  | inr some ↦ inr (record {
    list = some.list;
    held = (subst (AreHeld before (files_of f)) some.texts_are held).1.1.1.0;
    names = some.names;
    listed = some.listed;
    count = some.fetched.count;
    made =
        some.fetched.made ∙ ap (λ o. added o (take some.fetched.count (map Fetch some.names))) fetched
        ∙ added-added before.calls (fetches (files_of f)) (take some.fetched.count (map Fetch some.names));
  })
]
