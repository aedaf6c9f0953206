-- What is found behind the texts of the four files.
use Rattle.std.specs.Prelude.{◌≡◌, ◌⊎◌, ℕ, List, Ok, Err, map}
use Rattle.grade_io.specs.Devices.{ShelfState}
use Rattle.class_text.specs.Entries.{Entry}
use Rattle.class_text.specs.EntryViews.{entry_of}
use Rattle.class_text.specs.Listings.{Lists, StopsAt}
use Rattle.class_run.specs.declared.stop.ClassStop.TheVariants as class
use Rattle.class_run.specs.Classes.{Class, Shared, texts_with}
use Rattle.class_run.specs.Listed.{AreEntries, FetchesFirst}
use Rattle.class_run.specs.Stops.{Found}

-- the list names files, and these are their entries
pub record HasEntries (c : Class) (ts : List (List ℕ)) (xs : List Entry)
    (before after : ShelfState) : Type 0 where
  pub shared : Shared
  pub list : List ℕ
  pub texts_are : ts ≡ texts_with shared list
  pub names : List (List ℕ)
  pub listed : Lists list names
  pub told : AreEntries c shared before names xs before after

-- the list isn't of its form from this line on, and nothing was fetched
pub record HasNoList (ts : List (List ℕ)) (line : ℕ) (before after : ShelfState) : Type 0 where
  pub shared : Shared
  pub list : List ℕ
  pub texts_are : ts ≡ texts_with shared list
  pub stops : StopsAt list line
  pub same : after ≡ before

-- what is found of the texts
abbrev pub IsListed : Class → List (List ℕ) → Found → ShelfState → ShelfState → Type 0
IsListed c ts (Ok v) before after = HasEntries c ts (map entry_of v.items) before after
IsListed c ts (Err (class.NoList line)) before after = HasNoList ts line before after
IsListed c ts (Err (class.LongFile r)) before after = ⊥
IsListed c ts (Err class.Failed) before after = ⊥
IsListed c ts (Err class.NoMemory) before after = Unit {0}

-- the first of the fetches of listed files
pub record FetchesListed (ts : List (List ℕ)) (before after : ShelfState) : Type 0 where
  pub shared : Shared
  pub list : List ℕ
  pub texts_are : ts ≡ texts_with shared list
  pub names : List (List ℕ)
  pub listed : Lists list names
  pub fetched : FetchesFirst names before after

-- the calls behind the four fetches
abbrev pub CallsBehind : List (List ℕ) → ShelfState → ShelfState → Type 0
CallsBehind ts before after = (after ≡ before) ⊎ FetchesListed ts before after
