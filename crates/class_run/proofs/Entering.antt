-- The entry of a listed file, and entries in turn.
use Rattle.std.proofs.Common.{◌≡◌, ◌≢◌, ◌⊎◌, ℕ, ◌<◌, ◌+◌, List, [], ◌∷◌, ◌++◌, length, map, take, get_or, Result, Ok, Err, IfOk, None, Some, append-nil, ap, refl, sym, subst, ◌∙◌, inl, inr, arith}
use Rattle.std.specs.Prelude.{Option}
use Rattle.std.specs.String.{string_bytes}
use Rattle.std.proofs.lemmas.List.{length-map, length-take-le, map-append, take-map, take_more}
use lib.Seq.{take-length}
use Rattle.grade_io.specs.Devices.{ShelfCall, ShelfState, Fetch, Rose, added}
use Rattle.grade_io.specs.Kept.{FilesLeft, Holds}
use Rattle.grade_io.proofs.CallList.{go_on}
use Rattle.grade_io.specs.declared.status.Status.TheVariants as status
use Rattle.mpy_tree.specs.declared.refusal.Source.TheVariants as source
use Rattle.source_files.specs.Files.{limit_of}
use Rattle.source_files.specs.Texts.{Fits, TookTooMuch}
use Rattle.source_files.proofs.Fetching.{earlier, left_both}
use Rattle.class_text.specs.Entries.{Entry}
use Rattle.class_text.specs.declared.entry.Entry as code
use Rattle.class_text.specs.EntryViews.{entry_of}
use Rattle.class_run.specs.Classes.{Class, Got, Unread, TooLong, Bytes, IsRefusedLong, IsUnread, Shared}
use Rattle.class_run.specs.Listed.{AreEntries, CountsIn, FaultsIn, FetchesFirst, Gave, IsEntry}
use Rattle.class_run.proofs.Counting.{faults_in, joined, unchanged}

-- ONE ENTRY

module _ {E : Type 0} (c : Class) (t : Shared) (name : List ℕ) (before after : ShelfState) (call : after.calls ≡ added before.calls (Fetch name ∷ [])) where
  pub entry_of_bytes : (text : List ℕ) (r : Result code.Entry E) → Fits source.Submission text → Holds before name text → after.faults ≡ before.faults
      → IfOk r (λ e. c.tells t name text (entry_of e)) → IfOk r (λ e. e.status ≢ status.ReadFailed) → IfOk r (λ e. string_bytes e.file ≡ name)
      → IfOk r (λ e. IsEntry c t before name (entry_of e) before after)
  entry_of_bytes text (Ok e) fits held still told read file = record {
    got = Bytes text;
    gave = record { fits = fits; held = held; still = still };
    call = call;
    file_is = file;
    tells = (read, told);
  }
  entry_of_bytes text (Err x) fits held still told read file = tt

  pub entry_of_none : (r : Result code.Entry E) → Rose before.faults after.faults
      → IfOk r (λ e. IsUnread (entry_of e)) → IfOk r (λ e. string_bytes e.file ≡ name) → IfOk r (λ e. IsEntry c t before name (entry_of e) before after)
  entry_of_none (Ok e) rose told file = record { got = Unread; gave = rose; call = call; file_is = file; tells = told }
  entry_of_none (Err x) rose told file = tt

  pub entry_of_long : (r : Result code.Entry E) → TookTooMuch source.Submission after → ((text : List ℕ) → before.holds name ≡ Some text → limit_of source.Submission < length text)
      → after.faults ≡ before.faults
      → IfOk r (λ e. IsRefusedLong name (entry_of e)) → IfOk r (λ e. string_bytes e.file ≡ name) → IfOk r (λ e. IsEntry c t before name (entry_of e) before after)
  entry_of_long (Ok e) taken longer still told file = record {
    got = TooLong;
    gave = record { taken = taken; told = longer; still = still };
    call = call;
    file_is = file;
    tells = told;
  }
  entry_of_long (Err x) taken longer still told file = tt

-- what files hold is what they held at first
gave_first : (first read before after : ShelfState) (name : List ℕ) (got : Got) → FilesLeft first read → Gave read name got before after → Gave first name got before after
gave_first first read before after name Unread left gave = gave
gave_first first read before after name TooLong left gave = record {
  taken = gave.taken;
  told = λ text e. gave.told text (ap (λ (h : List ℕ → Option (List ℕ)). h name) left.bytes ∙ e);
  still = gave.still;
}
gave_first first read before after name (Bytes text) left gave = record {
  fits = gave.fits;
  held = earlier name text first read left gave.held;
  still = gave.still;
}

pub entry_first : (c : Class) (t : Shared) (first read before after : ShelfState) (name : List ℕ) (x : Entry) → FilesLeft first read → IsEntry c t read name x before after
    → IsEntry c t first name x before after
entry_first c t first read before after name x left is = record {
  got = is.got;
  gave = gave_first first read before after name is.got left is.gave;
  call = is.call;
  file_is = is.file_is;
  tells = is.tells;
}

-- ENTRIES IN TURN

pub entries_more : (c : Class) (t : Shared) (first : ShelfState) (ns : List (List ℕ)) (xs : List Entry) (n : List ℕ) (x : Entry) (before now after : ShelfState)
    → AreEntries c t first ns xs before now → IsEntry c t first n x now after → AreEntries c t first (ns ++ n ∷ []) (xs ++ x ∷ []) before after
entries_more c t first [] [] n x before now after same is = (after, (subst (λ s. IsEntry c t first n x s after) same is, refl))
entries_more c t first [] (y ∷ ys) n x before now after so is = absurd so
entries_more c t first (m ∷ ms) [] n x before now after so is = absurd so
entries_more c t first (m ∷ ms) (y ∷ ys) n x before now after so is =
    (so.0, (so.1.0, entries_more c t first ms ys n x so.0 now after so.1.1 is))

-- entries behind other fetches are entries of what the files held at first
pub entries_first : (c : Class) (t : Shared) (first read : ShelfState) (ns : List (List ℕ)) (xs : List Entry) (before after : ShelfState) → FilesLeft first read
    → AreEntries c t read ns xs before after → AreEntries c t first ns xs before after
entries_first c t first read [] [] before after left same = same
entries_first c t first read [] (x ∷ xs) before after left so = absurd so
entries_first c t first read (n ∷ ns) [] before after left so = absurd so
entries_first c t first read (n ∷ ns) (x ∷ xs) before after left so =
    (so.0, (entry_first c t first read before so.0 n x left so.1.0, entries_first c t first read ns xs so.0 after left so.1.1))

nothing_added : {X : Type 0} (o : Option (List X)) → o ≡ added o []
nothing_added None = refl
nothing_added (Some xs) = ap Some (sym (append-nil xs))

-- the names so far have their entries, by a fetch each
pub record AreSoFar (c : Class) (t : Shared) (ns : List (List ℕ)) (xs : List Entry) (first now : ShelfState) : Type 0 where
  pub entries : AreEntries c t first ns xs first now
  pub calls : now.calls ≡ added first.calls (map Fetch ns)
  pub left : FilesLeft first now

pub none_so_far : (c : Class) (t : Shared) (first : ShelfState) → AreSoFar c t [] [] first first
none_so_far c t first = record {
  entries = refl;
  calls = nothing_added first.calls;
  left = record { bytes = refl; files = refl };
}

-- one entry more
pub one_more_entry : {S : Type 0} (bytes : S → List ℕ) (c : Class) (t : Shared) (names : List S) (i : ℕ) (d : S) (name : List ℕ) (xs ys : List Entry) (x : Entry) (first now after : ShelfState)
    → i < length names → bytes (get_or names i d) ≡ name → ys ≡ xs ++ x ∷ []
    → AreSoFar c t (map bytes (take i names)) xs first now → IsEntry c t now name x now after → FilesLeft now after
    → AreSoFar c t (map bytes (take (i + 1) names)) ys first after
one_more_entry bytes c t names i d name xs ys x first now after within is pushed so entry left =
    let front : map bytes (take (i + 1) names) ≡ map bytes (take i names) ++ name ∷ [] =
    ap (map bytes) (take_more names i d within) ∙ map-append bytes (take i names) (get_or names i d ∷ []) ∙ ap (λ n. map bytes (take i names) ++ n ∷ []) is in
    rw (front, pushed)
    (record {
      entries = entries_more c t first (map bytes (take i names)) xs name x first now after so.entries (entry_first c t first now now after name x so.left entry);
      calls =
          go_on first.calls now.calls after.calls (map Fetch (map bytes (take i names))) (Fetch name) so.calls entry.call
          ∙ ap (added first.calls) (sym (map-append Fetch (map bytes (take i names)) (name ∷ [])));
      left = left_both first now after so.left left;
    })

-- the calls so far are the first of all
pub calls_so_far : {S : Type 0} (bytes : S → List ℕ) (names : List S) (i : ℕ) (first now : Option (List ShelfCall)) → now ≡ added first (map Fetch (map bytes (take i names)))
    → now ≡ added first (take i (map Fetch (map bytes names)))
calls_so_far bytes names i first now made =
    made ∙ ap (added first) (ap (map Fetch) (sym (take-map bytes i names)) ∙ sym (take-map Fetch i (map bytes names)))

-- ALL FETCHES, OR THE FIRST

-- all names were fetched
all_fetched : (ns : List (List ℕ)) (first now : ShelfState) → now.calls ≡ added first.calls (map Fetch ns) → FaultsIn (length ns) first now → FetchesFirst ns first now
all_fetched ns first now made faults = record {
  count = length ns;
  within = omega arith;
  made = made ∙ ap (added first.calls) (sym (ap (λ k. take k (map Fetch ns)) (sym (length-map ns Fetch)) ∙ take-length (map Fetch ns)));
  faults = faults;
}

pub fetched_at_end : {S : Type 0} (bytes : S → List ℕ) (c : Class) (t : Shared) (names : List S) (i : ℕ) (xs : List Entry) (first now : ShelfState) → take i names ≡ names
    → AreSoFar c t (map bytes (take i names)) xs first now → FetchesFirst (map bytes names) first now
fetched_at_end bytes c t names i xs first now all so =
    let ns = map bytes (take i names) in
    subst (λ vs. FetchesFirst (map bytes vs) first now) all (all_fetched ns first now so.calls (faults_in c t first ns xs first now so.entries))

-- where an entry wasn't had, its file was fetched at most
module _ {S : Type 0} (bytes : S → List ℕ) (c : Class) (t : Shared) (names : List S) (i : ℕ) (d : S) (name : List ℕ) (xs : List Entry) (first now after : ShelfState) (within : i < length names)
    (is : bytes (get_or names i d) ≡ name) (so : AreSoFar c t (map bytes (take i names)) xs first now) where
  abbrev front : List (List ℕ)
  front = map bytes (take i names)

  one_more : map bytes (take (i + 1) names) ≡ front ++ name ∷ []
  one_more =
      ap (map bytes) (take_more names i d within) ∙ map-append bytes (take i names) (get_or names i d ∷ []) ∙ ap (λ n. front ++ n ∷ []) is

  fetched_one : after.calls ≡ added now.calls (Fetch name ∷ []) → FaultsIn 1 now after → FetchesFirst (map bytes names) first after
  fetched_one made faults = record {
    count = i + 1;
    within = omega (arith, within, length-map names bytes);
    made =
        calls_so_far bytes names (i + 1) first.calls after.calls
        (go_on first.calls now.calls after.calls (map Fetch front) (Fetch name) so.calls made
        ∙ ap (added first.calls) (sym (map-append Fetch front (name ∷ []))) ∙ ap (λ ns. added first.calls (map Fetch ns)) (sym one_more));
    faults = joined (i + 1) (length front) 1 first now after (omega arith) (faults_in c t first front xs first now so.entries) faults;
  }

  fetched_none : after.calls ≡ now.calls → after.faults ≡ now.faults → FetchesFirst (map bytes names) first after
  fetched_none made still =
      let long : length front ≡ i = length-map (take i names) bytes ∙ length-take-le i names (omega (arith, within)) in
      record {
        count = i;
        within = omega (arith, within, length-map names bytes);
        made = calls_so_far bytes names i first.calls after.calls (made ∙ so.calls);
        faults = unchanged (length front) i first now after long (faults_in c t first front xs first now so.entries) still;
      }

  pub fetched_at_stop : (after.calls ≡ added now.calls (Fetch name ∷ [])) ⊎ (after.calls ≡ now.calls) → CountsIn name now after → FetchesFirst (map bytes names) first after
  fetched_at_stop (inl made) (inl still) = fetched_one made (inl still)
  fetched_at_stop (inr none) (inl still) = fetched_none none still
  fetched_at_stop call (inr rose) = fetched_one rose.1 (inr (omega arith, rose.0))
