-- What follows from how a class ends, where the texts of its four files are told.
use Rattle.std.proofs.Common.{◌≡◌, ℕ, List, refl, subst, codes}
use Rattle.grade_io.specs.Devices.{Devices, ShelfState}
use Rattle.grade_io.specs.Words.{refusal_line}
use Rattle.grade_io.specs.Written.{Wrote}
use Rattle.mpy_tree.specs.declared.refusal.Refusal.{Refusal}
use Rattle.mpy_tree.specs.Refusals.{refusal_text}
use Rattle.source_files.specs.Files.{sources_of}
use Rattle.source_files.specs.Texts.{AllFit, IsTooLong, Tells}
use Rattle.file_commands.proofs.Claims.{told_texts}
use Rattle.file_commands.proofs.FirstRefusals.{long_fits, one_too_long}
use Rattle.class_text.specs.Entries.{Entry}
use Rattle.class_text.specs.Laws.{AreApart, IsOneList, IsOneStop}
use Rattle.class_text.specs.Listings.{Lists, StopsAt}
use Rattle.class_run.specs.declared.status.ClassStatus.{ClassStatus}
use Rattle.class_run.specs.declared.status.ClassStatus.TheVariants as status
use Rattle.class_run.specs.Classes.{Class, ClassFiles, Shared, files_of, texts_with, word_of}
use Rattle.class_run.specs.Claims.{AreTold, HasEntries, IsDone, IsSaid}
use Rattle.class_run.specs.Ends.{Ends}
use Rattle.class_run.specs.Listed.{AreEntries}
use Rattle.class_run.specs.Outcomes.{AreRead, Outcome, Graded, LongFile, NoList, Comes, IsGraded, IsLong, status_of, text_of}

-- the four texts are one list
record Same (t u : Shared) (a b : List ℕ) : Type 0 where
  shared : t ≡ u
  list : a ≡ b

same_shared : (t u : Shared) → t.bounds ≡ u.bounds → t.reference ≡ u.reference → t.rules ≡ u.rules → t ≡ u
same_shared t u b r e = λ i. record { bounds = b i; reference = r i; rules = e i }

same_four : (t u : Shared) (a b : List ℕ) → texts_with t a ≡ texts_with u b → Same t u a b
same_four t u a b e =
    let bounds : t.bounds ≡ u.bounds = cc in
    let reference : t.reference ≡ u.reference = cc in
    let rules : t.rules ≡ u.rules = cc in
    let list : a ≡ b = cc in
    record { shared = same_shared t u bounds reference rules; list = list }

module _ (f : ClassFiles) (before : ShelfState) where
  read_told : (t u : Shared) (a b : List ℕ) (read : ShelfState) → AreRead f t a before read → Tells before (files_of f) (texts_with u b) → Same t u a b
  read_told t u a b read is tells = same_four t u a b (told_texts before (files_of f) (texts_with u b) (texts_with t a) tells is.held)

  read_fits : (t : Shared) (a : List ℕ) (ts : List (List ℕ)) (read : ShelfState) → AreRead f t a before read → Tells before (files_of f) ts → AllFit (sources_of (files_of f)) ts
  read_fits t a ts read is tells = subst (AllFit (sources_of (files_of f))) (told_texts before (files_of f) ts (texts_with t a) tells is.held) is.fit

  long_told : (ts : List (List ℕ)) (after : ShelfState) (r : Refusal) → IsLong f before after r → Tells before (files_of f) ts → IsTooLong (sources_of (files_of f)) ts r
  long_told ts after r is tells = subst (λ us. IsTooLong (sources_of (files_of f)) us r) (told_texts before (files_of f) ts is.long.texts tells is.long.held) is.long.long

  long_not : (ts : List (List ℕ)) (r : Refusal) → AllFit (sources_of (files_of f)) ts → IsTooLong (sources_of (files_of f)) ts r → ⊥
  long_not ts r fit long = long_fits (sources_of (files_of f)) ts r.source fit long.long

module _ (c : Class) (before after : Devices) (one_list : IsOneList) (one_stop : IsOneStop) (apart : AreApart) where
  module _ (t : Shared) (list : List ℕ) (told : AreTold c.files before.shelf t list) where
    -- A LIST THAT IS ONE
    module _ (names : List (List ℕ)) (listed : Lists list names) where
      entries_told : (xs : List Entry) → IsGraded c before.shelf after.shelf xs → Wrote before.sink after.sink (text_of c.files (Graded xs)) → HasEntries c t names before after
      entries_told xs is wrote =
          let same = read_told c.files before.shelf is.shared t is.list list is.read is.files told.tells in
          let one : is.names ≡ names = one_list list is.names names (subst (λ l. Lists l is.names) same.list is.listed) listed in
          record {
            entries = xs;
            read = is.read;
            told =
                subst (λ ns. AreEntries c t before.shelf ns xs is.read after.shelf) one
                (subst (λ u. AreEntries c u before.shelf is.names xs is.read after.shelf) same.shared is.told);
            wrote = wrote;
          }

      done_by : (o : Outcome) → status.Done ≡ status_of o → Comes c before.shelf after.shelf o → Wrote before.sink after.sink (text_of c.files o) → HasEntries c t names before after
      done_by (Graded xs) e comes wrote = entries_told xs comes wrote
      done_by (LongFile r) e comes wrote = cc
      done_by (NoList line) e comes wrote = cc

      no_refusal : (o : Outcome) → status.Refused ≡ status_of o → Comes c before.shelf after.shelf o → ⊥
      no_refusal (Graded xs) e comes = cc
      no_refusal (LongFile r) e comes =
          long_not c.files before.shelf (texts_with t list) r told.fit (long_told c.files before.shelf (texts_with t list) after.shelf r comes told.tells)
      no_refusal (NoList line) e comes =
          let same = read_told c.files before.shelf comes.shared t comes.list list after.shelf comes.files told.tells in
          apart list names line listed (subst (λ l. StopsAt l line) same.list comes.stops)

      pub done : (s : ClassStatus) → Ends c before after s → IsDone c t names before after s
      done status.Done ends = done_by ends.outcome ends.says.0 ends.comes ends.says.2
      done status.Refused ends = no_refusal ends.outcome ends.says.0 ends.comes
      done status.ReadFailed ends = ends.rose
      done status.WriteFailed ends = ends.says.0
      done status.NoMemory ends = tt
      done status.Usage ends = ends

    -- A LIST THAT IS NONE
    module _ (line : ℕ) (stops : StopsAt list line) where
      abbrev refusal : List ℕ
      refusal = refusal_line c.files.list line (codes "Listing")

      no_entries : (o : Outcome) → status.Done ≡ status_of o → Comes c before.shelf after.shelf o → ⊥
      no_entries (Graded xs) e comes =
          let same = read_told c.files before.shelf comes.shared t comes.list list comes.read comes.files told.tells in
          apart list comes.names line (subst (λ l. Lists l comes.names) same.list comes.listed) stops
      no_entries (LongFile r) e comes = cc
      no_entries (NoList n) e comes = cc

      refused_by : (o : Outcome) → status.Refused ≡ status_of o → Comes c before.shelf after.shelf o → Wrote before.sink after.sink (text_of c.files o)
          → Wrote before.sink after.sink refusal
      refused_by (Graded xs) e comes wrote = cc
      refused_by (LongFile r) e comes wrote =
          absurd (long_not c.files before.shelf (texts_with t list) r told.fit (long_told c.files before.shelf (texts_with t list) after.shelf r comes told.tells))
      refused_by (NoList n) e comes wrote =
          let same = read_told c.files before.shelf comes.shared t comes.list list after.shelf comes.files told.tells in
          let one : n ≡ line = one_stop list n line (subst (λ l. StopsAt l n) same.list comes.stops) stops in
          subst (λ m. Wrote before.sink after.sink (refusal_line c.files.list m (codes "Listing"))) one wrote

      pub no_list : (s : ClassStatus) → Ends c before after s → IsSaid refusal status.Refused before after s
      no_list status.Done ends = absurd (no_entries ends.outcome ends.says.0 ends.comes)
      no_list status.Refused ends = (refl, refused_by ends.outcome ends.says.0 ends.comes ends.says.2)
      no_list status.ReadFailed ends = ends.rose
      no_list status.WriteFailed ends = ends.says.0
      no_list status.NoMemory ends = tt
      no_list status.Usage ends = absurd ends

  -- A FILE THAT IS TOO LONG
  module _ (ts : List (List ℕ)) (r : Refusal) (tells : Tells before.shelf (files_of c.files) ts) (long : IsTooLong (sources_of (files_of c.files)) ts r) where
    abbrev line : List ℕ
    line = refusal_text (word_of c.files r.source) r

    none_done : (o : Outcome) → status.Done ≡ status_of o → Comes c before.shelf after.shelf o → ⊥
    none_done (Graded xs) e comes =
        long_not c.files before.shelf ts r (read_fits c.files before.shelf comes.shared comes.list ts comes.read comes.files tells) long
    none_done (LongFile q) e comes = cc
    none_done (NoList n) e comes = cc

    long_said : (o : Outcome) → status.Refused ≡ status_of o → Comes c before.shelf after.shelf o → Wrote before.sink after.sink (text_of c.files o) → Wrote before.sink after.sink line
    long_said (Graded xs) e comes wrote = cc
    long_said (LongFile q) e comes wrote =
        let one : q ≡ r = one_too_long (sources_of (files_of c.files)) ts q r (long_told c.files before.shelf ts after.shelf q comes tells) long in
        subst (λ (x : Refusal). Wrote before.sink after.sink (refusal_text (word_of c.files x.source) x)) one wrote
    long_said (NoList n) e comes wrote =
        absurd (long_not c.files before.shelf ts r (read_fits c.files before.shelf comes.shared comes.list ts after.shelf comes.files tells) long)

    pub long_refused : (s : ClassStatus) → Ends c before after s → IsSaid line status.Refused before after s
    long_refused status.Done ends = absurd (none_done ends.outcome ends.says.0 ends.comes)
    long_refused status.Refused ends = (refl, long_said ends.outcome ends.says.0 ends.comes ends.says.2)
    long_refused status.ReadFailed ends = ends.rose
    long_refused status.WriteFailed ends = ends.says.0
    long_refused status.NoMemory ends = tt
    long_refused status.Usage ends = absurd ends
