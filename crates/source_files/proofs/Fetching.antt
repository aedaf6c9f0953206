-- The texts that were fetched so far, and what comes where a fetch stops.
use Rattle.std.proofs.Common.{◌≡◌, ◌<◌, ◌+◌, ℕ, List, [], ◌∷◌, ◌++◌, length, map, take, drop, get_or, Option, Some, None, ap, refl, sym, subst, ◌∙◌, inl, inr, Result, Ok, Err, IfErr, IsErrAnd}
use Rattle.std.proofs.lemmas.Option.{same_Some}
use Rattle.grade_io.specs.Devices.{ShelfState, ShelfCall, Fetch, added}
use Rattle.grade_io.specs.Kept.{FilesLeft, Holds}
use Rattle.std.proofs.lemmas.List.{drop_more, map-append, take-append-drop, take-map, take_more}
use Rattle.grade_io.proofs.CallList.{go_on}
use Rattle.grade_io.proofs.LongFile.{long_file}
use Rattle.mpy_tree.specs.declared.refusal.Refusal.{Refusal}
use Rattle.source_files.specs.Files.{SourceFile, fetches, limit_of, sources_of}
use Rattle.source_files.specs.Fetches.{FetchesInOrder, IsLongFile, IsLongSource, MadeOneFetch, OnRefused}
use Rattle.source_files.specs.declared.stop.Stop.{Stop}
use Rattle.source_files.specs.declared.stop.Stop.TheVariants as stop
use Rattle.source_files.specs.Texts.{AllFit, AreHeld, Fits, IsFirstLong, TookTooMuch}

-- the files so far have been fetched
pub record AreFetched (fs : List SourceFile) (ts : List (List ℕ)) (first now : ShelfState) : Type 0 where
  pub held : AreHeld first fs ts
  pub fit : AllFit (sources_of fs) ts
  pub calls : now.calls ≡ added first.calls (fetches fs)
  pub kept : FilesLeft first now
  pub still : now.faults ≡ first.faults

pub held_more : (s : ShelfState) (fs : List SourceFile) (ts : List (List ℕ)) (f : SourceFile) (t : List ℕ)
    → AreHeld s fs ts → Holds s f.word t → AreHeld s (fs ++ f ∷ []) (ts ++ t ∷ [])
held_more s [] [] f t held h = (h, tt)
held_more s [] (u ∷ us) f t held h = absurd held
held_more s (g ∷ gs) [] f t held h = absurd held
held_more s (g ∷ gs) (u ∷ us) f t held h = (held.0, held_more s gs us f t held.1 h)

pub fit_more : (fs : List SourceFile) (ts : List (List ℕ)) (f : SourceFile) (t : List ℕ) → AllFit (sources_of fs) ts → Fits f.source t → AllFit (sources_of (fs ++ f ∷ [])) (ts ++ t ∷ [])
fit_more [] [] f t fit h = (h, tt)
fit_more [] (u ∷ us) f t fit h = absurd fit
fit_more (g ∷ gs) [] f t fit h = absurd fit
fit_more (g ∷ gs) (u ∷ us) f t fit h = (fit.0, fit_more gs us f t fit.1 h)

pub left_both : (first now after : ShelfState) → FilesLeft first now → FilesLeft now after → FilesLeft first after
left_both first now after kept also = record { bytes = also.bytes ∙ kept.bytes; files = also.files ∙ kept.files }

-- what is known of a name later is known of it from the first, since files stay
pub earlier : (name bytes : List ℕ) (first now : ShelfState) → FilesLeft first now → Holds now name bytes → Holds first name bytes
earlier name bytes first now same held = λ file e. held file (ap (λ (h : List ℕ → Option (List ℕ)). h name) same.bytes ∙ e)

-- bytes that a name may hold
record SomeText (o : Option (List ℕ)) : Type 0 where
  bytes : List ℕ
  told : (file : List ℕ) → o ≡ Some file → bytes ≡ file

some_text : (o : Option (List ℕ)) → SomeText o
some_text None = record { bytes = []; told = λ file e. cc }
some_text (Some xs) = record { bytes = xs; told = λ file e. same_Some xs file e }

-- texts that the files may hold
some_texts : (s : ShelfState) (fs : List SourceFile) → (ts : List (List ℕ)) × AreHeld s fs ts
some_texts s [] = ([], tt)
some_texts s (f ∷ fs) =
    let t = some_text (s.holds f.word) in
    let rest = some_texts s fs in
    (t.bytes ∷ rest.0, (t.told, rest.1))

-- behind the files that were fetched, one that is too long, and others
record LongTexts (s : ShelfState) (fs : List SourceFile) (f : SourceFile) (gs : List SourceFile) : Type 0 where
  texts : List (List ℕ)
  held : AreHeld s (fs ++ f ∷ gs) texts
  long : IsFirstLong (sources_of (fs ++ f ∷ gs)) texts f.source

long_texts : (s : ShelfState) (fs : List SourceFile) (ts : List (List ℕ)) (f : SourceFile) (gs : List SourceFile)
    → AreHeld s fs ts → AllFit (sources_of fs) ts → ((text : List ℕ) → s.holds f.word ≡ Some text → limit_of f.source < length text) → LongTexts s fs f gs
long_texts s [] [] f gs held fit long =
    let t = long_file (s.holds f.word) (limit_of f.source) long in
    let rest = some_texts s gs in
    record { texts = t.bytes ∷ rest.0; held = (t.told, rest.1); long = inl (t.long, refl) }
long_texts s [] (u ∷ us) f gs held fit long = absurd held
long_texts s (g ∷ hs) [] f gs held fit long = absurd held
long_texts s (g ∷ hs) (u ∷ us) f gs held fit long =
    let rest = long_texts s hs us f gs held.1 fit.1 long in
    record { texts = u ∷ rest.texts; held = (held.0, rest.held); long = inr (fit.0, rest.long) }

pub long_source : (all fs : List SourceFile) (ts : List (List ℕ)) (f : SourceFile) (gs : List SourceFile) (first now after : ShelfState) (r : Refusal)
    → all ≡ fs ++ f ∷ gs → AreFetched fs ts first now → IsLongFile f now after r → IsLongSource all first after r
long_source all fs ts f gs first now after r cut so long =
    let told = λ (text : List ℕ) (e : first.holds f.word ≡ Some text). long.told text (ap (λ (h : List ℕ → Option (List ℕ)). h f.word) so.kept.bytes ∙ e) in
    let texts = long_texts first fs ts f gs so.held so.fit told in
    let source : f.source ≡ r.source = sym (ap (λ (q : Refusal). q.source) long.refusal_is) in
    record {
      texts = texts.texts;
      held = subst (λ xs. AreHeld first xs texts.texts) (sym cut) texts.held;
      long = record {
        long = subst (λ xs. IsFirstLong (sources_of xs) texts.texts r.source) (sym cut) (subst (IsFirstLong (sources_of (fs ++ f ∷ gs)) texts.texts) source texts.long);
        cause_is = ap (λ (q : Refusal). q.cause) long.refusal_is;
        line_is = ap (λ (q : Refusal). q.line) long.refusal_is;
      };
      taken = subst (λ s. TookTooMuch s after) source long.taken;
    }

-- ONE FILE MORE

-- the file at a place of a list, behind those before it
module _ {A : Type 0} (view : A → SourceFile) (xs : List A) (i : ℕ) (d : A) (within : i < length xs) where
  abbrev this : SourceFile
  this = view (get_or xs i d)

  front_more : map view (take (i + 1) xs) ≡ map view (take i xs) ++ this ∷ []
  front_more = ap (map view) (take_more xs i d within) ∙ map-append view (take i xs) (get_or xs i d ∷ [])

  cut_here : map view xs ≡ map view (take i xs) ++ this ∷ map view (drop (i + 1) xs)
  cut_here =
      ap (map view) (sym (take-append-drop i xs) ∙ ap (λ ys. take i xs ++ ys) (drop_more xs i d within))
      ∙ map-append view (take i xs) (get_or xs i d ∷ drop (i + 1) xs)

  front_fetches : (n : ℕ) → fetches (map view (take n xs)) ≡ take n (fetches (map view xs))
  front_fetches n =
      ap fetches (sym (take-map view n xs)) ∙ sym (take-map (λ f. Fetch f.word) n (map view xs))

  abbrev call : ShelfCall
  call = Fetch this.word

  one_call : (first now after : Option (List ShelfCall)) → now ≡ added first (fetches (map view (take i xs))) → after ≡ added now (call ∷ [])
      → after ≡ added first (fetches (map view (take (i + 1) xs)))
  one_call first now after before made =
      go_on first now after (fetches (map view (take i xs))) call before made
      ∙ ap (added first) (sym (ap fetches front_more ∙ map-append (λ (f : SourceFile). Fetch f.word) (map view (take i xs)) (this ∷ [])))

  pub one_fetched : (ts : List (List ℕ)) (t : List ℕ) (first now after : ShelfState) → AreFetched (map view (take i xs)) ts first now
      → Holds now this.word t → Fits this.source t → after.calls ≡ added now.calls (call ∷ []) → FilesLeft now after → after.faults ≡ now.faults
      → AreFetched (map view (take (i + 1) xs)) (ts ++ t ∷ []) first after
  one_fetched ts t first now after so held fit made kept still = record {
    held = subst (λ fs. AreHeld first fs (ts ++ t ∷ [])) (sym front_more)
        (held_more first (map view (take i xs)) ts this t so.held (earlier this.word t first now so.kept held));
    fit = subst (λ fs. AllFit (sources_of fs) (ts ++ t ∷ [])) (sym front_more)
        (fit_more (map view (take i xs)) ts this t so.fit fit);
    calls = one_call first.calls now.calls after.calls so.calls made;
    kept = left_both first now after so.kept kept;
    still = still ∙ so.still;
  }

  pub one_long : (ts : List (List ℕ)) (first now after : ShelfState) (s : Stop) → AreFetched (map view (take i xs)) ts first now
      → OnRefused (IsLongFile this now after) s → OnRefused (IsLongSource (map view xs) first after) s
  one_long ts first now after (stop.Refused r) so long =
      long_source (map view xs) (map view (take i xs)) ts this (map view (drop (i + 1) xs)) first now after r cut_here so long
  one_long ts first now after stop.Failed so long = tt
  one_long ts first now after stop.NoMemory so long = tt

  all_calls : (first now after : ShelfState) → now.calls ≡ added first.calls (fetches (map view (take i xs))) → after.calls ≡ added now.calls (call ∷ [])
      → FetchesInOrder (map view xs) first after
  all_calls first now after before made = (i + 1, one_call first.calls now.calls after.calls before made ∙ ap (added first.calls) (front_fetches (i + 1)))

  -- a fetch that stops, or what stops behind it, has made the first calls
  pub calls_at_stop : {T : Type 0} (r : Result T Stop) (first now after : ShelfState) → now.calls ≡ added first.calls (fetches (map view (take i xs)))
      → MadeOneFetch r call now.calls after.calls → FetchesInOrder (map view xs) first after
  calls_at_stop (Ok x) first now after before made = all_calls first now after before made
  calls_at_stop (Err stop.Failed) first now after before made = all_calls first now after before made
  calls_at_stop (Err (stop.Refused q)) first now after before made = all_calls first now after before made
  calls_at_stop (Err stop.NoMemory) first now after before made = elim made [
    | inl one ↦ all_calls first now after before one
    | inr same ↦ (i, same ∙ before ∙ ap (added first.calls) (front_fetches i))
  ]

pub stopped : {T : Type 0} (r : Result T Stop) (s : Stop) (P : Refusal → Type 0) → IsErrAnd r (λ t. t ≡ s) → OnRefused P s → IfErr r (OnRefused P)
stopped (Ok x) s P is h = tt
stopped (Err t) s P is h = subst (OnRefused P) (sym is) h
