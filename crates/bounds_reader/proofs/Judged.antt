-- Each text spells bounds or is refused, for one cause at one line.
use Rattle.std.proofs.Common.{IfErr, OnOk, ◌≡◌, ◌≤◌, ◌+◌, ℕ, true, false, List, [], ◌∷◌, ◌++◌, length, map, Option, None, Some, Result, Ok, Err, refl, sym, ap, subst, ◌∙◌, ℤ, pos, inl, inr, arith}
use Rattle.std.specs.Prelude.{◌⊎◌, nat_abs}
use Rattle.std.proofs.lemmas.Bool.{cases_Bool, cases_lt}
use Rattle.mpy_tree.specs.declared.limits.Limits.{Limits}
use Rattle.mpy_tree.specs.declared.refusal.Cause.{Cause}
use Rattle.mpy_tree.specs.declared.refusal.Cause.TheVariants as cause
use Rattle.bounds_reader.specs.declared.params.Param.{Param}
use Rattle.bounds_reader.specs.declared.place.Place.{Place}
use Rattle.bounds_reader.specs.declared.place.Place.TheVariants as place
use Rattle.bounds_reader.specs.declared.bounds.Bounds.{Bounds}
use Rattle.bounds_reader.specs.declared.bounds_error.BoundsError.{BoundsError}
use Rattle.bounds_reader.specs.declared.bounds_error.BoundsError.TheVariants as bounds_error
use Rattle.bounds_reader.specs.Forms.{Form, int, bool, list, text, form_of}
use Rattle.bounds_reader.specs.Words.{carries_nothing}
use Rattle.bounds_reader.specs.Items.{Item, width, turns, depth, cap, entry, param, compare, behind, place_of, SpellsItem}
use Rattle.bounds_reader.specs.Reading.{item_at}
use Rattle.bounds_reader.specs.Files.{On, on, ParamLine, BoundsFile, text_lines, has_faulty_byte, first_line, byte_fault, SpellItems, no_lines, no_words, an_item, param_items, compare_items, items_of, limit_fault, range_fault, place_behind, IsUnexpected, HasSyntaxFault, unexpected, missing, SayPrints, SayLimits, Says, IsRead, IsBounds, IsRefused, by_byte, by_syntax, by_limit, by_range, IsAnswered, IsGiven, IsRefusal}
use Rattle.bounds_reader.specs.declared.foreign.Mode.TheVariants.{Plain}
use Rattle.bounds_reader.specs.Modes.{has_fault_from}
use Rattle.bounds_reader.specs.Views.{HaveLengths, HasLengths, MayCompare, IsMisspelled}
use Rattle.bounds_reader.proofs.Modes.{same_first}
use Rattle.bounds_reader.specs.BoundsLaws.{OneBounds, IsJudged, ReadOrRefused, NotReadAndRefused, OneRefusal}
use Rattle.bounds_reader.proofs.ItemLaws.{item_takes}
use Rattle.bounds_reader.proofs.FileLaws.{none_expected}
use Rattle.bounds_reader.proofs.RangeLaws.{are_within, file_lengths, within_limits, few_params, params_in_range}
use Rattle.bounds_reader.proofs.OneAnswer.{one_file, one_syntax_fault, spelled_without_fault, one_meaning, limits_of, form_back}

-- one bounds, one refusal, and not both

pub one_bounds : OneBounds
one_bounds bytes a b s t =
    let same = one_file (text_lines bytes) s.file t.file s.read.spelled t.read.spelled in
    one_meaning t.file a b (subst (λ f. Says f a) same s.says) t.says

-- what refuses a text, with the file that it spells
read_without_fault : (bytes : List ℕ) (f : BoundsFile) (c : Cause) (line : ℕ) → IsRead bytes f → IsRefused bytes c line → ⊥
read_without_fault bytes f c line r (by_byte n e) = let none = r.no_byte_fault in absurd cc
read_without_fault bytes f c line r (by_syntax n e fault) = spelled_without_fault (text_lines bytes) f n r.spelled fault
read_without_fault bytes f c line r (by_limit g n e s fault) =
    let same = ap limit_fault (one_file (text_lines bytes) g f s r.spelled) in
    let none = r.no_limit_fault in absurd cc
read_without_fault bytes f c line r (by_range g n e s none fault) =
    let same = ap range_fault (one_file (text_lines bytes) g f s r.spelled) in
    let other = r.no_range_fault in absurd cc

pub not_read_and_refused : NotReadAndRefused
not_read_and_refused bytes b c line s r = read_without_fault bytes s.file c line s.read r

pub one_refusal : OneRefusal
one_refusal bytes c d m n (by_byte _ e) (by_byte _ f) = (refl, cc)
one_refusal bytes c d m n (by_byte _ e) (by_syntax _ f g) = absurd cc
one_refusal bytes c d m n (by_byte _ e) (by_limit _ _ f g h) = absurd cc
one_refusal bytes c d m n (by_byte _ e) (by_range _ _ f g h i) = absurd cc
one_refusal bytes c d m n (by_syntax _ e g) (by_byte _ f) = absurd cc
one_refusal bytes c d m n (by_syntax _ e g) (by_syntax _ f h) = (refl, one_syntax_fault (text_lines bytes) _ _ g h)
one_refusal bytes c d m n (by_syntax _ e g) (by_limit f _ h i j) = absurd (spelled_without_fault (text_lines bytes) f _ i g)
one_refusal bytes c d m n (by_syntax _ e g) (by_range f _ h i j k) = absurd (spelled_without_fault (text_lines bytes) f _ i g)
one_refusal bytes c d m n (by_limit f _ h i j) (by_byte _ e) = absurd cc
one_refusal bytes c d m n (by_limit f _ h i j) (by_syntax _ e g) = absurd (spelled_without_fault (text_lines bytes) f _ i g)
one_refusal bytes c d m n (by_limit f _ h i j) (by_limit g _ k s t) =
    let same = ap limit_fault (one_file (text_lines bytes) f g i s) in (refl, cc)
one_refusal bytes c d m n (by_limit f _ h i j) (by_range g _ k s none t) =
    let same = ap limit_fault (one_file (text_lines bytes) f g i s) in absurd cc
one_refusal bytes c d m n (by_range f _ h i none j) (by_byte _ e) = absurd cc
one_refusal bytes c d m n (by_range f _ h i none j) (by_syntax _ e g) = absurd (spelled_without_fault (text_lines bytes) f _ i g)
one_refusal bytes c d m n (by_range f _ h i none j) (by_limit g _ k s t) =
    let same = ap limit_fault (one_file (text_lines bytes) f g i s) in absurd cc
one_refusal bytes c d m n (by_range f _ h i none j) (by_range g _ k s other t) =
    let same = ap range_fault (one_file (text_lines bytes) f g i s) in (refl, cc)

-- the answer of a call whose bounds are spelled, and whose faults are the first

pub given_by : (bytes : List ℕ) (r : Result Bounds BoundsError) → ((a : Bounds) → r ≡ Ok a → IsBounds bytes a) → ((e : BoundsError) → r ≡ Err e → IsAnswered bytes e) → (b : Bounds) → IsBounds bytes b → IsGiven b r
given_by bytes (Ok a) ok err b s = one_bounds bytes a b (ok a refl) s
given_by bytes (Err (bounds_error.Fault c line)) ok err b s = not_read_and_refused bytes b c line s (err (bounds_error.Fault c line) refl)
given_by bytes (Err bounds_error.NoMemory) ok err b s = tt

pub refused_by : (bytes : List ℕ) (r : Result Bounds BoundsError) → ((a : Bounds) → r ≡ Ok a → IsBounds bytes a) → ((e : BoundsError) → r ≡ Err e → IsAnswered bytes e) → (c : Cause) (line : ℕ) → IsRefused bytes c line → IsRefusal c line r
refused_by bytes (Ok a) ok err c line s = not_read_and_refused bytes a c line (ok a refl) s
refused_by bytes (Err (bounds_error.Fault d m)) ok err c line s = one_refusal bytes d c m line (err (bounds_error.Fault d m) refl) s
refused_by bytes (Err bounds_error.NoMemory) ok err c line s = tt

-- lines spell items up to some line, or all of them do
data LinesRead (p : Place) (n : ℕ) (ls : List (List ℕ)) : Type 0 where
  all_spelled : (is : List (On Item)) → SpellItems p n ls is → LinesRead p n ls
  one_wrong : (before : List (List ℕ)) (l : List ℕ) (rest : List (List ℕ)) (is : List (On Item))
      → ls ≡ before ++ l ∷ rest
      → SpellItems p n before is
      → IsUnexpected (place_behind p is) l
      → LinesRead p n ls

behind_nothing : (p : Place) (n : ℕ) (l : List ℕ) (ls : List (List ℕ)) → carries_nothing l ≡ true → LinesRead p (n + 1) ls → LinesRead p n (l ∷ ls)
behind_nothing p n l ls h (all_spelled is s) = all_spelled is (no_words p n l ls is h s)
behind_nothing p n l ls h (one_wrong before m rest is e s u) =
    one_wrong (l ∷ before) m rest is (ap (λ (xs : List (List ℕ)). l ∷ xs) e) (no_words p n l before is h s) u

behind_item : (p : Place) (n : ℕ) (l : List ℕ) (ls : List (List ℕ)) (i : Item) → SpellsItem p l i → LinesRead (behind i) (n + 1) ls → LinesRead p n (l ∷ ls)
behind_item p n l ls i h (all_spelled is s) = all_spelled (on n i ∷ is) (an_item p n l ls i is h s)
behind_item p n l ls i h (one_wrong before m rest is e s u) =
    one_wrong (l ∷ before) m rest (on n i ∷ is) (ap (λ (xs : List (List ℕ)). l ∷ xs) e) (an_item p n l before i is h s) u

some_line : (p : Place) (n : ℕ) (l : List ℕ) (ls : List (List ℕ)) (o : Option Item) → carries_nothing l ≡ false → item_at p l ≡ o → ((q : Place) → LinesRead q (n + 1) ls) → LinesRead p n (l ∷ ls)
some_line p n l ls None some e more = one_wrong [] l ls [] refl (no_lines p n) (none_expected p l some e)
some_line p n l ls (Some i) some e more = behind_item p n l ls i (item_takes p l i e) (more (behind i))

lines_read : (p : Place) (n : ℕ) (ls : List (List ℕ)) → LinesRead p n ls
lines_read p n [] = all_spelled [] (no_lines p n)
lines_read p n (l ∷ ls) = elim (cases_Bool (carries_nothing l)) [
  | inl nothing ↦ behind_nothing p n l ls nothing (lines_read p (n + 1) ls)
  | inr some ↦ some_line p n l ls (item_at p l) some refl (λ q. lines_read q (n + 1) ls)
]

-- five items or more are those of a file

a_width : (i : Item) → place_of i ≡ place.Width → (z : ℤ) × (i ≡ width z)
a_width (width z) e = (z, refl)
a_width (turns z) e = absurd cc
a_width (depth z) e = absurd cc
a_width (cap z) e = absurd cc
a_width (entry x) e = absurd cc
a_width (param x f) e = absurd cc
a_width (compare z) e = absurd cc

a_turns : (i : Item) → place_of i ≡ place.Turns → (z : ℤ) × (i ≡ turns z)
a_turns (turns z) e = (z, refl)
a_turns (width z) e = absurd cc
a_turns (depth z) e = absurd cc
a_turns (cap z) e = absurd cc
a_turns (entry x) e = absurd cc
a_turns (param x f) e = absurd cc
a_turns (compare z) e = absurd cc

a_depth : (i : Item) → place_of i ≡ place.Depth → (z : ℤ) × (i ≡ depth z)
a_depth (depth z) e = (z, refl)
a_depth (width z) e = absurd cc
a_depth (turns z) e = absurd cc
a_depth (cap z) e = absurd cc
a_depth (entry x) e = absurd cc
a_depth (param x f) e = absurd cc
a_depth (compare z) e = absurd cc

a_cap : (i : Item) → place_of i ≡ place.Cap → (z : ℤ) × (i ≡ cap z)
a_cap (cap z) e = (z, refl)
a_cap (width z) e = absurd cc
a_cap (turns z) e = absurd cc
a_cap (depth z) e = absurd cc
a_cap (entry x) e = absurd cc
a_cap (param x f) e = absurd cc
a_cap (compare z) e = absurd cc

an_entry : (i : Item) → place_of i ≡ place.Entry → (x : List ℕ) × (i ≡ entry x)
an_entry (entry x) e = (x, refl)
an_entry (width z) e = absurd cc
an_entry (turns z) e = absurd cc
an_entry (depth z) e = absurd cc
an_entry (cap z) e = absurd cc
an_entry (param x f) e = absurd cc
an_entry (compare z) e = absurd cc

a_last : (i : Item) → place_of i ≡ place.Param → ((x : List ℕ) × (f : Form) × (i ≡ param x f)) ⊎ ((z : ℤ) × (i ≡ compare z))
a_last (param x f) e = inl (x, f, refl)
a_last (compare z) e = inr (z, refl)
a_last (width z) e = absurd cc
a_last (turns z) e = absurd cc
a_last (depth z) e = absurd cc
a_last (cap z) e = absurd cc
a_last (entry x) e = absurd cc

none_at_end : (i : Item) → place_of i ≡ place.End → ⊥
none_at_end (width z) e = cc
none_at_end (turns z) e = cc
none_at_end (depth z) e = cc
none_at_end (cap z) e = cc
none_at_end (entry x) e = cc
none_at_end (param x f) e = cc
none_at_end (compare z) e = cc

-- the items have the places in order
abbrev InOrder : Place → List (On Item) → Type 0
InOrder p [] = Unit {0}
InOrder p (i ∷ is) = (place_of i.value ≡ p) × InOrder (behind i.value) is

in_order : (p : Place) (n : ℕ) (ls : List (List ℕ)) (is : List (On Item)) → SpellItems p n ls is → InOrder p is
in_order p n [] is (no_lines _ _) = tt
in_order p n (l ∷ ls) is (no_words _ _ _ _ _ h rest) = in_order p (n + 1) ls is rest
in_order p n (l ∷ ls) (_ ∷ is) (an_item _ _ _ _ i _ s rest) = (s.place, in_order (behind i) (n + 1) ls is rest)

nothing_at_end : (p : Place) (is : List (On Item)) → p ≡ place.End → InOrder p is → is ≡ []
nothing_at_end p [] e h = refl
nothing_at_end p (i ∷ is) e h = absurd (none_at_end i.value (h.0 ∙ e))

-- parameters, and what is compared
pub record LastItems (is : List (On Item)) : Type 0 where
  pub params : List (On ParamLine)
  pub compared : Option (On ℤ)
  pub same : is ≡ param_items params ++ compare_items compared

one_more : (i : On Item) (is : List (On Item)) → ((x : List ℕ) × (f : Form) × (i.value ≡ param x f)) ⊎ ((z : ℤ) × (i.value ≡ compare z)) → InOrder (behind i.value) is
    → ((q : Place) → q ≡ place.Param → InOrder q is → LastItems is)
    → LastItems (i ∷ is)
one_more i is (inl a) h others =
    let more = others (behind i.value) (ap behind a.2) h in
    record {
      params = on i.line (record { name = a.0; form = a.1 }) ∷ more.params;
      compared = more.compared;
      same = ap (λ v. on i.line v ∷ is) a.2 ∙ ap (λ (js : List (On Item)). on i.line (param a.0 a.1) ∷ js) more.same;
    }
one_more i is (inr a) h others =
    let none = nothing_at_end (behind i.value) is (ap behind a.1) h in
    record {
      params = [];
      compared = Some (on i.line a.0);
      same = ap (λ v. on i.line v ∷ is) a.1 ∙ ap (λ (js : List (On Item)). on i.line (compare a.0) ∷ js) none;
    }

last_items : (p : Place) (is : List (On Item)) → p ≡ place.Param → InOrder p is → LastItems is
last_items p [] e h = record { params = []; compared = None; same = refl }
last_items p (i ∷ is) e h = one_more i is (a_last i.value (h.0 ∙ e)) h.1 (λ q. last_items q is)

whole : (is : List (On Item)) → InOrder place.Width is → 5 ≤ length is → (f : BoundsFile) × (is ≡ items_of f)
whole [] h few = absurd (omega arith)
whole (a ∷ []) h few = absurd (omega arith)
whole (a ∷ b ∷ []) h few = absurd (omega arith)
whole (a ∷ b ∷ c ∷ []) h few = absurd (omega arith)
whole (a ∷ b ∷ c ∷ d ∷ []) h few = absurd (omega arith)
whole (a ∷ b ∷ c ∷ d ∷ e ∷ ps) h few =
    let w = a_width a.value h.0 in
    let t = a_turns b.value (h.1.0 ∙ ap behind w.1) in
    let k = a_depth c.value (h.1.1.0 ∙ ap behind t.1) in
    let m = a_cap d.value (h.1.1.1.0 ∙ ap behind k.1) in
    let x = an_entry e.value (h.1.1.1.1.0 ∙ ap behind m.1) in
    let more = last_items (behind e.value) ps (ap behind x.1) h.1.1.1.1.1 in (
      record { width = on a.line w.0; turns = on b.line t.0; depth = on c.line k.0; cap = on d.line m.0; entry = on e.line x.0; params = more.params; compared = more.compared },
      five a b c d e ps (width w.0) (turns t.0) (depth k.0) (cap m.0) (entry x.0) (param_items more.params ++ compare_items more.compared) w.1 t.1 k.1 m.1 x.1 more.same,
    )
  where
    five : (a b c d e : On Item) (ps : List (On Item)) (v w x y z : Item) (qs : List (On Item)) → a.value ≡ v → b.value ≡ w → c.value ≡ x → d.value ≡ y → e.value ≡ z → ps ≡ qs
        → a ∷ b ∷ c ∷ d ∷ e ∷ ps ≡ on a.line v ∷ on b.line w ∷ on c.line x ∷ on d.line y ∷ on e.line z ∷ qs
    five a b c d e ps v w x y z qs p q r s t u =
        ap (λ i. on a.line i ∷ b ∷ c ∷ d ∷ e ∷ ps) p ∙ ap (λ i. on a.line v ∷ on b.line i ∷ c ∷ d ∷ e ∷ ps) q
        ∙ ap (λ i. on a.line v ∷ on b.line w ∷ on c.line i ∷ d ∷ e ∷ ps) r ∙ ap (λ i. on a.line v ∷ on b.line w ∷ on c.line x ∷ on d.line i ∷ e ∷ ps) s
        ∙ ap (λ i. on a.line v ∷ on b.line w ∷ on c.line x ∷ on d.line y ∷ on e.line i ∷ ps) t
        ∙ ap (λ (js : List (On Item)). on a.line v ∷ on b.line w ∷ on c.line x ∷ on d.line y ∷ on e.line z ∷ js) u

-- a file whose numbers are in their ranges says some bounds

form_again : (f : Form) → HasLengths f → form_of (form_back f) ≡ f
form_again (int low high) h = refl
form_again bool h = refl
form_again (list least most low high) h = ap (λ a. list a (pos (nat_abs most)) low high) h.0 ∙ ap (λ b. list least b low high) h.1
form_again (text least most alphabet) h = ap (λ a. text a (pos (nat_abs most)) alphabet) h.0 ∙ ap (λ b. text least b alphabet) h.1

forms_again : (ps : List (On ParamLine)) → HaveLengths ps → map form_of (map (λ p. form_back p.value.form) ps) ≡ map (λ p. p.value.form) ps
forms_again [] h = refl
forms_again (p ∷ ps) h =
    ap (λ f. f ∷ map form_of (map (λ q. form_back q.value.form) ps)) (form_again p.value.form h.0)
    ∙ ap (λ (fs : List Form). p.value.form ∷ fs) (forms_again ps h.1)

abbrev prints_of : Option (On ℤ) → ℕ
prints_of None = 0
prints_of (Some z) = nat_abs z.value

prints_said : (o : Option (On ℤ)) → MayCompare o → SayPrints o (prints_of o) × (prints_of o ≤ 8)
prints_said None h = (refl, omega arith)
prints_said (Some z) h = (sym h.value, h.most)

some_bounds : (f : BoundsFile) → limit_fault f ≡ None → range_fault f ≡ None → (b : Bounds) × Says f b
some_bounds f l r =
    let w = are_within f r in
    let kept = prints_said f.compared w.compared in
    let limits : Limits = limits_of (nat_abs f.width.value, nat_abs f.turns.value, nat_abs f.depth.value, nat_abs f.cap.value, prints_of f.compared)
    ((w.width.least, w.width.most), (w.turns.least, w.turns.most), (w.depth.least, w.depth.most), (w.cap.least, w.cap.most), kept.1) in
    let said : SayLimits f limits = record { width = sym w.width.value; turns = sym w.turns.value; depth = sym w.depth.value; cap = sym w.cap.value; prints = kept.0 } in
    let params : List Param = map (λ p. form_back p.value.form) f.params in
    let same = forms_again f.params (file_lengths f r) in (
      record {
        limits = limits;
        entry = f.entry.value;
        entry_line = f.entry.line;
        params = params;
        short_entry = (within_limits f l).0;
        few_params = few_params f params l same;
        ranges = params_in_range f limits params r said same;
      },
      record { limits = said; entry = refl; entry_line = refl; params = sym same },
    )

by_ranges : (bytes : List ℕ) (f : BoundsFile) (o : Option ℕ) → byte_fault bytes ≡ None → SpellItems place.Width 1 (text_lines bytes) (items_of f) → limit_fault f ≡ None → range_fault f ≡ o → IsJudged bytes
by_ranges bytes f (Some line) e s l r = inr (cause.BoundRange, line, by_range f line e s l r)
by_ranges bytes f None e s l r =
    let b = some_bounds f l r in
    inl (b.0, record { file = f; read = record { no_byte_fault = e; spelled = s; no_limit_fault = l; no_range_fault = r }; says = b.1 })

by_limits : (bytes : List ℕ) (f : BoundsFile) (o : Option ℕ) → byte_fault bytes ≡ None → SpellItems place.Width 1 (text_lines bytes) (items_of f) → limit_fault f ≡ o → IsJudged bytes
by_limits bytes f (Some line) e s l = inr (cause.Limit, line, by_limit f line e s l)
by_limits bytes f None e s l = by_ranges bytes f (range_fault f) e s l refl

by_items : (bytes : List ℕ) (is : List (On Item)) → byte_fault bytes ≡ None → SpellItems place.Width 1 (text_lines bytes) is → IsJudged bytes
by_items bytes is e s = elim (cases_lt (length is) 5) [
  | inl few ↦ inr (cause.Syntax, length (text_lines bytes) + 1, by_syntax (length (text_lines bytes) + 1) e (missing is s few))
  | inr enough ↦ (
      let f = whole is (in_order place.Width 1 (text_lines bytes) is s) enough in
      by_limits bytes f.0 (limit_fault f.0) e (subst (SpellItems place.Width 1 (text_lines bytes)) f.1 s) refl)
]

by_lines : (bytes : List ℕ) → byte_fault bytes ≡ None → LinesRead place.Width 1 (text_lines bytes) → IsJudged bytes
by_lines bytes e (all_spelled is s) = by_items bytes is e s
by_lines bytes e (one_wrong before l rest is cut s u) =
    inr (cause.Syntax, length before + 1, by_syntax (length before + 1) e (unexpected before l rest is cut s u))

by_bytes : (bytes : List ℕ) (o : Option ℕ) → byte_fault bytes ≡ o → IsJudged bytes
by_bytes bytes (Some line) e = inr (cause.Byte, line, by_byte line e)
by_bytes bytes None e = by_lines bytes e (lines_read place.Width 1 (text_lines bytes))

pub read_or_refused : ReadOrRefused
read_or_refused bytes = by_bytes bytes (byte_fault bytes) refl

-- the steps of reading, from what each finds to the answer

pub no_faulty_byte : (bytes : List ℕ) (ls : List (List ℕ)) (o : Option ℕ) → ls ≡ text_lines bytes → o ≡ first_line (has_fault_from Plain) 1 ls → o ≡ byte_fault bytes
no_faulty_byte bytes ls o e f = f ∙ same_first 1 ls ∙ ap (first_line has_faulty_byte 1) e

pub misspelled_answer : (bytes : List ℕ) (ls : List (List ℕ)) (e : BoundsError) → ls ≡ text_lines bytes → byte_fault bytes ≡ None → IsMisspelled ls e → IsAnswered bytes e
misspelled_answer bytes ls bounds_error.NoMemory is none m = tt
misspelled_answer bytes ls (bounds_error.Fault c line) is none m =
    subst (λ d. IsRefused bytes d line) (sym m.0) (by_syntax line none (subst (λ xs. HasSyntaxFault xs line) is m.1))

pub misspelled_result : {F : Type 0} (bytes : List ℕ) (ls : List (List ℕ)) (r : Result F BoundsError) → ls ≡ text_lines bytes → byte_fault bytes ≡ None → IfErr r (IsMisspelled ls) → IfErr r (IsAnswered bytes)
misspelled_result bytes ls (Ok f) is none m = tt
misspelled_result bytes ls (Err e) is none m = misspelled_answer bytes ls e is none m

pub on_ok : {F : Type 0} (r : Result F BoundsError) (P : Type 0) → P → OnOk r P
on_ok (Ok f) P p = p
on_ok (Err e) P p = tt
