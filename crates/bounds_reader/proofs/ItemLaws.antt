-- A line spells the item that is read from it, and the item that it spells is read.
use Rattle.std.proofs.Common.{◌≡◌, ℕ, true, false, cond, List, [], ◌∷◌, Option, None, Some, option_map, refl, sym, subst, ◌∙◌, ℤ, inl, inr}
use Rattle.std.specs.Prelude.{◌&&◌, codes}
use Rattle.std.proofs.lemmas.Bool.{and_parts, and_from, cases_Bool}
use Rattle.std.proofs.lemmas.Slice.Eq.{bytes_eq-Decides}
use Rattle.mpy_tree.specs.Values.{same_bytes}
use Rattle.bounds_reader.specs.declared.place.Place.{Place}
use Rattle.bounds_reader.specs.declared.place.Place.TheVariants as place
use Rattle.bounds_reader.specs.Forms.{Form, int, bool, list, text}
use Rattle.bounds_reader.specs.Words.{Word, plain, carries_nothing, Carries}
use Rattle.bounds_reader.specs.Items.{Item, width, turns, depth, cap, entry, param, compare, is_short, is_plain_name, form_words, item_words, is_proper_form, is_proper, place_of, SpellsItem, number_word}
use Rattle.bounds_reader.specs.Reading.{plain_at, behind_word, number_at, span_at, name_at, literal_word_at, at_end, number_line, entry_line, int_form, list_form, text_form, form_behind, form_at, param_name, param_line, compare_line, compare_or_param, item_at}
use Rattle.bounds_reader.proofs.Steps.{bind_some, map_some, when_some}
use Rattle.bounds_reader.proofs.WordLaws.{plain_takes, plain_again, word_takes, word_again, number_at_takes, number_at_again, span_at_takes, span_at_again, name_takes, name_again, literal_word_takes, literal_word_again, not_nothing}

end_takes : {A : Type 0} (x : A) (rest : List ℕ) (y : A) → at_end x rest ≡ Some y → (carries_nothing rest ≡ true) × (x ≡ y)
end_takes x rest y e = let b = when_some (carries_nothing rest) (Some x) y e in (b.0, cc)

end_again : {A : Type 0} (x : A) (rest : List ℕ) → carries_nothing rest ≡ true → at_end x rest ≡ Some x
end_again x rest h = rw h refl

number_line_takes : (word line : List ℕ) (z : ℤ) → number_line word line ≡ Some z → Carries line (plain word ∷ number_word z ∷ []) × (is_short z ≡ true)
unfolding number_line
number_line_takes word line z e =
    let rest = bind_some (behind_word word line) _ z e in
    let n = bind_some (number_at rest.0) _ z rest.2 in
    let end = end_takes n.0.0 n.0.1 z n.2 in
    let number = number_at_takes rest.0 n.0 n.1 in
    subst (λ y. Carries line (plain word ∷ number_word y ∷ []) × (is_short y ≡ true)) end.1
    ((rest.0, word_takes word line rest.0 rest.1, (n.0.1, number.0, end.0)), number.1)

number_line_again : (word line : List ℕ) (z : ℤ) → Carries line (plain word ∷ number_word z ∷ []) → is_short z ≡ true → number_line word line ≡ Some z
unfolding number_line
number_line_again word line z c h =
    rw (word_again word line c.0 c.1, number_at_again c.0 z c.2.0 c.2.1 h, c.2.2) refl

entry_takes : (line x : List ℕ) → entry_line line ≡ Some x → Carries line (plain (codes "entry") ∷ plain x ∷ []) × (is_plain_name x ≡ true)
unfolding entry_line
entry_takes line x e =
    let rest = bind_some (behind_word (codes "entry") line) _ x e in
    let n = bind_some (name_at rest.0) _ x rest.2 in
    let end = end_takes n.0.0 n.0.1 x n.2 in
    let name = name_takes rest.0 n.0 n.1 in
    subst (λ y. Carries line (plain (codes "entry") ∷ plain y ∷ []) × (is_plain_name y ≡ true)) end.1
    ((rest.0, word_takes (codes "entry") line rest.0 rest.1, (n.0.1, name.0, end.0)), name.1)

entry_again : (line x : List ℕ) → Carries line (plain (codes "entry") ∷ plain x ∷ []) → is_plain_name x ≡ true → entry_line line ≡ Some x
unfolding entry_line
entry_again line x c h = rw (word_again (codes "entry") line c.0 c.1, name_again c.0 x c.2.0 c.2.1 h, c.2.2) refl

-- forms, behind their first words

abbrev FormTaken : List ℕ → List ℕ → Form → Type 0
FormTaken word rest f = (ws : List Word) × (form_words f ≡ plain word ∷ ws) × Carries rest ws × (is_proper_form f ≡ true)

int_takes : (line : List ℕ) (f : Form) → int_form line ≡ Some f → FormTaken (codes "int") line f
unfolding int_form
int_takes line f e =
    let s = bind_some (span_at line) _ f e in
    let end = end_takes (int s.0.0 s.0.1) s.0.2 f s.2 in
    let span = span_at_takes line s.0 s.1 in
    subst (FormTaken (codes "int") line) end.1 (_, refl, (s.0.2, span.0, end.0), span.1)

bool_takes : (line : List ℕ) (f : Form) → at_end bool line ≡ Some f → FormTaken (codes "bool") line f
bool_takes line f e =
    let end = end_takes bool line f e in
    subst (FormTaken (codes "bool") line) end.1 (_, refl, end.0, refl)

list_takes : (line : List ℕ) (f : Form) → list_form line ≡ Some f → FormTaken (codes "list") line f
unfolding list_form
list_takes line f e =
    let lengths = bind_some (span_at line) _ f e in
    let rest = bind_some (behind_word (codes "of") lengths.0.2) _ f lengths.2 in
    let numbers = bind_some (span_at rest.0) _ f rest.2 in
    let end = end_takes (list lengths.0.0 lengths.0.1 numbers.0.0 numbers.0.1) numbers.0.2 f numbers.2 in
    let first = span_at_takes line lengths.0 lengths.1 in
    let second = span_at_takes rest.0 numbers.0 numbers.1 in
    subst (FormTaken (codes "list") line) end.1
    (_, refl, (lengths.0.2, first.0, (rest.0, word_takes (codes "of") lengths.0.2 rest.0 rest.1, (numbers.0.2, second.0, end.0))), and_from _ _ first.1 second.1)

text_takes : (line : List ℕ) (f : Form) → text_form line ≡ Some f → FormTaken (codes "text") line f
unfolding text_form
text_takes line f e =
    let lengths = bind_some (span_at line) _ f e in
    let rest = bind_some (behind_word (codes "of") lengths.0.2) _ f lengths.2 in
    let alphabet = bind_some (literal_word_at rest.0) _ f rest.2 in
    let end = end_takes (text lengths.0.0 lengths.0.1 alphabet.0.0) alphabet.0.1 f alphabet.2 in
    let first = span_at_takes line lengths.0 lengths.1 in
    let second = literal_word_takes rest.0 alphabet.0 alphabet.1 in
    subst (FormTaken (codes "text") line) end.1
    (_, refl, (lengths.0.2, first.0, (rest.0, word_takes (codes "of") lengths.0.2 rest.0 rest.1, (alphabet.0.1, second, end.0))), first.1)

-- one of two ways
by_word : (word other line : List ℕ) (o p : Option Form) (f : Form) → cond (same_bytes word other) o p ≡ Some f → (o ≡ Some f → FormTaken other line f) → (p ≡ Some f → FormTaken word line f) → FormTaken word line f
by_word word other line o p f e here there = elim (cases_Bool (same_bytes word other)) [
  | inl same ↦ subst (λ w. FormTaken w line f) (sym ((bytes_eq-Decides word other).0 same)) (here (rw same at e))
  | inr differ ↦ there (rw differ at e)
]

behind_takes : (word line : List ℕ) (f : Form) → form_behind word line ≡ Some f → FormTaken word line f
behind_takes word line f e =
    by_word word (codes "int") line _ _ f e (int_takes line f) (λ e1.
    by_word word (codes "bool") line _ _ f e1 (bool_takes line f) (λ e2.
    by_word word (codes "list") line _ _ f e2 (list_takes line f) (λ e3.
    by_word word (codes "text") line _ _ f e3 (text_takes line f) (λ e4. absurd cc))))

form_takes : (line : List ℕ) (f : Form) → form_at line ≡ Some f → Carries line (form_words f) × (is_proper_form f ≡ true)
unfolding form_at
form_takes line f e =
    let w = bind_some (plain_at line) _ f e in
    let taken = behind_takes w.0.0 w.0.1 f w.2 in
    (subst (Carries line) (sym taken.1) (w.0.1, plain_takes line w.0 w.1, taken.2), taken.3)

form_again : (line : List ℕ) (f : Form) → Carries line (form_words f) → is_proper_form f ≡ true → form_at line ≡ Some f
unfolding form_at int_form list_form text_form
form_again line (int low high) c h =
    rw (plain_again line (codes "int") c.0 c.1, span_at_again c.0 low high c.2.0 c.2.1 h, c.2.2) refl
form_again line bool c h = rw (plain_again line (codes "bool") c.0 c.1, c.2) refl
form_again line (list least most low high) c h =
    let both = and_parts (is_short least && is_short most) (is_short low && is_short high) h in
    let of = c.2.2 in
    rw (plain_again line (codes "list") c.0 c.1, span_at_again c.0 least most c.2.0 c.2.1 both.0, word_again (codes "of") c.2.0 of.0 of.1, span_at_again of.0 low high of.2.0 of.2.1 both.1, of.2.2) refl
form_again line (text least most alphabet) c h =
    let of = c.2.2 in
    rw (plain_again line (codes "text") c.0 c.1, span_at_again c.0 least most c.2.0 c.2.1 h, word_again (codes "of") c.2.0 of.0 of.1, literal_word_again of.0 alphabet of.2.0 of.2.1, of.2.2) refl

param_takes : (line : List ℕ) (x : List ℕ × Form) → param_line line ≡ Some x → Carries line (item_words (param x.0 x.1)) × (is_proper (param x.0 x.1) ≡ true)
unfolding param_line param_name
param_takes line x e =
    let n = bind_some (param_name line) _ x e in
    let rest = bind_some (behind_word (codes "param") line) name_at n.0 n.1 in
    let f = bind_some (form_at n.0.1) _ x n.2 in
    let is : ◌≡◌ {A = List ℕ × Form} (n.0.0, f.0) x = cc in
    let name = name_takes rest.0 n.0 rest.2 in
    let form = form_takes n.0.1 f.0 f.1 in
    subst (λ (y : List ℕ × Form). Carries line (item_words (param y.0 y.1)) × (is_proper (param y.0 y.1) ≡ true)) is
    ((rest.0, word_takes (codes "param") line rest.0 rest.1, (n.0.1, name.0, form.0)), and_from _ _ name.1 form.1)

param_again : (line x : List ℕ) (f : Form) → Carries line (item_words (param x f)) → is_proper (param x f) ≡ true → param_line line ≡ Some (x, f)
unfolding param_line param_name
param_again line x f c h =
    let both = and_parts (is_plain_name x) (is_proper_form f) h in
    rw (word_again (codes "param") line c.0 c.1, name_again c.0 x c.2.0 c.2.1 both.0, form_again c.2.0 f c.2.2 both.1) refl

compare_takes : (line : List ℕ) (z : ℤ) → compare_line line ≡ Some z → Carries line (item_words (compare z)) × (is_short z ≡ true)
unfolding compare_line
compare_takes line z e =
    let rest = bind_some (behind_word (codes "compare") line) (number_line (codes "printed")) z e in
    let number = number_line_takes (codes "printed") rest.0 z rest.2 in
    ((rest.0, word_takes (codes "compare") line rest.0 rest.1, number.0), number.1)

compare_again : (line : List ℕ) (z : ℤ) → Carries line (item_words (compare z)) → is_short z ≡ true → compare_line line ≡ Some z
unfolding compare_line
compare_again line z c h =
    rw (word_again (codes "compare") line c.0 c.1, number_line_again (codes "printed") c.0 z c.2 h) refl

-- the line of a parameter says nothing of what is compared
param_not_compare : (line x : List ℕ) (f : Form) → Carries line (item_words (param x f)) → compare_line line ≡ None
unfolding compare_line behind_word
param_not_compare line x f c = rw (plain_again line (codes "param") c.0 c.1) refl

compare_or_param_takes : (line : List ℕ) (o : Option ℤ) (i : Item) → compare_line line ≡ o → compare_or_param o line ≡ Some i → SpellsItem place.Param line i
compare_or_param_takes line (Some z) i is e =
    let taken = compare_takes line z is in
    let same : compare z ≡ i = cc in
    subst (SpellsItem place.Param line) same (record { words = taken.0; proper = taken.1; place = refl })
compare_or_param_takes line None i is e =
    let x = map_some (λ x. param x.0 x.1) (param_line line) i e in
    let taken = param_takes line x.0 x.1 in
    subst (SpellsItem place.Param line) x.2 (record { words = taken.0; proper = taken.1; place = refl })

-- items

number_item : (p : Place) (word line : List ℕ) (make : ℤ → Item) → ((z : ℤ) → item_words (make z) ≡ plain word ∷ number_word z ∷ []) → ((z : ℤ) → is_proper (make z) ≡ is_short z) → ((z : ℤ) → place_of (make z) ≡ p)
    → (i : Item) → option_map make (number_line word line) ≡ Some i → SpellsItem p line i
number_item p word line make words proper place i e =
    let z = map_some make (number_line word line) i e in
    let taken = number_line_takes word line z.0 z.1 in
    subst (SpellsItem p line) z.2
    (record { words = subst (Carries line) (sym (words z.0)) taken.0; proper = proper z.0 ∙ taken.1; place = place z.0 })

pub item_takes : (p : Place) (line : List ℕ) (i : Item) → item_at p line ≡ Some i → SpellsItem p line i
unfolding item_at
item_takes place.Width line i e = number_item place.Width (codes "width") line width (λ z. refl) (λ z. refl) (λ z. refl) i e
item_takes place.Turns line i e = number_item place.Turns (codes "turns") line turns (λ z. refl) (λ z. refl) (λ z. refl) i e
item_takes place.Depth line i e = number_item place.Depth (codes "depth") line depth (λ z. refl) (λ z. refl) (λ z. refl) i e
item_takes place.Cap line i e = number_item place.Cap (codes "cap") line cap (λ z. refl) (λ z. refl) (λ z. refl) i e
item_takes place.Entry line i e =
    let x = map_some entry (entry_line line) i e in
    let taken = entry_takes line x.0 x.1 in
    subst (SpellsItem place.Entry line) x.2 (record { words = taken.0; proper = taken.1; place = refl })
item_takes place.Param line i e = compare_or_param_takes line (compare_line line) i refl e
item_takes place.End line i e = absurd cc

at_own_place : (line : List ℕ) (i : Item) → Carries line (item_words i) → is_proper i ≡ true → item_at (place_of i) line ≡ Some i
unfolding item_at
at_own_place line (width z) c h = rw (number_line_again (codes "width") line z c h) refl
at_own_place line (turns z) c h = rw (number_line_again (codes "turns") line z c h) refl
at_own_place line (depth z) c h = rw (number_line_again (codes "depth") line z c h) refl
at_own_place line (cap z) c h = rw (number_line_again (codes "cap") line z c h) refl
at_own_place line (entry x) c h = rw (entry_again line x c h) refl
at_own_place line (param x f) c h = rw (param_not_compare line x f c, param_again line x f c h) refl
at_own_place line (compare z) c h = rw (compare_again line z c h) refl

pub item_again : (p : Place) (line : List ℕ) (i : Item) → SpellsItem p line i → item_at p line ≡ Some i
item_again p line i s = subst (λ q. item_at q line ≡ Some i) s.place (at_own_place line i s.words s.proper)

first_word : (i : Item) → (w : Word) × (ws : List Word) × (item_words i ≡ w ∷ ws)
first_word (width z) = (_, _, refl)
first_word (turns z) = (_, _, refl)
first_word (depth z) = (_, _, refl)
first_word (cap z) = (_, _, refl)
first_word (entry x) = (_, _, refl)
first_word (param x f) = (_, _, refl)
first_word (compare z) = (_, _, refl)

-- a line that spells an item carries something
pub item_words_some : (p : Place) (line : List ℕ) (i : Item) → SpellsItem p line i → carries_nothing line ≡ false
item_words_some p line i s =
    let w = first_word i in
    let c : Carries line (w.0 ∷ w.1) = subst (Carries line) w.2 s.words in
    not_nothing line w.0 c.0 c.1
