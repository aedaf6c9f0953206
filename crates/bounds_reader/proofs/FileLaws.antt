-- Lines and the items that they spell, one line after another.
use Rattle.std.proofs.Common.{◌≡◌, ◌<◌, ◌≤◌, ◌+◌, ℕ, true, false, List, [], ◌∷◌, ◌++◌, length, None, Some, refl, sym, ap, subst, ◌∙◌, append-nil, add-zero, map, take, drop, get_or, option_map, arith}
use Rattle.std.proofs.lemmas.List.{take-append-drop, map-append, drop_more, length-map, length-take-le}
use Rattle.bounds_reader.specs.declared.place.Place.{Place}
use Rattle.bounds_reader.specs.declared.place.Place.TheVariants as place
use Rattle.bounds_reader.specs.declared.file.File.{File}
use Rattle.bounds_reader.specs.Words.{carries_nothing}
use Rattle.bounds_reader.specs.Items.{Item, behind}
use Rattle.bounds_reader.specs.Reading.{item_at}
use Rattle.bounds_reader.specs.Files.{On, on, BoundsFile, SpellItems, no_lines, no_words, an_item, param_items, compare_items, first_items, items_of, place_behind, IsUnexpected, HasSyntaxFault, unexpected, missing}
use Rattle.bounds_reader.specs.Views.{said, seen, number_line, file_view, is_whole, HasOrder, AreDue, IsTaken}
use Rattle.bounds_reader.proofs.ItemLaws.{item_takes, item_again}

pub nothing_taken : (f : File) (n : ℕ) (line : List ℕ) → carries_nothing line ≡ true → HasOrder f → IsTaken f f n line
nothing_taken f n line h order = record {
  items = [];
  spelled = no_words f.due n line [] [] h (no_lines f.due (n + 1));
  due = refl;
  seen = sym (append-nil (seen f));
  order = order;
}

pub item_taken : (old new : File) (n : ℕ) (line : List ℕ) (i : Item) → item_at old.due line ≡ Some i → new.due ≡ behind i → seen new ≡ seen old ++ on n i ∷ [] → HasOrder new → IsTaken old new n line
item_taken old new n line i read due is order = record {
  items = on n i ∷ [];
  spelled = an_item old.due n line [] i [] (item_takes old.due line i read) (no_lines (behind i) (n + 1));
  due = due;
  seen = is;
  order = order;
}

pub none_expected : (p : Place) (line : List ℕ) → carries_nothing line ≡ false → item_at p line ≡ None → IsUnexpected p line
none_expected p line some none = record {
  words = some;
  no_item = λ i s. let read = item_again p line i s in absurd cc;
}

pub spelled_more : (p : Place) (n m : ℕ) (ls ms : List (List ℕ)) (is js : List (On Item)) → SpellItems p n ls is → m ≡ n + length ls → SpellItems (place_behind p is) m ms js → SpellItems p n (ls ++ ms) (is ++ js)
spelled_more p n m [] ms is js (no_lines _ _) e more = subst (λ k. SpellItems p k ms js) (e ∙ add-zero n) more
spelled_more p n m (l ∷ ls) ms is js (no_words _ _ _ _ _ h rest) e more =
    no_words p n l (ls ++ ms) (is ++ js) h (spelled_more p (n + 1) m ls ms is js rest (omega arith) more)
spelled_more p n m (l ∷ ls) ms (_ ∷ is) js (an_item _ _ _ _ i _ h rest) e more =
    an_item p n l (ls ++ ms) i (is ++ js) h (spelled_more (behind i) (n + 1) m ls ms is js rest (omega arith) more)

pub place_more : (p : Place) (is js : List (On Item)) → place_behind p (is ++ js) ≡ place_behind (place_behind p is) js
place_more p [] js = refl
place_more p (i ∷ is) js = place_more (behind i.value) is js

-- what the lines so far spell
pub record IsFileOf (ls : List (List ℕ)) (f : File) : Type 0 where
  pub spelled : SpellItems place.Width 1 ls (seen f)
  pub due : f.due ≡ place_behind place.Width (seen f)
  pub order : HasOrder f

pub file_more : (ls : List (List ℕ)) (n : ℕ) (l : List ℕ) (old new : File) → IsFileOf ls old → n ≡ length ls + 1 → IsTaken old new n l → IsFileOf (ls ++ l ∷ []) new
file_more ls n l old new so_far e taken = record {
  spelled = subst (SpellItems place.Width 1 (ls ++ l ∷ [])) (sym taken.seen)
      (spelled_more place.Width 1 n ls (l ∷ []) (seen old) taken.items so_far.spelled (omega arith)
      (subst (λ p. SpellItems p n (l ∷ []) taken.items) so_far.due taken.spelled));
  due = taken.due ∙ ap (λ p. place_behind p taken.items) so_far.due ∙ sym (place_more place.Width (seen old) taken.items) ∙ ap (place_behind place.Width) (sym taken.seen);
  order = taken.order;
}

pub line_unexpected : (all ls : List (List ℕ)) (l : List ℕ) (rest : List (List ℕ)) (n : ℕ) (f : File) → all ≡ ls ++ l ∷ rest → IsFileOf ls f → n ≡ length ls + 1 → IsUnexpected f.due l → HasSyntaxFault all n
line_unexpected all ls l rest n f cut so_far e h =
    subst (HasSyntaxFault all) (sym e) (unexpected ls l rest (seen f) cut so_far.spelled (subst (λ p. IsUnexpected p l) so_far.due h))

few_said : (p : Place) (f : BoundsFile) → is_whole p ≡ false → length (said p f) < 5
few_said place.Width f h = omega arith
few_said place.Turns f h = omega arith
few_said place.Depth f h = omega arith
few_said place.Cap f h = omega arith
few_said place.Entry f h = omega arith
few_said place.Param f h = absurd cc
few_said place.End f h = absurd cc

pub lines_missing : (ls : List (List ℕ)) (f : File) → IsFileOf ls f → is_whole f.due ≡ false → HasSyntaxFault ls (length ls + 1)
lines_missing ls f so_far h = missing (seen f) so_far.spelled (few_said f.due (file_view f) h)

-- where nothing is compared the parameters are the last items
uncompared : (f : BoundsFile) → f.compared ≡ None → first_items f (param_items f.params) ≡ items_of f
uncompared f none =
    ap (first_items f)
    (sym (append-nil (param_items f.params)) ∙ ap (λ z. param_items f.params ++ compare_items z) (sym none))

whole_said : (f : File) (p : Place) → is_whole p ≡ true → AreDue p f.params.items f.compared → said p (file_view f) ≡ items_of (file_view f)
whole_said f place.Width h order = absurd cc
whole_said f place.Turns h order = absurd cc
whole_said f place.Depth h order = absurd cc
whole_said f place.Cap h order = absurd cc
whole_said f place.Entry h order = absurd cc
whole_said f place.Param h order = uncompared (file_view f) (ap (option_map number_line) order)
whole_said f place.End h order = refl

pub whole_file : (ls : List (List ℕ)) (f : File) → IsFileOf ls f → is_whole f.due ≡ true → SpellItems place.Width 1 ls (items_of (file_view f))
whole_file ls f so_far h = subst (SpellItems place.Width 1 ls) (whole_said f f.due h so_far.order) so_far.spelled

pub start_file : (f : File) → f.due ≡ place.Width → f.params.items ≡ [] → f.compared ≡ None → IsFileOf [] f
start_file f due empty uncompared =
    let none : seen f ≡ [] = ap (λ p. said p (file_view f)) due in
    record {
      spelled = subst (SpellItems place.Width 1 []) (sym none) (no_lines place.Width 1);
      due = due ∙ ap (place_behind place.Width) (sym none);
      order = subst (λ p. AreDue p f.params.items f.compared) (sym due) (empty, uncompared);
    }

-- the lines before one, and those behind it
pub cut_at : {X : Type 0} (f : X → List ℕ) (xs : List X) (i : ℕ) (d : X) → i < length xs → map f xs ≡ map f (take i xs) ++ f (get_or xs i d) ∷ map f (drop (i + 1) xs)
cut_at f xs i d h =
    ap (map f) (sym (take-append-drop i xs)) ∙ map-append f (take i xs) (drop i xs)
    ∙ ap (λ t. map f (take i xs) ++ map f t) (drop_more xs i d h)

pub length_front : {X : Type 0} (f : X → List ℕ) (xs : List X) (i : ℕ) → i ≤ length xs → length (map f (take i xs)) ≡ i
length_front f xs i h = length-map (take i xs) f ∙ length-take-le i xs h
