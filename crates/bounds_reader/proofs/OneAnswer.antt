-- A text spells one file at most, and has one fault of syntax at most, and not both.
use Rattle.std.proofs.Common.{◌≡◌, ◌<◌, ◌≤◌, ◌+◌, ℕ, Bool, true, false, List, [], ◌∷◌, ◌++◌, length, map, Option, None, Some, refl, sym, ap, subst, ◌∙◌, ℤ, pos, inl, inr, add-zero, arith}
use Rattle.std.specs.Prelude.{nat_abs}
use Rattle.std.proofs.Math.Bridge.{le_prop}
use Rattle.std.proofs.Math.Bool.{Bool-set}
use Rattle.mpy_tree.specs.NameLengths.{is_long}
use Rattle.bounds_reader.specs.Ranges.{are_in_range}
use Rattle.std.proofs.lemmas.Bool.{cases_order, false≢true}
use Rattle.mpy_tree.specs.declared.limits.Limits.{Limits}
use Rattle.bounds_reader.specs.declared.params.Param.{Param}
use Rattle.bounds_reader.specs.declared.params.Param.TheVariants as param
use Rattle.bounds_reader.specs.declared.place.Place.{Place}
use Rattle.bounds_reader.specs.declared.place.Place.TheVariants as place
use Rattle.bounds_reader.specs.declared.bounds.Bounds.{Bounds}
use Rattle.bounds_reader.specs.Forms.{Form, int, bool, list, text, form_of}
use Rattle.bounds_reader.specs.Items.{Item, width, turns, depth, cap, entry, param as parameter, compare, behind, SpellsItem}
use Rattle.bounds_reader.specs.Files.{On, on, ParamLine, BoundsFile, SpellItems, no_lines, no_words, an_item, param_items, compare_items, items_of, place_behind, IsUnexpected, HasSyntaxFault, unexpected, missing, SayPrints, Says}
use Rattle.bounds_reader.proofs.ItemLaws.{item_again, item_words_some}

-- a line spells one item at most
same_item : (p : Place) (l : List ℕ) (i j : Item) → SpellsItem p l i → SpellsItem p l j → i ≡ j
same_item p l i j s t = let a = item_again p l i s in let b = item_again p l j t in cc

pub one_spelling : (p : Place) (n : ℕ) (ls : List (List ℕ)) (is js : List (On Item)) → SpellItems p n ls is → SpellItems p n ls js → is ≡ js
one_spelling p n [] is js (no_lines _ _) (no_lines _ _) = refl
one_spelling p n (l ∷ ls) is js (no_words _ _ _ _ _ h rest) (no_words _ _ _ _ _ g more) = one_spelling p (n + 1) ls is js rest more
one_spelling p n (l ∷ ls) is (_ ∷ js) (no_words _ _ _ _ _ h rest) (an_item _ _ _ _ j _ s more) = absurd (false≢true (sym (item_words_some p l j s) ∙ h))
one_spelling p n (l ∷ ls) (_ ∷ is) js (an_item _ _ _ _ i _ s rest) (no_words _ _ _ _ _ h more) = absurd (false≢true (sym (item_words_some p l i s) ∙ h))
one_spelling p n (l ∷ ls) (_ ∷ is) (_ ∷ js) (an_item _ _ _ _ i _ s rest) (an_item _ _ _ _ j _ t more) =
    let same = same_item p l i j s t in
    let others = one_spelling (behind i) (n + 1) ls is js rest (subst (λ k. SpellItems (behind k) (n + 1) ls js) (sym same) more) in
    ap (λ k. on n k ∷ is) same ∙ ap (λ (ks : List (On Item)). on n j ∷ ks) others

-- what is spelled by the lines before, and by those after them
pub record Parts (p : Place) (n : ℕ) (before later : List (List ℕ)) (is : List (On Item)) : Type 0 where
  pub front : List (On Item)
  pub back : List (On Item)
  pub first : SpellItems p n before front
  pub second : SpellItems (place_behind p front) (n + length before) later back

pub parts_of : (p : Place) (n : ℕ) (before later : List (List ℕ)) (is : List (On Item)) → SpellItems p n (before ++ later) is → Parts p n before later is
parts_of p n [] later is s = record { front = []; back = is; first = no_lines p n; second = subst (λ k. SpellItems p k later is) (sym (add-zero n)) s }
parts_of p n (l ∷ before) later is (no_words _ _ _ _ _ h rest) =
    let more = parts_of p (n + 1) before later is rest in
    record { front = more.front; back = more.back; first = no_words p n l before more.front h more.first; second = subst (λ k. SpellItems (place_behind p more.front) k later more.back) (omega arith) more.second }
parts_of p n (l ∷ before) later (_ ∷ is) (an_item _ _ _ _ i _ s rest) =
    let more = parts_of (behind i) (n + 1) before later is rest in
    record { front = on n i ∷ more.front; back = more.back; first = an_item p n l before i more.front s more.first; second = subst (λ k. SpellItems (place_behind (behind i) more.front) k later more.back) (omega arith) more.second }

refused_line : (p : Place) (n : ℕ) (l : List ℕ) (rest : List (List ℕ)) (is : List (On Item)) → IsUnexpected p l → SpellItems p n (l ∷ rest) is → ⊥
refused_line p n l rest is u (no_words _ _ _ _ _ h more) = false≢true (sym u.words ∙ h)
refused_line p n l rest (_ ∷ is) u (an_item _ _ _ _ i _ s more) = u.no_item i s

-- lines with one that isn't expected spell nothing
pub not_spelled : (before : List (List ℕ)) (l : List ℕ) (rest : List (List ℕ)) (is js : List (On Item)) → SpellItems place.Width 1 before is → IsUnexpected (place_behind place.Width is) l → SpellItems place.Width 1 (before ++ l ∷ rest) js → ⊥
not_spelled before l rest is js s u all =
    let parts = parts_of place.Width 1 before (l ∷ rest) js all in
    let same = one_spelling place.Width 1 before is parts.front s parts.first in
    refused_line (place_behind place.Width parts.front) (1 + length before) l rest parts.back (subst (λ ks. IsUnexpected (place_behind place.Width ks) l) same u) parts.second

-- of two places in a list the later has the earlier before it
before_it : {X : Type 0} (xs bs : List X) (a b : X) (ar br : List X) → xs ++ a ∷ ar ≡ bs ++ b ∷ br → length xs < length bs → (more : List X) × (bs ≡ xs ++ a ∷ more)
before_it [] [] a b ar br e h = absurd (omega arith)
before_it [] (c ∷ bs) a b ar br e h = let same : c ≡ a = cc in (bs, ap (λ x. x ∷ bs) same)
before_it (c ∷ xs) [] a b ar br e h = absurd (omega arith)
before_it (c ∷ xs) (d ∷ bs) a b ar br e h =
    let same : d ≡ c = cc in
    let rest : xs ++ a ∷ ar ≡ bs ++ b ∷ br = cc in
    let more = before_it xs bs a b ar br rest (omega arith) in
    (more.0, ap (λ x. x ∷ bs) same ∙ ap (λ zs. c ∷ zs) more.1)

earlier : (ls xs bs : List (List ℕ)) (a b : List ℕ) (ar br : List (List ℕ)) (is js : List (On Item)) → ls ≡ xs ++ a ∷ ar → ls ≡ bs ++ b ∷ br → SpellItems place.Width 1 xs is → IsUnexpected (place_behind place.Width is) a → SpellItems place.Width 1 bs js → length xs < length bs → ⊥
earlier ls xs bs a b ar br is js e f s u t h =
    let more = before_it xs bs a b ar br (sym e ∙ f) h in
    not_spelled xs a more.0 is js s u (subst (λ zs. SpellItems place.Width 1 zs js) more.1 t)

pub one_syntax_fault : (ls : List (List ℕ)) (m n : ℕ) → HasSyntaxFault ls m → HasSyntaxFault ls n → m ≡ n
one_syntax_fault ls m n (unexpected xs a ar is e s u) (unexpected bs b br js f t v) = elim (cases_order (length xs) (length bs)) [
  | inl same ↦ ap (λ k. k + 1) same
  | inr other ↦ elim other [
    | inl less ↦ absurd (earlier ls xs bs a b ar br is js e f s u t less)
    | inr more ↦ absurd (earlier ls bs xs b a br ar js is f e t v s more)
  ]
]
one_syntax_fault ls m n (unexpected xs a ar is e s u) (missing js t few) = absurd (not_spelled xs a ar is js s u (subst (λ zs. SpellItems place.Width 1 zs js) e t))
one_syntax_fault ls m n (missing is s few) (unexpected bs b br js f t v) = absurd (not_spelled bs b br js is t v (subst (λ zs. SpellItems place.Width 1 zs is) f s))
one_syntax_fault ls m n (missing is s few) (missing js t less) = refl

pub spelled_without_fault : (ls : List (List ℕ)) (f : BoundsFile) (n : ℕ) → SpellItems place.Width 1 ls (items_of f) → HasSyntaxFault ls n → ⊥
spelled_without_fault ls f n s (unexpected before l rest is e t u) = not_spelled before l rest is (items_of f) t u (subst (λ xs. SpellItems place.Width 1 xs (items_of f)) e s)
spelled_without_fault ls f n s (missing is t few) =
    let same = ap length (one_spelling place.Width 1 ls is (items_of f) t s) in
    omega (arith, same)

-- the file of some items
abbrev number_in : Item → ℤ
number_in (width z) = z
number_in (turns z) = z
number_in (depth z) = z
number_in (cap z) = z
number_in (compare z) = z
number_in _ = pos 0

abbrev name_in : Item → List ℕ
name_in (entry x) = x
name_in _ = []

abbrev with_param : ℕ → Item → List (On ParamLine) → List (On ParamLine)
with_param line (parameter x f) ps = on line (record { name = x; form = f }) ∷ ps
with_param line _ ps = ps

abbrev with_compared : ℕ → Item → Option (On ℤ) → Option (On ℤ)
with_compared line (compare z) o = Some (on line z)
with_compared line _ o = o

abbrev params_in : List (On Item) → List (On ParamLine)
params_in [] = []
params_in (i ∷ is) = with_param i.line i.value (params_in is)

abbrev compared_in : List (On Item) → Option (On ℤ)
compared_in [] = None
compared_in (i ∷ is) = with_compared i.line i.value (compared_in is)

abbrev file_in : List (On Item) → BoundsFile → BoundsFile
file_in (a ∷ b ∷ c ∷ d ∷ e ∷ rest) other = record {
  width = on a.line (number_in a.value);
  turns = on b.line (number_in b.value);
  depth = on c.line (number_in c.value);
  cap = on d.line (number_in d.value);
  entry = on e.line (name_in e.value);
  params = params_in rest;
  compared = compared_in rest;
}
file_in _ other = other

params_back : (ps : List (On ParamLine)) (o : Option (On ℤ)) → params_in (param_items ps ++ compare_items o) ≡ ps
params_back [] None = refl
params_back [] (Some z) = refl
params_back (p ∷ ps) o = ap (λ (qs : List (On ParamLine)). p ∷ qs) (params_back ps o)

compared_back : (ps : List (On ParamLine)) (o : Option (On ℤ)) → compared_in (param_items ps ++ compare_items o) ≡ o
compared_back [] None = refl
compared_back [] (Some z) = refl
compared_back (p ∷ ps) o = compared_back ps o

file_back : (f other : BoundsFile) → file_in (items_of f) other ≡ f
file_back f other =
    ap (λ ps. record f { params = ps; compared = compared_in (param_items f.params ++ compare_items f.compared) }) (params_back f.params f.compared)
    ∙ ap (λ o. record f { compared = o }) (compared_back f.params f.compared)

pub one_file : (ls : List (List ℕ)) (f g : BoundsFile) → SpellItems place.Width 1 ls (items_of f) → SpellItems place.Width 1 ls (items_of g) → f ≡ g
one_file ls f g s t =
    sym (file_back f f) ∙ ap (λ is. file_in is f) (one_spelling place.Width 1 ls (items_of f) (items_of g) s t) ∙ file_back g f

-- one file says one bounds

same_pos : (a b : ℕ) → pos a ≡ pos b → a ≡ b
same_pos a b e = cc

-- what is made of a value and a fact is the same, whatever the proof of the fact
over : {A B : Type 0} (R : A → Type 0) (f : (x : A) → R x → B) → ((x : A) → IsProp (R x)) → (x y : A) → x ≡ y → (p : R x) (q : R y) → f x p ≡ f y q
over {A} {B} R f one x y e p q = subst (λ (z : A). (r : R z) → f x p ≡ f z r) e (λ r. ap (f x) (one x p r)) q

abbrev pub Five : Type 0
Five = ℕ × ℕ × ℕ × ℕ × ℕ

abbrev pub AreRanges : Five → Type 0
AreRanges n =
    ((3 ≤ n.0) × (n.0 ≤ 16)) × ((1 ≤ n.1) × (n.1 ≤ 32)) × ((1 ≤ n.2) × (n.2 ≤ 8)) × ((1 ≤ n.3) × (n.3 ≤ 16)) × (n.4 ≤ 8)

abbrev pub limits_of : (n : Five) → AreRanges n → Limits
limits_of n r = record {
  width = n.0;
  turns = n.1;
  depth = n.2;
  cap = n.3;
  prints = n.4;
  width_range = r.0;
  turns_range = r.1;
  depth_range = r.2;
  cap_range = r.3;
  prints_range = r.4;
}

one_range : (n : Five) → IsProp (AreRanges n)
one_range n = hlevel le_prop

same_five : (a b c d e v w x y z : ℕ) → a ≡ v → b ≡ w → c ≡ x → d ≡ y → e ≡ z → ◌≡◌ {A = Five} (a, b, c, d, e) (v, w, x, y, z)
same_five a b c d e v w x y z p q r s t = cc

same_limits : (a b : Limits) → a.width ≡ b.width → a.turns ≡ b.turns → a.depth ≡ b.depth → a.cap ≡ b.cap → a.prints ≡ b.prints → a ≡ b
same_limits a b w t d c p =
    over AreRanges limits_of one_range (a.width, a.turns, a.depth, a.cap, a.prints) (b.width, b.turns, b.depth, b.cap, b.prints)
    (same_five _ _ _ _ _ _ _ _ _ _ w t d c p)
    (a.width_range, a.turns_range, a.depth_range, a.cap_range, a.prints_range) (b.width_range, b.turns_range, b.depth_range, b.cap_range, b.prints_range)

abbrev pub form_back : Form → Param
form_back (int low high) = param.Int low high
form_back bool = param.Bool
form_back (list least most low high) = param.List (nat_abs least) (nat_abs most) low high
form_back (text least most alphabet) = param.Text (nat_abs least) (nat_abs most) alphabet

back_again : (p : Param) → form_back (form_of p) ≡ p
back_again (param.Int low high) = refl
back_again param.Bool = refl
back_again (param.List least most low high) = refl
back_again (param.Text least most alphabet) = refl

all_back : (ps : List Param) → map form_back (map form_of ps) ≡ ps
all_back [] = refl
all_back (p ∷ ps) = ap (λ q. q ∷ map form_back (map form_of ps)) (back_again p) ∙ ap (λ (qs : List Param). p ∷ qs) (all_back ps)

same_params : (ps qs : List Param) → map form_of ps ≡ map form_of qs → ps ≡ qs
same_params ps qs e = sym (all_back ps) ∙ ap (map form_back) e ∙ all_back qs

abbrev Said : Type 0
Said = Limits × List ℕ × ℕ × List Param

abbrev AreKept : Said → Type 0
AreKept s = (is_long s.1 ≡ false) × (length s.3 ≤ 4) × (are_in_range s.0 s.3 ≡ true)

abbrev bounds_of : (s : Said) → AreKept s → Bounds
bounds_of s k = record {
  limits = s.0;
  entry = s.1;
  entry_line = s.2;
  params = s.3;
  short_entry = k.0;
  few_params = k.1;
  ranges = k.2;
}

one_keeping : (s : Said) → IsProp (AreKept s)
one_keeping s = hlevel (le_prop, Bool-set)

same_said : (a b : Limits) (x y : List ℕ) (m n : ℕ) (ps qs : List Param) → a ≡ b → x ≡ y → m ≡ n → ps ≡ qs → ◌≡◌ {A = Said} (a, x, m, ps) (b, y, n, qs)
same_said a b x y m n ps qs e f g h = cc

same_prints : (o : Option (On ℤ)) (m n : ℕ) → SayPrints o m → SayPrints o n → m ≡ n
same_prints None m n s t = s ∙ sym t
same_prints (Some z) m n s t = same_pos m n (sym s ∙ t)

pub one_meaning : (f : BoundsFile) (a b : Bounds) → Says f a → Says f b → a ≡ b
one_meaning f a b s t =
    let limits = same_limits a.limits b.limits
    (same_pos _ _ (sym s.limits.width ∙ t.limits.width)) (same_pos _ _ (sym s.limits.turns ∙ t.limits.turns))
    (same_pos _ _ (sym s.limits.depth ∙ t.limits.depth)) (same_pos _ _ (sym s.limits.cap ∙ t.limits.cap)) (same_prints f.compared _ _ s.limits.prints t.limits.prints) in
    over AreKept bounds_of one_keeping (a.limits, a.entry, a.entry_line, a.params) (b.limits, b.entry, b.entry_line, b.params)
    (same_said _ _ _ _ _ _ _ _ limits (sym s.entry ∙ t.entry) (sym s.entry_line ∙ t.entry_line) (same_params _ _ (sym s.params ∙ t.params)))
    (a.short_entry, a.few_params, a.ranges) (b.short_entry, b.few_params, b.ranges)
