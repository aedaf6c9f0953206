-- What is kept of printed values: its forms, its words and what they read as.
use Rattle.std.proofs.Common.{◌≡◌, ℕ, zero, suc, ◌+◌, ◌*◌, ◌<◌, ◌≤◌, Bool, true, false, cond}
use Rattle.std.proofs.Common.{eqb, ltb, min, List, [], ◌∷◌, ◌++◌, map, take, drop, set, length}
use Rattle.std.proofs.Common.{replicate, Option, Some, None, refl, sym, ap, ◌∙◌, subst, arith}
use Rattle.std.proofs.Common.{Decides, not}
use Rattle.std.specs.Prelude.{◌&&◌, ⊤, slice_get}
use Rattle.std.specs.List.{list_all}
use Rattle.std.proofs.lemmas.Bool.{and_from, and_parts, both_ways, le-leb}
use Rattle.std.proofs.lemmas.Bool.{leb-true}
use Rattle.std.proofs.lemmas.Bool.Decides.{Decides-eqb, Decides-ltb}
use Rattle.std.proofs.lemmas.List.{append_assoc, drop-map, length-append, length-map}
use Rattle.std.proofs.lemmas.List.{length-set, length-take, length-take-le, map-append}
use Rattle.std.proofs.lemmas.List.{map_push, take-map}
use Rattle.std.proofs.lemmas.List.{take-append-drop}
use Rattle.std.proofs.lemmas.List.Folds.{list_all-append}
use Rattle.std.proofs.Math.Seq.{drop-append_seam, take-append_seam}
use Rattle.mpy_tree.specs.declared.limits.Limits.{Limits}
use Rattle.mpy_tree.specs.declared.outcome.FaultKind.TheVariants.{Length}
use Rattle.mpy_tree.specs.declared.outcome.Halted.{Halted}
use Rattle.mpy_tree.specs.declared.value.Value.{Value}
use Rattle.mpy_tree.specs.Statements.{Next, Failed, printed, kept_in}
use Rattle.mpy_tree.specs.Values.{Locals, State, fault, same_bytes}
use Rattle.bit_words.specs.Bits.{differ}
use Rattle.bit_words.specs.Later.{owned_later, owns_both, owns_first, owns_second}
use Rattle.bit_words.specs.Logic.{Keeps, OwnsAll}
use Rattle.bit_words.specs.Words.{bit_value, nat_of}
use Rattle.bit_words.proofs.Kept.{owns_none}
use Rattle.sym_values.specs.declared.value.SymValue.{SymValue}
use Rattle.sym_values.specs.declared.value.SymValue.TheVariants as sym
use Rattle.sym_values.specs.Forms.{Form, IntForm, bits_of, form_for, form_of, forms_of}
use Rattle.sym_values.specs.Forms.{values_bits}
use Rattle.sym_values.specs.Owned.{owns_one, word_owned}
use Rattle.sym_values.specs.Printed.{print_width, word_spelled}
use Rattle.sym_values.specs.Reading.{Reading, map_bits, spelled, sure}
use Rattle.sym_paths.specs.declared.path.Path.{Path}
use Rattle.sym_paths.specs.declared.slots.Slots.{Slots}
use Rattle.sym_paths.specs.Kept.{with_printed, KeepsOneMore}
use Rattle.sym_paths.specs.Paths.{Arrival, Way, are_proper, arrival, gone_way, kept_proper}
use Rattle.sym_paths.specs.Paths.{number_fits, printed_in, reached, set_to, state_in, way}
use Rattle.sym_paths.specs.Paths.{word_in, words_kept}
use Rattle.sym_paths.specs.Paths.{HoldsKept, HoldsPath}
use Rattle.sym_paths.specs.Later.{holds_path, path_bit, path_set, path_values}
use Rattle.sym_paths.specs.Sights.{state_next}
use Rattle.sym_paths.specs.Slots.{kept_by, local_forms, print_forms, slot_forms}
use Rattle.sym_paths.proofs.Keeping.{kept_forms, not_zero, owns_drop}
use Rattle.sym_paths.proofs.Arrivals.{the_arrival, the_state, same_arrival, same_state}

-- lists
pub drop_at : {A : Type 0} (xs : List A) (i : ℕ) (x : A) → slice_get xs i ≡ Some x
    → drop i xs ≡ x ∷ drop (i + 1) xs
drop_at [] i x e = cc
drop_at (y ∷ ys) zero x e = let same : y ≡ x = cc in ap (λ z. z ∷ ys) same
drop_at (y ∷ ys) (suc i) x e =
    let n : suc i + 1 ≡ suc (i + 1) = omega arith in
    drop_at ys i x e ∙ ap (λ k. x ∷ drop k (y ∷ ys)) (sym n)

-- one thing more of those behind a place
pub behind_more : {A : Type 0} (xs out out' all : List A) (i : ℕ) (x : A)
    → out ++ drop i xs ≡ all → slice_get xs i ≡ Some x → out' ≡ out ++ x ∷ []
    → out' ++ drop (i + 1) xs ≡ all
behind_more xs out out' all i x h e p =
    ap (λ w. w ++ drop (i + 1) xs) p ∙ append_assoc out (x ∷ []) (drop (i + 1) xs)
    ∙ ap (λ w. out ++ w) (sym (drop_at xs i x e)) ∙ h

pub head_is : {A : Type 0} (xs : List A) (x : A) → slice_get xs 0 ≡ Some x → xs ≡ x ∷ drop 1 xs
head_is [] x e = cc
head_is (y ∷ ys) x e = let same : y ≡ x = cc in ap (λ z. z ∷ ys) same

next_place : {A : Type 0} (xs : List A) (i : ℕ) → slice_get xs (1 + i) ≡ slice_get xs (suc i)
next_place xs i = let n : 1 + i ≡ suc i = omega arith in ap (slice_get xs) n

pub next_at : {A : Type 0} (xs : List A) (i : ℕ) (x : A) → slice_get xs (1 + i) ≡ Some x
    → slice_get (drop 1 xs) i ≡ Some x
next_at [] i x e = cc
next_at (y ∷ ys) i x e = sym (next_place (y ∷ ys) i) ∙ e

-- a thing of a list in which another is put
put_same : {A : Type 0} (xs : List A) (i : ℕ) (w x : A) → slice_get xs i ≡ Some x
    → slice_get (set xs i w) i ≡ Some w
put_same [] i w x e = cc
put_same (y ∷ ys) zero w x e = refl
put_same (y ∷ ys) (suc i) w x e = put_same ys i w x e

put_other : {A : Type 0} (xs : List A) (n i : ℕ) (w : A) → (n ≡ i → ⊥)
    → slice_get (set xs n w) i ≡ slice_get xs i
put_other [] n i w h = refl
put_other (y ∷ ys) zero zero w h = absurd (h refl)
put_other (y ∷ ys) zero (suc i) w h = refl
put_other (y ∷ ys) (suc n) zero w h = refl
put_other (y ∷ ys) (suc n) (suc i) w h = put_other ys n i w (λ e. h (ap suc e))

put_by : {A : Type 0} (xs : List A) (n i : ℕ) (w x : A) (t : Bool) → Decides t (n ≡ i)
    → slice_get xs i ≡ Some x → slice_get (set xs n w) i ≡ Some (cond t w x)
put_by xs n i w x true d e =
    ap (λ (k : ℕ). slice_get (set xs k w) i) (d.0 refl) ∙ put_same xs i w x e
put_by xs n i w x false d e = put_other xs n i w (λ h. both_ways false refl (d.1 h)) ∙ e

pub put_at : {A : Type 0} (xs : List A) (n i : ℕ) (w x : A) → slice_get xs i ≡ Some x
    → slice_get (set xs n w) i ≡ Some (cond (eqb n i) w x)
put_at xs n i w x e = put_by xs n i w x (eqb n i) (Decides-eqb n i) e

take_put : {A : Type 0} (n : ℕ) (xs : List A) (w : A) → n < length xs
    → take (suc n) (set xs n w) ≡ take n xs ++ w ∷ []
take_put n [] w h = absurd (omega arith)
take_put zero (x ∷ xs) w h = refl
take_put (suc n) (x ∷ xs) w h = ap (λ l. x ∷ l) (take_put n xs w (omega arith))

pub rest_long : {A : Type 0} (xs : List A) (n : ℕ) → length xs ≡ suc n → length (drop 1 xs) ≡ n
rest_long [] n e = absurd (omega (arith, e))
rest_long (x ∷ xs) n e = omega (arith, e)

-- the forms of what is kept
pub forms_some : (l : Limits) (n : ℕ) → 0 < n
    → print_forms l n ≡ IntForm 5 ∷ replicate n (IntForm (print_width l))
forms_some l zero h = absurd (omega arith)
forms_some l (suc n) h = refl

replicated : {A : Type 0} (n : ℕ) (a : A) (i : ℕ) (x : A) → slice_get (replicate n a) i ≡ Some x
    → x ≡ a
replicated zero a i x e = cc
replicated (suc n) a zero x e = let same : a ≡ x = cc in sym same
replicated (suc n) a (suc i) x e = replicated n a i x e

pub long_replicate : {A : Type 0} (n : ℕ) (a : A) → length (replicate n a) ≡ n
long_replicate zero a = refl
long_replicate (suc n) a = ap suc (long_replicate n a)

pub at_form : {B : Type 0} (xs : List (SymValue B)) (i : ℕ) (x : SymValue B)
    → slice_get xs i ≡ Some x → slice_get (forms_of xs) i ≡ Some (form_of x)
at_form [] i x e = cc
at_form (y ∷ ys) zero x e = let same : y ≡ x = cc in ap (λ z. Some (form_of z)) same
at_form (y ∷ ys) (suc i) x e = at_form ys i x e

printed_there : {B : Type 0} (m : Limits) (rd : B → Bool) (ps : List (SymValue B)) (f : Form)
    (fs : List Form) → forms_of ps ≡ f ∷ fs → printed_in m (map (map_bits rd) ps)
    ≡ Some (map (λ w. (word_spelled m w).value) (words_kept (map (map_bits rd) ps)))
printed_there m rd [] f fs e = cc
printed_there m rd (q ∷ qs) f fs e = refl

module _ {B : Type 0} (l : Limits) (n : ℕ) (some : 0 < n) (ps : List (SymValue B))
    (forms : forms_of ps ≡ print_forms l n) where
  all_forms : forms_of ps ≡ IntForm 5 ∷ replicate n (IntForm (print_width l))
  all_forms = forms ∙ forms_some l n some

  -- how much is kept
  pub kept_long : length ps ≡ suc n
  kept_long = sym (length-map ps form_of) ∙ ap length all_forms
      ∙ ap suc (long_replicate n (IntForm (print_width l)))

  pub number_form : (x : SymValue B) → slice_get ps 0 ≡ Some x → form_of x ≡ IntForm 5
  number_form x e =
      let one : Some (form_of x) ≡ Some (IntForm 5) =
      sym (at_form ps 0 x e) ∙ ap (λ fs. slice_get fs 0) all_forms in
      cc

  pub word_form : (i : ℕ) (x : SymValue B) → slice_get ps (1 + i) ≡ Some x
      → form_of x ≡ IntForm (print_width l)
  word_form i x e =
      let fs = IntForm 5 ∷ replicate n (IntForm (print_width l)) in
      replicated n (IntForm (print_width l)) i (form_of x)
      (sym (ap (λ gs. slice_get gs (1 + i)) all_forms ∙ next_place fs i)
      ∙ at_form ps (1 + i) x e)

  pub forms_behind : forms_of (drop 1 ps) ≡ replicate n (IntForm (print_width l))
  forms_behind = sym (drop-map form_of 1 ps) ∙ ap (drop 1) all_forms

  pub words_long : length (drop 1 ps) ≡ n
  words_long = rest_long ps n kept_long

  -- the printed values, where they are kept
  pub printed_some : (m : Limits) (rd : B → Bool) → printed_in m (map (map_bits rd) ps)
      ≡ Some (map (λ w. (word_spelled m w).value) (words_kept (map (map_bits rd) ps)))
  printed_some m rd = printed_there m rd ps (IntForm 5) _ all_forms

-- each thing that is kept behind the number is a word
pub any_word : {B : Type 0} (l : Limits) (n : ℕ) (ps : List (SymValue B)) (i : ℕ) (x : SymValue B)
    → forms_of ps ≡ print_forms l n → 1 ≤ i → slice_get ps i ≡ Some x
    → form_of x ≡ IntForm (print_width l)
any_word l n ps zero x e h k = absurd (omega arith)
any_word l zero [] (suc i) x e h k = cc
any_word l zero (p ∷ ps) (suc i) x e h k = cc
any_word l (suc n) ps (suc i) x e h k =
    word_form l (suc n) (omega arith) ps e i x (next_place ps i ∙ k)

-- the number that stands before the words
pub number_first : {B : Type 0} (ps : List (SymValue B)) (x : SymValue B) (w : List B)
    → slice_get ps 0 ≡ Some x → x ≡ sym.Int w → ps ≡ sym.Int w ∷ drop 1 ps
number_first ps x w e is = head_is ps x e ∙ ap (λ y. y ∷ drop 1 ps) is

few_number : (n : SymValue Bool) (ws : List (SymValue Bool))
    → length (words_kept (n ∷ ws)) < length ws → nat_of (word_in n) < length ws
few_number n ws h =
    let k = nat_of (word_in n) in
    let few : length (map word_in (take k ws)) < length ws = h in
    let long = length-map (take k ws) word_in in
    omega (arith, few, long, length-take k ws)

pub number_owned : {S B : Type 0} {owns : S → B → Type 0} {s : S} (ps : List (SymValue B))
    (x : SymValue B) (w : List B) → OwnsAll owns s (values_bits ps) → slice_get ps 0 ≡ Some x
    → x ≡ sym.Int w → OwnsAll owns s w
number_owned ps x w h e is = word_owned (owns_one bits_of ps 0 x h e) is

pub only_number : {B : Type 0} (rd : B → Bool) (ps : List (SymValue B)) (w : List B)
    (bs : List Bool) → ps ≡ sym.Int w ∷ [] → map rd w ≡ bs → map (map_bits rd) ps ≡ sym.Int bs ∷ []
only_number rd ps w bs e is = ap (map (map_bits rd)) e ∙ ap (λ v. sym.Int v ∷ []) is

-- What is kept with a word more, where the number that stands before the words is one more.
more_words : (m n w : SymValue Bool) (ws : List (SymValue Bool))
    → length (words_kept (n ∷ ws)) < length ws → nat_of (word_in m) ≡ suc (nat_of (word_in n))
    → words_kept (m ∷ set ws (nat_of (word_in n)) w) ≡ words_kept (n ∷ ws) ++ word_in w ∷ []
more_words m n w ws h e =
    let k = nat_of (word_in n) in
    let less = few_number n ws h in
    ap (λ i. map word_in (take i (set ws k w))) e
    ∙ ap (map word_in) (take_put k ws w less) ∙ map_push word_in (take k ws) w

-- whether there is room for one more is seen from the number
not_full : (k c m : ℕ) (e l : Bool) → Decides e (k ≡ m) → Decides l (c < m) → k ≤ m → c ≡ min k m
    → not e ≡ l
not_full k c m true false d f h i = refl
not_full k c m false true d f h i = refl
not_full k c m true true d f h i =
    let same = d.0 refl in
    let less = f.0 refl in
    absurd (omega arith)
not_full k c m false false d f h i =
    let other : k ≡ m → ⊥ = λ q. both_ways false refl (d.1 q) in
    let more : c < m → ⊥ = λ q. both_ways false refl (f.1 q) in
    absurd (omega arith)

pub room_left : (n : SymValue Bool) (ws : List (SymValue Bool)) (most : ℕ) → length ws ≡ most
    → number_fits (n ∷ ws) ≡ true
    → not (eqb (nat_of (word_in n)) most) ≡ ltb (length (words_kept (n ∷ ws))) most
room_left n ws most e fits =
    let k = nat_of (word_in n) in
    let least : k ≤ length ws = leb-true k (length ws) fits in
    let within : k ≤ most = omega (arith, e, least) in
    not_full k (length (words_kept (n ∷ ws))) most (eqb k most)
    (ltb (length (words_kept (n ∷ ws))) most) (Decides-eqb k most)
    (Decides-ltb (length (words_kept (n ∷ ws))) most) within
    (length-map (take k ws) word_in ∙ length-take k ws ∙ ap (λ (j : ℕ). min k j) e)

-- as many words as the number says
pub as_many : (n : SymValue Bool) (ws : List (SymValue Bool)) → number_fits (n ∷ ws) ≡ true
    → nat_of (word_in n) ≡ length (words_kept (n ∷ ws))
as_many n ws fits =
    let k = nat_of (word_in n) in
    let least : k ≤ length ws = leb-true k (length ws) fits in
    let long = length-map (take k ws) word_in ∙ length-take k ws in
    omega (arith, least, long)

more_fits : (m n w : SymValue Bool) (ws : List (SymValue Bool))
    → length (words_kept (n ∷ ws)) < length ws → nat_of (word_in m) ≡ suc (nat_of (word_in n))
    → number_fits (m ∷ set ws (nat_of (word_in n)) w) ≡ true
more_fits m n w ws h e =
    let k = nat_of (word_in n) in
    let less = few_number n ws h in
    let long = length-set ws k w in
    let within : nat_of (word_in m) ≤ length (set ws k w) = omega (arith, less, long, e) in
    le-leb (nat_of (word_in m)) (length (set ws k w)) within

-- what is kept with one word more, where there was room for it
module _ (before : List (SymValue Bool)) (n : SymValue Bool) (most : ℕ)
    (first : before ≡ n ∷ drop 1 before) (many : length (drop 1 before) ≡ most)
    (few : length (words_kept before) < most) where
  has_room : length (words_kept (n ∷ drop 1 before)) < length (drop 1 before)
  has_room =
      let same = ap (λ ps. length (words_kept ps)) first in
      omega (arith, few, many, same)

  pub few_in : nat_of (word_in n) < most
  few_in = let less = few_number n (drop 1 before) has_room in omega (arith, less, many)

  pub one_word_more : (m w : SymValue Bool) → nat_of (word_in m) ≡ suc (nat_of (word_in n))
      → KeepsOneMore before (m ∷ set (drop 1 before) (nat_of (word_in n)) w) (word_in w)
  one_word_more m w e = (
    more_fits m n w (drop 1 before) has_room e,
    more_words m n w (drop 1 before) has_room e
        ∙ ap (λ ps. words_kept ps ++ word_in w ∷ []) (sym first),
  )

-- where printed values are kept
pub kept_some : (c : Slots) → 0 < c.prints → kept_by c ≡ Some []
kept_some c h =
    ap (λ (b : Bool). cond b None (Some [])) (not_zero c.prints (λ e. absurd (omega arith)))

-- one digit of a number and one more
pub half_step : (p : ℕ) (x c : Bool) (s a : ℕ) → s + p * bit_value c ≡ a + 1
    → (s + p * bit_value (differ x c)) + (p + p) * bit_value (x && c) ≡ (a + p * bit_value x) + 1
half_step p true true s a h = omega arith
half_step p true false s a h = omega arith
half_step p false true s a h = omega arith
half_step p false false s a h = omega arith

-- where the sum has room nothing is carried out of it
pub no_carry : (p : ℕ) (c : Bool) (s a : ℕ) → s + p * bit_value c ≡ a + 1 → suc a < p → s ≡ suc a
no_carry p true s a h l = absurd (omega arith)
no_carry p false s a h l = omega arith

-- values that are numbers are proper
abbrev AreNumbers : List Form → Type 0
AreNumbers [] = ⊤
AreNumbers (f ∷ fs) = ((n : ℕ) × (f ≡ IntForm n)) × AreNumbers fs

replicated_numbers : (n w : ℕ) → AreNumbers (replicate n (IntForm w))
replicated_numbers zero w = tt
replicated_numbers (suc n) w = ((w, refl), replicated_numbers n w)

print_numbers : (l : Limits) (n : ℕ) → AreNumbers (print_forms l n)
print_numbers l zero = tt
print_numbers l (suc n) = ((5, refl), replicated_numbers (suc n) (print_width l))

numbers_proper : {B : Type 0} (rd : B → Bool) (ps : List (SymValue B)) → AreNumbers (forms_of ps)
    → are_proper (map (map_bits rd) ps) ≡ true
numbers_proper rd [] h = refl
numbers_proper rd (sym.Int w ∷ ps) h = numbers_proper rd ps h.1
numbers_proper rd (sym.Bool b ∷ ps) h = numbers_proper rd ps h.1
numbers_proper rd (sym.List len xs ∷ ps) h = let e = h.0.1 in absurd cc
numbers_proper rd (sym.Text len xs ∷ ps) h = let e = h.0.1 in absurd cc

pub kept_are_proper : {B : Type 0} (rd : B → Bool) (l : Limits) (n : ℕ) (ps : List (SymValue B))
    → forms_of ps ≡ print_forms l n → are_proper (map (map_bits rd) ps) ≡ true
kept_are_proper rd l n ps e =
    numbers_proper rd ps (subst AreNumbers (sym e) (print_numbers l n))

proper_front : (xs ys : List (SymValue Bool)) → are_proper (xs ++ ys) ≡ true → are_proper xs ≡ true
proper_front [] ys h = refl
proper_front (x ∷ xs) ys h =
    let parts = and_parts (spelled x).proper (are_proper (xs ++ ys)) h in
    and_from (spelled x).proper (are_proper xs) parts.0 (proper_front xs ys parts.1)

proper_both : (xs ys : List (SymValue Bool)) → are_proper xs ≡ true → are_proper ys ≡ true
    → are_proper (xs ++ ys) ≡ true
proper_both [] ys h k = k
proper_both (x ∷ xs) ys h k =
    let parts = and_parts (spelled x).proper (are_proper xs) h in
    and_from (spelled x).proper (are_proper (xs ++ ys)) parts.0 (proper_both xs ys parts.1 k)

-- the locals don't hang on what stands behind their values
same_locals : (names : List (List ℕ)) (xs ys zs : List (SymValue Bool)) (bits : List Bool)
    → length names ≡ length xs → state_in names (xs ++ ys) bits ≡ state_in names (xs ++ zs) bits
same_locals [] xs ys zs bits e = refl
same_locals (n ∷ ns) [] ys zs bits e = absurd (omega (arith, e))
same_locals (n ∷ ns) (x ∷ xs) ys zs [] e = refl
same_locals (n ∷ ns) (x ∷ xs) ys zs (b ∷ bs) e =
    ap (λ (s : Locals). λ (y : List ℕ). cond (same_bytes y n) (set_to b x) (s y))
    (same_locals ns xs ys zs bs (omega (arith, e)))

abbrev the_way : Bool → List (SymValue Bool) → List Bool → Way
the_way b vs s = record { gone = b; values = vs; set = s }

arrived : (b : Bool) (p q : Arrival) (s t : State)
    → (p.proper ≡ true → p.state ≡ s → (q.proper ≡ true) × (q.state ≡ t))
    → cond b (Some p) None ≡ reached (Some s) → cond b (Some q) None ≡ reached (Some t)
arrived false p q s t h e = cc
arrived true p q s t h e =
    let i : p ≡ the_arrival true s = cc in
    let both = h (ap (λ (a : Arrival). a.proper) i) (ap (λ (a : Arrival). a.state) i) in
    ap Some (same_arrival both.0 both.1)

-- values end to end
owns_values : {S B : Type 0} {owns : S → B → Type 0} {s : S} (xs ys : List (SymValue B))
    → OwnsAll owns s (values_bits xs) → OwnsAll owns s (values_bits ys)
    → OwnsAll owns s (values_bits (xs ++ ys))
owns_values [] ys h k = k
owns_values (x ∷ xs) ys h k = owns_both (owns_first (bits_of x) (values_bits xs) h)
    (owns_values xs ys (owns_second (bits_of x) (values_bits xs) h) k)

-- a way with other values behind those of its locals
pub kept_way : (c : Slots) (w : Way) (ks : List (SymValue Bool)) (s : State)
    → length c.names ≡ length c.types → length c.types ≤ length w.values → are_proper ks ≡ true
    → kept_proper c.limits ks ≡ true → gone_way c (w ∷ []) ≡ reached (Some s)
    → gone_way c (the_way w.gone (take (length c.types) w.values ++ ks) w.set ∷ [])
    ≡ reached (Some (with_printed s (printed_in c.limits ks)))
kept_way c w ks s each long proper kept at =
    let k = length c.types in
    let front = take k w.values in
    let behind = drop k w.values in
    let whole : front ++ behind ≡ w.values = take-append-drop k w.values in
    let many : length front ≡ k = length-take-le k w.values long in
    let new : drop k (front ++ ks) ≡ ks =
    ap (λ (n : ℕ). drop n (front ++ ks)) (sym many) ∙ drop-append_seam front ks in
    let there = the_way w.gone (front ++ ks) w.set in
    arrived w.gone (arrival c w) (arrival c there) s (with_printed s (printed_in c.limits ks))
    (λ p q.
    let first = (and_parts (are_proper w.values) (kept_proper c.limits behind) p).0 in
    let fine = proper_front front behind (ap are_proper whole ∙ first) in (
      and_from (are_proper (front ++ ks)) (kept_proper c.limits (drop k (front ++ ks)))
          (proper_both front ks fine proper) (ap (kept_proper c.limits) new ∙ kept),
      same_state
          (same_locals c.names front ks behind w.set (each ∙ sym many)
          ∙ ap (λ v. state_in c.names v w.set) whole ∙ ap (λ (t : State). t.locals) q)
          (ap (printed_in c.limits) new),
    ))
    at

-- what is kept, in a later state
pub kept_later : {S B : Type 0} {owns : S → B → Type 0} {reads : S → List Bool → B → Bool}
    {s t : S} {c : Slots} {ps : List (SymValue B)} → Keeps owns reads s t → HoldsKept owns s c ps
    → HoldsKept owns t c ps
kept_later k h = record { owned = owned_later k h.owned; forms_are = h.forms_are }

-- the same of a path
module _ {S B : Type 0} {owns : S → B → Type 0} where
  owns_front : {s : S} (n : ℕ) (xs : List (SymValue B)) → OwnsAll owns s (values_bits xs)
      → OwnsAll owns s (values_bits (take n xs))
  owns_front zero xs h = owns_none
  owns_front (suc n) [] h = h
  owns_front (suc n) (x ∷ xs) h = owns_both (owns_first (bits_of x) (values_bits xs) h)
      (owns_front n xs (owns_second (bits_of x) (values_bits xs) h))

  module _ {s : S} (c : Slots) (p : Path B) (h : HoldsPath owns s (slot_forms c) p) where
    long_locals : length (local_forms c) ≡ length c.types
    long_locals = length-map c.types (form_for c.limits)

    -- what is kept on a path
    pub kept_behind_path : HoldsKept owns s c (drop (length c.types) p.values)
    kept_behind_path = record {
      owned = owns_drop (length c.types) p.values (path_values h);
      forms_are = kept_forms c p.values h.forms_are;
    }

    path_long : length c.types ≤ length p.values
    path_long =
        let all = ap length h.forms_are in
        let both = length-append (local_forms c) (print_forms c.limits c.prints) in
        let mine = length-map p.values form_of in
        let locals = long_locals in
        omega arith

    module _ (ks vs : List (SymValue B)) (k : HoldsKept owns s c ks)
        (e : vs ≡ take (length c.types) p.values ++ ks) where
      abbrev the_path : List (SymValue B) → Path B
      the_path values = record { bit = p.bit; values = values; set = p.set }

      pub rekept_held : HoldsPath owns s (slot_forms c) (the_path vs)
      rekept_held =
          let n = length c.types in
          let front = take n p.values in
          let forms : forms_of front ≡ local_forms c =
          sym (take-map form_of n p.values) ∙ ap (take n) h.forms_are
          ∙ ap (λ (i : ℕ). take i (slot_forms c)) (sym long_locals)
          ∙ take-append_seam (local_forms c) (print_forms c.limits c.prints) in
          subst (λ (i : List (SymValue B)). HoldsPath owns s (slot_forms c) (the_path i)) (sym e)
          (holds_path (the_path (front ++ ks)) (path_bit h)
          (owns_values front ks (owns_front n p.values (path_values h)) k.owned) (path_set h)
          (map-append form_of front ks ∙ ap (λ fs. fs ++ forms_of ks) forms
          ∙ ap (λ fs. local_forms c ++ fs) k.forms_are) h.long)

      pub rekept_way : (rd : B → Bool) (t : State) → length c.names ≡ length c.types
          → gone_way c (way rd p ∷ []) ≡ reached (Some t)
          → kept_proper c.limits (map (map_bits rd) ks) ≡ true
          → gone_way c (way rd (the_path vs) ∷ [])
          ≡ reached (Some (with_printed t (printed_in c.limits (map (map_bits rd) ks))))
      rekept_way rd t each at proper =
          let n = length c.types in
          let f = map_bits rd in
          let front = take n p.values in
          let values : map f vs ≡ take n (map f p.values) ++ map f ks =
          ap (map f) e ∙ map-append f front ks
          ∙ ap (λ w. w ++ map f ks) (sym (take-map f n p.values)) in
          let all = length-map p.values f in
          let long = path_long in
          ap (λ v. gone_way c (the_way (rd p.bit) v (map rd p.set) ∷ [])) values
          ∙ kept_way c (way rd p) (map f ks) t each (omega arith)
          (kept_are_proper rd c.limits c.prints ks k.forms_are) proper at

not_arrived : (b : Bool) (p q : Arrival) → cond b (Some p) None ≡ None → cond b (Some q) None ≡ None
not_arrived false p q e = refl
not_arrived true p q e = cc

pub kept_nowhere : (c : Slots) (w v : Way) → v.gone ≡ w.gone → gone_way c (w ∷ []) ≡ None
    → gone_way c (v ∷ []) ≡ None
kept_nowhere c w v e at =
    ap (λ (b : Bool). cond b (Some (arrival c v)) None) e
    ∙ not_arrived w.gone (arrival c w) (arrival c v) at

less_by : (a b : ℕ) → ltb a b ≡ true → a < b
less_by a b e = (Decides-ltb a b).0 e

-- the number fits
pub fits_there : (l : Limits) (ps : List (SymValue Bool)) → kept_proper l ps ≡ true
    → number_fits ps ≡ true
fits_there l ps h =
    (and_parts (number_fits ps) (list_all (λ w. (word_spelled l w).proper) (words_kept ps)) h).0

pub nowhere : {A : Type 0} (b : Bool) → cond {A = Option A} b None None ≡ None
nowhere true = refl
nowhere false = refl

-- A print, where one more value is kept if there is room: `before` and `after` are what is kept.
module _ (l : Limits) (most : ℕ) (s : State) (v : Value) (line : ℕ)
    (before after : List (SymValue Bool)) where
  abbrev values_of : List (List Bool) → List Value
  values_of = map (λ w. (word_spelled l w).value)

  more_values : (w : List Bool) → words_kept after ≡ words_kept before ++ w ∷ []
      → word_spelled l w ≡ sure v
      → values_of (words_kept after) ≡ values_of (words_kept before) ++ v ∷ []
  more_values w e q =
      ap values_of e ∙ map_push (λ w. (word_spelled l w).value) (words_kept before) w
      ∙ ap (λ (r : Reading). values_of (words_kept before) ++ r.value ∷ []) q

  more_proper : (w : List Bool) → words_kept after ≡ words_kept before ++ w ∷ []
      → word_spelled l w ≡ sure v → number_fits after ≡ true → kept_proper l before ≡ true
      → kept_proper l after ≡ true
  more_proper w e q f h =
      let p = λ (u : List Bool). (word_spelled l u).proper in
      let parts = and_parts (number_fits before) (list_all p (words_kept before)) h in
      and_from (number_fits after) (list_all p (words_kept after)) f
      (ap (list_all p) e ∙ list_all-append p (words_kept before) (w ∷ [])
      ∙ and_from (list_all p (words_kept before)) (list_all p (w ∷ [])) parts.1
      (ap (λ (r : Reading). r.proper && true) q))

  -- what a print gives is seen by whether there is room
  abbrev room_by : Bool → Option State
  room_by b = cond b
      (Some (the_state s.locals (Some (values_of (words_kept before) ++ v ∷ [])))) None

  by_room : (b : Bool) (ps : List Value) (h : Halted)
      → state_next (cond b (Next (the_state s.locals (Some (ps ++ v ∷ [])))) (Failed h))
      ≡ cond b (Some (the_state s.locals (Some (ps ++ v ∷ [])))) None
  by_room true ps h = refl
  by_room false ps h = refl

  printed_by : (fit : Bool) → fit ≡ ltb (length (words_kept before)) most
      → s.printed ≡ Some (values_of (words_kept before))
      → state_next (printed most line s v) ≡ room_by fit
  printed_by fit f p =
      let ps = values_of (words_kept before) in
      let long = length-map (words_kept before) (λ w. (word_spelled l w).value) in
      ap (λ o. state_next (kept_in most line s o v)) p
      ∙ by_room (ltb (length ps) most) ps (fault Length line)
      ∙ ap (λ (n : ℕ). room_by (ltb n most)) long ∙ ap room_by (sym f)

  pub print_kept : (fit : Bool) (start here there : Option Arrival) (w : List Bool)
      → fit ≡ ltb (length (words_kept before)) most
      → start ≡ reached (Some s) → here ≡ cond fit start None
      → s.printed ≡ Some (values_of (words_kept before)) → kept_proper l before ≡ true
      → (length (words_kept before) < most → KeepsOneMore before after w)
      → word_spelled l w ≡ sure v → printed_in l after ≡ Some (values_of (words_kept after))
      → ((t : State) → here ≡ reached (Some t) → kept_proper l after ≡ true
      → there ≡ reached (Some (with_printed t (printed_in l after))))
      → (here ≡ None → there ≡ None)
      → there ≡ reached (state_next (printed most line s v))
  print_kept true start here there w f at h p k more q new on off =
      let less = less_by (length (words_kept before)) most (sym f) in
      let e = (more less).1 in
      on s (h ∙ at) (more_proper w e q (more less).0 k)
      ∙ ap (λ (o : Option (List Value)). reached (Some (with_printed s o)))
      (new ∙ ap Some (more_values w e q))
      ∙ ap reached (sym (printed_by true f p))
  print_kept false start here there w f at h p k more q new on off =
      off h ∙ ap reached (sym (printed_by false f p))
