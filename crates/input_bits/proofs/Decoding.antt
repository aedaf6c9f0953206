-- Values that truth values spell, word by word.
use Rattle.std.proofs.Common.{◌≡◌, ◌∙◌, ℕ, zero, suc, ◌+◌, ◌*◌, ◌<◌, ◌≤◌, Bool, true, false, ◌&&◌}
use Rattle.std.proofs.Common.{List, [], ◌∷◌, ◌++◌, length, map, take, refl, ap, sym, subst}
use Rattle.std.proofs.Common.{arith, append_assoc, if◌then◌else◌}
use Rattle.std.specs.Prelude.{Option, Some, None, option_map, slice_get, nat_le, ℤ}
use Rattle.std.specs.List.{list_all}
use Rattle.std.proofs.lemmas.Bool.{and_from, le-leb}
use Rattle.std.proofs.lemmas.Bool.Decides.{nat_tests}
use Rattle.std.proofs.lemmas.List.{append-nil, length-map, map_push, take-map}
use Rattle.std.proofs.lemmas.List.Elements.{All-head, All-tail}
use Rattle.mpy_tree.specs.declared.limits.Limits.{Limits}
use Rattle.mpy_tree.specs.declared.typing.Ty.{Ty}
use Rattle.mpy_tree.specs.declared.typing.Ty.TheVariants as ty
use Rattle.mpy_tree.specs.declared.value.Value.{Value}
use Rattle.mpy_tree.specs.declared.value.Value.TheVariants as value
use Rattle.mpy_tree.specs.Options.{◌>>=◌}
use Rattle.mpy_tree.specs.Printable.{ArePrintable}
use Rattle.bit_words.specs.Later.{values_from}
use Rattle.bit_words.specs.Words.{int_of, nat_of}
use Rattle.input_space.specs.ValueBits.{bits_for, first, printable, value_at, values_at, words_from}
use Rattle.input_bits.proofs.Digits.{index_read}
use Rattle.input_bits.proofs.LaidOut.{length-words_from, words_from_more}

-- one word more
pub word_more : {C : Type 0} (f : List Bool → C) (vs : List Bool) (start width n place : ℕ) (so_far more : List C) (one : C)
    → place ≡ start + n * width → so_far ≡ map f (words_from vs start width n) → one ≡ f (values_from vs place width)
    → more ≡ so_far ++ one ∷ [] → more ≡ map f (words_from vs start width (n + 1))
word_more f vs start width n place so_far more one at before now e =
    let ws = words_from vs start width n in
    e ∙ ap (λ xs. xs ++ one ∷ []) before
    ∙ ap (λ y. map f ws ++ y ∷ []) (now ∙ ap (λ k. f (values_from vs k width)) at)
    ∙ sym (ap (map f) (words_from_more vs start width n) ∙ map_push f ws (values_from vs (start + n * width) width))

-- CHARACTERS

abbrev pub is_printable : ℕ → Bool
is_printable c = nat_le 32 c && nat_le c 126

word_at : (vs : List Bool) (start width count n : ℕ) → n < count
    → slice_get (words_from vs start width count) n ≡ Some (values_from vs (start + n * width) width)
word_at vs start width zero n h = absurd (omega arith)
word_at vs start width (suc count) zero h = let e : start ≡ start + 0 * width = omega arith in ap (λ k. Some (values_from vs k width)) e
word_at vs start width (suc count) (suc n) h =
    let e : start + width + n * width ≡ start + suc n * width = omega arith in
    word_at vs (start + width) width count n (omega arith) ∙ ap (λ k. Some (values_from vs k width)) e

fails_at : (f : List Bool → ℕ) (ws : List (List Bool)) (n : ℕ) (w : List Bool) → slice_get ws n ≡ Some w → is_printable (f w) ≡ false
    → list_all is_printable (map f ws) ≡ false
fails_at f [] n w at h = absurd cc
fails_at f (v ∷ ws) zero w at h =
    let same : v ≡ w = cc in
    let e : is_printable (f v) ≡ false = ap (λ u. is_printable (f u)) same ∙ h in
    ap (λ b. b && list_all is_printable (map f ws)) e
fails_at f (v ∷ ws) (suc n) w at h = none (is_printable (f v)) (fails_at f ws n w at h)
  where
    none : (b : Bool) {c : Bool} → c ≡ false → (b && c) ≡ false
    none true e = e
    none false e = refl

-- what a character is read as
abbrev pub character_of : ℕ → Option ℕ
character_of n = if is_printable n then Some n else None

chosen_none : (b : Bool) (n : ℕ) → None ≡ (if b then Some n else None) → b ≡ false
chosen_none true n e = absurd cc
chosen_none false n e = refl

chosen_some : (b : Bool) (n code : ℕ) → Some code ≡ (if b then Some n else None) → (b ≡ true) × (code ≡ n)
chosen_some true n code e = (refl, cc)
chosen_some false n code e = absurd cc

all_none : {A : Type 0} (b : Bool) (x : A) → b ≡ false → None ≡ (if b then Some x else None)
all_none true x e = absurd cc
all_none false x e = refl

all_some : {A : Type 0} (b : Bool) (x : A) → b ≡ true → Some x ≡ (if b then Some x else None)
all_some true x e = refl
all_some false x e = absurd cc

pub not_printable : (vs : List Bool) (start count n place : ℕ) → n < count → place ≡ start + n * 7
    → None ≡ character_of (nat_of (values_from vs place 7)) → None ≡ printable (map nat_of (words_from vs start 7 count))
not_printable vs start count n place h at e =
    let code = nat_of (values_from vs place 7) in
    let wrong : is_printable code ≡ false = chosen_none (is_printable code) code e in
    let there : is_printable (nat_of (values_from vs (start + n * 7) 7)) ≡ false = subst (λ k. is_printable (nat_of (values_from vs k 7)) ≡ false) at wrong in
    let cs = map nat_of (words_from vs start 7 count) in
    all_none (list_all is_printable cs) cs (fails_at nat_of (words_from vs start 7 count) n _ (word_at vs start 7 count n h) there)

pub character_is : (n code : ℕ) → Some code ≡ character_of n → (code ≡ n) × (32 ≤ code) × (code ≤ 126)
character_is n code e =
    let r = chosen_some (is_printable n) n code e in
    let test : is_printable n ≡ true = r.0 in
    let is = r.1 in
    let low : 32 ≤ n = grind (arith, nat_tests) in
    let high : n ≤ 126 = grind (arith, nat_tests) in
    (is, omega arith, omega arith)

all_hold : (cs : List ℕ) → ArePrintable cs → list_all is_printable cs ≡ true
all_hold [] h = refl
all_hold (c ∷ cs) h =
    let one = All-head (λ (x : ℕ). (32 ≤ x) × (x ≤ 126)) c cs h in
    and_from (is_printable c) (list_all is_printable cs) (and_from (nat_le 32 c) (nat_le c 126) (le-leb 32 c one.0) (le-leb c 126 one.1))
    (all_hold cs (All-tail (λ (x : ℕ). (32 ≤ x) × (x ≤ 126)) c cs h))

pub all_printable : (cs ds : List ℕ) → cs ≡ ds → ArePrintable cs → Some cs ≡ printable ds
all_printable cs ds e h = all_some (list_all is_printable cs) cs (all_hold cs h) ∙ ap printable e

-- ONE VALUE

take_words : (vs : List Bool) (start width n m : ℕ) → n ≤ m → take n (words_from vs start width m) ≡ words_from vs start width n
take_words vs start width zero m h = refl
take_words vs start width (suc n) zero h = absurd (omega arith)
take_words vs start width (suc n) (suc m) h = ap (λ ws. values_from vs start width ∷ ws) (take_words vs (start + width) width n m (omega arith))

-- the first so many words, and too many
first_words : {C : Type 0} (f : List Bool → C) (vs : List Bool) (start width n m : ℕ) → n ≤ m
    → first n (map f (words_from vs start width m)) ≡ Some (map f (words_from vs start width n))
first_words f vs start width n m h =
    let ws = words_from vs start width m in
    let many : length (map f ws) ≡ m = length-map ws f ∙ length-words_from vs start width m in
    let within : nat_le n (length (map f ws)) ≡ true = ap (nat_le n) many ∙ le-leb n m h in
    sym (all_some (nat_le n (length (map f ws))) (take n (map f ws)) within)
    ∙ ap Some (take-map f n ws ∙ ap (map f) (take_words vs start width n m h))

no_words : {C : Type 0} (f : List Bool → C) (vs : List Bool) (start width n m : ℕ) → m < n
    → first n (map f (words_from vs start width m)) ≡ None
no_words f vs start width n m h =
    let ws = words_from vs start width m in
    let many : length (map f ws) ≡ m = length-map ws f ∙ length-words_from vs start width m in
    let beyond : nat_le n (length (map f ws)) ≡ false = grind (arith, nat_tests) in
    sym (all_none (nat_le n (length (map f ws))) (take n (map f ws)) beyond)

module _ (l : Limits) (t : Ty) (vs : List Bool) (start : ℕ) where
  pub bool_at : (b : Bool) → t ≡ ty.Bool → slice_get vs start ≡ Some b → Some (value.Bool b) ≡ value_at l t vs start
  bool_at b e at =
      subst (λ u. Some (value.Bool b) ≡ value_at l u vs start) (sym e) (ap (λ x. Some (value.Bool x)) (sym (index_read vs start b at)))

  pub no_list_at : (n : ℕ) → t ≡ ty.List → n ≡ nat_of (values_from vs start 5) → l.cap < n → None ≡ value_at l t vs start
  no_list_at n e is h =
      let none : first (nat_of (values_from vs start 5)) (map int_of (words_from vs (start + 5) l.width l.cap)) ≡ None =
      ap (λ k. first k (map int_of (words_from vs (start + 5) l.width l.cap))) (sym is) ∙ no_words int_of vs (start + 5) l.width n l.cap h in
      subst (λ u. None ≡ value_at l u vs start) (sym e) (sym (ap (option_map value.List) none))

  pub list_at : (n : ℕ) (zs : List ℤ) → t ≡ ty.List → n ≡ nat_of (values_from vs start 5) → n ≤ l.cap
      → zs ≡ map int_of (words_from vs (start + 5) l.width n) → Some (value.List zs) ≡ value_at l t vs start
  list_at n zs e is h made =
      let some : first (nat_of (values_from vs start 5)) (map int_of (words_from vs (start + 5) l.width l.cap)) ≡ Some zs =
      ap (λ k. first k (map int_of (words_from vs (start + 5) l.width l.cap))) (sym is) ∙ first_words int_of vs (start + 5) l.width n l.cap h ∙ ap Some (sym made) in
      subst (λ u. Some (value.List zs) ≡ value_at l u vs start) (sym e) (sym (ap (option_map value.List) some))

  pub no_text_at : (n : ℕ) → t ≡ ty.Text → n ≡ nat_of (values_from vs start 5) → l.cap < n → None ≡ value_at l t vs start
  no_text_at n e is h =
      let none : first (nat_of (values_from vs start 5)) (map nat_of (words_from vs (start + 5) 7 l.cap)) ≡ None =
      ap (λ k. first k (map nat_of (words_from vs (start + 5) 7 l.cap))) (sym is) ∙ no_words nat_of vs (start + 5) 7 n l.cap h in
      subst (λ u. None ≡ value_at l u vs start) (sym e) (sym (ap (λ o. option_map value.Text (o >>= printable)) none))

  pub text_at : (n : ℕ) (o : Option (List ℕ)) → t ≡ ty.Text → n ≡ nat_of (values_from vs start 5) → n ≤ l.cap
      → o ≡ printable (map nat_of (words_from vs (start + 5) 7 n)) → option_map value.Text o ≡ value_at l t vs start
  text_at n o e is h made =
      let some : first (nat_of (values_from vs start 5)) (map nat_of (words_from vs (start + 5) 7 l.cap)) ≡ Some (map nat_of (words_from vs (start + 5) 7 n)) =
      ap (λ k. first k (map nat_of (words_from vs (start + 5) 7 l.cap))) (sym is) ∙ first_words nat_of vs (start + 5) 7 n l.cap h in
      subst (λ u. option_map value.Text o ≡ value_at l u vs start) (sym e) (ap (option_map value.Text) made ∙ sym (ap (λ q. option_map value.Text (q >>= printable)) some))

-- SEVERAL VALUES

joined : (xs : List Value) (x : Value) (o : Option (List Value))
    → option_map (λ rest. xs ++ rest) (option_map (λ rest. x ∷ rest) o) ≡ option_map (λ rest. (xs ++ x ∷ []) ++ rest) o
joined xs x None = refl
joined xs x (Some rest) = ap Some (sym (append_assoc xs (x ∷ []) rest))

module _ (l : Limits) (vs : List Bool) where
  pub none_left : (t : Ty) (left rest : List Ty) (place : ℕ) → left ≡ t ∷ rest → None ≡ value_at l t vs place → values_at l left vs place ≡ None
  none_left t left rest place e none =
      ap (λ ts. values_at l ts vs place) e
      ∙ ap (λ o. o >>= λ v. option_map (λ more. v ∷ more) (values_at l rest vs (place + bits_for l t))) (sym none)

  pub one_less : (t : Ty) (left rest : List Ty) (place next : ℕ) (x : Value) (xs more : List Value) → left ≡ t ∷ rest → Some x ≡ value_at l t vs place
      → next ≡ place + bits_for l t → more ≡ xs ++ x ∷ []
      → option_map (λ others. xs ++ others) (values_at l left vs place) ≡ option_map (λ others. more ++ others) (values_at l rest vs next)
  one_less t left rest place next x xs more e is at pushed =
      let first_one : values_at l left vs place ≡ option_map (λ others. x ∷ others) (values_at l rest vs (place + bits_for l t)) =
      ap (λ ts. values_at l ts vs place) e
      ∙ ap (λ o. o >>= λ v. option_map (λ others. v ∷ others) (values_at l rest vs (place + bits_for l t))) (sym is) in
      ap (option_map (λ others. xs ++ others)) first_one
      ∙ joined xs x (values_at l rest vs (place + bits_for l t))
      ∙ ap (λ ys. option_map (λ others. ys ++ others) (values_at l rest vs (place + bits_for l t))) (sym pushed)
      ∙ ap (λ k. option_map (λ others. more ++ others) (values_at l rest vs k)) (sym at)

  pub none_more : (xs : List Value) (left : List Ty) (place : ℕ) → left ≡ [] → Some xs ≡ option_map (λ others. xs ++ others) (values_at l left vs place)
  none_more xs left place e =
      ap Some (sym (append-nil xs)) ∙ sym (ap (λ ts. option_map (λ others. xs ++ others) (values_at l ts vs place)) e)
