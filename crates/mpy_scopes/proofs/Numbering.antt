-- The numbers of a program's slots.
use Rattle.std.proofs.Common.{◌≡◌, ℕ, ◌+◌, ◌<◌, ◌≤◌, ◌==◌, Bool, true, false, ◌&&◌, List, [], ◌∷◌, ◌++◌, append_assoc, length, map, get_or, Option, Some, None, if◌then◌else◌, IsTrue, refl, sym, ap, ◌∙◌, arith, zero, suc}
use Rattle.std.specs.Option.{option_map}
use Rattle.std.proofs.lemmas.Bool.{ne_eqb, eq-eqb}
use Rattle.std.proofs.lemmas.List.{length-map, get_or-map}
use lib.Pointwise.{bytes_decides}
use Rattle.mpy_tree.specs.declared.typing.Slot.{Slot}
use Rattle.mpy_tree.specs.declared.typing.Slot.TheVariants.{Local, Result}
use Rattle.mpy_tree.specs.Syntax.{Routine}
use Rattle.mpy_tree.specs.Values.{same_bytes}
use Rattle.mpy_tree.specs.Locals.{locals}
use Rattle.mpy_tree.specs.SetTypes.{same_slot, same_place}
use Rattle.mpy_tree.specs.Faults.{Place, place, local_line, routine_slots, slots_from, slots}
use Rattle.mpy_scopes.specs.Numbers.{position, number_from, number, Room, room, rooms_from, in_room}

past : (b : Bool) (c : ℕ) (o : Option ℕ) → b ≡ false → (if b then Some c else o) ≡ o
past b c o e = ap (λ d. if d then Some c else o) e

here : (b : Bool) (c : ℕ) (o : Option ℕ) → b ≡ true → (if b then Some c else o) ≡ Some c
here b c o e = ap (λ d. if d then Some c else o) e

never : (b : Bool) → (b && false) ≡ false
never true = refl
never false = refl

module _ (n j : ℕ) (y : Slot) (h : (n == j) ≡ false) where
  elsewhere : (x : Slot) → same_place n x j y ≡ false
  elsewhere x = ap (λ b. b && same_slot x y) h

  past_locals : (c : ℕ) (line : List ℕ → ℕ) (xs : List (List ℕ)) (ts : List Place) → number_from c (map (λ x. place n (Local x) (line x)) xs ++ ts) j y ≡ number_from (c + length xs) ts j y
  past_locals c line [] ts = let e : c ≡ c + 0 = omega arith in ap (λ k. number_from k ts j y) e
  past_locals c line (x ∷ xs) ts =
      let e : (c + 1) + length xs ≡ c + suc (length xs) = omega arith in
      past (same_place n (Local x) j y) c _ (elsewhere (Local x))
      ∙ past_locals (c + 1) line xs ts
      ∙ ap (λ k. number_from k ts j y) e

  -- the slots of another function
  past_routine : (c : ℕ) (r : Routine) (ts : List Place) → number_from c (routine_slots n r ++ ts) j y ≡ number_from (c + (length (locals r) + 1)) ts j y
  past_routine c r ts =
      let e : (c + length (locals r)) + 1 ≡ c + (length (locals r) + 1) = omega arith in
      ap (λ ss. number_from c ss j y) (append_assoc (map (λ x. place n (Local x) (local_line r x)) (locals r)) (place n Result r.line ∷ []) ts)
      ∙ past_locals c (local_line r) (locals r) (place n Result r.line ∷ ts)
      ∙ past (same_place n Result j y) _ _ (elsewhere Result)
      ∙ ap (λ k. number_from k ts j y) e

not_later : (rs : List Routine) (c n j : ℕ) (y : Slot) → j < n → number_from c (slots_from n rs) j y ≡ None
not_later [] c n j y h = refl
not_later (r ∷ rs) c n j y h =
    past_routine n j y (ne_eqb n j (λ e. omega arith)) c r (slots_from (n + 1) rs)
    ∙ not_later rs (c + (length (locals r) + 1)) (n + 1) j y (omega arith)

same_both : (a b : Bool) → (IsTrue a → IsTrue b) → (IsTrue b → IsTrue a) → a ≡ b
same_both true b f g = sym (f refl)
same_both false true f g = g refl
same_both false false f g = refl

turned : (x y : List ℕ) → same_bytes x y ≡ same_bytes y x
turned x y = same_both (same_bytes x y) (same_bytes y x) (λ h. (bytes_decides y x).1 (sym ((bytes_decides x y).0 h))) (λ h. (bytes_decides x y).1 (sym ((bytes_decides y x).0 h)))

own : (n : ℕ) (z x : List ℕ) → same_place n (Local z) n (Local x) ≡ same_bytes x z
own n z x = ap (λ b. b && same_bytes z x) (eq-eqb n n refl) ∙ turned z x

found_or : ℕ → Option ℕ → Option ℕ → Option ℕ
found_or c None o = o
found_or c (Some k) o = Some (c + k)

found_next : (b : Bool) (c : ℕ) (p o : Option ℕ) → (if b then Some c else found_or (c + 1) p o) ≡ found_or c (if b then Some 0 else option_map (λ k. k + 1) p) o
unfolding found_or
found_next true c p o = let e : c ≡ c + 0 = omega arith in ap Some e
found_next false c None o = refl
found_next false c (Some k) o = let e : (c + 1) + k ≡ c + (k + 1) = omega arith in ap Some e

module _ (n : ℕ) (line : List ℕ → ℕ) (ts : List Place) where
  find_local : (x : List ℕ) (c : ℕ) (xs : List (List ℕ)) → number_from c (map (λ z. place n (Local z) (line z)) xs ++ ts) n (Local x) ≡ found_or c (position x xs) (number_from (c + length xs) ts n (Local x))
  unfolding found_or
  find_local x c [] = let e : c ≡ c + 0 = omega arith in ap (λ k. number_from k ts n (Local x)) e
  find_local x c (z ∷ zs) =
      let e : (c + 1) + length zs ≡ c + suc (length zs) = omega arith in
      ap (λ b. if b then Some c else number_from (c + 1) (map (λ w. place n (Local w) (line w)) zs ++ ts) n (Local x)) (own n z x)
      ∙ ap (λ o. if same_bytes x z then Some c else o) (find_local x (c + 1) zs ∙ ap (λ k. found_or (c + 1) (position x zs) (number_from k ts n (Local x))) e)
      ∙ found_next (same_bytes x z) c (position x zs) (number_from (c + suc (length zs)) ts n (Local x))

  find_result : (c : ℕ) (xs : List (List ℕ)) → number_from c (map (λ z. place n (Local z) (line z)) xs ++ ts) n Result ≡ number_from (c + length xs) ts n Result
  find_result c [] = let e : c ≡ c + 0 = omega arith in ap (λ k. number_from k ts n Result) e
  find_result c (z ∷ zs) =
      let e : (c + 1) + length zs ≡ c + suc (length zs) = omega arith in
      past (same_place n (Local z) n Result) c _ (never (n == n))
      ∙ find_result (c + 1) zs
      ∙ ap (λ k. number_from k ts n Result) e

ended : (c : ℕ) (p o : Option ℕ) → o ≡ None → found_or c p o ≡ option_map (λ k. c + k) p
unfolding found_or
ended c None o e = e
ended c (Some k) o e = refl

first_room : (c n : ℕ) (r : Routine) (rs : List Routine) (y : Slot) → number_from c (routine_slots n r ++ slots_from (n + 1) rs) n y ≡ in_room (room c (locals r)) y
first_room c n r rs (Local x) =
    let ts = place n Result r.line ∷ slots_from (n + 1) rs in
    ap (λ ss. number_from c ss n (Local x)) (append_assoc (map (λ z. place n (Local z) (local_line r z)) (locals r)) (place n Result r.line ∷ []) (slots_from (n + 1) rs))
    ∙ find_local n (local_line r) ts x c (locals r)
    ∙ ended c (position x (locals r)) _ (past (same_place n Result n (Local x)) _ _ (never (n == n)) ∙ not_later rs _ (n + 1) n (Local x) (omega arith))
first_room c n r rs Result =
    let ts = place n Result r.line ∷ slots_from (n + 1) rs in
    ap (λ ss. number_from c ss n Result) (append_assoc (map (λ z. place n (Local z) (local_line r z)) (locals r)) (place n Result r.line ∷ []) (slots_from (n + 1) rs))
    ∙ find_result n (local_line r) ts c (locals r)
    ∙ here (same_place n Result n Result) _ _ (ap (λ b. b && true) (eq-eqb n n refl))

at_room : (rs : List Routine) (c n j : ℕ) (R : Room) (y : Slot) → j < length rs → get_or (rooms_from c rs) j R ≡ R → number_from c (slots_from n rs) (n + j) y ≡ in_room R y
at_room [] c n j R y h e = absurd (omega arith)
at_room (r ∷ rs) c n zero R y h e =
    let z : n + 0 ≡ n = omega arith in
    ap (λ k. number_from c (routine_slots n r ++ slots_from (n + 1) rs) k y) z
    ∙ first_room c n r rs y
    ∙ ap (λ q. in_room q y) e
at_room (r ∷ rs) c n (suc j) R y h e =
    let z : n + suc j ≡ (n + 1) + j = omega arith in
    past_routine n (n + suc j) y (ne_eqb n (n + suc j) (λ k. omega arith)) c r (slots_from (n + 1) rs)
    ∙ ap (λ k. number_from (c + (length (locals r) + 1)) (slots_from (n + 1) rs) k y) z
    ∙ at_room rs (c + (length (locals r) + 1)) (n + 1) j R y (omega arith) e

beyond : (rs : List Routine) (c n j : ℕ) (y : Slot) → length rs ≤ j → number_from c (slots_from n rs) (n + j) y ≡ None
beyond [] c n j y h = refl
beyond (r ∷ rs) c n zero y h = absurd (omega arith)
beyond (r ∷ rs) c n (suc j) y h =
    let z : n + suc j ≡ (n + 1) + j = omega arith in
    past_routine n (n + suc j) y (ne_eqb n (n + suc j) (λ k. omega arith)) c r (slots_from (n + 1) rs)
    ∙ ap (λ k. number_from (c + (length (locals r) + 1)) (slots_from (n + 1) rs) k y) z
    ∙ beyond rs (c + (length (locals r) + 1)) (n + 1) j y (omega arith)

-- the numbers by the rooms of a program
pub number_in : (p : List Routine) (j : ℕ) (R : Room) (y : Slot) → j < length p → get_or (rooms_from 0 p) j R ≡ R → number p j y ≡ in_room R y
unfolding number
number_in p j R y h e =
    let z : 0 + j ≡ j = omega arith in
    ap (λ k. number_from 0 (slots p) k y) (sym z) ∙ at_room p 0 0 j R y h e

pub number_beyond : (p : List Routine) (j : ℕ) (y : Slot) → length p ≤ j → number p j y ≡ None
unfolding number
number_beyond p j y h =
    let z : 0 + j ≡ j = omega arith in
    ap (λ k. number_from 0 (slots p) k y) (sym z) ∙ beyond p 0 0 j y h

rooms_many : (rs : List Routine) (c : ℕ) → length (rooms_from c rs) ≡ length rs
rooms_many [] c = refl
rooms_many (r ∷ rs) c = ap suc (rooms_many rs (c + (length (locals r) + 1)))

-- by the room of the item of a function
pub number_item : {A : Type 0} (g : A → Room) (items : List A) (p : List Routine) (j : ℕ) (s : A) (y : Slot) → map g items ≡ rooms_from 0 p → j < length items → s ≡ get_or items j s → number p j y ≡ in_room (g s) y
number_item g items p j s y e l h =
    let m : length items ≡ length p = sym (length-map items g) ∙ ap length e ∙ rooms_many p 0 in
    number_in p j (g s) y (omega arith)
    (ap (λ rs. get_or rs j (g s)) (sym e) ∙ get_or-map g items j s (g s) l ∙ ap g (sym h))

pub number_none : {A : Type 0} (g : A → Room) (items : List A) (p : List Routine) (j : ℕ) (y : Slot) → map g items ≡ rooms_from 0 p → length items ≤ j → number p j y ≡ None
number_none g items p j y e l =
    let m : length items ≡ length p = sym (length-map items g) ∙ ap length e ∙ rooms_many p 0 in
    number_beyond p j y (omega arith)
