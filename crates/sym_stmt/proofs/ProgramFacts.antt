-- What facts that type a program say of its slots, of its functions and of its entry.
use Rattle.std.proofs.Common.{◌≡◌, ◌<◌, ℕ, zero, suc, ◌+◌, Bool, true, false, ◌||◌, List}
use Rattle.std.proofs.Common.{[], ◌∷◌, ◌++◌, length, map, get_or, Option, Some, None, if◌then◌else◌, IsTrue}
use Rattle.std.proofs.Common.{IsSome, is_some, ◌⊎◌, inl, inr, refl, sym, ap, ◌∙◌, subst, arith}
use Rattle.std.specs.Prelude.{⊤, ◌==◌, ◌&&◌, All}
use Rattle.std.specs.List.{filter, flat_map, list_any}
use Rattle.std.proofs.lemmas.Bool.{and_from, both_ways, eqb-true, or_left, or_right}
use Rattle.std.proofs.lemmas.Bool.{true_from_ne_false}
use Rattle.std.proofs.lemmas.List.Elements.{All-cons, All-head, All-nil, All-tail, All-weaker}
use Rattle.std.proofs.lemmas.Slice.Eq.{bytes_eq-Decides}
use Rattle.mpy_tree.specs.declared.typing.Fact.{Fact}
use Rattle.mpy_tree.specs.declared.typing.Slot.{Slot}
use Rattle.mpy_tree.specs.declared.typing.Slot.TheVariants as slot
use Rattle.mpy_tree.specs.declared.typing.Ty.{Ty}
use Rattle.mpy_tree.specs.declared.typing.Ty.TheVariants as ty
use Rattle.mpy_tree.specs.declared.typing.TypeError.{TypeError}
use Rattle.mpy_tree.specs.declared.typing.TypeSet.{TypeSet}
use Rattle.mpy_tree.specs.Entries.{Entry}
use Rattle.mpy_tree.specs.Faults.{Place, entry_fault, free_function, listed, local_line, may_lack, names_fault}
use Rattle.mpy_tree.specs.Faults.{nodes_fault, or_fault, place, slot_fault, slots, slots_fault}
use Rattle.mpy_tree.specs.Faults.{number_of, routine_slots, slots_from}
use Rattle.mpy_tree.specs.Flows.{Keeps, entry_flows, flows, flows_from, given_flows}
use Rattle.mpy_tree.specs.Leasts.{least}
use Rattle.mpy_tree.specs.Locals.{is_among, locals, site_assigned, site_names}
use Rattle.mpy_tree.specs.Names.{arity_lines, has_name_fault, has_twice, header_lines}
use Rattle.mpy_tree.specs.Names.{is_taken, lines_of, name_lines, name_lines_from}
use Rattle.mpy_tree.specs.Options.{◌>>=◌}
use Rattle.mpy_tree.specs.Rules.{are_arguments, is_argument, same_type, single}
use Rattle.mpy_tree.specs.Running.{found}
use Rattle.mpy_tree.specs.SetTypes.{Callee, FactSet, callee, called, called_from, same_place}
use Rattle.mpy_tree.specs.Sites.{sites}
use Rattle.mpy_tree.specs.Syntax.{Routine}
use Rattle.mpy_tree.specs.TypeSets.{IsWithin, join, just, no_types, only}
use Rattle.mpy_tree.specs.Typings.{AreTypes, IsOfSlot, set_of}
use Rattle.mpy_tree.specs.Values.{same_bytes}
use Rattle.mpy_scopes.proofs.Places.{at_place, place_same}
use Rattle.mpy_types.proofs.Every.{Every, every_front, every_of, every_rest}
use Rattle.typed_programs.proofs.OneType.{settled}
use Rattle.sym_stmt.specs.Programs.{callee_takes}
use Rattle.sym_stmt.proofs.LocalNames.{apart, new_none}
use Rattle.mpy_tree.proofs.Leasts.{none_least}
use Rattle.mpy_type_laws.proofs.Nothing.{nil_left, nil_right, none_both, not_earlier}
use Rattle.mpy_type_laws.proofs.WholeFacts.{one_of}
use Rattle.typed_programs.proofs.Linked.{either_is}

third_false : (a b c : Bool) (line : ℕ) → (if a || b || c then line ∷ [] else []) ≡ [] → c ≡ false
third_false true b c line e = absurd cc
third_false false true c line e = absurd cc
third_false false false true line e = absurd cc
third_false false false false line e = refl

just_some : (t : Ty) → IsSome (only (just t))
just_some ty.Int = refl
just_some ty.Bool = refl
just_some ty.List = refl
just_some ty.Text = refl

-- each slot has one type, but for the result that may have none
module _ (free : Option ℕ) (F : FactSet) where
  abbrev pub HasOne : Place → Type 0
  HasOne s = ((t : Ty) × (F s.func s.slot ≡ just t))
      ⊎ ((may_lack free s ≡ true) × (F s.func s.slot ≡ no_types))

  each_one : (ss : List Place) → slots_fault free F ss ≡ None → Every HasOne ss
  each_one [] e = tt
  each_one (s ∷ ss) e =
      let set = F s.func s.slot in
      let k = none_both (slot_fault (may_lack free s) (listed set) s.line) (slots_fault free F ss) e in
      (one_of (may_lack free s) set.int set.bool set.list set.text s.line k.0, each_one ss k.1)

  one_typed : (s : Place) → HasOne s → may_lack free s ≡ false → IsSome (single F s.func s.slot)
  one_typed s (inl one) h = ap (λ u. is_some (only u)) one.1 ∙ just_some one.0
  one_typed s (inr none) h = absurd cc

  abbrev AtMostOne : ℕ → Slot → Type 0
  AtMostOne j y = ((t : Ty) × (F j y ≡ just t)) ⊎ (F j y ≡ no_types)

  at_most : (s : Place) → HasOne s → AtMostOne s.func s.slot
  at_most s (inl one) = inl one
  at_most s (inr none) = inr none.1

  of_slot : (ss : List Place) (j : ℕ) (y : Slot) → Every HasOne ss
      → list_any (λ s. same_place j y s.func s.slot) ss ≡ true → AtMostOne j y
  of_slot [] j y h e = absurd cc
  of_slot (s ∷ ss) j y h e =
      let P = λ (n : ℕ) (z : Slot). AtMostOne n z → AtMostOne j y in
      either_is (same_place j y s.func s.slot)
      (list_any (λ t. same_place j y t.func t.slot) ss) (AtMostOne j y)
      (λ m. at_place P j y s.func s.slot m (λ k. k) (at_most s h.0)) (of_slot ss j y h.1) e

-- each fact is one of its slot's types
join_left : (s t : TypeSet) → IsWithin s (join s t)
join_left s t ty.Int h = or_left s.int t.int h
join_left s t ty.Bool h = or_left s.bool t.bool h
join_left s t ty.List h = or_left s.list t.list h
join_left s t ty.Text h = or_left s.text t.text h

join_right : (s t : TypeSet) → IsWithin t (join s t)
join_right s t ty.Int h = or_right s.int t.int h
join_right s t ty.Bool h = or_right s.bool t.bool h
join_right s t ty.List h = or_right s.list t.list h
join_right s t ty.Text h = or_right s.text t.text h

abbrev IsInSet : List Fact → Fact → Type 0
IsInSet T f = IsWithin (just f.ty) (set_of T f.func f.slot)

first_in : (f : Fact) (T : List Fact) → IsInSet (f ∷ T) f
first_in f T =
    let rest = set_of T f.func f.slot in
    subst (λ (b : Bool). IsWithin (just f.ty) (if b then join (just f.ty) rest else rest))
    (sym (place_same f.func f.slot)) (join_left (just f.ty) rest)

still_in : (b : Bool) (s t u : TypeSet) → IsWithin s t → IsWithin s (if b then join u t else t)
still_in true s t u h a k = join_right u t a (h a k)
still_in false s t u h a k = h a k

facts_in : (T : List Fact) → All (IsInSet T) T
facts_in [] = All-nil (IsInSet [])
facts_in (f ∷ T) =
    All-cons (IsInSet (f ∷ T)) f T (first_in f T)
    (All-weaker (IsInSet T) (IsInSet (f ∷ T)) (λ g h.
    still_in (same_place f.func f.slot g.func g.slot) (just g.ty) (set_of T g.func g.slot)
    (just f.ty) h) T (facts_in T))

-- the one type of a fact's slot is the fact's
abbrev pub IsAlone : List Fact → Fact → Type 0
IsAlone T f = single (set_of T) f.func f.slot ≡ Some f.ty

nothing_within : (t : Ty) → IsWithin (just t) no_types → ⊥
nothing_within ty.Int h = let none = h ty.Int refl in cc
nothing_within ty.Bool h = let none = h ty.Bool refl in cc
nothing_within ty.List h = let none = h ty.List refl in cc
nothing_within ty.Text h = let none = h ty.Text refl in cc

alone_one : (T : List Fact) (f : Fact) → IsInSet T f
    → ((t : Ty) × (set_of T f.func f.slot ≡ just t)) ⊎ (set_of T f.func f.slot ≡ no_types)
    → IsAlone T f
alone_one T f m (inl one) =
    settled (just f.ty) (set_of T f.func f.slot) f.ty refl m
    (ap (λ u. is_some (only u)) one.1 ∙ just_some one.0)
alone_one T f m (inr none) =
    absurd (nothing_within f.ty (subst (IsWithin (just f.ty)) none m))

alone_each : (free : Option ℕ) (T : List Fact) (ss : List Place) (fs : List Fact)
    → Every (HasOne free (set_of T)) ss
    → Every (λ (f : Fact). IsTrue (list_any (λ s. same_place f.func f.slot s.func s.slot) ss)) fs
    → Every (IsInSet T) fs → Every (IsAlone T) fs
alone_each free T ss [] h k m = tt
alone_each free T ss (f ∷ fs) h k m = (
  alone_one T f m.0 (of_slot free (set_of T) ss f.func f.slot h k.0),
  alone_each free T ss fs h k.1 m.1,
)

-- The parameters of a function differ from one another, and each of them has a type, as has the
-- result, where none may lack one.
pub record IsHeaderTyped (free : Option ℕ) (F : FactSet) (i : ℕ) (xs : List (List ℕ))
    : Type 0 where
  pub differ : has_twice xs ≡ false
  pub params : All (λ x. IsSome (single F i (slot.Local x))) xs
  pub result : free ≡ None → IsSome (single F i slot.Result)

abbrev pub AreHeadersTyped : Option ℕ → FactSet → ℕ → List Routine → Type 0
AreHeadersTyped free F i [] = ⊤
AreHeadersTyped free F i (r ∷ rs) =
    IsHeaderTyped free F i r.params × AreHeadersTyped free F (i + 1) rs

stands_in : (xs : List (List ℕ)) (k : ℕ) (d : List ℕ) → k < length xs
    → is_among xs (get_or xs k d) ≡ true
stands_in [] k d h = absurd (omega arith)
stands_in (x ∷ xs) zero d h =
    or_left (same_bytes x x) (is_among xs x) ((bytes_eq-Decides x x).1 refl)
stands_in (x ∷ xs) (suc k) d h =
    or_right (same_bytes (get_or xs k d) x) (is_among xs (get_or xs k d))
    (stands_in xs k d (omega arith))

among_locals : (r : Routine) (x : List ℕ) → is_among r.params x ≡ true
    → is_among (locals r) x ≡ true
among_locals r x h =
    let ss = sites r.body in
    let others =
    filter (is_among (flat_map site_assigned ss)) (flat_map site_names ss) in
    true_from_ne_false (is_among (locals r) x) (λ e.
    both_ways (is_among r.params x)
    (apart r.params others x (new_none [] (r.params ++ others) x e).1).0 h)

and_false : (b : Bool) → (b && false) ≡ false
and_false true = refl
and_false false = refl

-- a local must have a type
local_has : (free : Option ℕ) (i : ℕ) (x : List ℕ) (line : ℕ)
    → may_lack free (place i (slot.Local x) line) ≡ false
local_has None i x line = refl
local_has (Some j) i x line = and_false (j == i)

-- and so must a result where none may lack it
result_has : (free : Option ℕ) (i line : ℕ) → free ≡ None
    → may_lack free (place i slot.Result line) ≡ false
result_has None i line e = refl
result_has (Some j) i line e = absurd cc

local_typed : (free : Option ℕ) (F : FactSet) (i : ℕ) (line : List ℕ → ℕ) (xs : List (List ℕ))
    (x : List ℕ) → Every (HasOne free F) (map (λ y. place i (slot.Local y) (line y)) xs)
    → is_among xs x ≡ true → IsSome (single F i (slot.Local x))
local_typed free F i line [] x h e = absurd cc
local_typed free F i line (y ∷ xs) x h e =
    let own = one_typed free F (place i (slot.Local y) (line y)) h.0 (local_has free i y (line y)) in
    either_is (same_bytes x y) (is_among xs x) (IsSome (single F i (slot.Local x)))
    (λ k. subst (λ z. IsSome (single F i (slot.Local z))) (sym ((bytes_eq-Decides x y).0 k)) own)
    (local_typed free F i line xs x h.1) e

headers_typed : (free : Option ℕ) (F : FactSet) (p : List Routine) (before : List (List ℕ)) (i : ℕ)
    (rs : List Routine) → Every (HasOne free F) (slots_from i rs)
    → name_lines_from p before rs ≡ [] → AreHeadersTyped free F i rs
headers_typed free F p before i [] h e = tt
headers_typed free F p before i (r ∷ rs) h e =
    let own = every_front (HasOne free F) (routine_slots i r) (slots_from (i + 1) rs) h in
    let rest = every_rest (HasOne free F) (routine_slots i r) (slots_from (i + 1) rs) h in
    let places = map (λ y. place i (slot.Local y) (local_line r y)) (locals r) in
    let end = place i slot.Result r.line ∷ [] in
    let lines = lines_of (has_name_fault p (locals r)) (sites r.body) in
    let later = name_lines_from p (before ++ r.name ∷ []) rs in (
      record {
        differ = third_false (is_among before r.name) (is_taken r.name) (has_twice r.params)
            r.line (nil_left (header_lines before r) lines
            (nil_left (header_lines before r ++ lines) later e));
        params = λ k d less.
            local_typed free F i (local_line r) (locals r) (get_or r.params k d)
            (every_front (HasOne free F) places end own)
            (among_locals r (get_or r.params k d) (stands_in r.params k d less));
        result = λ none.
            one_typed free F (place i slot.Result r.line)
            (every_rest (HasOne free F) places end own).0 (result_has free i r.line none);
      },
      headers_typed free F p (before ++ r.name ∷ []) (i + 1) rs rest
          (nil_right (header_lines before r ++ lines) later e),
    )

-- the entry takes arguments of the given types
type_itself : (t : Ty) → same_type t t ≡ true
type_itself ty.Int = refl
type_itself ty.Bool = refl
type_itself ty.List = refl
type_itself ty.Text = refl

module _ (F : FactSet) (p : List Routine) where
  given_taken : (j : ℕ) (xs : List (List ℕ)) (ts : List Ty)
      → Every (Keeps F p) (given_flows j xs ts)
      → All (λ x. IsSome (single F j (slot.Local x))) xs → length xs ≡ length ts
      → are_arguments (single F) j xs (map (λ t. Some t) ts) ≡ true
  given_taken j [] [] h k e = refl
  given_taken j [] (t ∷ ts) h k e = absurd (omega (arith, e))
  given_taken j (x ∷ xs) [] h k e = absurd (omega (arith, e))
  given_taken j (x ∷ xs) (t ∷ ts) h k e =
      let P = λ (y : List ℕ). IsSome (single F j (slot.Local y)) in
      let type =
      settled (just t) (F j (slot.Local x)) t refl h.0 (All-head P x xs k) in
      and_from (is_argument (single F j (slot.Local x)) (Some t))
      (are_arguments (single F) j xs (map (λ u. Some u) ts))
      (ap (λ o. is_argument o (Some t)) type ∙ type_itself t)
      (given_taken j xs ts h.1 (All-tail P x xs k) (omega (arith, e)))

  so_many : (b : Bool) (e : TypeError) → (if b then None else Some e) ≡ None → b ≡ true
  so_many true e h = refl
  so_many false e h = absurd cc

  -- a function that takes the arguments, and whose result has a type where none may lack it
  abbrev Enters : Option ℕ → Option Callee → List Ty → Type 0
  Enters free o ts =
      IsTrue (callee_takes (single F) o (map (λ t. Some t) ts))
      × (free ≡ None → IsSome (o >>= λ c. single F c.number slot.Result))

  entry_by : (free : Option ℕ) (b : Bool) (r : Routine) (n : ℕ) (o : Option Callee)
      (q : Option Routine) (ts : List Ty) → IsHeaderTyped free F n r.params
      → (entry_fault q (length ts) ≡ None → Every (Keeps F p) (entry_flows o ts)
      → Enters free o ts)
      → entry_fault (if b then Some r else q) (length ts) ≡ None
      → Every (Keeps F p) (entry_flows (if b then Some (callee n r) else o) ts)
      → Enters free (if b then Some (callee n r) else o) ts
  entry_by free true r n o q ts typed rest e h =
      let many =
      eqb-true (length r.params) (length ts) (so_many (length r.params == length ts) _ e) in
      (given_taken n r.params ts h typed.params many, typed.result)
  entry_by free false r n o q ts typed rest e h = rest e h

  entry_enters : (free : Option ℕ) (rs : List Routine) (n : ℕ) (entry : List ℕ) (ts : List Ty)
      → AreHeadersTyped free F n rs → entry_fault (found rs entry) (length ts) ≡ None
      → Every (Keeps F p) (entry_flows (called_from rs entry n) ts)
      → Enters free (called_from rs entry n) ts
  entry_enters free [] n entry ts typed e h = absurd cc
  entry_enters free (r ∷ rs) n entry ts typed e h =
      entry_by free (same_bytes entry r.name) r n (called_from rs entry (n + 1))
      (found rs entry) ts typed.0 (entry_enters free rs (n + 1) entry ts typed.1) e h

-- no result may lack its type where that of the entry mustn't
none_free : (p : List Routine) (e : Entry) → e.free_result ≡ false → free_function p e ≡ None
none_free p e h = ap (λ b. if b then number_of (called p e.name) else None) h

-- what facts that type a program tell
pub record AreFacts (T : List Fact) (p : List Routine) (e : Entry) : Type 0 where
  pub alone : Every (IsAlone T) T
  pub headers : AreHeadersTyped (free_function p e) (set_of T) 0 p
  pub takes_them : IsTrue
      (callee_takes (single (set_of T)) (called p e.name) (map (λ t. Some t) e.types))
  pub gives : e.free_result ≡ false
      → IsSome (called p e.name >>= λ c. single (set_of T) c.number slot.Result)

pub are_facts : (T : List Fact) (p : List Routine) (e : Entry) → AreTypes T p e → AreFacts T p e
are_facts T p e h =
    let F = set_of T in
    let free = free_function p e in
    let one =
    none_both (names_fault p) (or_fault (entry_fault (found p e.name) (length e.types))
    (or_fault (slots_fault free F (slots p)) (nodes_fault (single F) p))) h.faultless in
    let two =
    none_both (entry_fault (found p e.name) (length e.types))
    (or_fault (slots_fault free F (slots p)) (nodes_fault (single F) p)) one.1 in
    let three = none_both (slots_fault free F (slots p)) (nodes_fault (single F) p) two.1 in
    let each = each_one free F (slots p) three.0 in
    let names =
    none_least (name_lines p) (not_earlier (least (name_lines p)) (least (arity_lines p)) one.0) in
    let headers = headers_typed free F p [] 0 p each names in
    let enters =
    entry_enters F p free p 0 e.name e.types headers two.0
    (every_front (Keeps F p) (entry_flows (called p e.name) e.types) (flows_from p 0 p)
    (every_of (Keeps F p) (flows p e) h.closed)) in
    record {
      alone = alone_each free T (slots p) T each (every_of (IsOfSlot p) T h.of_slots)
          (every_of (IsInSet T) T (facts_in T));
      headers = headers;
      takes_them = enters.0;
      gives = λ must. enters.1 (none_free p e must);
    }
