-- In a program that facts type each statement is typed, and the entry's arguments are for its parameters.
use Rattle.std.proofs.Common.{◌≡◌, ℕ, zero, suc, ◌+◌, Bool, true, false, not, ◌||◌, List, [], ◌∷◌, length, map, Option, Some, None, if◌then◌else◌, ◌⊎◌, inl, inr, IsTrue, refl, sym, ap, ◌∙◌, subst, arith}
use Rattle.std.specs.Prelude.{⊤, is_some, slice_get, ◌==◌}
use Rattle.std.specs.List.{All, flat_map}
use Rattle.std.proofs.lemmas.Bool.{eqb-true}
use Rattle.std.proofs.lemmas.List.Elements.{All-nil, All-cons}
use Rattle.mpy_tree.specs.declared.limits.Limits.{Limits}
use Rattle.mpy_tree.specs.declared.value.Value.{Value}
use Rattle.mpy_tree.specs.declared.operators.ArithOp.TheVariants.{Add, Sub, Mul, Floor, Rem, Power}
use Rattle.mpy_tree.specs.declared.typing.Ty.{Ty}
use Rattle.mpy_tree.specs.declared.typing.Ty.TheVariants as ty
use Rattle.mpy_tree.specs.declared.typing.TypeSet.{TypeSet}
use Rattle.mpy_tree.specs.declared.typing.Slot.{Slot}
use Rattle.mpy_tree.specs.declared.typing.Slot.TheVariants as slot
use Rattle.mpy_tree.specs.declared.typing.Fact.{Fact}
use Rattle.mpy_tree.specs.declared.typing.TypeError.{TypeError}
use Rattle.mpy_tree.specs.Syntax.{Term, no_term, a_term, Action, Routine}
use Rattle.mpy_tree.specs.Syntax as ast
use Rattle.mpy_tree.specs.Entries.{Entry}
use Rattle.mpy_tree.specs.Values.{same_bytes}
use Rattle.mpy_tree.specs.Running.{found}
use Rattle.mpy_tree.specs.TypeSets.{has, no_types, just, only, IsWithin}
use Rattle.mpy_tree.specs.SetTypes.{FactSet, types_in, Callee, callee, called, called_from, same_place, same_slot}
use Rattle.mpy_tree.specs.Sites.{Site, does, asks, line_of, sites}
use Rattle.mpy_tree.specs.Flows.{Flow, Keeps, act_flows, site_flows, all_site_flows, flows_from, given_flows, entry_flows, flows}
use Rattle.mpy_tree.specs.Rules.{single, type_in, act_obeys, site_obeys}
use Rattle.mpy_tree.specs.Leasts.{least}
use Rattle.mpy_tree.specs.Names.{lines_of}
use Rattle.mpy_tree.specs.Faults.{Place, slots, listed, free_function, may_lack, slot_fault, slots_fault, broken_from, nodes_fault, names_fault, entry_fault, or_fault}
use Rattle.mpy_tree.specs.Typings.{AreTypes, set_of}
use Rattle.mpy_tree.specs.Fitting.{fits_as, all_fit_as}
use Rattle.mpy_scopes.proofs.Places.{at_place}
use Rattle.mpy_types.proofs.Every.{Every, every_of}
use Rattle.mpy_types.proofs.Targets.{stands_among, Lands, flows_land}
use Rattle.typed_programs.specs.Keeping.{is_for, are_for, AreFor, takes_call, Settles, IsTyped}
use Rattle.typed_programs.proofs.FittingLists.{and_true, and_both}
use Rattle.typed_programs.proofs.OneType.{has_one, types_are, some_type, settled}
use Rattle.typed_programs.proofs.Statements.{IsFine, for_slot, every_left, every_right}
use Rattle.mpy_tree.proofs.Leasts.{none_least}
use Rattle.mpy_type_laws.proofs.Nothing.{nil_left, nil_right, none_both, not_on}
use Rattle.mpy_type_laws.proofs.WholeFacts.{one_of}

all_of : {A : Type 0} (P : A → Type 0) (xs : List A) → Every P xs → All P xs
all_of P [] h = All-nil P
all_of P (x ∷ xs) h = All-cons P x xs h.0 (all_of P xs h.1)

obeyed : (b : Bool) (line : ℕ) (rest : List ℕ) → (if not b then line ∷ rest else rest) ≡ [] → (b ≡ true) × (rest ≡ [])
obeyed true line rest e = (refl, e)
obeyed false line rest e = absurd (cc)

pub either_is : (a b : Bool) (P : Type 0) → (a ≡ true → P) → (b ≡ true → P) → (a || b) ≡ true → P
either_is true b P f g h = f refl
either_is false b P f g h = g h

some_just : (t : Ty) → is_some (only (just t)) ≡ true
some_just ty.Int = refl
some_just ty.Bool = refl
some_just ty.List = refl
some_just ty.Text = refl

none_has : (t : Ty) → IsTrue (has no_types t) → ⊥
none_has ty.Int h = cc
none_has ty.Bool h = cc
none_has ty.List h = cc
none_has ty.Text h = cc

-- a slot that may have no type is a result
lacking_result : (free : Option ℕ) (s : Place) → may_lack free s ≡ true → same_slot slot.Result s.slot ≡ true
lacking_result None s h = absurd (cc)
lacking_result (Some j) s h = (and_true (j == s.func) (same_slot slot.Result s.slot) h).1

module _ (F : FactSet) where
  -- a slot has one type, but a result may have none
  abbrev pub HasOne : ℕ → Slot → Type 0
  HasOne j (slot.Local x) = is_some (single F j (slot.Local x)) ≡ true
  HasOne j slot.Result = (is_some (single F j slot.Result) ≡ true) ⊎ (F j slot.Result ≡ no_types)

  some_one : (j : ℕ) (y : Slot) (t : Ty) → F j y ≡ just t → is_some (single F j y) ≡ true
  some_one j y t e = ap (λ z. is_some (only z)) e ∙ some_just t

  with_one : (j : ℕ) (y : Slot) (t : Ty) → F j y ≡ just t → HasOne j y
  with_one j (slot.Local x) t e = some_one j (slot.Local x) t e
  with_one j slot.Result t e = inl (some_one j slot.Result t e)

  with_none : (j : ℕ) (y : Slot) → same_slot slot.Result y ≡ true → F j y ≡ no_types → HasOne j y
  with_none j (slot.Local x) h e = absurd (cc)
  with_none j slot.Result h e = inr e

  at_place_has : (free : Option ℕ) (s : Place) → ((t : Ty) × (F s.func s.slot ≡ just t)) ⊎ ((may_lack free s ≡ true) × (F s.func s.slot ≡ no_types)) → HasOne s.func s.slot
  at_place_has free s (inl u) = with_one s.func s.slot u.0 u.1
  at_place_has free s (inr u) = with_none s.func s.slot (lacking_result free s u.0) u.1

  one_each : (free : Option ℕ) (ss : List Place) (j : ℕ) (y : Slot) → slots_fault free F ss ≡ None → stands_among ss j y ≡ true → HasOne j y
  one_each free [] j y e h = absurd (cc)
  one_each free (s ∷ ss) j y e h =
      let k = none_both (slot_fault (may_lack free s) (listed (F s.func s.slot)) s.line) (slots_fault free F ss) e in
      let set = F s.func s.slot in
      let one = at_place_has free s (one_of (may_lack free s) set.int set.bool set.list set.text s.line k.0) in
      either_is (same_place s.func s.slot j y) (stands_among ss j y) (HasOne j y)
      (λ m. at_place HasOne s.func s.slot j y m one)
      (one_each free ss j y k.1) h

  module _ (p : List Routine) where
    -- all types of the source belong to a slot that has one type, or to a result that has none
    abbrev pub Reaches : Flow → Type 0
    Reaches f = Keeps F p f × HasOne f.func f.slot

    all_reach : (free : Option ℕ) (fs : List Flow) → slots_fault free F (slots p) ≡ None → Every (Keeps F p) fs → Every (Lands (slots p)) fs → Every Reaches fs
    all_reach free [] e h k = tt
    all_reach free (f ∷ fs) e h k = ((h.0, one_each free (slots p) f.func f.slot e k.0), all_reach free fs e h.1 k.1)

    -- a result to which an expression of a type flows has a type
    result_has : (i : ℕ) (e : Term) → is_some (type_in (single F) p i e) ≡ true → IsWithin (types_in F p i e) (F i slot.Result) → HasOne i slot.Result → is_some (single F i slot.Result) ≡ true
    result_has i e h k (inl m) = m
    result_has i e h k (inr m) =
        let t = some_type (type_in (single F) p i e) h in
        let P : TypeSet → Type 0 = λ s. IsTrue (has s t.0) in
        absurd (none_has t.0 (subst P m (k t.0 (subst P (sym (types_are F p i e t.0 t.1)) (has_one t.0)))))

    -- what flows from a statement that obeys its rule settles the types of slots
    act_settles : (i : ℕ) (act : Action) → act_obeys (single F) p i act ≡ true → Every Reaches (act_flows i act) → Every (Settles F p) (act_flows i act)
    act_settles i (ast.Assign x e) h k = k
    act_settles i (ast.Augment x Mul e) h k = tt
    act_settles i (ast.Augment x Add e) h k = k
    act_settles i (ast.Augment x Sub e) h k = k
    act_settles i (ast.Augment x Floor e) h k = k
    act_settles i (ast.Augment x Rem e) h k = k
    act_settles i (ast.Augment x Power e) h k = k
    act_settles i (ast.Put x j e) h k = tt
    act_settles i (ast.AugmentAt x j op e) h k = tt
    act_settles i (ast.Append x e) h k = tt
    act_settles i (ast.Print e) h k = tt
    act_settles i (ast.Return no_term) h k = tt
    act_settles i (ast.Return (a_term e)) h k = ((k.0.0, result_has i e h k.0.0 k.0.1), tt)
    act_settles i ast.Pass h k = tt
    act_settles i ast.Break h k = tt
    act_settles i ast.Continue h k = tt
    act_settles i (ast.If arms last) h k = tt
    act_settles i (ast.While e body) h k = tt
    act_settles i (ast.For x e body) h k = k

    site_settles : (i : ℕ) (s : Site) → site_obeys (single F) p i s ≡ true → Every Reaches (site_flows i s) → Every (Settles F p) (site_flows i s)
    site_settles i (does line act) h k = act_settles i act h k
    site_settles i (asks line e) h k = tt

    -- the functions from the number i on have fine statements
    abbrev pub AreFineFrom : ℕ → List Routine → Type 0
    AreFineFrom i [] = ⊤
    AreFineFrom i (r ∷ rs) = Every (IsFine F p i) (sites r.body) × AreFineFrom (i + 1) rs

    sites_fine : (i : ℕ) (ss : List Site) → lines_of (λ s. not (site_obeys (single F) p i s)) ss ≡ [] → Every Reaches (flat_map (all_site_flows p i) ss) → Every (IsFine F p i) ss
    sites_fine i [] e h = tt
    sites_fine i (s ∷ ss) e h =
        let k = obeyed (site_obeys (single F) p i s) (line_of s) (lines_of (λ s. not (site_obeys (single F) p i s)) ss) e in (
          (k.0, site_settles i s k.0 (every_left Reaches (site_flows i s) _ (every_left Reaches (all_site_flows p i s) (flat_map (all_site_flows p i) ss) h))),
          sites_fine i ss k.1 (every_right Reaches (all_site_flows p i s) (flat_map (all_site_flows p i) ss) h),
        )

    fine_from : (i : ℕ) (rs : List Routine) → broken_from (single F) p i rs ≡ [] → Every Reaches (flows_from p i rs) → AreFineFrom i rs
    fine_from i [] e h = tt
    fine_from i (r ∷ rs) e h = (
      sites_fine i (sites r.body) (nil_left _ (broken_from (single F) p (i + 1) rs) e) (every_left Reaches (flat_map (all_site_flows p i) (sites r.body)) (flows_from p (i + 1) rs) h),
      fine_from (i + 1) rs (nil_right (lines_of (λ s. not (site_obeys (single F) p i s)) (sites r.body)) _ e) (every_right Reaches (flat_map (all_site_flows p i) (sites r.body)) (flows_from p (i + 1) rs) h),
    )

    -- the statements of one function
    all_typed : (i : ℕ) (ss : List Site) → Every (IsFine F p i) ss → All (IsTyped F p i) ss
    all_typed i [] h = All-nil (IsTyped F p i)
    all_typed i (s ∷ ss) h = All-cons (IsTyped F p i) s ss (h.0.0, all_of (Settles F p) (site_flows i s) h.0.1) (all_typed i ss h.1)

    pub body_typed : (n : ℕ) (rs : List Routine) → AreFineFrom n rs → (k i : ℕ) (r : Routine) → n + k ≡ i → slice_get rs k ≡ Some r → All (IsTyped F p i) (sites r.body)
    body_typed n [] h k i r e g = absurd (cc)
    body_typed n (q ∷ rs) h zero i r e g =
        let same : q ≡ r = cc in
        let place : n ≡ i = omega (arith, e) in
        let P : Routine → Type 0 = λ z. All (IsTyped F p i) (sites z.body) in
        let Q : ℕ → Type 0 = λ m. All (IsTyped F p m) (sites q.body) in
        subst P same (subst Q place (all_typed n (sites q.body) h.0))
    body_typed n (q ∷ rs) h (suc k) i r e g = body_typed (n + 1) rs h.1 k i r (omega (arith, e)) g

    module _ (l : Limits) where
      -- the entry's arguments are for its parameters
      given_for : (j : ℕ) (xs : List (List ℕ)) (ts : List Ty) (vs : List Value) → Every Reaches (given_flows j xs ts) → length xs ≡ length ts → all_fit_as l ts vs ≡ true → AreFor l (map (λ x. single F j (slot.Local x)) xs) vs
      given_for j [] [] [] h e f = refl
      given_for j [] [] (v ∷ vs) h e f = absurd (cc)
      given_for j [] (t ∷ ts) vs h e f = absurd (omega arith)
      given_for j (x ∷ xs) [] vs h e f = absurd (omega arith)
      given_for j (x ∷ xs) (t ∷ ts) [] h e f = absurd (cc)
      given_for j (x ∷ xs) (t ∷ ts) (v ∷ vs) h e f =
          let k = and_true (fits_as l t v) (all_fit_as l ts vs) f in
          and_both (is_for l (single F j (slot.Local x)) v) (are_for l (map (λ z. single F j (slot.Local z)) xs) vs)
          (for_slot l (single F j (slot.Local x)) v t (settled (just t) (F j (slot.Local x)) t refl h.0.0 h.0.1) k.0) (given_for j xs ts vs h.1 (omega arith) k.1)

      same_count : (b : Bool) (e : TypeError) → (if b then None else Some e) ≡ None → b ≡ true
      same_count true e h = refl
      same_count false e h = absurd (cc)

      entry_at : (b : Bool) (r : Routine) (n : ℕ) (o : Option Callee) (q : Option Routine) (ts : List Ty) (vs : List Value) → all_fit_as l ts vs ≡ true → (entry_fault q (length ts) ≡ None → Every Reaches (entry_flows o ts) → IsTrue (takes_call (single F) l o vs)) → entry_fault (if b then Some r else q) (length ts) ≡ None → Every Reaches (entry_flows (if b then Some (callee n r) else o) ts) → IsTrue (takes_call (single F) l (if b then Some (callee n r) else o) vs)
      entry_at true r n o q ts vs f k e h = given_for n r.params ts vs h (eqb-true (length r.params) (length ts) (same_count (length r.params == length ts) _ e)) f
      entry_at false r n o q ts vs f k e h = k e h

      entry_from : (rs : List Routine) (n : ℕ) (entry : List ℕ) (ts : List Ty) (vs : List Value) → all_fit_as l ts vs ≡ true → entry_fault (found rs entry) (length ts) ≡ None → Every Reaches (entry_flows (called_from rs entry n) ts) → IsTrue (takes_call (single F) l (called_from rs entry n) vs)
      entry_from [] n entry ts vs f e h = absurd (cc)
      entry_from (r ∷ rs) n entry ts vs f e h = entry_at (same_bytes entry r.name) r n (called_from rs entry (n + 1)) (found rs entry) ts vs f (entry_from rs (n + 1) entry ts vs f) e h

-- what facts that type a program tell
module _ (T : List Fact) (p : List Routine) (entry : Entry) (h : AreTypes T p entry) where
  abbrev F : FactSet
  F = set_of T

  -- of the slots, and of the nodes
  abbrev typed : Option TypeError
  typed = or_fault (slots_fault (free_function p entry) F (slots p)) (nodes_fault (single F) p)

  abbrev entered : Option TypeError
  entered = entry_fault (found p entry.name) (length entry.types)

  no_fault : (entered ≡ None) × (slots_fault (free_function p entry) F (slots p) ≡ None) × (nodes_fault (single F) p ≡ None)
  no_fault =
      let k = none_both (names_fault p) (or_fault entered typed) h.faultless in
      let m = none_both entered typed k.1 in
      let n = none_both (slots_fault (free_function p entry) F (slots p)) (nodes_fault (single F) p) m.1 in
      (m.0, n.0, n.1)

  all_reached : Every (Reaches F p) (flows p entry)
  all_reached = all_reach F p (free_function p entry) (flows p entry) no_fault.1 (every_of (Keeps F p) (flows p entry) h.closed) (flows_land p entry)

  pub all_fine : AreFineFrom F p 0 p
  all_fine =
      fine_from F p 0 p (none_least (broken_from (single F) p 0 p) (not_on (least (broken_from (single F) p 0 p)) no_fault.2))
      (every_right (Reaches F p) (entry_flows (called p entry.name) entry.types) (flows_from p 0 p) all_reached)

  pub entry_for : (l : Limits) (vs : List Value) → all_fit_as l entry.types vs ≡ true → IsTrue (takes_call (single F) l (called p entry.name) vs)
  entry_for l vs f =
      entry_from F p l p 0 entry.name entry.types vs f no_fault.0 (every_left (Reaches F p) (entry_flows (called p entry.name) entry.types) (flows_from p 0 p) all_reached)
