-- The facts that are given are the whole least set.
use Rattle.std.proofs.Common.{◌≡◌, ℕ, Bool, true, false, ◌||◌, ◌⊎◌, inl, inr, List, [], ◌∷◌, Option, Some, None, if◌then◌else◌, refl, sym, ap, ◌∙◌, subst}
use Rattle.mpy_tree.specs.declared.typing.Ty.{Ty}
use Rattle.mpy_tree.specs.declared.typing.Ty.TheVariants as ty
use Rattle.mpy_tree.specs.declared.typing.Slot.{Slot}
use Rattle.mpy_tree.specs.declared.typing.Fact.{Fact}
use Rattle.mpy_tree.specs.Syntax.{Routine}
use Rattle.mpy_tree.specs.Entries.{Entry}
use Rattle.mpy_tree.specs.declared.typing.TypeSet.{TypeSet}
use Rattle.mpy_tree.specs.declared.typing.TypeError.{TypeError}
use Rattle.mpy_tree.specs.TypeSets.{no_types, just, join, only}
use Rattle.mpy_tree.specs.SetTypes.{FactSet, same_place}
use Rattle.mpy_tree.specs.Flows.{IsLeast}
use Rattle.mpy_tree.specs.Faults.{Place, slots, listed, free_function, may_lack, slot_fault, slots_fault, or_fault, nodes_fault, facts_at, facts_with, first_fault}
use Rattle.mpy_tree.specs.Rules.{single}
use Rattle.mpy_tree.specs.Typings.{set_of, IsTyping}
use Rattle.mpy_types.proofs.SetLaws.{join_none}
use Rattle.mpy_scopes.proofs.Places.{at_place}
use Rattle.mpy_types.proofs.Targets.{stands_among}
use Rattle.mpy_type_laws.proofs.Targets.{within_slots, least_within_slots}
use Rattle.mpy_type_laws.proofs.Nothing.{none_both}

-- a set that is at no fault has one type, or has none and needs none
pub one_of : (may a b c d : Bool) (line : ℕ) → slot_fault may (listed (record { int = a; bool = b; list = c; text = d })) line ≡ None → ((t : Ty) × (record { int = a; bool = b; list = c; text = d } ≡ just t)) ⊎ ((may ≡ true) × (record { int = a; bool = b; list = c; text = d } ≡ no_types))
one_of may true false false false line e = inl (ty.Int, refl)
one_of may false true false false line e = inl (ty.Bool, refl)
one_of may false false true false line e = inl (ty.List, refl)
one_of may false false false true line e = inl (ty.Text, refl)
one_of true false false false false line e = inr (refl, refl)
one_of false false false false false line e = absurd (cc)
one_of may true true c d line e = absurd (cc)
one_of may true false true d line e = absurd (cc)
one_of may true false false true line e = absurd (cc)
one_of may false true true d line e = absurd (cc)
one_of may false true false true line e = absurd (cc)
one_of may false false true true line e = absurd (cc)

only_one : (t : Ty) → only (just t) ≡ Some t
only_one ty.Int = refl
only_one ty.Bool = refl
only_one ty.List = refl
only_one ty.Text = refl

pub join_same : (t : Ty) → join (just t) (just t) ≡ just t
join_same ty.Int = refl
join_same ty.Bool = refl
join_same ty.List = refl
join_same ty.Text = refl

joined_more : (m : Bool) (t : Ty) (s : TypeSet) → s ≡ just t → join (just t) (if m then s else no_types) ≡ s
joined_more true t s e = ap (join (just t)) e ∙ join_same t ∙ sym e
joined_more false t s e = join_none (just t) ∙ sym e

here_or_there : (b m : Bool) (t : Ty) (s w : TypeSet) → (b ≡ true → s ≡ just t) → w ≡ (if m then s else no_types) → (if b then join (just t) w else w) ≡ (if b || m then s else no_types)
here_or_there true m t s w h e = ap (join (just t)) e ∙ joined_more m t s (h refl)
here_or_there false m t s w h e = e

none_here : (b m : Bool) (s : TypeSet) → (b ≡ true → s ≡ no_types) → (if m then s else no_types) ≡ (if b || m then s else no_types)
none_here true true s h = refl
none_here true false s h = sym (h refl)
none_here false m s h = refl

set_first : (F : FactSet) (s : Place) (ss : List Place) (may : Bool) (j : ℕ) (y : Slot) → set_of (facts_at F ss) j y ≡ within_slots ss F j y → ((t : Ty) × (F s.func s.slot ≡ just t)) ⊎ ((may ≡ true) × (F s.func s.slot ≡ no_types)) → set_of (facts_at F (s ∷ ss)) j y ≡ within_slots (s ∷ ss) F j y
set_first F s ss may j y h (inl u) =
    let o : only (F s.func s.slot) ≡ Some u.0 = ap only u.1 ∙ only_one u.0 in
    ap (λ z. set_of (facts_with s z (facts_at F ss)) j y) o
    ∙ here_or_there (same_place s.func s.slot j y) (stands_among ss j y) u.0 (F j y) (set_of (facts_at F ss) j y)
    (λ k. let P : ℕ → Slot → Type 0 = λ n z. F n z ≡ just u.0 in at_place P s.func s.slot j y k u.1) h
set_first F s ss may j y h (inr u) =
    ap (λ z. set_of (facts_with s z (facts_at F ss)) j y) (ap only u.1)
    ∙ h
    ∙ none_here (same_place s.func s.slot j y) (stands_among ss j y) (F j y)
    (λ k. let P : ℕ → Slot → Type 0 = λ n z. F n z ≡ no_types in at_place P s.func s.slot j y k u.1)

set_at : (free : Option ℕ) (F : FactSet) (ss : List Place) (j : ℕ) (y : Slot) → slots_fault free F ss ≡ None → set_of (facts_at F ss) j y ≡ within_slots ss F j y
set_at free F [] j y e = refl
set_at free F (s ∷ ss) j y e =
    let k = none_both (slot_fault (may_lack free s) (listed (F s.func s.slot)) s.line) (slots_fault free F ss) e in
    set_first F s ss (may_lack free s) j y (set_at free F ss j y k.1)
    (one_of (may_lack free s) (F s.func s.slot).int (F s.func s.slot).bool (F s.func s.slot).list (F s.func s.slot).text s.line k.0)

third_none : (a b c d : Option TypeError) → or_fault a (or_fault b (or_fault c d)) ≡ None → c ≡ None
third_none None None None d e = refl
third_none None None (Some x) d e = absurd (cc)
third_none None (Some x) c d e = absurd (cc)
third_none (Some x) b c d e = absurd (cc)

-- the facts of a typing are its set
pub typing_set : (T : List Fact) (p : List Routine) (entry : Entry) (h : IsTyping T p entry) → set_of T ≡ h.set
typing_set T p entry h =
    let e : slots_fault (free_function p entry) h.set (slots p) ≡ None = third_none _ _ (slots_fault (free_function p entry) h.set (slots p)) (nodes_fault (single h.set) p) h.faultless in
    ap set_of h.facts
    ∙ (λ i j y. set_at (free_function p entry) h.set (slots p) j y e i)
    ∙ sym (least_within_slots h.set p entry h.least)

pub typing_types : (T : List Fact) (p : List Routine) (entry : Entry) → IsTyping T p entry → IsLeast (set_of T) p entry × (first_fault p entry (set_of T) ≡ None)
typing_types T p entry h =
    let e : set_of T ≡ h.set = typing_set T p entry h in
    let P : FactSet → Type 0 = λ F. IsLeast F p entry in
    (subst P (sym e) h.least, ap (first_fault p entry) e ∙ h.faultless)
