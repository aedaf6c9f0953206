-- The facts of a typing are about the slots of the program.
use Rattle.std.proofs.Common.{Bool, true, false, ◌||◌, List, [], ◌∷◌, Option, Some, None, IsTrue, refl, sym, subst}
use Rattle.std.specs.List.{All, list_any}
use Rattle.std.proofs.lemmas.List.Elements.{All-nil, All-cons}
use Rattle.mpy_tree.specs.declared.typing.Ty.{Ty}
use Rattle.mpy_tree.specs.declared.typing.Fact.{Fact}
use Rattle.mpy_tree.specs.Syntax.{Routine}
use Rattle.mpy_tree.specs.Entries.{Entry}
use Rattle.mpy_tree.specs.TypeSets.{only}
use Rattle.mpy_tree.specs.SetTypes.{FactSet, same_place}
use Rattle.mpy_tree.specs.Faults.{Place, slots, facts_at, facts_with, fact}
use Rattle.mpy_tree.specs.Typings.{IsOfSlot, IsTyping, AreTypes}
use Rattle.mpy_scopes.proofs.Places.{place_same}
use Rattle.mpy_types.proofs.Every.{Every}
use Rattle.mpy_type_laws.proofs.WholeFacts.{typing_types}

abbrev IsAmong : List Place → Place → Type 0
IsAmong ss s = IsTrue (list_any (λ z. same_place s.func s.slot z.func z.slot) ss)

or_right : (a b : Bool) → IsTrue b → IsTrue (a || b)
or_right true b h = refl
or_right false b h = h

or_left : (a b : Bool) → IsTrue a → IsTrue (a || b)
or_left true b h = refl
or_left false b h = absurd (cc)

among_more : (z : Place) (ss ts : List Place) → Every (IsAmong ss) ts → Every (IsAmong (z ∷ ss)) ts
among_more z ss [] h = tt
among_more z ss (t ∷ ts) h = (or_right (same_place t.func t.slot z.func z.slot) _ h.0, among_more z ss ts h.1)

all_among : (ss : List Place) → Every (IsAmong ss) ss
all_among [] = tt
all_among (s ∷ ss) = (or_left (same_place s.func s.slot s.func s.slot) _ (place_same s.func s.slot), among_more s ss ss (all_among ss))

fact_of : (p : List Routine) (s : Place) (o : Option Ty) (fs : List Fact) → IsAmong (slots p) s → All (IsOfSlot p) fs → All (IsOfSlot p) (facts_with s o fs)
fact_of p s None fs h k = k
fact_of p s (Some t) fs h k = All-cons (IsOfSlot p) (fact s.func s.slot t) fs h k

facts_of : (F : FactSet) (p : List Routine) (ss : List Place) → Every (IsAmong (slots p)) ss → All (IsOfSlot p) (facts_at F ss)
facts_of F p [] h = All-nil (IsOfSlot p)
facts_of F p (s ∷ ss) h = fact_of p s (only (F s.func s.slot)) (facts_at F ss) h.0 (facts_of F p ss h.1)

pub are_types : (T : List Fact) (p : List Routine) (entry : Entry) → IsTyping T p entry → AreTypes T p entry
are_types T p entry h =
    let k = typing_types T p entry h in
    let P : List Fact → Type 0 = λ fs. All (IsOfSlot p) fs in
    record { of_slots = subst P (sym h.facts) (facts_of h.set p (slots p) (all_among (slots p))); closed = k.0.closed; faultless = k.1 }
