-- Each program has a typing or a first fault, which is told by a cause and a line.
use Rattle.std.proofs.Common.{◌≡◌, ℕ, Bool, true, false, List, [], ◌∷◌, length, Option, Some, None, refl, subst, inl, inr}
use Rattle.std.specs.Prelude.{◌⊎◌, ◌==◌, if◌then◌else◌, nat_lt}
use Rattle.mpy_tree.specs.declared.refusal.Cause.{Cause}
use Rattle.mpy_tree.specs.declared.refusal.Cause.TheVariants as cause
use Rattle.mpy_tree.specs.declared.typing.Ty.{Ty}
use Rattle.mpy_tree.specs.declared.typing.Fact.{Fact}
use Rattle.mpy_tree.specs.declared.typing.TypeError.{TypeError}
use Rattle.mpy_tree.specs.declared.typing.TypeError.TheVariants.{Fault, Conflict, NoMemory}
use Rattle.mpy_tree.specs.Entries.{Entry}
use Rattle.mpy_tree.specs.Faults.{Place, broken_from, earlier, entry_fault, facts_at, fault_on, first_fault, free_function, listed, may_lack, names_fault, nodes_fault, or_fault, slot_fault, slots, slots_fault}
use Rattle.mpy_tree.specs.Leasts.{least}
use Rattle.mpy_tree.specs.Names.{arity_lines, name_lines}
use Rattle.mpy_tree.specs.Rules.{single}
use Rattle.mpy_tree.specs.Running.{found}
use Rattle.mpy_tree.specs.SetTypes.{FactSet}
use Rattle.mpy_tree.specs.Syntax.{Routine}
use Rattle.mpy_tree.specs.Flows.{IsLeast}
use Rattle.mpy_tree.specs.Typings.{IsFirstFault, IsTyping}
use Rattle.task_read.specs.TypedPrograms.{IsTypingRefused, by_conflict, by_fault}
use Rattle.task_read.proofs.LeastTypes.{some_least}

-- a fault of a program, if any, and no want of memory
abbrev IsTold : Option TypeError → Type 0
IsTold None = Unit {0}
IsTold (Some (Fault c line)) = Unit {0}
IsTold (Some (Conflict line one other)) = Unit {0}
IsTold (Some NoMemory) = ⊥

or_told : (a b : Option TypeError) → IsTold a → IsTold b → IsTold (or_fault a b)
or_told None b h k = k
or_told (Some e) b h k = h

if_told : (t : Bool) (a b : Option TypeError) → IsTold a → IsTold b → IsTold (if t then a else b)
if_told true a b h k = h
if_told false a b h k = k

earlier_told : (a b : Option ℕ) → IsTold (earlier a b)
earlier_told None None = tt
earlier_told (Some n) None = tt
earlier_told None (Some a) = tt
earlier_told (Some n) (Some a) = if_told (nat_lt a n) (Some (Fault cause.Arity a)) (Some (Fault cause.Name n)) tt tt

entry_told : (r : Option Routine) (n : ℕ) → IsTold (entry_fault r n)
entry_told None n = tt
entry_told (Some r) n = if_told (length r.params == n) None (Some (Fault cause.Entry r.line)) tt tt

slot_told : (may : Bool) (ts : List Ty) (line : ℕ) → IsTold (slot_fault may ts line)
slot_told may [] line = if_told may None (Some (Fault cause.Undetermined line)) tt tt
slot_told may (a ∷ []) line = tt
slot_told may (a ∷ b ∷ ts) line = tt

slots_told : (free : Option ℕ) (F : FactSet) (ss : List Place) → IsTold (slots_fault free F ss)
slots_told free F [] = tt
slots_told free F (s ∷ ss) =
    let may = may_lack free s in
    or_told (slot_fault may (listed (F s.func s.slot)) s.line) (slots_fault free F ss) (slot_told may (listed (F s.func s.slot)) s.line) (slots_told free F ss)

on_told : (o : Option ℕ) → IsTold (fault_on o)
on_told None = tt
on_told (Some line) = tt

first_told : (p : List Routine) (e : Entry) (F : FactSet) → IsTold (first_fault p e F)
first_told p e F =
    let free = free_function p e in
    or_told (names_fault p) _ (earlier_told (least (name_lines p)) (least (arity_lines p)))
    (or_told (entry_fault (found p e.name) (length e.types)) _ (entry_told (found p e.name) (length e.types))
    (or_told (slots_fault free F (slots p)) (nodes_fault (single F) p) (slots_told free F (slots p)) (on_told (least (broken_from (single F) p 0 p)))))

refused_by : (p : List Routine) (e : Entry) (f : TypeError) → IsTold (Some f) → IsFirstFault f p e → (c : Cause) × (line : ℕ) × IsTypingRefused p e c line
refused_by p e (Fault c line) told first = (c, line, by_fault c line (inr first))
refused_by p e (Conflict line one other) told first = (cause.TypeFault, line, by_conflict line one other (inr first))
refused_by p e NoMemory told first = absurd told

-- a typing, or a refusal of names, the entry or types
abbrev pub IsTypedOrNot : List Routine → Entry → Type 0
IsTypedOrNot p e =
    ((T : List Fact) × IsTyping T p e)
    ⊎ ((c : Cause) × (line : ℕ) × IsTypingRefused p e c line)

pub typed_or_faulted : (p : List Routine) (e : Entry) → IsTypedOrNot p e
typed_or_faulted p e =
    let some = some_least p e in
    by some.0 some.1 (first_fault p e some.0) refl
  where
    by : (F : FactSet) → IsLeast F p e → (o : Option TypeError) → first_fault p e F ≡ o → IsTypedOrNot p e
    by F least None is = inl (facts_at F (slots p), record { set = F; least = least; faultless = is; facts = refl })
    by F least (Some f) is = inr (refused_by p e f (subst IsTold is (first_told p e F)) (record { set = F; least = least; first = is }))
