-- Where ways lead, by parts.
use Rattle.std.proofs.Common.{◌≡◌, Bool, List, Option}
use Rattle.mpy_tree.specs.declared.value.Value.{Value}
use Rattle.mpy_tree.specs.Values.{Locals, State}
use Rattle.sym_paths.specs.Paths.{Arrival}

abbrev pub the_state : Locals → Option (List Value) → State
the_state s p = record { locals = s; printed = p }

pub same_state : {s t : Locals} {p q : Option (List Value)} → s ≡ t → p ≡ q
    → the_state s p ≡ the_state t q
same_state {s} {t} {p} {q} a b = cc

abbrev pub the_arrival : Bool → State → Arrival
the_arrival b s = record { proper = b; state = s }

pub same_arrival : {a b : Bool} {s t : State} → a ≡ b → s ≡ t → the_arrival a s ≡ the_arrival b t
same_arrival {a} {b} {s} {t} p q = cc
