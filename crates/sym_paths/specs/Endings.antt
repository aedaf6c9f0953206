-- How a body ends, as it is seen from the ways that lead out of it.
use Rattle.std.specs.Prelude.{◌≡◌, Bool, true, List, [], ◌∷◌, Option, Some, None, map}
use Rattle.std.specs.Prelude.{option_map}
use Rattle.mpy_tree.specs.Values.{State}
use Rattle.mpy_tree.specs.Statements.{Ran, Next, Broke, Continued, Returned, Failed}
use Rattle.sym_values.specs.Reading.{sure}
use Rattle.sym_paths.specs.declared.slots.Slots.{Slots}
use Rattle.sym_paths.specs.Slots.{slot_forms}
use Rattle.sym_paths.specs.declared.path.Path.{Path}
use Rattle.sym_paths.specs.declared.path.Out.{Out}
use Rattle.sym_paths.specs.Paths.{Arrival, Return, reached, gone_way, way, ways, first_handed}
use Rattle.sym_paths.specs.Paths.{handed}
use Rattle.sym_paths.specs.Paths.{HoldsPaths, HoldsAllGiven}

-- What is seen of an end: where the first way that is gone leads on, out of the loop and to its
-- next turn, and what is returned. Of a halt nothing is seen, whatever its kind and its line.
pub record Seen : Type 0 where
  pub next : Option Arrival
  pub broke : Option Arrival
  pub continued : Option Arrival
  pub returned : Option Return

abbrev pub nothing_seen : Seen
nothing_seen = record { next = None; broke = None; continued = None; returned = None }

-- what is to be seen of an end
abbrev pub seen_of : Ran → Seen
seen_of (Next s) =
    record { next = reached (Some s); broke = None; continued = None; returned = None }
seen_of (Broke s) =
    record { next = None; broke = reached (Some s); continued = None; returned = None }
seen_of (Continued s) =
    record { next = None; broke = None; continued = reached (Some s); returned = None }
seen_of (Returned v s) =
    record {
      next = None;
      broke = None;
      continued = None;
      returned = Some (record { value = option_map sure v; proper = true; printed = s.printed });
    }
seen_of (Failed h) = nothing_seen

-- the same of a run from a state, where one is reached; else nothing is to be seen
abbrev pub seen_from : Option State → (State → Ran) → Seen
seen_from None run = nothing_seen
seen_from (Some s) run = seen_of (run s)

-- what the ways out of a body show
abbrev pub see : {B : Type 0} → (B → Bool) → Slots → Out B → Seen
see rd c out = record {
  next = gone_way c (ways rd out.next);
  broke = gone_way c (ways rd out.broke);
  continued = gone_way c (ways rd out.continued);
  returned = first_handed c.limits (map (handed rd) out.returned);
}

-- the first of two, where there is one, or else the second
abbrev pub or_other : {A : Type 0} → Option A → Option A → Option A
or_other None b = b
or_other (Some a) b = Some a

-- what is seen of two parts, of which the first counts
abbrev pub and_seen : Seen → Seen → Seen
and_seen x y = record {
  next = or_other x.next y.next;
  broke = or_other x.broke y.broke;
  continued = or_other x.continued y.continued;
  returned = or_other x.returned y.returned;
}

-- what is seen of a statement but for the way on
abbrev pub ended : Seen → Seen
ended x =
    record { next = None; broke = x.broke; continued = x.continued; returned = x.returned }

-- what is seen of a turn as an end of its loop: a way out of the loop is the loop's way on
abbrev pub turned : Seen → Seen
turned x = record { next = x.broke; broke = None; continued = None; returned = x.returned }

-- Under all truth values the ways out of a body show how a run ends that begins where a path leads,
-- and nothing where the path isn't gone.
abbrev pub RunsAs : {S B : Type 0} → (S → List Bool → B → Bool) → (old new : S)
    → Slots → Path B → Out B → (State → Ran) → Type 0
RunsAs reads old new c path out run =
    (vs : List Bool) (o : Option State)
    → gone_way c (way (reads old vs) path ∷ []) ≡ reached o
    → see (reads new vs) c out ≡ seen_from o run

-- all that leads out of a body belongs to a state of the logic
pub record HoldsOut {S B : Type 0} (owns : S → B → Type 0) (s : S) (c : Slots)
    (out : Out B) : Type 0 where
  pub next : HoldsPaths owns s (slot_forms c) out.next
  pub broke : HoldsPaths owns s (slot_forms c) out.broke
  pub continued : HoldsPaths owns s (slot_forms c) out.continued
  pub returned : HoldsAllGiven owns s c out.returned
