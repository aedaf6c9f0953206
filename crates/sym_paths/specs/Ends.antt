-- The ends of a run, one of which is met.
use Rattle.std.specs.Prelude.{◌≡◌, ⊤, ℕ, Bool, true, false, List, [], ◌∷◌, map, Option, Some, None}
use Rattle.std.specs.Prelude.{IsSome, option_map, option_to_list, if◌then◌else◌}
use Rattle.mpy_tree.specs.declared.limits.Limits.{Limits}
use Rattle.mpy_tree.specs.Statements.{Ran, Next, Broke, Continued, Returned, Failed}
use Rattle.mpy_tree.specs.Values.{State}
use Rattle.bit_words.specs.Logic.{OwnsAll}
use Rattle.sym_values.specs.declared.value.SymValue.{SymValue}
use Rattle.sym_values.specs.Forms.{Form, form_of, values_bits}
use Rattle.sym_values.specs.Reading.{Reading, map_bits, read, spelled, sure}
use Rattle.sym_values.specs.Results.{IsValueIn}
use Rattle.sym_paths.specs.declared.done.Ended.{Ended}
use Rattle.sym_paths.specs.declared.finish.Returned.{Returned as ReturnedValue}
use Rattle.sym_paths.specs.declared.slots.Slots.{Slots}
use Rattle.sym_paths.specs.Paths.{Return, Way, kept_on, kept_proper, printed_in, HoldsKept}
use Rattle.sym_paths.specs.Slots.{result_form}

-- a value that is returned where a bit holds: both belong to a state of the logic
pub record HoldsReturned {S B : Type 0} (owns : S → B → Type 0) (s : S) (f : Form)
    (x : ReturnedValue B) : Type 0 where
  pub bit : owns s x.bit
  pub value : IsValueIn owns s f x.value

-- what it reads as, if it is returned
abbrev pub gives : {B : Type 0} → (B → Bool) → ReturnedValue B → Option Reading
gives rd x = if rd x.bit then Some (read rd x.value) else None

-- a value of the result's form, or none
abbrev pub IsMaybeBy : {B : Type 0} → Slots → Option (SymValue B) → Type 0
IsMaybeBy c None = ⊤
IsMaybeBy c (Some v) = Some (form_of v) ≡ result_form c

-- An end whose bits belong to a state of the logic. Where it has a value there is one.
pub record HoldsEnded {S B : Type 0} (owns : S → B → Type 0) (reads : S → List Bool → B → Bool)
    (s : S) (c : Slots) (e : Ended B) : Type 0 where
  pub bit : owns s e.bit
  pub has : owns s e.has
  pub value : OwnsAll owns s (values_bits (option_to_list e.value))
  pub form_is : IsMaybeBy c e.value
  pub kept : HoldsKept owns s c e.printed
  pub some : (vs : List Bool) → reads s vs e.has ≡ true → IsSome e.value

-- the value of an end, where it has one
abbrev pub value_if : Bool → Option (SymValue Bool) → Option Reading
value_if true v = option_map spelled v
value_if false v = None

-- what is seen of an end, if it is met
abbrev pub met : {B : Type 0} → Limits → (B → Bool) → Ended B → Option Return
met l rd e =
    if rd e.bit then Some (record {
      value = value_if (rd e.has) (option_map (map_bits rd) e.value);
      proper = kept_proper l (map (map_bits rd) e.printed);
      printed = printed_in l (map (map_bits rd) e.printed);
    }) else None

-- what is seen of a way that leads out of the body: it ends the run without a value
abbrev pub end_of : Slots → Way → Return
end_of c w = record {
  value = None;
  proper = kept_proper c.limits (kept_on c w);
  printed = printed_in c.limits (kept_on c w);
}

-- the end by the first way that is gone, if one is
abbrev pub first_end : Slots → List Way → Option Return
first_end c [] = None
first_end c (w ∷ ws) = if w.gone then Some (end_of c w) else first_end c ws

-- what is to be seen of a run's end
abbrev pub end_seen : Ran → Option Return
end_seen (Next s) = Some (record { value = None; proper = true; printed = s.printed })
end_seen (Broke s) = Some (record { value = None; proper = true; printed = s.printed })
end_seen (Continued s) = Some (record { value = None; proper = true; printed = s.printed })
end_seen (Returned v s) =
    Some (record { value = option_map sure v; proper = true; printed = s.printed })
end_seen (Failed h) = None
