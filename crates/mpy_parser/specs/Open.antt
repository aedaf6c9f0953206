-- What is still open above a line, the nearest first: the lines so far, but for those that a later
-- line is less deep than.
use Rattle.std.specs.Prelude.{ℕ, Bool, false, not, ◌&&◌, ◌||◌, ◌==◌, nat_lt, List, [], ◌∷◌, Option}
use Rattle.std.specs.Prelude.{Some, None, if◌then◌else◌}
use Rattle.mpy_parser.specs.declared.places.Place.{Place}
use Rattle.mpy_parser.specs.Nesting.{ItemLine}
use Rattle.mpy_parser.specs.Faults.{is_open, is_arm, is_loop, goes_on_arm, is_function, leaves}
use Rattle.mpy_parser.specs.Faults.{has_deeper}

abbrev pub nearest : {A : Type 0} → List A → Option A
nearest [] = None
nearest (x ∷ xs) = Some x

abbrev pub beyond : {A : Type 0} → List A → List A
beyond [] = []
beyond (x ∷ xs) = xs

-- the columns that aren't deeper
abbrev pub past : ℕ → List ℕ → List ℕ
past c [] = []
past c (d ∷ ds) = if nat_lt c d then past c ds else d ∷ ds

abbrev pub ends_at : ℕ → List ℕ → Bool
ends_at c [] = false
ends_at c (d ∷ ds) = c == d

-- the places that aren't deeper
abbrev pub past_places : ℕ → List Place → List Place
past_places c [] = []
past_places c (p ∷ ps) = if nat_lt c p.column then past_places c ps else p ∷ ps

-- deeper than a place that isn't an open header
abbrev pub is_stray_at : ℕ → List Place → Bool
is_stray_at c [] = false
is_stray_at c (p ∷ ps) = nat_lt p.column c && not p.is_open

-- whether an arm of that column is nearest
abbrev pub arm_at : ℕ → List Place → Bool
arm_at c [] = false
arm_at c (p ∷ ps) = p.column == c && p.is_arm

-- whether a line of that column stands in a loop
abbrev pub loop_at : ℕ → List Place → Bool
loop_at c [] = false
loop_at c (p ∷ ps) = if nat_lt p.column c then p.body_in_loop else p.in_loop

-- the place of a line below these, none of which is deeper
abbrev pub place : ItemLine → List Place → Place
place l ps = record {
  column = l.column;
  is_open = is_open l.item;
  is_arm = is_arm l.item;
  in_loop = loop_at l.column ps;
  body_in_loop = is_loop l.item || loop_at l.column ps;
}

-- whether a line that isn't stray is at fault below these, none of which is deeper
abbrev pub is_fault_at : List Place → ItemLine → List ItemLine → Bool
is_fault_at ps l rest =
    (is_open l.item && not (has_deeper l.column rest))
    || (goes_on_arm l.item && not (arm_at l.column ps))
    || not ((l.column == 0 && is_function l.item)
    || (not (l.column == 0) && not (is_function l.item)))
    || (leaves l.item && not (is_loop l.item || loop_at l.column ps))
