-- Paths through a body, and what they read as under truth values.
use Rattle.std.specs.Prelude.{◌≡◌, ℕ, Bool, true, false, ◌&&◌, List, [], ◌∷◌, ◌++◌, length, map}
use Rattle.std.specs.Prelude.{take, drop, option_map, option_to_list, Option, Some, None}
use Rattle.std.specs.Prelude.{if◌then◌else◌, ◌==◌, nat_le}
use Rattle.std.specs.List.{list_all}
use Rattle.mpy_tree.specs.declared.value.Value.{Value}
use Rattle.mpy_tree.specs.declared.limits.Limits.{Limits}
use Rattle.mpy_tree.specs.Values.{Locals, State, nothing_set, same_bytes}
use Rattle.bit_words.specs.Logic.{OwnsAll}
use Rattle.sym_values.specs.declared.value.SymValue.{SymValue}
use Rattle.sym_values.specs.Forms.{Form, bits_of, form_of, forms_of, gathered, values_bits}
use Rattle.bit_words.specs.Words.{nat_of}
use Rattle.sym_values.specs.Printed.{word_spelled}
use Rattle.sym_values.specs.declared.value.SymValue.TheVariants as sym
use Rattle.sym_paths.specs.declared.slots.Slots.{Slots}
use Rattle.sym_paths.specs.Slots.{kept_by, print_forms, result_form}
use Rattle.sym_values.specs.Reading.{Reading, map_bits, read, spelled, sure}
use Rattle.sym_paths.specs.declared.path.Path.{Path}
use Rattle.sym_paths.specs.declared.path.Given.{Given}

-- A path under truth values: whether it is gone, which means that the run takes it, and what the
-- values and the set bits of the locals are there.
pub record Way : Type 0 where
  pub gone : Bool
  pub values : List (SymValue Bool)
  pub set : List Bool

-- a path, where each bit reads as `rd` says
abbrev pub way : {B : Type 0} → (B → Bool) → Path B → Way
way rd p = record { gone = rd p.bit; values = map (map_bits rd) p.values; set = map rd p.set }

abbrev pub ways : {B : Type 0} → (B → Bool) → List (Path B) → List Way
ways rd = map (way rd)

-- whether the length of each value is one that its items allow
abbrev pub are_proper : List (SymValue Bool) → Bool
are_proper [] = true
are_proper (v ∷ vs) = (spelled v).proper && are_proper vs

-- what a local is, by its set bit and its value
abbrev pub set_to : Bool → SymValue Bool → Option Value
set_to true v = Some (spelled v).value
set_to false v = None

-- The locals of which the names have these values, where they are set. Of a name that stands twice
-- the first counts.
abbrev pub state_in : List (List ℕ) → List (SymValue Bool) → List Bool → Locals
state_in (n ∷ ns) (v ∷ vs) (b ∷ bs) =
    λ x. if same_bytes x n then set_to b v else state_in ns vs bs x
state_in [] vs bs = nothing_set
state_in (n ∷ ns) [] bs = nothing_set
state_in (n ∷ ns) (v ∷ vs) [] = nothing_set

-- a state, and whether all its values are proper
pub record Arrival : Type 0 where
  pub proper : Bool
  pub state : State

-- the word of a number
abbrev pub word_in : SymValue Bool → List Bool
word_in (sym.Int w) = w
word_in (sym.Bool b) = []
word_in (sym.List len xs) = []
word_in (sym.Text len xs) = []

-- What is kept of printed values stands as their number and a word for each that may be kept. These
-- are the words that count.
abbrev pub words_kept : List (SymValue Bool) → List (List Bool)
words_kept [] = []
words_kept (n ∷ ws) = map word_in (take (nat_of (word_in n)) ws)

-- the printed values, where they are kept
abbrev pub printed_in : Limits → List (SymValue Bool) → Option (List Value)
printed_in l [] = None
printed_in l (n ∷ ws) = Some (map (λ w. (word_spelled l w).value) (words_kept (n ∷ ws)))

-- whether there are as many words as their number says
abbrev pub number_fits : List (SymValue Bool) → Bool
number_fits [] = true
number_fits (n ∷ ws) = nat_le (nat_of (word_in n)) (length ws)

-- whether what is kept is proper: the number, and each printed value
abbrev pub kept_proper : Limits → List (SymValue Bool) → Bool
kept_proper l ps = number_fits ps && list_all (λ w. (word_spelled l w).proper) (words_kept ps)

-- what is kept of a way's printed values, behind the values of the locals
abbrev pub kept_on : Slots → Way → List (SymValue Bool)
kept_on c w = drop (length c.types) w.values

-- where a way leads
abbrev pub arrival : Slots → Way → Arrival
arrival c w = record {
  proper = are_proper w.values && kept_proper c.limits (kept_on c w);
  state = record {
    locals = state_in c.names w.values w.set;
    printed = printed_in c.limits (kept_on c w);
  };
}

-- where the first way leads that is gone, if one is
abbrev pub gone_way : Slots → List Way → Option Arrival
gone_way c [] = None
gone_way c (w ∷ ws) = if w.gone then Some (arrival c w) else gone_way c ws

-- A state that the meaning reaches, with proper values, or none. That a path leads there is
-- `gone_way c (way rd path ∷ []) ≡ reached o`: it is gone exactly where there is a state, and
-- what stands there is then that state.
abbrev pub reached : Option State → Option Arrival
reached None = None
reached (Some s) = Some (record { proper = true; state = s })

-- a return under truth values: whether it is made, its value, if it has one, and what is kept
pub record Handed : Type 0 where
  pub gone : Bool
  pub value : Option (SymValue Bool)
  pub printed : List (SymValue Bool)

abbrev pub handed : {B : Type 0} → (B → Bool) → Given B → Handed
handed rd x = record {
  gone = rd x.bit;
  value = option_map (map_bits rd) x.value;
  printed = map (map_bits rd) x.printed;
}

-- what is returned, with the printed values that are kept, and whether these are proper
pub record Return : Type 0 where
  pub value : Option Reading
  pub proper : Bool
  pub printed : Option (List Value)

abbrev pub return_of : Limits → Handed → Return
return_of l h = record {
  value = option_map spelled h.value;
  proper = kept_proper l h.printed;
  printed = printed_in l h.printed;
}

-- the first return that is made, if one is
abbrev pub first_handed : Limits → List Handed → Option Return
first_handed l [] = None
first_handed l (h ∷ hs) = if h.gone then Some (return_of l h) else first_handed l hs

-- values read as these
abbrev pub ReadAs : {B : Type 0} → (B → Bool) → List (SymValue B) → List Value → Type 0
ReadAs rd [] [] = Unit {0}
ReadAs rd (x ∷ xs) (v ∷ vs) = (read rd x ≡ sure v) × ReadAs rd xs vs
ReadAs rd [] (v ∷ vs) = ⊥
ReadAs rd (x ∷ xs) [] = ⊥

-- the bits of a path, and of a returned value
abbrev pub path_bits : {B : Type 0} → Path B → List B
path_bits p = p.bit ∷ (values_bits p.values ++ p.set)

abbrev pub given_bits : {B : Type 0} → Given B → List B
given_bits x = x.bit ∷ (gathered bits_of (option_to_list x.value) ++ values_bits x.printed)

-- a path whose bits belong to a state of the logic, with values of these forms, each with its bit
pub record HoldsPath {S B : Type 0} (owns : S → B → Type 0) (s : S) (fs : List Form) (p : Path B)
    : Type 0 where
  pub owned : OwnsAll owns s (path_bits p)
  pub forms_are : forms_of p.values ≡ fs
  pub long : length p.set ≡ length fs

abbrev pub EachPath : {S B : Type 0} → (S → B → Type 0) → S → List Form → List (Path B) → Type 0
EachPath owns s fs [] = Unit {0}
EachPath owns s fs (p ∷ ps) = HoldsPath owns s fs p × EachPath owns s fs ps

-- several such paths
pub record HoldsPaths {S B : Type 0} (owns : S → B → Type 0) (s : S) (fs : List Form)
    (ps : List (Path B)) : Type 0 where
  pub each : EachPath owns s fs ps

-- a value of the result's form, or none, where printed values are kept
abbrev pub IsGivenBy : {B : Type 0} → Slots → Option (SymValue B) → Type 0
IsGivenBy c None = (c.prints == 0) ≡ false
IsGivenBy c (Some v) = Some (form_of v) ≡ result_form c

-- what is kept of printed values, whose bits belong to a state of the logic
pub record HoldsKept {S B : Type 0} (owns : S → B → Type 0) (s : S) (c : Slots)
    (ps : List (SymValue B)) : Type 0 where
  pub owned : OwnsAll owns s (values_bits ps)
  pub forms_are : forms_of ps ≡ print_forms c.limits c.prints

-- Values of locals, and behind them what is kept at first.
pub record BeginsKept {S B : Type 0} (owns : S → B → Type 0) (reads : S → List Bool → B → Bool)
    (s : S) (c : Slots) (locals all : List (SymValue B)) : Type 0 where
  pub kept : List (SymValue B)
  pub behind : all ≡ locals ++ kept
  pub held : HoldsKept owns s c kept
  pub reads_as : (vs : List Bool)
      → printed_in c.limits (map (map_bits (reads s vs)) kept) ≡ kept_by c
  pub proper : (vs : List Bool)
      → kept_proper c.limits (map (map_bits (reads s vs)) kept) ≡ true

-- A return whose bits belong to a state of the logic, with a value of the result's form or none.
pub record HoldsGiven {S B : Type 0} (owns : S → B → Type 0) (s : S) (c : Slots) (x : Given B)
    : Type 0 where
  pub owned : OwnsAll owns s (given_bits x)
  pub form_is : IsGivenBy c x.value
  pub kept : forms_of x.printed ≡ print_forms c.limits c.prints

abbrev pub EachGiven : {S B : Type 0} → (S → B → Type 0) → S → Slots → List (Given B) → Type 0
EachGiven owns s c [] = Unit {0}
EachGiven owns s c (x ∷ xs) = HoldsGiven owns s c x × EachGiven owns s c xs

-- several such values
pub record HoldsAllGiven {S B : Type 0} (owns : S → B → Type 0) (s : S) (c : Slots)
    (xs : List (Given B)) : Type 0 where
  pub each : EachGiven owns s c xs
