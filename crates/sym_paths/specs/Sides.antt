-- The two sides of a test, and what they show.
use Rattle.std.specs.Prelude.{◌≡◌, Bool, true, false, not, Option, Some, None, refl}
use Rattle.std.specs.Prelude.{if◌then◌else◌}
use Rattle.std.proofs.Common.{◌∙◌, ap}
use Rattle.std.specs.declared.result.Result.{Result}
use Rattle.std.specs.declared.result.Result.TheVariants.{Ok, Err}
use Rattle.mpy_tree.specs.declared.value.Value.{Value}
use Rattle.mpy_tree.specs.declared.outcome.Halted.{Halted}
use Rattle.mpy_tree.specs.Values.{State}
use Rattle.mpy_tree.specs.Operations.{holds}
use Rattle.mpy_tree.specs.Statements.{Ran, tested}
use Rattle.sym_paths.specs.Paths.{Arrival, reached}
use Rattle.sym_paths.specs.Endings.{seen_of, seen_from, and_seen}
use Rattle.sym_paths.specs.Sights.{and_nothing}

-- a fault bit and a test bit are those of a value as a test
abbrev pub IsTest : Bool → Bool → Result Value Halted → Type 0
IsTest fault test (Ok v) = (fault ≡ false) × (test ≡ holds v)
IsTest fault test (Err h) = fault ≡ true

-- a fault bit says whether something is given
abbrev pub IsFault : {A : Type 0} → Bool → Result A Halted → Type 0
IsFault fault (Ok a) = fault ≡ false
IsFault fault (Err h) = fault ≡ true

-- the state where something is given
abbrev pub fine_at : {A : Type 0} → Result A Halted → State → Option State
fine_at (Ok a) s = Some s
fine_at (Err h) s = None

abbrev pub fine : {A : Type 0} → Option State → (State → Result A Halted) → Option State
fine None k = None
fine (Some s) k = fine_at (k s) s

-- the state where a test holds, and where it doesn't
abbrev pub passing : Result Value Halted → State → Option State
passing (Ok v) s = if holds v then Some s else None
passing (Err h) s = None

abbrev pub missing : Result Value Halted → State → Option State
missing (Ok v) s = if holds v then None else Some s
missing (Err h) s = None

abbrev pub passes : Option State → (State → Result Value Halted) → Option State
passes None k = None
passes (Some s) k = passing (k s) s

abbrev pub misses : Option State → (State → Result Value Halted) → Option State
misses None k = None
misses (Some s) k = missing (k s) s

yes_by : (f t b : Bool) (s : State) → f ≡ false → t ≡ b
    → (if f then None else if t then reached (Some s) else None)
    ≡ reached (if b then Some s else None)
yes_by true t b s p q = cc
yes_by false true true s p q = refl
yes_by false false false s p q = refl
yes_by false true false s p q = cc
yes_by false false true s p q = cc

no_by : (f t b : Bool) (s : State) → f ≡ false → t ≡ b
    → (if f then None else if t then None else reached (Some s))
    ≡ reached (if b then None else Some s)
no_by true t b s p q = cc
no_by false true true s p q = refl
no_by false false false s p q = refl
no_by false true false s p q = cc
no_by false false true s p q = cc

yes_at : (f t : Bool) (s : State) (r : Result Value Halted) → IsTest f t r
    → (if f then None else if t then reached (Some s) else None) ≡ reached (passing r s)
yes_at f t s (Ok v) h = yes_by f t (holds v) s h.0 h.1
yes_at true t s (Err e) h = refl
yes_at false t s (Err e) h = cc

no_at : (f t : Bool) (s : State) (r : Result Value Halted) → IsTest f t r
    → (if f then None else if t then None else reached (Some s)) ≡ reached (missing r s)
no_at f t s (Ok v) h = no_by f t (holds v) s h.0 h.1
no_at true t s (Err e) h = refl
no_at false t s (Err e) h = cc

none_by : (f t : Bool) → (if f then None else if t then None else None) ≡ reached None
none_by true t = refl
none_by false true = refl
none_by false false = refl

yes_is : (o : Option State) (f t : Bool) (k : State → Result Value Halted)
    → ((s : State) → o ≡ Some s → IsTest f t (k s))
    → (if f then None else if t then reached o else None) ≡ reached (passes o k)
yes_is None f t k h = none_by f t
yes_is (Some s) f t k h = yes_at f t s (k s) (h s refl)

no_is : (o : Option State) (f t : Bool) (k : State → Result Value Halted)
    → ((s : State) → o ≡ Some s → IsTest f t (k s))
    → (if f then None else if t then None else reached o) ≡ reached (misses o k)
no_is None f t k h = none_by f t
no_is (Some s) f t k h = no_at f t s (k s) (h s refl)

-- where the sides of a test lead, if the path that it divides leads to `o`
pub leads_yes : (a b : Option Arrival) (o : Option State) (f t : Bool)
    (k : State → Result Value Halted) → b ≡ reached o
    → ((s : State) → o ≡ Some s → IsTest f t (k s))
    → a ≡ (if f then None else if t then b else None) → a ≡ reached (passes o k)
leads_yes a b o f t k e h d =
    d ∙ ap (λ (i : Option Arrival). if f then None else if t then i else None) e ∙ yes_is o f t k h

pub leads_no : (a b : Option Arrival) (o : Option State) (f t : Bool)
    (k : State → Result Value Halted) → b ≡ reached o
    → ((s : State) → o ≡ Some s → IsTest f t (k s))
    → a ≡ (if f then None else if t then None else b) → a ≡ reached (misses o k)
leads_no a b o f t k e h d =
    d ∙ ap (λ (i : Option Arrival). if f then None else if t then None else i) e ∙ no_is o f t k h

-- what a test's two sides show, the one first or the other
side_by : (b : Bool) (s : State) (body rest : State → Ran)
    → and_seen (seen_from (if b then Some s else None) body)
    (seen_from (if b then None else Some s) rest)
    ≡ seen_of (if b then body s else rest s)
side_by true s body rest = and_nothing (seen_of (body s))
side_by false s body rest = refl

side_at : (s : State) (r : Result Value Halted) (body rest : State → Ran)
    → and_seen (seen_from (passing r s) body) (seen_from (missing r s) rest)
    ≡ seen_of (tested r (body s) (rest s))
side_at s (Ok v) body rest = side_by (holds v) s body rest
side_at s (Err h) body rest = refl

pub sides : (o : Option State) (k : State → Result Value Halted) (body rest : State → Ran)
    → and_seen (seen_from (passes o k) body) (seen_from (misses o k) rest)
    ≡ seen_from o (λ s. tested (k s) (body s) (rest s))
sides None k body rest = refl
sides (Some s) k body rest = side_at s (k s) body rest

turned_by : (b : Bool) (s : State) (body rest : State → Ran)
    → and_seen (seen_from (if b then None else Some s) rest)
    (seen_from (if b then Some s else None) body)
    ≡ seen_of (if b then body s else rest s)
turned_by true s body rest = refl
turned_by false s body rest = and_nothing (seen_of (rest s))

turned_at : (s : State) (r : Result Value Halted) (body rest : State → Ran)
    → and_seen (seen_from (missing r s) rest) (seen_from (passing r s) body)
    ≡ seen_of (tested r (body s) (rest s))
turned_at s (Ok v) body rest = turned_by (holds v) s body rest
turned_at s (Err h) body rest = refl

pub sides_turned : (o : Option State) (k : State → Result Value Halted) (body rest : State → Ran)
    → and_seen (seen_from (misses o k) rest) (seen_from (passes o k) body)
    ≡ seen_from o (λ s. tested (k s) (body s) (rest s))
sides_turned None k body rest = refl
sides_turned (Some s) k body rest = turned_at s (k s) body rest

-- where a path leads that is narrowed to where something is given
fine_by : {A : Type 0} (f : Bool) (s : State) (r : Result A Halted) → IsFault f r
    → (if not f then reached (Some s) else None) ≡ reached (fine_at r s)
fine_by true s (Ok a) h = cc
fine_by false s (Ok a) h = refl
fine_by true s (Err e) h = refl
fine_by false s (Err e) h = cc

off_by : (f : Bool) → (if not f then reached None else None) ≡ reached None
off_by true = refl
off_by false = refl

fine_is : {A : Type 0} (o : Option State) (f : Bool) (k : State → Result A Halted)
    → ((s : State) → o ≡ Some s → IsFault f (k s))
    → (if not f then reached o else None) ≡ reached (fine o k)
fine_is None f k h = off_by f
fine_is (Some s) f k h = fine_by f s (k s) (h s refl)

pub leads_fine : {A : Type 0} (a b : Option Arrival) (o : Option State) (f : Bool)
    (k : State → Result A Halted) → b ≡ reached o
    → ((s : State) → o ≡ Some s → IsFault f (k s))
    → a ≡ (if not f then b else None) → a ≡ reached (fine o k)
leads_fine a b o f k e h d =
    d ∙ ap (λ (i : Option Arrival). if not f then i else None) e ∙ fine_is o f k h
