-- How what is seen of an end is put together.
use Rattle.std.specs.Prelude.{◌≡◌, Bool, true, false, List, [], ◌∷◌, ◌++◌, Option, Some, None}
use Rattle.std.specs.Prelude.{refl}
use Rattle.std.proofs.Common.{cond, ap, sym}
use Rattle.mpy_tree.specs.declared.limits.Limits.{Limits}
use Rattle.mpy_tree.specs.Values.{State}
use Rattle.mpy_tree.specs.Statements.{Ran, Next, Broke, Continued, Returned, Failed}
use Rattle.mpy_tree.specs.Statements.{then_on, then_turn}
use Rattle.sym_paths.specs.declared.slots.Slots.{Slots}
use Rattle.sym_paths.specs.Paths.{Way, Handed, Arrival, Return, arrival, gone_way, reached}
use Rattle.sym_paths.specs.Paths.{first_handed, return_of}
use Rattle.sym_paths.specs.Endings.{Seen, nothing_seen, seen_of, seen_from, or_other, and_seen}
use Rattle.sym_paths.specs.Endings.{ended, turned}

pub or_none : {A : Type 0} (a : Option A) → or_other a None ≡ a
or_none None = refl
or_none (Some a) = refl

pub or_assoc : {A : Type 0} (a b c : Option A)
    → or_other (or_other a b) c ≡ or_other a (or_other b c)
or_assoc None b c = refl
or_assoc (Some a) b c = refl

-- what is seen, by its parts
abbrev pub the_sight : Option Arrival → Option Arrival → Option Arrival → Option Return → Seen
the_sight a b c d = record { next = a; broke = b; continued = c; returned = d }

pub same_sight : {a a' b b' c c' : Option Arrival} {d d' : Option Return}
    → a ≡ a' → b ≡ b' → c ≡ c' → d ≡ d' → the_sight a b c d ≡ the_sight a' b' c' d'
same_sight {a} {a'} {b} {b'} {c} {c'} {d} {d'} p q r s = cc

pub and_nothing : (x : Seen) → and_seen x nothing_seen ≡ x
and_nothing x =
    same_sight (or_none x.next) (or_none x.broke) (or_none x.continued) (or_none x.returned)

pub and_assoc : (x y z : Seen) → and_seen (and_seen x y) z ≡ and_seen x (and_seen y z)
and_assoc x y z = same_sight
    (or_assoc x.next y.next z.next)
    (or_assoc x.broke y.broke z.broke)
    (or_assoc x.continued y.continued z.continued)
    (or_assoc x.returned y.returned z.returned)

-- ways, and returns, after others
pub gone_append : (c : Slots) (xs ys : List Way)
    → gone_way c (xs ++ ys) ≡ or_other (gone_way c xs) (gone_way c ys)
gone_append c [] ys = refl
gone_append c (x ∷ xs) ys =
    elim x.gone as (λ (b : Bool). cond b (Some (arrival c x)) (gone_way c (xs ++ ys))
    ≡ or_other (cond b (Some (arrival c x)) (gone_way c xs)) (gone_way c ys)) [
      | true ↦ refl
      | false ↦ gone_append c xs ys
    ]

pub handed_append : (l : Limits) (xs ys : List Handed)
    → first_handed l (xs ++ ys) ≡ or_other (first_handed l xs) (first_handed l ys)
handed_append l [] ys = refl
handed_append l (x ∷ xs) ys =
    elim x.gone as (λ (b : Bool). cond b (Some (return_of l x)) (first_handed l (xs ++ ys))
    ≡ or_other (cond b (Some (return_of l x)) (first_handed l xs)) (first_handed l ys)) [
      | true ↦ refl
      | false ↦ handed_append l xs ys
    ]

-- the state from which the next statement runs
abbrev pub state_next : Ran → Option State
state_next (Next s) = Some s
state_next (Broke s) = None
state_next (Continued s) = None
state_next (Returned v s) = None
state_next (Failed h) = None

abbrev pub onward : Option State → (State → Ran) → Option State
onward None run = None
onward (Some s) run = state_next (run s)

-- the state from which the next turn of a loop begins
abbrev pub state_again : Ran → Option State
state_again (Next s) = Some s
state_again (Broke s) = None
state_again (Continued s) = Some s
state_again (Returned v s) = None
state_again (Failed h) = None

abbrev pub again : Option State → (State → Ran) → Option State
again None run = None
again (Some s) run = state_again (run s)

pub next_is : (o : Option State) (run : State → Ran)
    → (seen_from o run).next ≡ reached (onward o run)
next_is None run = refl
next_is (Some s) run =
    elim (run s) as (λ (r : Ran). (seen_of r).next ≡ reached (state_next r)) [
      | Next t ↦ refl
      | Broke t ↦ refl
      | Continued t ↦ refl
      | Returned v t ↦ refl
      | Failed h ↦ refl
    ]

pub again_is : (o : Option State) (run : State → Ran)
    → or_other (seen_from o run).next (seen_from o run).continued ≡ reached (again o run)
again_is None run = refl
again_is (Some s) run =
    elim (run s) as (λ (r : Ran).
    or_other (seen_of r).next (seen_of r).continued ≡ reached (state_again r)) [
      | Next t ↦ refl
      | Broke t ↦ refl
      | Continued t ↦ refl
      | Returned v t ↦ refl
      | Failed h ↦ refl
    ]

-- a statement, and those after it
pub on_is : (o : Option State) (run after : State → Ran)
    → and_seen (ended (seen_from o run)) (seen_from (onward o run) after)
    ≡ seen_from o (λ s. then_on (run s) after)
on_is None run after = refl
on_is (Some s) run after =
    elim (run s) as (λ (r : Ran).
    and_seen (ended (seen_of r)) (seen_from (state_next r) after)
    ≡ seen_of (then_on r after)) [
      | Next t ↦ refl
      | Broke t ↦ refl
      | Continued t ↦ refl
      | Returned v t ↦ refl
      | Failed h ↦ refl
    ]

-- a turn, and those after it
pub turn_is : (o : Option State) (run after : State → Ran)
    → and_seen (turned (seen_from o run)) (seen_from (again o run) after)
    ≡ seen_from o (λ s. then_turn (run s) after)
turn_is None run after = refl
turn_is (Some s) run after =
    elim (run s) as (λ (r : Ran).
    and_seen (turned (seen_of r)) (seen_from (state_again r) after)
    ≡ seen_of (then_turn r after)) [
      | Next t ↦ refl
      | Broke t ↦ refl
      | Continued t ↦ refl
      | Returned v t ↦ refl
      | Failed h ↦ refl
    ]

-- what a way on shows, and nothing else
pub only_next : (o : Option State) → the_sight (reached o) None None None ≡ seen_from o Next
only_next None = refl
only_next (Some s) = refl

-- a halt shows nothing
pub halt_shows : (o : Option State) (run : State → Ran)
    → ((s : State) → seen_of (run s) ≡ nothing_seen) → nothing_seen ≡ seen_from o run
halt_shows None run h = refl
halt_shows (Some s) run h = sym (h s)

-- what is shown where runs are the same
pub seen_same : (o : Option State) (run other : State → Ran) → ((s : State) → run s ≡ other s)
    → seen_from o run ≡ seen_from o other
seen_same None run other h = refl
seen_same (Some s) run other h = ap seen_of (h s)

-- where no state is reached nothing more is seen
pub reached_none : (o : Option State) → reached o ≡ None → o ≡ None
reached_none None e = refl
reached_none (Some s) e = cc

pub nothing_from : (o : Option State) (run : State → Ran) → reached o ≡ None
    → nothing_seen ≡ seen_from o run
nothing_from None run e = refl
nothing_from (Some s) run e = absurd cc

pub nothing_more : (x : Seen) (o : Option State) (run : State → Ran) → reached o ≡ None
    → and_seen x (seen_from o run) ≡ x
nothing_more x None run e = and_nothing x
nothing_more x (Some s) run e = cc
