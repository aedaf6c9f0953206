-- The turns of a `for`, seen from the ways that lead out of them.
--
-- `vs` are the items that are left; in the steps `x`, `o` and `y` are as in those of a `while`.
use Rattle.std.specs.Prelude.{◌≡◌, ◌<◌, ◌-◌, ℕ, zero, suc, Bool, true, false, List, [], ◌∷◌}
use Rattle.std.specs.Prelude.{Option, Some, None, drop, if◌then◌else◌, refl}
use Rattle.std.proofs.Common.{◌∙◌, ap, arith}
use Rattle.std.specs.declared.result.Result.{Result}
use Rattle.std.specs.declared.result.Result.TheVariants.{Ok, Err}
use Rattle.mpy_tree.specs.declared.value.Value.{Value}
use Rattle.mpy_tree.specs.declared.outcome.Halted.{Halted}
use Rattle.mpy_tree.specs.Values.{State, assign}
use Rattle.mpy_tree.specs.Statements.{Ran, Next, given, then_turn, for_turns}
use Rattle.sym_values.specs.Reading.{Reading, sure}
use Rattle.sym_paths.specs.Paths.{Arrival, reached}
use Rattle.sym_paths.specs.Endings.{Seen, seen_of, seen_from, and_seen, turned}
use Rattle.sym_paths.specs.Sights.{and_assoc, again, turn_is}
use Rattle.sym_paths.specs.Sides.{fine, fine_at}

-- whether an item is left
abbrev pub is_more : List Value → Bool
is_more [] = false
is_more (v ∷ vs) = true

-- the state where an item is left, and where none is
abbrev pub staying : Option State → List Value → Option State
staying None vs = None
staying (Some s) vs = if is_more vs then Some s else None

abbrev pub leaving : Option State → List Value → Option State
leaving None vs = None
leaving (Some s) vs = if is_more vs then None else Some s

-- the state at the beginning of a turn: a local is the next item
abbrev pub entering : Option State → List ℕ → List Value → Option State
entering None x vs = None
entering (Some s) x [] = None
entering (Some s) x (v ∷ vs) = Some (assign s x v)

-- a turn of a `for`, and those after it
items_is : (o : Option State) (vs : List Value) (name : List ℕ) (body : State → Ran) (n line : ℕ)
    → and_seen (seen_from (leaving o vs) Next)
    (seen_from (entering o name vs)
    (λ s. then_turn (body s) (for_turns (drop 1 vs) n name body line)))
    ≡ seen_from o (for_turns vs (suc n) name body line)
items_is None vs name body n line = refl
items_is (Some s) [] name body n line = refl
items_is (Some s) (v ∷ vs) name body n line = refl

pub item_step : (x y : Seen) (o : Option State) (vs : List Value) (name : List ℕ)
    (body : State → Ran) (n line : ℕ)
    → y ≡ and_seen (and_seen x (seen_from (leaving o vs) Next))
    (turned (seen_from (entering o name vs) body))
    → and_seen y
    (seen_from (again (entering o name vs) body) (for_turns (drop 1 vs) n name body line))
    ≡ and_seen x (seen_from o (for_turns vs (suc n) name body line))
item_step x y o vs name body n line e =
    let leave = seen_from (leaving o vs) Next in
    let turn = turned (seen_from (entering o name vs) body) in
    let after = for_turns (drop 1 vs) n name body line in
    let rest = seen_from (again (entering o name vs) body) after in
    ap (λ (z : Seen). and_seen z rest) e
    ∙ and_assoc (and_seen x leave) turn rest
    ∙ ap (and_seen (and_seen x leave)) (turn_is (entering o name vs) body after)
    ∙ and_assoc x leave (seen_from (entering o name vs) (λ s. then_turn (body s) after))
    ∙ ap (and_seen x) (items_is o vs name body n line)

-- the same, by how many turns are left
pub item_more : (x y : Seen) (o : Option State) (vs : List Value) (name : List ℕ)
    (body : State → Ran) (n line : ℕ) → 0 < n
    → y ≡ and_seen (and_seen x (seen_from (leaving o vs) Next))
    (turned (seen_from (entering o name vs) body))
    → and_seen y
    (seen_from (again (entering o name vs) body) (for_turns (drop 1 vs) (n - 1) name body line))
    ≡ and_seen x (seen_from o (for_turns vs n name body line))
item_more x y o vs name body zero line h e = absurd (omega arith)
item_more x y o vs name body (suc n) line h e =
    let same : suc n - 1 ≡ n = omega arith in
    let next = again (entering o name vs) body in
    ap (λ (m : ℕ). and_seen y (seen_from next (for_turns (drop 1 vs) m name body line))) same
    ∙ item_step x y o vs name body n line e

-- no turn of a `for` is left: where an item is there is Turns
last_is : (o : Option State) (vs : List Value) (name : List ℕ) (body : State → Ran) (line : ℕ)
    → seen_from (leaving o vs) Next ≡ seen_from o (for_turns vs 0 name body line)
last_is None vs name body line = refl
last_is (Some s) [] name body line = refl
last_is (Some s) (v ∷ vs) name body line = refl

pub last_item : (x y : Seen) (o : Option State) (vs : List Value) (name : List ℕ)
    (body : State → Ran) (line : ℕ) → y ≡ and_seen x (seen_from (leaving o vs) Next)
    → y ≡ and_seen x (seen_from o (for_turns vs 0 name body line))
last_item x y o vs name body line e = e ∙ ap (and_seen x) (last_is o vs name body line)

-- no item is left
pub no_item : (x y : Seen) (o : Option State) (vs : List Value) (name : List ℕ)
    (body : State → Ran) (n line : ℕ) → vs ≡ [] → y ≡ and_seen x (seen_from o Next)
    → y ≡ and_seen x (seen_from o (for_turns vs n name body line))
no_item x y o [] name body n line h e = e
no_item x y o (v ∷ vs) name body n line h e = absurd cc

-- where the sides lead on which an item is left, and none is, if the path leads to `o`
stays_by : (t b : Bool) (s : State) → t ≡ b
    → (if t then reached (Some s) else None) ≡ reached (if b then Some s else None)
stays_by true true s e = refl
stays_by false false s e = refl
stays_by true false s e = cc
stays_by false true s e = cc

leaves_by : (t b : Bool) (s : State) → t ≡ b
    → (if t then None else reached (Some s)) ≡ reached (if b then None else Some s)
leaves_by true true s e = refl
leaves_by false false s e = refl
leaves_by true false s e = cc
leaves_by false true s e = cc

none_by : (t : Bool) → (if t then None else None) ≡ reached None
none_by true = refl
none_by false = refl

stays_is : (o : Option State) (t : Bool) (vs : List Value)
    → ((s : State) → o ≡ Some s → t ≡ is_more vs)
    → (if t then reached o else None) ≡ reached (staying o vs)
stays_is None t vs h = none_by t
stays_is (Some s) t vs h = stays_by t (is_more vs) s (h s refl)

leaves_is : (o : Option State) (t : Bool) (vs : List Value)
    → ((s : State) → o ≡ Some s → t ≡ is_more vs)
    → (if t then None else reached o) ≡ reached (leaving o vs)
leaves_is None t vs h = none_by t
leaves_is (Some s) t vs h = leaves_by t (is_more vs) s (h s refl)

pub leads_on : (a b : Option Arrival) (o : Option State) (f t : Bool) (vs : List Value)
    → b ≡ reached o → f ≡ false → ((s : State) → o ≡ Some s → t ≡ is_more vs)
    → a ≡ (if f then None else if t then b else None) → a ≡ reached (staying o vs)
leads_on a b o f t vs e g h d =
    d ∙ ap (λ (i : Bool). if i then None else if t then b else None) g
    ∙ ap (λ (i : Option Arrival). if t then i else None) e ∙ stays_is o t vs h

pub leads_out : (a b : Option Arrival) (o : Option State) (f t : Bool) (vs : List Value)
    → b ≡ reached o → f ≡ false → ((s : State) → o ≡ Some s → t ≡ is_more vs)
    → a ≡ (if f then None else if t then None else b) → a ≡ reached (leaving o vs)
leads_out a b o f t vs e g h d =
    d ∙ ap (λ (i : Bool). if i then None else if t then None else b) g
    ∙ ap (λ (i : Option Arrival). if t then None else i) e ∙ leaves_is o t vs h

-- where the path leads on which a local is the next item, whose reading is `r`
pub leads_in : (a b : Option Arrival) (o : Option State) (vs : List Value) (name : List ℕ)
    (r : Reading) → b ≡ reached (staying o vs)
    → ((s : State) (v : Value) (rest : List Value) → o ≡ Some s → vs ≡ v ∷ rest → r ≡ sure v)
    → ((s : State) (v : Value) → b ≡ reached (Some s) → r ≡ sure v
    → a ≡ reached (Some (assign s name v)))
    → (b ≡ None → a ≡ None) → a ≡ reached (entering o name vs)
leads_in a b None vs name r e h put none = none e
leads_in a b (Some s) [] name r e h put none = none e
leads_in a b (Some s) (v ∷ vs) name r e h put none = put s v e (h s v vs refl refl)

-- the items over which a `for` goes
abbrev pub items_at : Result (List Value) Halted → List Value
items_at (Ok vs) = vs
items_at (Err h) = []

abbrev pub items : Option State → (State → Result (List Value) Halted) → List Value
items None k = []
items (Some s) k = items_at (k s)

-- a `for` over the items that its expression gives
given_items : (s : State) (r : Result (List Value) Halted) (n : ℕ) (name : List ℕ)
    (body : State → Ran) (line : ℕ)
    → seen_from (fine_at r s) (for_turns (items_at r) n name body line)
    ≡ seen_of (given r (λ vs. for_turns vs n name body line s))
given_items s (Ok vs) n name body line = refl
given_items s (Err h) n name body line = refl

pub items_show : (o : Option State) (k : State → Result (List Value) Halted) (n : ℕ)
    (name : List ℕ) (body : State → Ran) (line : ℕ)
    → seen_from (fine o k) (for_turns (items o k) n name body line)
    ≡ seen_from o (λ s. given (k s) (λ vs. for_turns vs n name body line s))
items_show None k n name body line = refl
items_show (Some s) k n name body line = given_items s (k s) n name body line
