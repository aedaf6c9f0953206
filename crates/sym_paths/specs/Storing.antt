-- A statement that sets a local, one that prints, and one that returns.
use Rattle.std.specs.Prelude.{◌≡◌, ◌&&◌, ℕ, Bool, true, false, not, List, [], ◌∷◌, ◌++◌}
use Rattle.std.specs.Prelude.{length, nat_lt, Option, Some, None, if◌then◌else◌, refl}
use Rattle.std.proofs.Common.{◌∙◌, ap, sym}
use Rattle.std.proofs.lemmas.Bool.{and_parts, both_ways}
use Rattle.std.specs.declared.result.Result.{Result}
use Rattle.std.specs.declared.result.Result.TheVariants.{Ok, Err}
use Rattle.mpy_tree.specs.declared.value.Value.{Value}
use Rattle.mpy_tree.specs.declared.outcome.Halted.{Halted}
use Rattle.mpy_tree.specs.declared.outcome.FaultKind.TheVariants.{Length}
use Rattle.mpy_tree.specs.Values.{State, assign, fault}
use Rattle.mpy_tree.specs.Statements.{Ran, Next, Returned, Failed, given, store}
use Rattle.mpy_tree.specs.Statements.{ended_by, kept_in, printed}
use Rattle.sym_values.specs.Reading.{Reading, IsOutcome, sure}
use Rattle.sym_paths.specs.declared.slots.Slots.{Slots}
use Rattle.sym_paths.specs.Paths.{Arrival, Return, Way, arrival, gone_way, reached}
use Rattle.sym_paths.specs.Paths.{are_proper, kept_on, kept_proper, printed_in}
use Rattle.sym_paths.specs.Endings.{nothing_seen, seen_of, seen_from}
use Rattle.sym_paths.specs.Locals.{arrival_by}
use Rattle.sym_paths.specs.Sides.{IsFault, fine, fine_at}
use Rattle.sym_paths.specs.Sights.{same_sight, state_next, the_sight}

-- the state in which a local is what was computed
abbrev pub stored_by : Result Value Halted → State → List ℕ → Option State
stored_by (Ok v) s x = Some (assign s x v)
stored_by (Err h) s x = None

abbrev pub stored : Option State → (State → Result Value Halted) → List ℕ → Option State
stored None k x = None
stored (Some s) k x = stored_by (k s) s x

store_by : (r : Result Value Halted) (s : State) (x : List ℕ)
    → seen_from (stored_by r s x) Next ≡ seen_of (store s x r)
store_by (Ok v) s x = refl
store_by (Err h) s x = refl

-- a way on from there is all that an assignment shows
pub store_shows : (o : Option State) (k : State → Result Value Halted) (x : List ℕ)
    → seen_from (stored o k x) Next ≡ seen_from o (λ s. store s x (k s))
store_shows None k x = refl
store_shows (Some s) k x = store_by (k s) s x

cut : {A : Type 0} (f : Bool) (a b : Option A) → f ≡ true → a ≡ (if not f then b else None)
    → a ≡ None
cut f a b h e = e ∙ ap (λ i. if not i then b else None) h

keep : {A : Type 0} (f : Bool) (a b : Option A) → f ≡ false → a ≡ (if not f then b else None)
    → a ≡ b
keep f a b h e = e ∙ ap (λ i. if not i then b else None) h

none_by : (f : Bool) (a : Option Arrival) → a ≡ None → (if not f then a else None) ≡ None
none_by true a e = refl
none_by false a e = e

stored_at : (a b c : Option Arrival) (s : State) (f : Bool) (r : Reading) (v : Result Value Halted)
    (x : List ℕ) → a ≡ reached (Some s) → b ≡ (if not f then a else None) → IsOutcome f r v
    → ((w : Value) → b ≡ reached (Some s) → r ≡ sure w → c ≡ reached (Some (assign s x w)))
    → (b ≡ None → c ≡ None) → c ≡ reached (stored_by v s x)
stored_at a b c s f r (Ok v) x at e h put none = put v (keep f b a h.0 e ∙ at) h.1
stored_at a b c s f r (Err i) x at e h put none = none (cut f b a h e)

-- Where a path leads on which a local is set to what was computed: `a` is where the path leads
-- before, `b` where it leads if there was no fault, and `c` where it leads with the local set.
pub stored_is : (a b c : Option Arrival) (o : Option State) (f : Bool) (r : Reading)
    (k : State → Result Value Halted) (x : List ℕ)
    → a ≡ reached o → b ≡ (if not f then a else None)
    → ((s : State) → o ≡ Some s → IsOutcome f r (k s))
    → ((s : State) (w : Value) → b ≡ reached (Some s) → r ≡ sure w
    → c ≡ reached (Some (assign s x w)))
    → (b ≡ None → c ≡ None) → c ≡ reached (stored o k x)
stored_is a b c None f r k x at e h put none = none (e ∙ none_by f a at)
stored_is a b c (Some s) f r k x at e h put none =
    stored_at a b c s f r (k s) x at e (h s refl) (put s) none

-- the fault bit of an outcome says whether there is a value
pub outcome_fault : (f : Bool) (r : Reading) (v : Result Value Halted) → IsOutcome f r v
    → IsFault f v
outcome_fault f r (Ok v) h = h.0
outcome_fault f r (Err e) h = h

-- the state in which a value is kept that is printed, or from which a statement goes on that keeps
-- none; it is none where no more values are kept
abbrev pub printed_by : Result Value Halted → ℕ → ℕ → State → Option State
printed_by (Ok v) most line s = state_next (printed most line s v)
printed_by (Err h) most line s = None

abbrev pub printing : Option State → (State → Result Value Halted) → ℕ → ℕ → Option State
printing None k most line = None
printing (Some s) k most line = printed_by (k s) most line s

-- a print goes on or halts
behind_goes : (b : Bool) (t : State) (h : Halted)
    → seen_from (state_next (if b then Next t else Failed h)) Next
    ≡ seen_of (if b then Next t else Failed h)
behind_goes true t h = refl
behind_goes false t h = refl

kept_goes : (most line : ℕ) (s : State) (o : Option (List Value)) (v : Value)
    → seen_from (state_next (kept_in most line s o v)) Next ≡ seen_of (kept_in most line s o v)
kept_goes most line s None v = refl
kept_goes most line s (Some vs) v =
    behind_goes (nat_lt (length vs) most)
    (record { locals = s.locals; printed = Some (vs ++ v ∷ []) }) (fault Length line)

print_by : (r : Result Value Halted) (most line : ℕ) (s : State)
    → seen_from (printed_by r most line s) Next ≡ seen_of (given r (printed most line s))
print_by (Ok v) most line s = kept_goes most line s s.printed v
print_by (Err h) most line s = refl

-- a way on from there is all that a print shows
pub print_shows : (o : Option State) (k : State → Result Value Halted) (most line : ℕ)
    → seen_from (printing o k most line) Next
    ≡ seen_from o (λ s. given (k s) (printed most line s))
print_shows None k most line = refl
print_shows (Some s) k most line = print_by (k s) most line s

-- where nothing is kept, a print goes on from where there is a value
drops_by : (r : Result Value Halted) (most line : ℕ) (s : State) → s.printed ≡ None
    → printed_by r most line s ≡ fine_at r s
drops_by (Ok v) most line s e = ap (λ o. state_next (kept_in most line s o v)) e
drops_by (Err h) most line s e = refl

pub print_drops : (o : Option State) (k : State → Result Value Halted) (most line : ℕ)
    → ((s : State) → o ≡ Some s → s.printed ≡ None) → printing o k most line ≡ fine o k
print_drops None k most line h = refl
print_drops (Some s) k most line h = drops_by (k s) most line s (h s refl)

printed_at : (a b c : Option Arrival) (s : State) (f : Bool) (r : Reading)
    (v : Result Value Halted) (most line : ℕ)
    → a ≡ reached (Some s) → b ≡ (if not f then a else None) → IsOutcome f r v
    → ((w : Value) → b ≡ reached (Some s) → r ≡ sure w
    → c ≡ reached (state_next (printed most line s w)))
    → (b ≡ None → c ≡ None) → c ≡ reached (printed_by v most line s)
printed_at a b c s f r (Ok v) most line at e h put none = put v (keep f b a h.0 e ∙ at) h.1
printed_at a b c s f r (Err i) most line at e h put none = none (cut f b a h e)

-- Where a path leads on which what was computed is printed: `a` is where the path leads before, `b`
-- where it leads if there was no fault, and `c` where it leads with the value kept.
pub printed_is : (a b c : Option Arrival) (o : Option State) (f : Bool) (r : Reading)
    (k : State → Result Value Halted) (most line : ℕ)
    → a ≡ reached o → b ≡ (if not f then a else None)
    → ((s : State) → o ≡ Some s → IsOutcome f r (k s))
    → ((s : State) (w : Value) → b ≡ reached (Some s) → r ≡ sure w
    → c ≡ reached (state_next (printed most line s w)))
    → (b ≡ None → c ≡ None) → c ≡ reached (printing o k most line)
printed_is a b c None f r k most line at e h put none = none (e ∙ none_by f a at)
printed_is a b c (Some s) f r k most line at e h put none =
    printed_at a b c s f r (k s) most line at e (h s refl) (put s) none

gone_by : (b : Bool) (a : Arrival) → (if b then Some a else None) ≡ None → b ≡ false
gone_by false a e = refl
gone_by true a e = cc

gone_by_some : (b : Bool) (a c : Arrival) → (if b then Some a else None) ≡ Some c → b ≡ true
gone_by_some true a c e = refl
gone_by_some false a c e = cc

-- whether a way is gone
pub not_gone : (c : Slots) (w : Way) → gone_way c (w ∷ []) ≡ None → w.gone ≡ false
not_gone c w e = gone_by w.gone (arrival c w) e

pub is_gone : (c : Slots) (w : Way) (s : State) → gone_way c (w ∷ []) ≡ reached (Some s)
    → w.gone ≡ true
is_gone c w s e = gone_by_some w.gone (arrival c w) _ e

-- where a way isn't gone nothing is seen
pub dead_way : (c : Slots) (w : Way) (o : Option State) (run : State → Ran)
    → w.gone ≡ false → gone_way c (w ∷ []) ≡ reached o → nothing_seen ≡ seen_from o run
dead_way c w None run e at = refl
dead_way c w (Some s) run e at = absurd (both_ways w.gone e (is_gone c w s at))

-- what is kept on a way that leads to a state
pub kept_there : (c : Slots) (w : Way) (s : State) → gone_way c (w ∷ []) ≡ reached (Some s)
    → printed_in c.limits (kept_on c w) ≡ s.printed
kept_there c w s at = ap (λ (t : State). t.printed) (arrival_by w.gone (arrival c w) s at).1

pub proper_there : (c : Slots) (w : Way) (s : State) → gone_way c (w ∷ []) ≡ reached (Some s)
    → kept_proper c.limits (kept_on c w) ≡ true
proper_there c w s at =
    (and_parts (are_proper w.values) (kept_proper c.limits (kept_on c w))
    (arrival_by w.gone (arrival c w) s at).0).1

-- a return on a way
abbrev pub the_return : Option Reading → Bool → Option (List Value) → Return
the_return r b p = record { value = r; proper = b; printed = p }

abbrev pub return_on : Slots → Way → Option Reading → Return
return_on c w r =
    the_return r (kept_proper c.limits (kept_on c w)) (printed_in c.limits (kept_on c w))

pub same_return : {r r' : Option Reading} {b b' : Bool} {p p' : Option (List Value)}
    → r ≡ r' → b ≡ b' → p ≡ p' → the_return r b p ≡ the_return r' b' p'
same_return {r} {r'} {b} {b'} {p} {p'} e f g = cc

return_there : (c : Slots) (w : Way) (s : State) (r q : Option Reading)
    → gone_way c (w ∷ []) ≡ reached (Some s) → r ≡ q
    → return_on c w r ≡ the_return q true s.printed
return_there c w s r q at e = same_return e (proper_there c w s at) (kept_there c w s at)

return_at : (c : Slots) (w : Way) (s : State) (f : Bool) (r : Reading) (v : Result Value Halted)
    → gone_way c (w ∷ []) ≡ reached (Some s) → IsOutcome f r v
    → the_sight None None None (if not f then Some (return_on c w (Some r)) else None)
    ≡ seen_of (given v (λ u. Returned (Some u) s))
return_at c w s f r (Ok v) at h = same_sight refl refl refl
    (ap (λ (b : Bool). if not b then Some (return_on c w (Some r)) else None) h.0
    ∙ ap Some (return_there c w s (Some r) (Some (sure v)) at (ap Some h.1)))
return_at c w s f r (Err e) at h = same_sight refl refl refl
    (ap (λ (b : Bool). if not b then Some (return_on c w (Some r)) else None) h)

-- a value that is returned where a way is gone and there was no fault
pub return_is : (c : Slots) (w : Way) (o : Option State) (f : Bool) (r : Reading)
    (k : State → Result Value Halted) → gone_way c (w ∷ []) ≡ reached o
    → ((s : State) → o ≡ Some s → IsOutcome f r (k s))
    → the_sight None None None (if w.gone && not f then Some (return_on c w (Some r)) else None)
    ≡ seen_from o (λ s. given (k s) (λ v. Returned (Some v) s))
return_is c w None f r k at h = same_sight refl refl refl
    (ap (λ (b : Bool). if b && not f then Some (return_on c w (Some r)) else None)
    (not_gone c w at))
return_is c w (Some s) f r k at h =
    ap (λ (b : Bool). the_sight None None None
    (if b && not f then Some (return_on c w (Some r)) else None)) (is_gone c w s at)
    ∙ return_at c w s f r (k s) at (h s refl)

-- A `return` alone, where values are kept and where none are.
ended_at : (c : Slots) (w : Way) (s : State) (vs : List Value) (line : ℕ)
    → gone_way c (w ∷ []) ≡ reached (Some s) → s.printed ≡ Some vs
    → the_sight None None None (Some (return_on c w None)) ≡ seen_of (ended_by line s s.printed)
ended_at c w s vs line at e =
    same_sight refl refl refl (ap Some (return_there c w s None None at refl))
    ∙ ap (λ (p : Option (List Value)). seen_of (ended_by line s p)) (sym e)

pub ended_is : (c : Slots) (w : Way) (o : Option State) (vs : List Value) (line : ℕ)
    → gone_way c (w ∷ []) ≡ reached o → printed_in c.limits (kept_on c w) ≡ Some vs
    → the_sight None None None (if w.gone then Some (return_on c w None) else None)
    ≡ seen_from o (λ s. ended_by line s s.printed)
ended_is c w None vs line at e = same_sight refl refl refl
    (ap (λ (b : Bool). if b then Some (return_on c w None) else None) (not_gone c w at))
ended_is c w (Some s) vs line at e =
    ap (λ (b : Bool). the_sight None None None
    (if b then Some (return_on c w None) else None)) (is_gone c w s at)
    ∙ ended_at c w s vs line at (sym (kept_there c w s at) ∙ e)

pub not_ended : (o : Option State) (line : ℕ)
    → ((s : State) → o ≡ Some s → s.printed ≡ None)
    → nothing_seen ≡ seen_from o (λ s. ended_by line s s.printed)
not_ended None line h = refl
not_ended (Some s) line h =
    ap (λ (p : Option (List Value)). seen_of (ended_by line s p)) (sym (h s refl))
