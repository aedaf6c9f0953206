-- Types flow into slots alone.
use Rattle.std.proofs.Common.{◌≡◌, ℕ, ◌+◌, Bool, true, false, cond, ◌||◌, List, [], ◌∷◌, ◌++◌, map, Option, Some, None, if◌then◌else◌, IsTrue, refl, sym, ap, ◌∙◌, subst}
use Rattle.std.specs.List.{list_any, filter, flat_map}
use lib.Pointwise.{bytes_decides}
use Rattle.mpy_tree.specs.declared.operators.ArithOp.TheVariants.{Add, Sub, Mul, Floor, Rem, Power}
use Rattle.mpy_tree.specs.declared.typing.Ty.{Ty}
use Rattle.mpy_tree.specs.declared.typing.Slot.{Slot}
use Rattle.mpy_tree.specs.declared.typing.Slot.TheVariants.{Local, Result}
use Rattle.mpy_tree.specs.Syntax.{Term, Terms, no_terms, term_and, no_term, a_term, Action, Routine}
use Rattle.mpy_tree.specs.Syntax as ast
use Rattle.mpy_tree.specs.Values.{same_bytes}
use Rattle.mpy_tree.specs.Entries.{Entry}
use Rattle.mpy_tree.specs.SetTypes.{Callee, callee, called, called_from, same_place}
use Rattle.mpy_tree.specs.Sites.{Site, does, asks, sites, site_nodes}
use Rattle.mpy_tree.specs.Locals.{is_among, and_new, assigned, locals, site_assigned, site_changed, site_names, node_names}
use Rattle.mpy_tree.specs.Flows.{Flow, act_flows, site_flows, argument_flows, callee_flows, node_flows, all_site_flows, flows_from, given_flows, entry_flows, flows}
use Rattle.mpy_tree.specs.Faults.{Place, place, local_line, routine_slots, slots_from, slots}
use Rattle.mpy_types.proofs.Every.{Every, every_both}
use Rattle.mpy_scopes.proofs.Places.{place_same}

or_right : (a b : Bool) → IsTrue b → IsTrue (a || b)
or_right true b h = refl
or_right false b h = h

or_left : (a b : Bool) → IsTrue a → IsTrue (a || b)
or_left true b h = refl
or_left false b h = absurd (cc)

either_of : (a b : Bool) (P : Type 0) → (IsTrue a → P) → (IsTrue b → P) → IsTrue (a || b) → P
either_of true b P f g h = f refl
either_of false b P f g h = g h

in_left : (xs ys : (List (List ℕ))) (x : List ℕ) → IsTrue (is_among xs x) → IsTrue (is_among (xs ++ ys) x)
in_left [] ys x h = absurd (cc)
in_left (y ∷ xs) ys x h = either_of (same_bytes x y) (is_among xs x) (IsTrue (same_bytes x y || is_among (xs ++ ys) x)) (or_left (same_bytes x y) (is_among (xs ++ ys) x)) (λ k. or_right (same_bytes x y) (is_among (xs ++ ys) x) (in_left xs ys x k)) h

in_right : (xs ys : (List (List ℕ))) (x : List ℕ) → IsTrue (is_among ys x) → IsTrue (is_among (xs ++ ys) x)
in_right [] ys x h = h
in_right (y ∷ xs) ys x h = or_right (same_bytes x y) (is_among (xs ++ ys) x) (in_right xs ys x h)

in_cases : (xs ys : (List (List ℕ))) (x : List ℕ) (P : Type 0) → (IsTrue (is_among xs x) → P) → (IsTrue (is_among ys x) → P) → IsTrue (is_among (xs ++ ys) x) → P
in_cases [] ys x P f g h = g h
in_cases (y ∷ xs) ys x P f g h =
    either_of (same_bytes x y) (is_among (xs ++ ys) x) P (λ k. f (or_left (same_bytes x y) (is_among xs x) k))
    (λ k. in_cases xs ys x P (λ m. f (or_right (same_bytes x y) (is_among xs x) m)) g k) h

kept : (seen : (List (List ℕ))) (x y : List ℕ) (b : Bool) → IsTrue (is_among seen x) → IsTrue (is_among (if b then seen else seen ++ y ∷ []) x)
kept seen x y true h = h
kept seen x y false h = in_left seen (y ∷ []) x h

-- what is among names is among them each and_new
seen_once : (seen xs : (List (List ℕ))) (x : List ℕ) → IsTrue (is_among seen x) → IsTrue (is_among (and_new seen xs) x)
seen_once seen [] x h = h
seen_once seen (y ∷ xs) x h = seen_once (if is_among seen y then seen else seen ++ y ∷ []) xs x (kept seen x y (is_among seen y) h)

added : (seen : (List (List ℕ))) (x y : List ℕ) (b : Bool) → is_among seen y ≡ b → IsTrue (same_bytes x y) → IsTrue (is_among (if b then seen else seen ++ y ∷ []) x)
added seen x y true e h =
    let k : x ≡ y = (bytes_decides x y).0 h in
    ap (is_among seen) k ∙ e
added seen x y false e h = in_right seen (y ∷ []) x (or_left (same_bytes x y) false h)

given_once : (seen xs : (List (List ℕ))) (x : List ℕ) → IsTrue (is_among xs x) → IsTrue (is_among (and_new seen xs) x)
given_once seen [] x h = absurd (cc)
given_once seen (y ∷ xs) x h =
    either_of (same_bytes x y) (is_among xs x) (IsTrue (is_among (and_new seen (y ∷ xs)) x))
    (λ k. seen_once (if is_among seen y then seen else seen ++ y ∷ []) xs x (added seen x y (is_among seen y) refl k))
    (given_once (if is_among seen y then seen else seen ++ y ∷ []) xs x) h

-- a filter by a list keeps what is in the list
kept_first : (ys zs : (List (List ℕ))) (x z : List ℕ) (b : Bool) → is_among ys z ≡ b → IsTrue (is_among ys x) → IsTrue (same_bytes x z) → IsTrue (is_among (cond b (z ∷ zs) zs) x)
kept_first ys zs x z true e h k = or_left (same_bytes x z) (is_among zs x) k
kept_first ys zs x z false e h k =
    let m : x ≡ z = (bytes_decides x z).0 k in
    let n : true ≡ false = sym h ∙ ap (is_among ys) m ∙ e in
    absurd (cc)

kept_rest : (zs : (List (List ℕ))) (x z : List ℕ) (b : Bool) → IsTrue (is_among zs x) → IsTrue (is_among (cond b (z ∷ zs) zs) x)
kept_rest zs x z true h = or_right (same_bytes x z) (is_among zs x) h
kept_rest zs x z false h = h

in_filter : (ys xs : (List (List ℕ))) (x : List ℕ) → IsTrue (is_among ys x) → IsTrue (is_among xs x) → IsTrue (is_among (filter (is_among ys) xs) x)
in_filter ys [] x h k = absurd (cc)
in_filter ys (z ∷ xs) x h k =
    either_of (same_bytes x z) (is_among xs x) (IsTrue (is_among (filter (is_among ys) (z ∷ xs)) x))
    (kept_first ys (filter (is_among ys) xs) x z (is_among ys z) refl h)
    (λ m. kept_rest (filter (is_among ys) xs) x z (is_among ys z) (in_filter ys xs x h m)) k

-- a name that is assigned is mentioned, and a local; so is a parameter
in_flat : (ss : List Site) (x : List ℕ) → IsTrue (is_among (flat_map site_assigned ss) x) → IsTrue (is_among (flat_map site_names ss) x)
in_flat [] x h = absurd (cc)
in_flat (s ∷ ss) x h =
    in_cases (site_assigned s) (flat_map site_assigned ss) x (IsTrue (is_among (flat_map site_names (s ∷ ss)) x))
    (λ k. in_left (site_names s) (flat_map site_names ss) x (in_left (site_assigned s ++ site_changed s) (flat_map node_names (site_nodes s)) x (in_left (site_assigned s) (site_changed s) x k)))
    (λ k. in_right (site_names s) (flat_map site_names ss) x (in_flat ss x k)) h

assigned_local : (r : Routine) (x : List ℕ) → IsTrue (is_among (flat_map site_assigned (sites r.body)) x) → IsTrue (is_among (locals r) x)
assigned_local r x h =
    given_once [] (r.params ++ filter (is_among (flat_map site_assigned (sites r.body))) (flat_map site_names (sites r.body))) x
    (in_right r.params (filter (is_among (flat_map site_assigned (sites r.body))) (flat_map site_names (sites r.body))) x
    (in_filter (flat_map site_assigned (sites r.body)) (flat_map site_names (sites r.body)) x h (in_flat (sites r.body) x h)))

param_local : (r : Routine) (x : List ℕ) → IsTrue (is_among r.params x) → IsTrue (is_among (locals r) x)
param_local r x h =
    given_once [] (r.params ++ filter (is_among (flat_map site_assigned (sites r.body))) (flat_map site_names (sites r.body))) x
    (in_left r.params (filter (is_among (flat_map site_assigned (sites r.body))) (flat_map site_names (sites r.body))) x h)

-- slots
abbrev pub stands_among : List Place → ℕ → Slot → Bool
stands_among ss j y = list_any (λ s. same_place s.func s.slot j y) ss

among_left : (ss ts : List Place) (j : ℕ) (y : Slot) → IsTrue (stands_among ss j y) → IsTrue (stands_among (ss ++ ts) j y)
among_left [] ts j y h = absurd (cc)
among_left (s ∷ ss) ts j y h = either_of (same_place s.func s.slot j y) (stands_among ss j y) (IsTrue (stands_among (s ∷ ss ++ ts) j y)) (or_left (same_place s.func s.slot j y) (stands_among (ss ++ ts) j y)) (λ k. or_right (same_place s.func s.slot j y) (stands_among (ss ++ ts) j y) (among_left ss ts j y k)) h

among_right : (ss ts : List Place) (j : ℕ) (y : Slot) → IsTrue (stands_among ts j y) → IsTrue (stands_among (ss ++ ts) j y)
among_right [] ts j y h = h
among_right (s ∷ ss) ts j y h = or_right (same_place s.func s.slot j y) (stands_among (ss ++ ts) j y) (among_right ss ts j y h)

local_among : (i : ℕ) (r : Routine) (xs : (List (List ℕ))) (x : List ℕ) → IsTrue (is_among xs x) → IsTrue (stands_among (map (λ z. place i (Local z) (local_line r z)) xs) i (Local x))
local_among i r [] x h = absurd (cc)
local_among i r (z ∷ xs) x h =
    either_of (same_bytes x z) (is_among xs x) (IsTrue (stands_among (map (λ z. place i (Local z) (local_line r z)) (z ∷ xs)) i (Local x)))
    (λ k. or_left (same_place i (Local z) i (Local x)) (stands_among (map (λ z. place i (Local z) (local_line r z)) xs) i (Local x))
    (let e : x ≡ z = (bytes_decides x z).0 k in
    let P : List ℕ → Type 0 = λ w. IsTrue (same_place i (Local z) i (Local w)) in
    subst P (sym e) (place_same i (Local z))))
    (λ k. or_right (same_place i (Local z) i (Local x)) (stands_among (map (λ z. place i (Local z) (local_line r z)) xs) i (Local x)) (local_among i r xs x k)) h

local_stands : (i : ℕ) (r : Routine) (x : List ℕ) → IsTrue (is_among (locals r) x) → IsTrue (stands_among (routine_slots i r) i (Local x))
local_stands i r x h = among_left (map (λ z. place i (Local z) (local_line r z)) (locals r)) (place i Result r.line ∷ []) i (Local x) (local_among i r (locals r) x h)

result_stands : (i : ℕ) (r : Routine) → IsTrue (stands_among (routine_slots i r) i Result)
result_stands i r = among_right (map (λ z. place i (Local z) (local_line r z)) (locals r)) (place i Result r.line ∷ []) i Result (or_left (same_place i Result i Result) false (place_same i Result))

-- flows into the slots of a list
abbrev pub Lands : List Place → Flow → Type 0
Lands ss f = IsTrue (stands_among ss f.func f.slot)

-- what a function's own statements flow into
act_lands : (ss : List Place) (i : ℕ) (act : Action) → ((x : List ℕ) → IsTrue (is_among (assigned act) x) → IsTrue (stands_among ss i (Local x))) → IsTrue (stands_among ss i Result) → Every (Lands ss) (act_flows i act)
act_lands ss i (ast.Assign x e) h k = (h x (or_left (same_bytes x x) false ((bytes_decides x x).1 refl)), tt)
act_lands ss i (ast.Augment x Mul e) h k = tt
act_lands ss i (ast.Augment x Add e) h k = (h x (or_left (same_bytes x x) false ((bytes_decides x x).1 refl)), tt)
act_lands ss i (ast.Augment x Sub e) h k = (h x (or_left (same_bytes x x) false ((bytes_decides x x).1 refl)), tt)
act_lands ss i (ast.Augment x Floor e) h k = (h x (or_left (same_bytes x x) false ((bytes_decides x x).1 refl)), tt)
act_lands ss i (ast.Augment x Rem e) h k = (h x (or_left (same_bytes x x) false ((bytes_decides x x).1 refl)), tt)
act_lands ss i (ast.Augment x Power e) h k = (h x (or_left (same_bytes x x) false ((bytes_decides x x).1 refl)), tt)
act_lands ss i (ast.For x e body) h k = (h x (or_left (same_bytes x x) false ((bytes_decides x x).1 refl)), tt)
act_lands ss i (ast.Return (a_term e)) h k = (k, tt)
act_lands ss i (ast.Return no_term) h k = tt
act_lands ss i (ast.Put x j e) h k = tt
act_lands ss i (ast.AugmentAt x j op e) h k = tt
act_lands ss i (ast.Append x e) h k = tt
act_lands ss i (ast.Print e) h k = tt
act_lands ss i ast.Pass h k = tt
act_lands ss i ast.Break h k = tt
act_lands ss i ast.Continue h k = tt
act_lands ss i (ast.If arms last) h k = tt
act_lands ss i (ast.While e body) h k = tt

-- arguments flow into parameters
arguments_land : (ss : List Place) (j : ℕ) (xs : (List (List ℕ))) (i : ℕ) (es : Terms) → ((x : List ℕ) → IsTrue (is_among xs x) → IsTrue (stands_among ss j (Local x))) → Every (Lands ss) (argument_flows j xs i es)
arguments_land ss j [] i es h = tt
arguments_land ss j (x ∷ xs) i no_terms h = tt
arguments_land ss j (x ∷ xs) i (term_and e es) h = (
  h x (or_left (same_bytes x x) (is_among xs x) ((bytes_decides x x).1 refl)),
  arguments_land ss j xs i es (λ y k. h y (or_right (same_bytes y x) (is_among xs y) k)),
)

given_land : (ss : List Place) (j : ℕ) (xs : (List (List ℕ))) (ts : List Ty) → ((x : List ℕ) → IsTrue (is_among xs x) → IsTrue (stands_among ss j (Local x))) → Every (Lands ss) (given_flows j xs ts)
given_land ss j [] ts h = tt
given_land ss j (x ∷ xs) [] h = tt
given_land ss j (x ∷ xs) (t ∷ ts) h = (
  h x (or_left (same_bytes x x) (is_among xs x) ((bytes_decides x x).1 refl)),
  given_land ss j xs ts (λ y k. h y (or_right (same_bytes y x) (is_among xs y) k)),
)

-- the parameters of a function that is called are slots
called_at : (b : Bool) (r : Routine) (rs : List Routine) (n : ℕ) (f : List ℕ) (g : Callee) (x : List ℕ) → (called_from rs f (n + 1) ≡ Some g → IsTrue (stands_among (slots_from (n + 1) rs) g.number (Local x))) → IsTrue (is_among g.routine.params x) → (if b then Some (callee n r) else called_from rs f (n + 1)) ≡ Some g → IsTrue (stands_among (routine_slots n r ++ slots_from (n + 1) rs) g.number (Local x))
called_at true r rs n f g x k h e =
    let m : callee n r ≡ g = cc in
    let P : Callee → Type 0 = λ c. IsTrue (is_among c.routine.params x) → IsTrue (stands_among (routine_slots n r ++ slots_from (n + 1) rs) c.number (Local x)) in
    subst P m (λ q. among_left (routine_slots n r) (slots_from (n + 1) rs) n (Local x) (local_stands n r x (param_local r x q))) h
called_at false r rs n f g x k h e = among_right (routine_slots n r) (slots_from (n + 1) rs) g.number (Local x) (k e)

called_stands : (rs : List Routine) (n : ℕ) (f : List ℕ) (g : Callee) → called_from rs f n ≡ Some g → (x : List ℕ) → IsTrue (is_among g.routine.params x) → IsTrue (stands_among (slots_from n rs) g.number (Local x))
called_stands [] n f g e x h = absurd (cc)
called_stands (r ∷ rs) n f g e x h = called_at (same_bytes f r.name) r rs n f g x (λ k. called_stands rs (n + 1) f g k x h) h e

-- what the calls of a node flow into
callee_lands : (p : List Routine) (i : ℕ) (es : Terms) (o : Option Callee) → ((g : Callee) → o ≡ Some g → (x : List ℕ) → IsTrue (is_among g.routine.params x) → IsTrue (stands_among (slots p) g.number (Local x))) → Every (Lands (slots p)) (callee_flows o i es)
callee_lands p i es None h = tt
callee_lands p i es (Some g) h = arguments_land (slots p) g.number g.routine.params i es (h g refl)

node_lands : (p : List Routine) (i : ℕ) (e : Term) → Every (Lands (slots p)) (node_flows p i e)
node_lands p i (ast.Call f es) = callee_lands p i es (called p f) (λ g k. called_stands p 0 f g k)
node_lands p i (ast.Int n) = tt
node_lands p i (ast.Bool n) = tt
node_lands p i (ast.Text n) = tt
node_lands p i (ast.Name n) = tt
node_lands p i (ast.List n) = tt
node_lands p i (ast.Neg n) = tt
node_lands p i (ast.Not n) = tt
node_lands p i (ast.Arith op a b) = tt
node_lands p i (ast.Cmp op a b) = tt
node_lands p i (ast.And a b) = tt
node_lands p i (ast.Or a b) = tt
node_lands p i (ast.Cond c a b) = tt
node_lands p i (ast.Index a b) = tt
node_lands p i (ast.Slice a b c) = tt

nodes_land : (p : List Routine) (i : ℕ) (es : List Term) → Every (Lands (slots p)) (flat_map (node_flows p i) es)
nodes_land p i [] = tt
nodes_land p i (e ∷ es) = every_both (Lands (slots p)) (node_flows p i e) (flat_map (node_flows p i) es) (node_lands p i e) (nodes_land p i es)

site_lands : (p : List Routine) (i : ℕ) (s : Site) → ((x : List ℕ) → IsTrue (is_among (site_assigned s) x) → IsTrue (stands_among (slots p) i (Local x))) → IsTrue (stands_among (slots p) i Result) → Every (Lands (slots p)) (site_flows i s)
site_lands p i (does line act) h k = act_lands (slots p) i act h k
site_lands p i (asks line e) h k = tt

sites_land : (p : List Routine) (i : ℕ) (ss : List Site) → ((x : List ℕ) → IsTrue (is_among (flat_map site_assigned ss) x) → IsTrue (stands_among (slots p) i (Local x))) → IsTrue (stands_among (slots p) i Result) → Every (Lands (slots p)) (flat_map (all_site_flows p i) ss)
sites_land p i [] h k = tt
sites_land p i (s ∷ ss) h k =
    every_both (Lands (slots p)) (all_site_flows p i s) (flat_map (all_site_flows p i) ss)
    (every_both (Lands (slots p)) (site_flows i s) (flat_map (node_flows p i) (site_nodes s)) (site_lands p i s (λ x m. h x (in_left (site_assigned s) (flat_map site_assigned ss) x m)) k) (nodes_land p i (site_nodes s)))
    (sites_land p i ss (λ x m. h x (in_right (site_assigned s) (flat_map site_assigned ss) x m)) k)

functions_land : (p : List Routine) (i : ℕ) (rs : List Routine) → ((j : ℕ) (y : Slot) → IsTrue (stands_among (slots_from i rs) j y) → IsTrue (stands_among (slots p) j y)) → Every (Lands (slots p)) (flows_from p i rs)
functions_land p i [] h = tt
functions_land p i (r ∷ rs) h =
    every_both (Lands (slots p)) (flat_map (all_site_flows p i) (sites r.body)) (flows_from p (i + 1) rs)
    (sites_land p i (sites r.body)
    (λ x m. h i (Local x) (among_left (routine_slots i r) (slots_from (i + 1) rs) i (Local x) (local_stands i r x (assigned_local r x m))))
    (h i Result (among_left (routine_slots i r) (slots_from (i + 1) rs) i Result (result_stands i r))))
    (functions_land p (i + 1) rs (λ j y m. h j y (among_right (routine_slots i r) (slots_from (i + 1) rs) j y m)))

entry_lands : (p : List Routine) (o : Option Callee) (ts : List Ty) → ((g : Callee) → o ≡ Some g → (x : List ℕ) → IsTrue (is_among g.routine.params x) → IsTrue (stands_among (slots p) g.number (Local x))) → Every (Lands (slots p)) (entry_flows o ts)
entry_lands p None ts h = tt
entry_lands p (Some g) ts h = given_land (slots p) g.number g.routine.params ts (h g refl)

-- each flow of a program has a slot as its target
pub flows_land : (p : List Routine) (e : Entry) → Every (Lands (slots p)) (flows p e)
flows_land p e =
    every_both (Lands (slots p)) (entry_flows (called p e.name) e.types) (flows_from p 0 p) (entry_lands p (called p e.name) e.types (λ g k. called_stands p 0 e.name g k)) (functions_land p 0 p (λ j y h. h))
