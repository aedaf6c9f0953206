-- What each local is in the state to which a path leads.
use Rattle.std.specs.Prelude.{◌≡◌, ℕ, zero, suc, Bool, true, false, List, [], ◌∷◌}
use Rattle.std.specs.Prelude.{Some, None, slice_get, option_map, if◌then◌else◌}
use Rattle.std.proofs.Common.{◌∙◌, ap, sym}
use Rattle.std.proofs.lemmas.Bool.{and_parts, both_ways, false_from_ne_true, or_left, or_parts}
use Rattle.std.proofs.lemmas.Bool.{or_right}
use Rattle.std.proofs.lemmas.Option.{slice_get-map}
use Rattle.std.proofs.lemmas.Slice.Eq.{bytes_eq-Decides}
use Rattle.mpy_tree.specs.Locals.{is_among}
use Rattle.mpy_tree.specs.Names.{has_twice}
use Rattle.mpy_tree.specs.Values.{Locals, State, same_bytes}
use Rattle.sym_values.specs.declared.value.SymValue.{SymValue}
use Rattle.sym_values.specs.Reading.{map_bits, read, spelled}
use Rattle.sym_paths.specs.declared.path.Path.{Path}
use Rattle.sym_paths.specs.declared.slots.Slots.{Slots}
use Rattle.sym_paths.specs.Paths.{Arrival, arrival, gone_way, reached, state_in, set_to, way}
use Rattle.sym_paths.specs.Paths.{are_proper, kept_on, kept_proper}

same-is : (x y : List ℕ) → same_bytes x y ≡ true → x ≡ y
same-is x y = (bytes_eq-Decides x y).0

is-same : (x y : List ℕ) → x ≡ y → same_bytes x y ≡ true
is-same x y = (bytes_eq-Decides x y).1

among_at : (names : List (List ℕ)) (i : ℕ) (x y : List ℕ) → slice_get names i ≡ Some x
    → same_bytes y x ≡ true → is_among names y ≡ true
among_at [] i x y e h = absurd cc
among_at (n ∷ ns) zero x y e h =
    let same : n ≡ x = cc in
    or_left (same_bytes y n) (is_among ns y) (ap (same_bytes y) same ∙ h)
among_at (n ∷ ns) (suc i) x y e h =
    or_right (same_bytes y n) (is_among ns y) (among_at ns i x y e h)

-- of names that differ each is the value at its place
state_at : (names : List (List ℕ)) (values : List (SymValue Bool)) (bits : List Bool) (i : ℕ)
    (x : List ℕ) (v : SymValue Bool) (b : Bool) → has_twice names ≡ false
    → slice_get names i ≡ Some x → slice_get values i ≡ Some v → slice_get bits i ≡ Some b
    → state_in names values bits x ≡ set_to b v
state_at [] values bits i x v b d e p q = absurd cc
state_at (n ∷ ns) [] bits i x v b d e p q = absurd cc
state_at (n ∷ ns) (w ∷ ws) [] i x v b d e p q = absurd cc
state_at (n ∷ ns) (w ∷ ws) (c ∷ cs) zero x v b d e p q =
    let name : n ≡ x = cc in
    let value : w ≡ v = cc in
    let bit : c ≡ b = cc in
    ap (λ t. if t then set_to c w else state_in ns ws cs x) (is-same x n (sym name))
    ∙ ap (set_to c) value ∙ ap (λ t. set_to t v) bit
state_at (n ∷ ns) (w ∷ ws) (c ∷ cs) (suc i) x v b d e p q =
    let parts = or_parts (is_among ns n) (has_twice ns) d in
    let other : same_bytes x n ≡ false = false_from_ne_true (same_bytes x n) (λ h.
    both_ways (is_among ns n) parts.0
    (among_at ns i x n e (is-same n x (sym (same-is x n h))))) in
    ap (λ t. if t then set_to c w else state_in ns ws cs x) other
    ∙ state_at ns ws cs i x v b parts.1 e p q

proper_at : (values : List (SymValue Bool)) (i : ℕ) (v : SymValue Bool)
    → slice_get values i ≡ Some v → are_proper values ≡ true → (spelled v).proper ≡ true
proper_at [] i v p h = absurd cc
proper_at (w ∷ ws) zero v p h =
    let same : w ≡ v = cc in
    ap (λ y. (spelled y).proper) (sym same)
    ∙ (and_parts (spelled w).proper (are_proper ws) h).0
proper_at (w ∷ ws) (suc i) v p h =
    proper_at ws i v p (and_parts (spelled w).proper (are_proper ws) h).1

-- the state to which a way leads that is gone
pub arrival_by : (b : Bool) (p : Arrival) (s : State)
    → (if b then Some p else None) ≡ reached (Some s) → (p.proper ≡ true) × (p.state ≡ s)
arrival_by false p s e = absurd cc
arrival_by true p s e =
    let same : p ≡ record { proper = true; state = s } = cc in
    (ap (λ (a : Arrival). a.proper) same, ap (λ (a : Arrival). a.state) same)

-- what a local is: by its bit its value, whose length is right
pub record LocalIs {B : Type 0} (rd : B → Bool) (s : Locals) (name : List ℕ) (x : SymValue B)
    (bit : B) : Type 0 where
  pub local : s name ≡ set_to (rd bit) (map_bits rd x)
  pub proper : (read rd x).proper ≡ true

-- the locals of a path that leads to a state, if their names differ from one another
pub local_is : {B : Type 0} (rd : B → Bool) (c : Slots) (path : Path B) (s : State)
    (i : ℕ) (name : List ℕ) (x : SymValue B) (bit : B) → has_twice c.names ≡ false
    → gone_way c (way rd path ∷ []) ≡ reached (Some s)
    → slice_get c.names i ≡ Some name → slice_get path.values i ≡ Some x
    → slice_get path.set i ≡ Some bit → LocalIs rd s.locals name x bit
local_is rd c path s i name x bit d at e p q =
    let w = way rd path in
    let both = arrival_by w.gone (arrival c w) s at in
    let value : slice_get w.values i ≡ Some (map_bits rd x) =
    slice_get-map (map_bits rd) path.values i ∙ ap (option_map (map_bits rd)) p in
    let mark : slice_get w.set i ≡ Some (rd bit) =
    slice_get-map rd path.set i ∙ ap (option_map rd) q in
    let proper = and_parts (are_proper w.values) (kept_proper c.limits (kept_on c w)) both.0 in
    record {
      local = sym (ap (λ (t : State). t.locals name) both.1)
          ∙ state_at c.names w.values w.set i name (map_bits rd x) (rd bit) d e value mark;
      proper = proper_at w.values i (map_bits rd x) value proper.0;
    }
