-- Lists and texts that are gone over.
use Rattle.std.proofs.Common.{◌≡◌, ◌∙◌, ◌≤◌, ℕ, Bool, List, [], length, map, take, drop, refl, sym, ap, subst, Option, Some, None, IsSome, arith}
use Rattle.std.proofs.lemmas.List.{drop_all, length-map, length-take}
use Rattle.std.specs.declared.result.Result.{Result}
use Rattle.std.specs.declared.result.Result.TheVariants.{Ok, Err}
use Rattle.mpy_tree.specs.declared.outcome.Halt.{Halt}
use Rattle.mpy_tree.specs.declared.outcome.Halted.{Halted}
use Rattle.mpy_tree.specs.declared.value.Value.{Value}
use Rattle.mpy_tree.specs.declared.value.Value.TheVariants as val
use Rattle.mpy_tree.specs.Operations.{character, characters, members, numbers}
use Rattle.mpy_tree.specs.Statements.{Ran}
use Rattle.mpy_tree.specs.Values.{◌>>=◌, State, on_line}
use Rattle.mpy_tree.specs.Rules.{member_of}
use Rattle.bit_words.specs.Logic.{Keeps, OwnsAll}
use Rattle.bit_words.specs.Words.{int_of, nat_of}
use Rattle.sym_values.specs.declared.value.SymValue.{SymValue}
use Rattle.sym_values.specs.declared.value.SymValue.TheVariants as sym_value
use Rattle.sym_values.specs.Forms.{bits_of}
use Rattle.sym_values.specs.Later.{value_later}
use Rattle.sym_values.specs.Reading.{IsOutcome, Reading, read, spelled, sure}
use Rattle.list_values.specs.Sequences.{items_of}
use Rattle.sym_nodes.specs.Operands.{ty_of}
use Rattle.sym_paths.specs.Items.{entering, items, items_at}
use Rattle.sym_paths.specs.Sides.{IsFault, fine, fine_at}
use Rattle.sym_paths.specs.Sights.{again}
use Rattle.sym_blocks.specs.Turns.{HasItems, ItemsRead}

-- later, and from the turns on
pub items_later : {S B : Type 0} {owns : S → B → Type 0} {reads : S → List Bool → B → Bool} {s t : S} (vs : List Bool) (list : SymValue B) (o : Option State) (ms : List Value) → Keeps owns reads s t
    → OwnsAll owns s (bits_of list) → ItemsRead (reads s vs) list o ms → ItemsRead (reads t vs) list o ms
items_later vs list o ms k h i s e =
    let has = i s e in
    record { value = has.value; read_as = ap spelled (value_later k list h vs) ∙ has.read_as; items = has.items }

pub items_again : {B : Type 0} (rd : B → Bool) (list : SymValue B) (o : Option State) (x : List ℕ) (rest ms : List Value) (body : State → Ran) → ItemsRead rd list o ms → ItemsRead rd list (again (entering o x rest) body) ms
items_again rd list None x rest ms body h s e = absurd cc
items_again rd list (Some i) x rest ms body h s e = h i refl

-- what is gone over has items, by its type
pub has_members : {B : Type 0} (rd : B → Bool) (x : SymValue B) (v : Value) → IsSome (member_of (ty_of x)) → read rd x ≡ sure v → (ms : List Value) × (members v ≡ Ok ms)
has_members rd (sym_value.Int w) v h e = absurd cc
has_members rd (sym_value.Bool b) v h e = absurd cc
has_members rd (sym_value.List len items) v h e = (numbers (take (nat_of (map rd len)) (map int_of (map (map rd) items))), ap members (sym (ap (λ (r : Reading). r.value) e)))
has_members rd (sym_value.Text len items) v h e = (characters (take (nat_of (map rd len)) (map nat_of (map (map rd) items))), ap members (sym (ap (λ (r : Reading). r.value) e)))

-- as many as there is room for
few_taken : {A C D : Type 0} (n : ℕ) (f : A → C) (g : C → D) (xs : List A) → length (map g (take n (map f xs))) ≤ length xs
few_taken n f g xs =
    let one = length-map (take n (map f xs)) g in
    let two = length-take n (map f xs) in
    let three = length-map xs f in
    omega (arith, one, two, three)

few_in : {B : Type 0} (rd : B → Bool) (x : SymValue B) (v : Value) (ms : List Value) → read rd x ≡ sure v → members v ≡ Ok ms → length ms ≤ length (items_of x)
few_in rd (sym_value.Int w) v ms e h =
    let none : members (val.Int (int_of (map rd w))) ≡ Ok ms = ap members (ap (λ (r : Reading). r.value) e) ∙ h in absurd cc
few_in rd (sym_value.Bool b) v ms e h =
    let none : members (val.Bool (rd b)) ≡ Ok ms = ap members (ap (λ (r : Reading). r.value) e) ∙ h in absurd cc
few_in rd (sym_value.List len items) v ms e h =
    let n = nat_of (map rd len) in
    let xs = map (map rd) items in
    let is : members (val.List (take n (map int_of xs))) ≡ Ok ms = ap members (ap (λ (r : Reading). r.value) e) ∙ h in
    let same : numbers (take n (map int_of xs)) ≡ ms = cc in
    let few = few_taken n int_of val.Int xs in
    let many = length-map items (map rd) in
    let size : length (numbers (take n (map int_of xs))) ≡ length ms = ap length same in
    omega (arith, few, many, size)
few_in rd (sym_value.Text len items) v ms e h =
    let n = nat_of (map rd len) in
    let xs = map (map rd) items in
    let is : members (val.Text (take n (map nat_of xs))) ≡ Ok ms = ap members (ap (λ (r : Reading). r.value) e) ∙ h in
    let same : characters (take n (map nat_of xs)) ≡ ms = cc in
    let few = few_taken n nat_of character xs in
    let many = length-map items (map rd) in
    let size : length (characters (take n (map nat_of xs))) ≡ length ms = ap length same in
    omega (arith, few, many, size)

pub few_items : {B : Type 0} (rd : B → Bool) (x : SymValue B) (ms : List Value) (i : ℕ) → HasItems rd x ms → i ≡ length (items_of x) → drop i ms ≡ []
few_items rd x ms i h e = let few = few_in rd x h.value ms h.read_as h.items in drop_all i ms (omega (arith, few))

module _ (line : ℕ) where
  -- the items that an expression gives
  abbrev pub given_items : Result Value Halted → Result (List Value) Halted
  given_items r = r >>= λ v. on_line line (members v)

  pub fault_is : (f : Bool) (reading : Reading) (r : Result Value Halted) → ((v : Value) → reading ≡ sure v → (ms : List Value) × (members v ≡ Ok ms)) → IsOutcome f reading r → IsFault f (given_items r)
  fault_is f reading (Ok v) h k = subst (λ (i : Result (List Value) Halt). IsFault f (on_line line i)) (sym (h v k.1).1) k.0
  fault_is f reading (Err i) h k = k

  module _ {B : Type 0} (rd : B → Bool) (x : SymValue B) (some : (v : Value) → read rd x ≡ sure v → (ms : List Value) × (members v ≡ Ok ms)) where
    items_by : (f : Bool) (s i : State) (r : Result Value Halted) → IsOutcome f (read rd x) r → fine_at (given_items r) s ≡ Some i → HasItems rd x (items_at (given_items r))
    items_by f s i (Ok v) h e =
        let has = some v h.1 in
        subst (λ (q : Result (List Value) Halt). HasItems rd x (items_at (on_line line q))) (sym has.1) (record { value = v; read_as = h.1; items = has.1 })
    items_by f s i (Err y) h e = absurd cc

    pub items_first : (f : Bool) (o : Option State) (value : State → Result Value Halted) → ((s : State) → o ≡ Some s → IsOutcome f (read rd x) (value s))
        → ItemsRead rd x (fine o (λ s. given_items (value s))) (items o (λ s. given_items (value s)))
    items_first f None value h s e = absurd cc
    items_first f (Some s) value h i e = items_by f s i (value s) (h s refl) e
