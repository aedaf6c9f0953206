-- A path as what expressions are evaluated in.
use Rattle.std.proofs.Common.{◌≡◌, ◌<◌, ◌∙◌, ℕ, zero, suc, Bool, true, false, List, [], ◌∷◌, length, map, slice_get, option_map, refl, sym, ap, Option, Some, None, arith, ◌++◌}
use Rattle.std.specs.Prelude.{◌==◌, if◌then◌else◌}
use Rattle.std.specs.Cmp.{unsigned_Decides}
use Rattle.std.proofs.lemmas.Bool.{false_from_ne_true}
use Rattle.std.proofs.lemmas.List.{length-append, length-map}
use Rattle.mpy_tree.specs.declared.limits.Limits.{Limits}
use Rattle.mpy_tree.specs.declared.typing.Slot.{Slot}
use Rattle.mpy_tree.specs.declared.typing.Slot.TheVariants as slot
use Rattle.mpy_tree.specs.declared.typing.Ty.{Ty}
use Rattle.mpy_tree.specs.declared.value.Value.{Value}
use Rattle.mpy_tree.specs.Names.{has_twice}
use Rattle.mpy_tree.specs.Values.{State}
use Rattle.choice_tree.specs.WeightedTrees.{Weighted}
use Rattle.sym_values.specs.declared.value.SymValue.{SymValue}
use Rattle.sym_values.specs.Forms.{Form, form_for, form_of, forms_of}
use Rattle.sym_values.specs.Reading.{map_bits, spelled}
use Rattle.sym_nodes.specs.declared.env.Env.{Env}
use Rattle.sym_nodes.specs.Environments.{IsEnvIn, LocalReads, StateReads, slot_type, type_at}
use Rattle.mpy_tree.specs.Locals.{place_of}
use Rattle.sym_nodes.specs.Operands.{ty_of}
use Rattle.sym_nodes.specs.Plain.{type_of}
use Rattle.sym_nodes.proofs.Lookups.{found_below}
use Rattle.sym_nodes.proofs.Typed.{type_is}
use Rattle.sym_expr.specs.Signatures.{Signatures, scope_at}
use Rattle.sym_paths.specs.declared.path.Path.{Path}
use Rattle.sym_paths.specs.declared.slots.Slots.{Slots}
use Rattle.sym_paths.specs.Later.{path_set, path_values}
use Rattle.sym_paths.specs.Locals.{local_is}
use Rattle.sym_paths.specs.Paths.{HoldsPath, gone_way, reached, set_to, way}
use Rattle.sym_paths.specs.Slots.{local_forms, print_forms, slot_forms, type_among, type_at as type_there}
use Rattle.typed_trees.specs.Locals.{SameCalls, SameLocals}
use Rattle.typed_trees.specs.TypedStatements.{local_type, result_type}
use Rattle.typed_trees.proofs.LocalTypes.{all_follow, calls_follow}
use Rattle.sym_blocks.specs.declared.body.Body.{Body}
use Rattle.sym_blocks.specs.Bodies.{IsBodyIn, body_scope, body_slot, scope_in}

-- the locals of a path, and the picks of a body
abbrev pub env_on : {B C : Type 0} → Body B C → Path B → Env B
env_on run p = record {
  names = run.slots.now.names;
  values = p.values;
  set = p.set;
  picks = run.picks.now;
  limits = run.slots.now.limits;
  depth = run.depth;
}

-- values of given forms, by their places; behind them there may be more
module _ {B : Type 0} (l : Limits) (more : List Form) where
  form_at : (values : List (SymValue B)) (types : List Ty) (i : ℕ) (x : SymValue B) → forms_of values ≡ map (form_for l) types ++ more → i < length types → slice_get values i ≡ Some x → (t : Ty) × (form_of x ≡ form_for l t)
  form_at values [] i x f h e = absurd (omega (arith, h))
  form_at [] (t ∷ types) i x f h e = absurd cc
  form_at (v ∷ values) (t ∷ types) zero x f h e =
      let same : v ≡ x = cc in
      let form : form_of v ≡ form_for l t = cc in
      (t, ap form_of (sym same) ∙ form)
  form_at (v ∷ values) (t ∷ types) (suc i) x f h e =
      let rest : forms_of values ≡ map (form_for l) types ++ more = cc in form_at values types i x rest (omega (arith, h)) e

  types_at : (values : List (SymValue B)) (types : List Ty) (i : ℕ) → forms_of values ≡ map (form_for l) types ++ more → i < length types → option_map ty_of (slice_get values i) ≡ slice_get types i
  types_at values [] i f h = absurd (omega (arith, h))
  types_at [] (t ∷ types) i f h = absurd cc
  types_at (v ∷ values) (t ∷ types) zero f h =
      let form : form_of v ≡ form_for l t = cc in ap Some (type_is l t v form)
  types_at (v ∷ values) (t ∷ types) (suc i) f h =
      let rest : forms_of values ≡ map (form_for l) types ++ more = cc in types_at values types i rest (omega (arith, h))

  slot_at : (values : List (SymValue B)) (types : List Ty) (o : Option ℕ) → forms_of values ≡ map (form_for l) types ++ more → ((i : ℕ) → o ≡ Some i → i < length types) → type_at values o ≡ type_there types o
  slot_at values types None f h = refl
  slot_at values types (Some i) f h = types_at values types i f (h i refl)

module _ {S B C : Type 0} {owns : S → B → Type 0} {have_picks : List (List B) → Type 0} where
  pub env_in : {s : S} (run : Body B C) (p : Path B) → IsBodyIn owns have_picks s run → HoldsPath owns s (slot_forms run.slots.now) p → IsEnvIn owns s (env_on run p)
  env_in run p h k =
      let slots = run.slots.now in
      let kept = print_forms slots.limits slots.prints in
      let many = length-map p.values form_of in
      let parts = length-append (local_forms slots) kept in
      let typed = length-map slots.types (form_for slots.limits) in
      let sizes : length (forms_of p.values) ≡ length (local_forms slots ++ kept) = ap length k.forms_are in
      record {
        valued = omega (arith, many, parts, typed, sizes, h.types);
        marked = omega (arith, parts, typed, k.long, h.types);
        forms = λ i x below e.
            let at = form_at slots.limits kept p.values slots.types i x k.forms_are (omega (arith, below, h.types)) e in
            at.1 ∙ ap (form_for slots.limits) (sym (type_is slots.limits at.0 x at.1));
        values = path_values k;
        marks = path_set k;
        picks = h.owned;
      }

local_reads : (b : Bool) (x : SymValue Bool) (o : Option Value) → o ≡ set_to b x → (spelled x).proper ≡ true → LocalReads b (spelled x) o
local_reads true x None e h = absurd cc
local_reads true x (Some v) e h = let same : v ≡ (spelled x).value = cc in (refl, let proper : (spelled x).proper ≡ true = h in λ i. record { proper = proper i; value = sym same i })
local_reads false x None e h = refl
local_reads false x (Some v) e h = absurd cc

pub state_on : {B C : Type 0} (rd : B → Bool) (run : Body B C) (p : Path B) (s : State) → has_twice run.slots.now.names ≡ false → gone_way run.slots.now (way rd p ∷ []) ≡ reached (Some s) → StateReads rd (env_on run p) s.locals
state_on rd run p s d at = record {
  local = λ i name x bit n v b.
      let is = local_is rd run.slots.now p s i name x bit d at n v b in
      local_reads (rd bit) (map_bits rd x) (s.locals name) is.local is.proper;
}

-- the scope of a body
is_own : (n : ℕ) → (n == n) ≡ true
is_own n = (unsigned_Decides n n).1 refl

is_other : (j n : ℕ) → j < n → (j == n) ≡ false
is_other j n h = false_from_ne_true (j == n) (λ e. let same = (unsigned_Decides j n).0 e in omega (arith, same))

pub local_type_is : (c : Signatures) (slots : Slots) (x : List ℕ) → local_type (body_scope c slots) x ≡ type_among slots.names slots.types x
local_type_is c slots x = ap (λ (b : Bool). if b then body_slot slots (slot.Local x) else c.slots (length c.program) (slot.Local x)) (is_own (length c.program))

pub result_type_is : (c : Signatures) (slots : Slots) → result_type (body_scope c slots) ≡ slots.result
result_type_is c slots = ap (λ (b : Bool). if b then slots.result else c.slots (length c.program) slot.Result) (is_own (length c.program))

env_local : {B : Type 0} (c : Signatures) (env : Env B) (x : List ℕ) → local_type (scope_at c env) x ≡ slot_type env.names env.values (slot.Local x)
env_local c env x = ap (λ (b : Bool). if b then slot_type env.names env.values (slot.Local x) else c.slots (length c.program) (slot.Local x)) (is_own (length c.program))

module _ {S B C : Type 0} {owns : S → B → Type 0} {s : S} (c : Signatures) (run : Body B C) (p : Path B) (h : length run.slots.now.types ≡ length run.slots.now.names) (k : HoldsPath owns s (slot_forms run.slots.now) p) where
  pub local_same : (x : List ℕ) → type_at p.values (place_of run.slots.now.names x) ≡ local_type (scope_in c run) x
  local_same x = slot_at run.slots.now.limits (print_forms run.slots.now.limits run.slots.now.prints) p.values run.slots.now.types (place_of run.slots.now.names x) k.forms_are (λ i e. let below = found_below run.slots.now.names x i (sym e) in omega (arith, below, h)) ∙ sym (local_type_is c run.slots.now x)

  same_locals : SameLocals (scope_at c (env_on run p)) (scope_in c run)
  same_locals x = env_local c (env_on run p) x ∙ local_same x

  same_slots : (j : ℕ) (x : Slot) → j < length c.program → (scope_at c (env_on run p)).slots j x ≡ (scope_in c run).slots j x
  same_slots j x h = ap (λ (b : Bool). if b then slot_type run.slots.now.names p.values x else c.slots j x) (is_other j (length c.program) h)
      ∙ sym (ap (λ (b : Bool). if b then body_slot run.slots.now x else c.slots j x) (is_other j (length c.program) h))

  same_calls : SameCalls (scope_at c (env_on run p)) (scope_in c run)
  same_calls = calls_follow (scope_at c (env_on run p)) (scope_in c run) refl same_slots

  -- an expression has the same type on the path as in the body
  pub same_type_on : (w : Weighted) → type_of (scope_at c (env_on run p)) w ≡ type_of (scope_in c run) w
  same_type_on w = all_follow (scope_at c (env_on run p)) (scope_in c run) w same_locals same_calls
