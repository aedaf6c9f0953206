-- The least types by numbers are the least set of facts.
use Rattle.std.proofs.Common.{◌≡◌, ℕ, ◌<◌, List, [], ◌∷◌, ◌++◌, length, Option, Some, None, refl, sym, ap, ◌∙◌, subst, arith}
use Rattle.std.specs.List.{flat_map}
use Rattle.std.proofs.lemmas.List.{length-map}
use Rattle.mpy_tree.specs.declared.operators.ArithOp.{ArithOp}
use Rattle.mpy_tree.specs.declared.operators.ArithOp.TheVariants.{Add, Sub, Mul, Floor, Rem, Power}
use Rattle.mpy_tree.specs.declared.builtins.Builtin.{Builtin}
use Rattle.mpy_tree.specs.Builtins.{builtin_of}
use Rattle.mpy_tree.specs.declared.typing.Ty.TheVariants as ty
use Rattle.mpy_tree.specs.declared.typing.Slot.{Slot}
use Rattle.mpy_tree.specs.declared.typing.Slot.TheVariants as slot
use Rattle.mpy_tree.specs.declared.typing.TypeSet.{TypeSet}
use Rattle.mpy_tree.specs.TypeSets.{no_types, just, join, members, IsWithin}
use Rattle.mpy_tree.specs.Syntax.{Term, Routine}
use Rattle.mpy_tree.specs.Syntax as ast
use Rattle.mpy_tree.specs.SetTypes.{FactSet, types_in, arith_types, results, call_types, Callee, called, builtin_gives}
use Rattle.mpy_tree.specs.Flows.{Flow, Source as Origin, given, value, each, flows, source_types, Keeps, IsPart, IsLeast}
use Rattle.mpy_tree.specs.Entries.{Entry}
use Rattle.mpy_tree.specs.Faults.{slots}
use Rattle.mpy_types.specs.declared.inflow.Via.{Via}
use Rattle.mpy_types.specs.declared.inflow.Via.TheVariants.{Whole, Members, Texts}
use Rattle.mpy_types.specs.declared.inflow.Inflow.{Inflow}
use Rattle.mpy_types.specs.Inflows.{deeper, through, fixed, from_slot, from_result, from_call, from_arith, inflows_of, inflows_from, into, flow_inflows}
use Rattle.mpy_scopes.specs.Numbers.{number}
use Rattle.mpy_types.specs.Tables.{type_at, types_numbered, facts_by}
use Rattle.mpy_types.specs.Passes.{types_from, Holds, AllHold, IsBelow, AreLeast}
use Rattle.mpy_types.proofs.Every.{Every, every_of, all_of, every_both, every_front, every_rest}
use Rattle.mpy_types.proofs.SetLaws.{join_assoc, join_none, join_below, or_left, or_right}
use Rattle.mpy_types.proofs.Monotone.{sources_within}
use Rattle.mpy_types.proofs.Numbering.{slot_number, types_by, type_of_number}
use Rattle.mpy_types.proofs.Targets.{Lands, flows_land}

-- all that flows in
abbrev pub all_types : List TypeSet → List Inflow → TypeSet
all_types v [] = no_types
all_types v (f ∷ fs) = join (types_from v f.from) (all_types v fs)

both_types : (v : List TypeSet) (xs ys : List Inflow) → all_types v (xs ++ ys) ≡ join (all_types v xs) (all_types v ys)
both_types v [] ys = refl
both_types v (x ∷ xs) ys = ap (join (types_from v x.from)) (both_types v xs ys) ∙ sym (join_assoc (types_from v x.from) (all_types v xs) (all_types v ys))

through_join : (via : Via) (s t : TypeSet) → join (through via s) (through via t) ≡ through via (join s t)
through_join Whole s t = refl
through_join Members s t = refl
through_join Texts s t = refl

through_deeper : (via : Via) (s : TypeSet) → through (deeper via) s ≡ through via (members s)
through_deeper Whole s = refl
through_deeper Members s = refl
through_deeper Texts s = refl

through_none : (via : Via) → no_types ≡ through via no_types
through_none Whole = refl
through_none Members = refl
through_none Texts = refl

module _ (v : List TypeSet) (p : List Routine) (to : ℕ) where
  slot_types : (via : Via) (o : Option ℕ) → all_types v (from_slot to via o) ≡ through via (types_numbered v o)
  slot_types via None = through_none via
  slot_types via (Some k) = join_none (through via (type_at v k))

  result_types : (via : Via) (o : Option Callee) → all_types v (from_result p to via o) ≡ through via (results (facts_by p v) o)
  result_types via None = through_none via
  result_types via (Some g) = slot_types via (number p g.number slot.Result)

  called_types : (via : Via) (b : Option Builtin) (o : Option Callee) → all_types v (from_call p to via b o) ≡ through via (call_types (facts_by p v) b o)
  called_types via (Some b) o = join_none (through via (just (builtin_gives b)))
  called_types via None o = result_types via o

  added : (via : Via) (xs ys : List Inflow) (s t : TypeSet) → all_types v xs ≡ through via s → all_types v ys ≡ through via t → all_types v (xs ++ ys) ≡ through via (join s t)
  added via xs ys s t e f = both_types v xs ys ∙ ap (λ u. join u (all_types v ys)) e ∙ ap (join (through via s)) f ∙ through_join via s t

  arith_in : (via : Via) (op : ArithOp) (xs ys : List Inflow) (s t : TypeSet) → all_types v xs ≡ through via s → all_types v ys ≡ through via t → all_types v (from_arith op xs ys (fixed to via (just ty.Int))) ≡ through via (arith_types op s t)
  arith_in via Add xs ys s t e f = added via xs ys s t e f
  arith_in via Mul xs ys s t e f = e
  arith_in via Sub xs ys s t e f = join_none (through via (just ty.Int))
  arith_in via Floor xs ys s t e f = join_none (through via (just ty.Int))
  arith_in via Rem xs ys s t e f = join_none (through via (just ty.Int))
  arith_in via Power xs ys s t e f = join_none (through via (just ty.Int))

  -- what flows from an expression is its types
  value_types : (i : ℕ) (e : Term) (via : Via) → all_types v (inflows_of p i to via e) ≡ through via (types_in (facts_by p v) p i e)
  value_types i (ast.Int n) via = join_none (through via (just ty.Int))
  value_types i (ast.Bool b) via = join_none (through via (just ty.Bool))
  value_types i (ast.Text cs) via = join_none (through via (just ty.Text))
  value_types i (ast.Name x) via = slot_types via (number p i (slot.Local x))
  value_types i (ast.List es) via = join_none (through via (just ty.List))
  value_types i (ast.Neg e) via = join_none (through via (just ty.Int))
  value_types i (ast.Not e) via = join_none (through via (just ty.Bool))
  value_types i (ast.Arith op a b) via = arith_in via op (inflows_of p i to via a) (inflows_of p i to via b) _ _ (value_types i a via) (value_types i b via)
  value_types i (ast.Cmp op a b) via = join_none (through via (just ty.Bool))
  value_types i (ast.And a b) via = join_none (through via (just ty.Bool))
  value_types i (ast.Or a b) via = join_none (through via (just ty.Bool))
  value_types i (ast.Cond t a b) via = added via (inflows_of p i to via a) (inflows_of p i to via b) _ _ (value_types i a via) (value_types i b via)
  value_types i (ast.Index a k) via = value_types i a (deeper via) ∙ through_deeper via (types_in (facts_by p v) p i a)
  value_types i (ast.Slice a from end) via = value_types i a via
  value_types i (ast.Call f es) via = called_types via (builtin_of f) (called p f)

  pub origin_types : (s : Origin) → all_types v (inflows_from p to s) ≡ source_types (facts_by p v) p s
  origin_types (given t) = join_none (just t)
  origin_types (value i e) = value_types i e Whole
  origin_types (each i e) = value_types i e Members

-- all of it flows into the slot of the number
abbrev Into : ℕ → Inflow → Type 0
Into to f = f.to ≡ to

module _ (p : List Routine) (to : ℕ) where
  slot_into : (via : Via) (o : Option ℕ) → Every (Into to) (from_slot to via o)
  slot_into via None = tt
  slot_into via (Some k) = (refl, tt)

  result_into : (via : Via) (o : Option Callee) → Every (Into to) (from_result p to via o)
  result_into via None = tt
  result_into via (Some g) = slot_into via (number p g.number slot.Result)

  call_into : (via : Via) (b : Option Builtin) (o : Option Callee) → Every (Into to) (from_call p to via b o)
  call_into via (Some b) o = (refl, tt)
  call_into via None o = result_into via o

  arith_into : (op : ArithOp) (xs ys zs : List Inflow) → Every (Into to) xs → Every (Into to) ys → Every (Into to) zs → Every (Into to) (from_arith op xs ys zs)
  arith_into Add xs ys zs h k m = every_both (Into to) xs ys h k
  arith_into Mul xs ys zs h k m = h
  arith_into Sub xs ys zs h k m = m
  arith_into Floor xs ys zs h k m = m
  arith_into Rem xs ys zs h k m = m
  arith_into Power xs ys zs h k m = m

  value_into : (i : ℕ) (e : Term) (via : Via) → Every (Into to) (inflows_of p i to via e)
  value_into i (ast.Int n) via = (refl, tt)
  value_into i (ast.Bool b) via = (refl, tt)
  value_into i (ast.Text cs) via = (refl, tt)
  value_into i (ast.Name x) via = slot_into via (number p i (slot.Local x))
  value_into i (ast.List es) via = (refl, tt)
  value_into i (ast.Neg e) via = (refl, tt)
  value_into i (ast.Not e) via = (refl, tt)
  value_into i (ast.Arith op a b) via = arith_into op (inflows_of p i to via a) (inflows_of p i to via b) (fixed to via (just ty.Int)) (value_into i a via) (value_into i b via) (refl, tt)
  value_into i (ast.Cmp op a b) via = (refl, tt)
  value_into i (ast.And a b) via = (refl, tt)
  value_into i (ast.Or a b) via = (refl, tt)
  value_into i (ast.Cond t a b) via = every_both (Into to) (inflows_of p i to via a) (inflows_of p i to via b) (value_into i a via) (value_into i b via)
  value_into i (ast.Index a k) via = value_into i a (deeper via)
  value_into i (ast.Slice a from end) via = value_into i a via
  value_into i (ast.Call f es) via = call_into via (builtin_of f) (called p f)

  origin_into : (s : Origin) → Every (Into to) (inflows_from p to s)
  origin_into (given t) = (refl, tt)
  origin_into (value i e) = value_into i e Whole
  origin_into (each i e) = value_into i e Members

none_within : (s : TypeSet) → IsWithin no_types s
none_within s ty.Int h = absurd (cc)
none_within s ty.Bool h = absurd (cc)
none_within s ty.List h = absurd (cc)
none_within s ty.Text h = absurd (cc)

-- what flows into a slot holds exactly where all of it is within its types
joined_within : (v : List TypeSet) (to : ℕ) (fs : List Inflow) → to < length v → Every (Into to) fs → Every (Holds v) fs → IsWithin (all_types v fs) (type_at v to)
joined_within v to [] l h k = none_within (type_at v to)
joined_within v to (f ∷ fs) l h k =
    let P : ℕ → Type 0 = λ n. n < length v → IsWithin (types_from v f.from) (type_at v n) in
    join_below (types_from v f.from) (all_types v fs) (type_at v to) (subst P h.0 k.0 l) (joined_within v to fs l h.1 k.1)

left_of : (s t u : TypeSet) → IsWithin (join s t) u → IsWithin s u
left_of s t u h ty.Int k = h ty.Int (or_left s.int t.int k)
left_of s t u h ty.Bool k = h ty.Bool (or_left s.bool t.bool k)
left_of s t u h ty.List k = h ty.List (or_left s.list t.list k)
left_of s t u h ty.Text k = h ty.Text (or_left s.text t.text k)

right_of : (s t u : TypeSet) → IsWithin (join s t) u → IsWithin t u
right_of s t u h ty.Int k = h ty.Int (or_right s.int t.int k)
right_of s t u h ty.Bool k = h ty.Bool (or_right s.bool t.bool k)
right_of s t u h ty.List k = h ty.List (or_right s.list t.list k)
right_of s t u h ty.Text k = h ty.Text (or_right s.text t.text k)

each_within : (v : List TypeSet) (to : ℕ) (fs : List Inflow) → Every (Into to) fs → IsWithin (all_types v fs) (type_at v to) → Every (Holds v) fs
each_within v to [] h k = tt
each_within v to (f ∷ fs) h k =
    let P : ℕ → Type 0 = λ n. n < length v → IsWithin (types_from v f.from) (type_at v n) in
    (subst P (sym h.0) (λ l. left_of (types_from v f.from) (all_types v fs) (type_at v to) k), each_within v to fs h.1 (right_of (types_from v f.from) (all_types v fs) (type_at v to) k))

module _ (v : List TypeSet) (p : List Routine) where
  -- a flow into a slot of a number is kept where what flows in holds
  kept_by : (f : Flow) (k : ℕ) → number p f.func f.slot ≡ Some k → k < length v → Every (Holds v) (flow_inflows p f) → Keeps (facts_by p v) p f
  kept_by f k e l h =
      let P : Option ℕ → Type 0 = λ o. Every (Holds v) (into o (λ to. inflows_from p to f.from)) in
      let Q : TypeSet → Type 0 = λ s. IsWithin s (type_at v k) in
      let R : Option ℕ → Type 0 = λ o. IsWithin (source_types (facts_by p v) p f.from) (types_numbered v o) in
      subst R (sym e) (subst Q (origin_types v p k f.from) (joined_within v k (inflows_from p k f.from) l (origin_into p k f.from) (subst P e h)))

  all_kept : (fs : List Flow) → ((j : ℕ) (y : Slot) (k : ℕ) → number p j y ≡ Some k → k < length v) → Every (Lands (slots p)) fs → Every (Holds v) (flat_map (flow_inflows p) fs) → Every (Keeps (facts_by p v) p) fs
  all_kept [] m g h = tt
  all_kept (f ∷ fs) m g h =
      let n = slot_number p f.func f.slot g.0 in
      (kept_by f n.0 n.1 (m f.func f.slot n.0 n.1) (every_front (Holds v) (flow_inflows p f) (flat_map (flow_inflows p) fs) h), all_kept fs m g.1 (every_rest (Holds v) (flow_inflows p f) (flat_map (flow_inflows p) fs) h))

module _ (G : FactSet) (p : List Routine) where
  abbrev w : List TypeSet
  w = types_by G (slots p)

  numbered_part : (j : ℕ) (y : Slot) (o : Option ℕ) → number p j y ≡ o → IsWithin (types_numbered w o) (G j y)
  numbered_part j y None e = none_within (G j y)
  numbered_part j y (Some k) e = let P : TypeSet → Type 0 = λ s. IsWithin s (G j y) in subst P (sym (type_of_number G p j y k e).1) (λ a h. h)

  by_numbers : IsPart (facts_by p w) G
  by_numbers j y = numbered_part j y (number p j y) refl

  flow_holds : (f : Flow) (o : Option ℕ) → number p f.func f.slot ≡ o → Keeps G p f → Every (Holds w) (into o (λ to. inflows_from p to f.from))
  flow_holds f None e h = tt
  flow_holds f (Some k) e h =
      let P : TypeSet → Type 0 = λ s. IsWithin s (type_at w k) in
      let Q : TypeSet → Type 0 = λ s. IsWithin (source_types (facts_by p w) p f.from) s in
      each_within w k (inflows_from p k f.from) (origin_into p k f.from)
      (subst P (sym (origin_types w p k f.from)) (subst Q (sym (type_of_number G p f.func f.slot k e).1) (λ a m. h a (sources_within (facts_by p w) G by_numbers p f.from a m))))

  all_hold : (fs : List Flow) → Every (Keeps G p) fs → Every (Holds w) (flat_map (flow_inflows p) fs)
  all_hold [] h = tt
  all_hold (f ∷ fs) h = every_both (Holds w) (flow_inflows p f) (flat_map (flow_inflows p) fs) (flow_holds f (number p f.func f.slot) refl h.0) (all_hold fs h.1)

below_numbered : (v u : List TypeSet) → IsBelow v u → (o : Option ℕ) → IsWithin (types_numbered v o) (types_numbered u o)
below_numbered v u h None = λ a k. k
below_numbered v u h (Some k) = h.each k

-- the least types of the slots are the least facts
pub least_facts : (v : List TypeSet) (p : List Routine) (e : Entry) (n : ℕ) (fs : List Inflow) → AreLeast v n fs → n ≡ length (slots p) → fs ≡ flat_map (flow_inflows p) (flows p e) → IsLeast (facts_by p v) p e
least_facts v p e n fs h m is =
    let P : List Inflow → Type 0 = λ gs. AllHold v gs in
    record {
      closed = all_of (Keeps (facts_by p v) p) (flows p e)
          (all_kept v p (flows p e)
          (λ j y k d. let l : k < length (slots p) = (type_of_number (λ i x. no_types) p j y k d).0 in let z : length v ≡ n = h.many in omega arith)
          (flows_land p e)
          (every_of (Holds v) (flat_map (flow_inflows p) (flows p e)) (subst P is h.hold)));
      least = λ G k j y a q.
          let u = types_by G (slots p) in
          let Q : List Inflow → Type 0 = λ gs. AllHold u gs in
          let b : IsBelow v u = h.least u (length-map (slots p) (λ s. G s.func s.slot) ∙ sym m) (subst Q (sym is) (all_of (Holds u) (flat_map (flow_inflows p) (flows p e)) (all_hold G p (flows p e) (every_of (Keeps G p) (flows p e) k)))) in
          by_numbers G p j y a (below_numbered v u b (number p j y) a q);
    }
