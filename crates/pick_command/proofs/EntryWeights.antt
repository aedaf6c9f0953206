-- A program whose entry takes an argument weighs something. So where there are more inputs than are
-- counted, programs are too large.
use Rattle.std.proofs.Common.{◌≡◌, ℕ, suc, ◌+◌, ◌-◌, ◌*◌, ◌≤◌, ◌==◌, Bool, true, false, not, ◌&&◌, ◌||◌, if◌then◌else◌, List, [], ◌∷◌, ◌++◌, Option, Some, None, length, map, min, sum, refl, sym, ap, subst, ◌∙◌, inr, arith, length-append}
use Rattle.std.specs.Prelude.{sum_by}
use Rattle.std.specs.Int.{div_ceil}
use Rattle.std.specs.List.{list_any}
use Rattle.std.proofs.lemmas.Bool.{eqb-true, eq-eqb}
use Rattle.std.proofs.lemmas.List.{length-map}
use Rattle.std.proofs.lemmas.List.Folds.{list_any-append}
use Rattle.std.proofs.lemmas.List.Sums.{sum_by-cons}
use Rattle.mpy_tree.specs.declared.limits.Limits.{Limits}
use Rattle.mpy_tree.specs.declared.typing.Fact.{Fact}
use Rattle.mpy_tree.specs.declared.typing.Slot.{Slot}
use Rattle.mpy_tree.specs.declared.typing.Slot.TheVariants as slot
use Rattle.mpy_tree.specs.declared.typing.Ty.{Ty}
use Rattle.mpy_tree.specs.declared.typing.Ty.TheVariants as ty
use Rattle.mpy_tree.specs.declared.refusal.Cause.TheVariants as cause
use Rattle.mpy_tree.specs.declared.typing.TypeError.{TypeError}
use Rattle.mpy_tree.specs.declared.typing.TypeError.TheVariants.{Fault}
use Rattle.mpy_tree.specs.Faults.{Place, place, entry_fault, fact, facts_at, facts_with, free_function, listed, local_line, may_lack, nodes_fault, or_fault, routine_slots, slot_fault, slots, slots_fault, slots_from, names_fault}
use Rattle.mpy_tree.specs.Locals.{and_new, is_among, locals}
use Rattle.mpy_tree.specs.Rules.{single}
use Rattle.mpy_tree.specs.Running.{found}
use Rattle.mpy_tree.specs.SetTypes.{FactSet, same_place}
use Rattle.mpy_tree.specs.Shapes.{action_shape, block_shape, routine_shape, routine_shapes, statement_shape, statement_shapes}
use Rattle.mpy_tree.specs.Syntax.{Action, Block, end, step, Routine, Statement, at}
use Rattle.mpy_tree.specs.Syntax as ast
use Rattle.mpy_tree.specs.TypeSets.{only_of}
use Rattle.mpy_tree.specs.Values.{same_bytes}
use Rattle.mpy_scopes.proofs.Places.{at_place}
use Rattle.mpy_parser.specs.Nesting.{ItemLine, IsBlock, IsBody, AreRoutines, no_lines, a_simple, a_loop, an_each, a_test, behind_colon, below, no_routines, a_routine}
use Rattle.choice_tree.specs.WeightedTrees.{lifted, lifted_all}
use Rattle.bounds_reader.specs.declared.bounds.Bounds.{Bounds}
use Rattle.bounds_reader.specs.declared.params.Param.{Param}
use Rattle.input_space.specs.Inputs.{inputs, param_type}
use Rattle.input_space.specs.Tasks.{entry_at}
use Rattle.task_read.specs.Sources.{Typed}
use Rattle.task_read.specs.TypedPrograms.{IsTypedProgram}
use Rattle.tree_weights.specs.Functions.{function, function_from}
use Rattle.tree_weights.specs.RootTypes.{WeightedScope}
use Rattle.tree_weights.specs.Weights.{Bodies, bits, entered_weight, function_weight, is_local, is_local_of, levels_weight, locals_weight, statement_weight, weight, weights}
use Rattle.pick_command.specs.Weights.{AreTooLarge, most_counted, runs, weight_of}

or_cases : (a b : Bool) (P : Type 0) → (a ≡ true → P) → (b ≡ true → P) → (a || b) ≡ true → P
or_cases true b P f g h = f refl
or_cases false b P f g h = g h

or_left : (a b : Bool) → a ≡ true → (a || b) ≡ true
or_left true b h = refl
or_left false b h = absurd (cc)

or_right : (a b : Bool) → b ≡ true → (a || b) ≡ true
or_right true b h = refl
or_right false b h = h

-- LOCALS AND THEIR FACTS

-- a fact, and a slot, of a local of a function
abbrev is_fact_of : ℕ → Fact → Bool
is_fact_of i f = (f.func == i) && is_local f.slot

abbrev is_slot_of : ℕ → Place → Bool
is_slot_of i s = (s.func == i) && is_local s.slot

all_three : (a b c : Bool) → (a && b) ≡ true → c ≡ true → (a && b && c) ≡ true
all_three true true true h k = refl
all_three true true false h k = k
all_three true false c h k = absurd (cc)
all_three false b c h k = absurd (cc)

other_place : (i : ℕ) (f g : Fact) → is_fact_of i f ≡ true
    → same_place f.func f.slot g.func g.slot ≡ true → is_fact_of i g ≡ true
other_place i f g h same =
    let P : ℕ → Slot → Type 0 = λ n x. ((n == i) && is_local x) ≡ true in
    at_place P f.func f.slot g.func g.slot same h

some_place : (i : ℕ) (f : Fact) (gs : List Fact) → is_fact_of i f ≡ true
    → list_any (λ g. same_place f.func f.slot g.func g.slot) gs ≡ true
    → list_any (is_fact_of i) gs ≡ true
some_place i f [] h e = e
some_place i f (g ∷ gs) h e =
    or_cases (same_place f.func f.slot g.func g.slot)
    (list_any (λ g. same_place f.func f.slot g.func g.slot) gs)
    ((is_fact_of i g || list_any (is_fact_of i) gs) ≡ true)
    (λ a. or_left (is_fact_of i g) (list_any (is_fact_of i) gs) (other_place i f g h a))
    (λ b. or_right (is_fact_of i g) (list_any (is_fact_of i) gs) (some_place i f gs h b)) e

-- where others have the place of a fact, one of them weighs; where none has it, it does
one_weighs : (l : Limits) (i : ℕ) (f : Fact) (fs : List Fact)
    → (list_any (is_fact_of i) fs ≡ true → 1 ≤ locals_weight l i fs) → is_fact_of i f ≡ true
    → (b : Bool) → list_any (λ g. same_place f.func f.slot g.func g.slot) fs ≡ b
    → 1 ≤ locals_weight l i (f ∷ fs)
one_weighs l i f fs others here true same =
    let more = others (some_place i f fs here same) in omega (arith, more)
one_weighs l i f fs others here false none =
    let is : is_local_of i f fs ≡ true =
    all_three (f.func == i) (is_local f.slot) (not (list_any (λ g. same_place f.func f.slot g.func g.slot) fs)) here (ap not none) in
    let sum_is : locals_weight l i (f ∷ fs) ≡ bits l f.ty + 1 + locals_weight l i fs =
    ap (λ b. (if b then bits l f.ty + 1 else 0) + locals_weight l i fs) is in
    omega (arith, sum_is)

pub local_weighs : (l : Limits) (i : ℕ) (fs : List Fact) → list_any (is_fact_of i) fs ≡ true
    → 1 ≤ locals_weight l i fs
local_weighs l i [] e = absurd (cc)
local_weighs l i (f ∷ fs) e =
    or_cases (is_fact_of i f) (list_any (is_fact_of i) fs) (1 ≤ locals_weight l i (f ∷ fs))
    (λ here. one_weighs l i f fs (local_weighs l i fs) here (list_any (λ g. same_place f.func f.slot g.func g.slot) fs) refl)
    (λ there. let more = local_weighs l i fs there in omega (arith, more)) e

one_type : (a b c d : Bool) (line : ℕ)
    → slot_fault false (listed (record { int = a; bool = b; list = c; text = d })) line ≡ None
    → (t : Ty) × (only_of a b c d ≡ Some t)
one_type true false false false line e = (ty.Int, refl)
one_type false true false false line e = (ty.Bool, refl)
one_type false false true false line e = (ty.List, refl)
one_type false false false true line e = (ty.Text, refl)
one_type false false false false line e = absurd (cc)
one_type true true c d line e = absurd (cc)
one_type true false true d line e = absurd (cc)
one_type true false false true line e = absurd (cc)
one_type false true true d line e = absurd (cc)
one_type false true false true line e = absurd (cc)
one_type false false true true line e = absurd (cc)

both_none : (a b : Option TypeError) → or_fault a b ≡ None → (a ≡ None) × (b ≡ None)
both_none None b e = (refl, e)
both_none (Some x) b e = absurd (cc)

and_false : (a : Bool) → (a && false) ≡ false
and_false true = refl
and_false false = refl

-- a local has a type, whichever result may have none
not_result : (j n : ℕ) (x : Slot) (here : Bool) → (here && is_local x) ≡ true
    → same_place j slot.Result n x ≡ false
not_result j n (slot.Local x) here e = and_false (j == n)
not_result j n slot.Result true e = absurd (cc)
not_result j n slot.Result false e = absurd (cc)

never_lacks : (free : Option ℕ) (i : ℕ) (s : Place) → is_slot_of i s ≡ true
    → may_lack free s ≡ false
never_lacks None i s e = refl
never_lacks (Some j) i s e = not_result j s.func s.slot (s.func == i) e

-- a slot more, with or without a fact
with_facts : (i : ℕ) (s : Place) (o : Option Ty) (fs : List Fact)
    → list_any (is_fact_of i) fs ≡ true → list_any (is_fact_of i) (facts_with s o fs) ≡ true
with_facts i s None fs h = h
with_facts i s (Some t) fs h = or_right (is_slot_of i s) (list_any (is_fact_of i) fs) h

-- slots without a fault have facts, but for a result that may have none
facts_of_slots : (free : Option ℕ) (F : FactSet) (i : ℕ) (ss : List Place)
    → slots_fault free F ss ≡ None → list_any (is_slot_of i) ss ≡ true
    → list_any (is_fact_of i) (facts_at F ss) ≡ true
facts_of_slots free F i [] none e = e
facts_of_slots free F i (s ∷ ss) none e =
    let S = F s.func s.slot in
    let parts =
    both_none (slot_fault (may_lack free s) (listed S) s.line) (slots_fault free F ss) none in
    or_cases (is_slot_of i s) (list_any (is_slot_of i) ss)
    (list_any (is_fact_of i) (facts_at F (s ∷ ss)) ≡ true)
    (λ a.
    let own : slot_fault false (listed S) s.line ≡ None =
    subst (λ (b : Bool). slot_fault b (listed S) s.line ≡ None) (never_lacks free i s a) parts.0 in
    let t = one_type S.int S.bool S.list S.text s.line own in
    let all : facts_at F (s ∷ ss) ≡ fact s.func s.slot t.0 ∷ facts_at F ss =
    ap (λ o. facts_with s o (facts_at F ss)) t.1 in
    subst (λ fs. list_any (is_fact_of i) fs ≡ true) (sym all)
    (or_left (is_slot_of i s) (list_any (is_fact_of i) (facts_at F ss)) a))
    (λ b. with_facts i s (only_of S.int S.bool S.list S.text) (facts_at F ss)
    (facts_of_slots free F i ss parts.1 b)) e

-- THE ENTRY

longer : (b : Bool) (seen : List (List ℕ)) (x : List ℕ) → 1 ≤ length seen
    → 1 ≤ length (if b then seen else seen ++ x ∷ [])
longer true seen x h = h
longer false seen x h = let e = length-append seen (x ∷ []) in omega (arith, e)

seen_stay : (seen xs : List (List ℕ)) → 1 ≤ length seen → 1 ≤ length (and_new seen xs)
seen_stay seen [] h = h
seen_stay seen (x ∷ xs) h =
    seen_stay (if is_among seen x then seen else seen ++ x ∷ []) xs (longer (is_among seen x) seen x h)

some_new : (xs ys : List (List ℕ)) → 1 ≤ length xs → 1 ≤ length (and_new [] (xs ++ ys))
some_new [] ys h = absurd (omega arith)
some_new (x ∷ xs) ys h = seen_stay (x ∷ []) (xs ++ ys) (omega arith)

local_slots : (i : ℕ) (line : List ℕ → ℕ) (xs : List (List ℕ)) (rest : List Place) → 1 ≤ length xs
    → list_any (is_slot_of i) (map (λ x. place i (slot.Local x) (line x)) xs ++ rest) ≡ true
local_slots i line [] rest h = absurd (omega arith)
local_slots i line (x ∷ xs) rest h =
    or_left ((i == i) && true) (list_any (is_slot_of i) (map (λ x. place i (slot.Local x) (line x)) xs ++ rest))
    (ap (λ b. b && true) (eq-eqb i i refl))

-- a function with a parameter has a local
own_slots : (i : ℕ) (r : Routine) → 1 ≤ length r.params → list_any (is_slot_of i) (routine_slots i r) ≡ true
own_slots i r h =
    local_slots i (local_line r) (locals r) (place i slot.Result r.line ∷ []) (some_new r.params _ h)

abbrev HasStatement : Block → Type 0
HasStatement end = ⊥
HasStatement (step s rest) = Unit {0}

abbrev HaveStatements : List Routine → Type 0
HaveStatements [] = Unit {0}
HaveStatements (r ∷ rs) = HasStatement r.body × HaveStatements rs

some_lines : {loop : Bool} {c : ℕ} {ls : List ItemLine} {b : Block} → IsBlock loop c ls b
    → (ls ≡ [] → ⊥) → HasStatement b
some_lines no_lines some = absurd (some refl)
some_lines (a_simple may rest) some = tt
some_lines (a_loop body rest) some = tt
some_lines (an_each body rest) some = tt
some_lines (a_test body arms rest) some = tt

body_has : {loop : Bool} {c line : ℕ} {m : Option Action} {ls : List ItemLine} {b : Block}
    → IsBody loop c line m ls b → HasStatement b
body_has (behind_colon may) = tt
body_has (below deeper within block) = some_lines block (λ e. cc)

bodies_have : {ls : List ItemLine} {rs : List Routine} → AreRoutines ls rs → HaveStatements rs
bodies_have no_routines = tt
bodies_have (a_routine body rest) = (body_has body, bodies_have rest)

-- the function of a name, whose body has a statement, among functions that are numbered from n on
record IsEntered (p : List Routine) (f : List ℕ) (n : ℕ) (r : Routine) : Type 0 where
  number : ℕ
  tree : function_from (lifted_all (routine_shapes p)) f n ≡ Some (function number (lifted (routine_shape r)))
  local : list_any (is_slot_of number) (slots_from n p) ≡ true
  some : HasStatement r.body

entered_first : (q : Routine) (p : List Routine) (f : List ℕ) (n : ℕ) (r : Routine) (b : Bool)
    → same_bytes f q.name ≡ b → (if b then Some q else found p f) ≡ Some r → 1 ≤ length r.params
    → HasStatement q.body → (found p f ≡ Some r → IsEntered p f (n + 1) r)
    → IsEntered (q ∷ p) f n r
entered_first q p f n r true named is some body rest =
    let same : q ≡ r = cc in
    let tree = lifted (routine_shape q) in
    record {
      number = n;
      tree =
          ap (λ b. if b then Some (function n tree) else function_from (lifted_all (routine_shapes p)) f (n + 1)) named
          ∙ ap (λ x. Some (function n (lifted (routine_shape x)))) same;
      local =
          list_any-append (is_slot_of n) (routine_slots n q) (slots_from (n + 1) p)
          ∙ or_left (list_any (is_slot_of n) (routine_slots n q)) (list_any (is_slot_of n) (slots_from (n + 1) p))
          (own_slots n q (subst (λ x. 1 ≤ length x.params) (sym same) some));
      some = subst (λ x. HasStatement x.body) same body;
    }
entered_first q p f n r false named is some body rest =
    let later = rest is in
    let tree = lifted (routine_shape q) in
    record {
      number = later.number;
      tree =
          ap (λ b. if b then Some (function n tree) else function_from (lifted_all (routine_shapes p)) f (n + 1)) named
          ∙ later.tree;
      local =
          list_any-append (is_slot_of later.number) (routine_slots n q) (slots_from (n + 1) p)
          ∙ or_right (list_any (is_slot_of later.number) (routine_slots n q)) (list_any (is_slot_of later.number) (slots_from (n + 1) p)) later.local;
      some = later.some;
    }

is_entered : (p : List Routine) (f : List ℕ) (n : ℕ) (r : Routine) → found p f ≡ Some r
    → 1 ≤ length r.params → HaveStatements p → IsEntered p f n r
is_entered [] f n r is some bodies = absurd (cc)
is_entered (q ∷ p) f n r is some bodies =
    entered_first q p f n r (same_bytes f q.name) refl is some bodies.0
    (λ later. is_entered p f (n + 1) r later some bodies.1)

counted : (r : Routine) (n : ℕ) (fault : TypeError) (b : Bool) → (length r.params == n) ≡ b
    → (if b then None else Some fault) ≡ None → length r.params ≡ n
counted r n fault true is none = eqb-true (length r.params) n is
counted r n fault false is none = absurd (cc)

entry_found : (o : Option Routine) (n : ℕ) → entry_fault o n ≡ None
    → (r : Routine) × (o ≡ Some r) × (length r.params ≡ n)
entry_found None n e = absurd (cc)
entry_found (Some r) n e = (r, refl, counted r n (Fault cause.Entry r.line) (length r.params == n) refl e)

-- WEIGHTS

module _ (l : Limits) (σ : WeightedScope) (bodies : Bodies) where
  own_within : (a b c : ℕ) → a ≤ a + b + c
  own_within a b c = omega arith

  more_within : (s a b c : ℕ) → s ≤ s + a + b + c
  more_within s a b c = omega arith

  action_weighs : (act : Action) (line : ℕ)
      → statement_weight l σ ≤ weight l σ bodies (lifted (action_shape act line))
  action_weighs (ast.Assign x e) line = own_within _ _ _
  action_weighs (ast.Augment x op e) line = more_within _ _ _ _
  action_weighs (ast.Put x i e) line = own_within _ _ _
  action_weighs (ast.AugmentAt x i op e) line = more_within _ _ _ _
  action_weighs (ast.Append x e) line = own_within _ _ _
  action_weighs (ast.Print e) line = more_within _ _ _ _
  action_weighs (ast.Return e) line = own_within _ _ _
  action_weighs ast.Pass line = own_within _ _ _
  action_weighs ast.Break line = own_within _ _ _
  action_weighs ast.Continue line = own_within _ _ _
  action_weighs (ast.If arms last) line = own_within _ _ _
  action_weighs (ast.While e body) line = own_within _ _ _
  action_weighs (ast.For x e body) line = own_within _ _ _

  statement_weighs : (s : Statement) → statement_weight l σ ≤ weight l σ bodies (lifted (statement_shape s))
  statement_weighs (at line act) = action_weighs act line

  first_within : (w : ℕ) (ws : List ℕ) → w ≤ sum (w ∷ ws)
  first_within w ws = let e = sum_by-cons (λ n. n) w ws in omega (arith, e)

  block_weighs : (b : Block) → HasStatement b → statement_weight l σ ≤ weight l σ bodies (lifted (block_shape b))
  block_weighs end none = absurd none
  block_weighs (step s rest) some =
      let one = statement_weighs s in
      let all =
      first_within (weight l σ bodies (lifted (statement_shape s))) (weights l σ bodies (lifted_all (statement_shapes rest))) in
      omega (arith, one, all)

  routine_weighs : (r : Routine) → HasStatement r.body → statement_weight l σ ≤ weight l σ bodies (lifted (routine_shape r))
  routine_weighs r some =
      let one = block_weighs r.body some in
      let all = first_within (weight l σ bodies (lifted (block_shape r.body))) [] in
      omega (arith, one, all)

-- a program whose entry has a parameter
entry_weighs : (b : Bounds) (p : Typed) (d : ℕ) → b.limits.depth ≡ suc d → (r : Routine)
    → (e : IsEntered p.program b.entry 0 r) → list_any (is_fact_of e.number) p.types ≡ true
    → 1 ≤ weight_of b p
entry_weighs b p d deep r e typed =
    let fs = lifted_all (routine_shapes p.program) in
    let bodies = levels_weight b.limits p.types fs e.number d in
    let σ : WeightedScope =
    record { facts = p.types; functions = fs; entry = e.number; number = e.number } in
    let is : weight_of b p ≡ weight b.limits σ bodies (lifted (routine_shape r)) =
    ap (entered_weight b.limits p.types fs b.entry) e.tree
    ∙ ap (λ n. levels_weight b.limits p.types fs e.number n b.entry) deep
    ∙ ap (function_weight b.limits p.types fs e.number bodies) e.tree in
    let own = local_weighs b.limits e.number p.types typed in
    let body = routine_weighs b.limits σ bodies r e.some in
    omega (arith, is, own, body)

second_and_third : (a b c d : Option TypeError) → or_fault a (or_fault b (or_fault c d)) ≡ None
    → (b ≡ None) × (c ≡ None)
second_and_third None None None d e = (refl, refl)
second_and_third None None (Some x) d e = absurd (cc)
second_and_third None (Some x) c d e = absurd (cc)
second_and_third (Some x) b c d e = absurd (cc)

pub weighs_something : (b : Bounds) (text : List ℕ) (p : Typed)
    → IsTypedProgram text (entry_at b) p.program p.types → 1 ≤ length b.params → 1 ≤ weight_of b p
weighs_something b text p read some =
    let t = read.typing in
    let types = map param_type b.params in
    let free = free_function p.program (entry_at b) in
    let none = second_and_third (names_fault p.program) (entry_fault (found p.program b.entry) (length types))
    (slots_fault free t.set (slots p.program)) (nodes_fault (single t.set) p.program) t.faultless in
    let r = entry_found (found p.program b.entry) (length types) none.0 in
    let many = length-map b.params param_type in
    let e = is_entered p.program b.entry 0 r.0 r.1 (omega (arith, many, r.2)) (bodies_have read.read.reads.nested) in
    let typed : list_any (is_fact_of e.number) p.types ≡ true =
    subst (λ fs. list_any (is_fact_of e.number) fs ≡ true) (sym t.facts)
    (facts_of_slots free t.set e.number (slots p.program) none.1 e.local) in
    let deep : b.limits.depth ≡ suc (b.limits.depth - 1) = omega (arith, b.limits.depth_range.0) in
    entry_weighs b p (b.limits.depth - 1) deep r.0 e typed

-- MANY INPUTS

some_param : (ps : List Param) → most_counted ≤ length (inputs ps) → 1 ≤ length ps
some_param [] many = absurd (let one : most_counted ≤ 1 = many in omega arith)
some_param (p ∷ ps) many = omega arith

-- more inputs than are counted
pub many_inputs : (b : Bounds) (text : List ℕ) (r : Typed) (ps : List Typed)
    → IsTypedProgram text (entry_at b) r.program r.types → most_counted ≤ length (inputs b.params)
    → AreTooLarge b (r ∷ ps)
many_inputs b text r ps read many =
    let some = weighs_something b text r read (some_param b.params many) in
    let stops : min (length (inputs b.params)) most_counted ≡ most_counted = omega (arith, many) in
    let often : runs b ≡ 15625000000 = ap (λ n. div_ceil n 64) stops in
    let all = sum_by-cons (weight_of b) r ps in
    let work : sum_by (weight_of b) (r ∷ ps) * runs b ≡ sum_by (weight_of b) (r ∷ ps) * 15625000000 =
    ap (λ n. sum_by (weight_of b) (r ∷ ps) * n) often in
    inr (omega (arith, some, all, work))
