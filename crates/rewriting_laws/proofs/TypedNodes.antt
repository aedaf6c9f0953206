-- In a term that has a type each node has one, so it is at no fault of names or of numbers of
-- arguments, and what flows from it is of the type of its slot.
use Rattle.std.proofs.Common.{◌≡◌, ℕ, suc, ◌+◌, Bool, true, false, not, ◌&&◌, ◌||◌, List, [], ◌∷◌}
use Rattle.std.proofs.Common.{length, map, Option, Some, None, if◌then◌else◌, refl, sym, ap, ◌∙◌}
use Rattle.std.proofs.Common.{subst, IsSome, is_some, arith}
use Rattle.std.specs.List.{flat_map}
use Rattle.std.proofs.lemmas.Bool.{and_parts, eq-eqb}
use lib.Pointwise.{bytes_decides}
use Rattle.mpy_tree.specs.declared.builtins.Builtin.{Builtin}
use Rattle.mpy_tree.specs.declared.typing.Slot.{Slot}
use Rattle.mpy_tree.specs.declared.typing.Slot.TheVariants as slot
use Rattle.mpy_tree.specs.declared.typing.Ty.{Ty}
use Rattle.mpy_tree.specs.declared.typing.TypeSet.{TypeSet}
use Rattle.mpy_tree.specs.Builtins.{builtin_of, takes}
use Rattle.mpy_tree.specs.Faults.{listed, slot_fault}
use Rattle.mpy_tree.specs.Flows.{Keeps, argument_flows, callee_flows, node_flows}
use Rattle.mpy_tree.specs.Locals.{is_among, locals}
use Rattle.mpy_tree.specs.Names.{count, is_arity_fault, is_builtin, is_name_fault}
use Rattle.mpy_tree.specs.Names.{takes_so_many}
use Rattle.mpy_tree.specs.Rules.{Slots, all_types, are_arguments, are_operands}
use Rattle.mpy_tree.specs.Rules.{call_type, is_argument, single}
use Rattle.mpy_tree.specs.Rules.{type_in}
use Rattle.mpy_tree.specs.Running.{found}
use Rattle.mpy_tree.specs.SetTypes.{Callee, FactSet, builtin_gives, callee, called, called_from}
use Rattle.mpy_tree.specs.SetTypes.{types_in}
use Rattle.mpy_tree.specs.Shapes.{shape}
use Rattle.mpy_tree.specs.Sites.{nodes}
use Rattle.mpy_tree.specs.Syntax.{Routine, Term, Terms, no_terms, term_and}
use Rattle.mpy_tree.specs.Syntax as ast
use Rattle.mpy_tree.specs.Trees.{Tree, Trees, node, no_trees, tree_and}
use Rattle.mpy_tree.specs.TypeSets.{IsWithin, no_types, only, only_of}
use Rattle.mpy_tree.specs.Values.{same_bytes}
use Rattle.mpy_laws.specs.TreeLaws.{all_subtrees, subtrees}
use Rattle.mpy_laws.proofs.Preorder.{lists_follow}
use Rattle.mpy_types.proofs.Every.{Every, every_both}
use Rattle.choice_tree.specs.Typing.{Scope, type_of, types_of}
use Rattle.choice_tree.proofs.ShapeTypes.{shape_type}
use Rattle.typed_programs.proofs.Arguments.{is_type_some}
use Rattle.typed_programs.proofs.OneType.{set_is, some_type, types_are}
use Rattle.typed_trees.specs.Wholes.{AreWhole, IsWhole}
use Rattle.typed_trees.proofs.PartTypes.{AllThere, parts_there}
use Rattle.typed_trees.proofs.WholeShapes.{shape_whole}
use Rattle.rewriting_laws.proofs.OwnNames.{OwnNames}
use Rattle.rewriting_laws.proofs.Slots.{IsSettled, is_slot, local_lacks}

module _ (σ : Scope) where
  abbrev HasType : Tree → Type 0
  HasType t = IsSome (type_of σ t)

  mutual
    subtrees_typed : (t : Tree) → IsWhole t → HasType t → Every HasType (subtrees t)
    subtrees_typed (node k ts) w h =
        let typed = some_type (type_of σ (node k ts)) h in
        (h, parts_typed ts w.1 (parts_there σ k ts typed.0 w.0 typed.1))

    parts_typed : (ts : Trees) → AreWhole ts → AllThere (types_of σ ts)
        → Every HasType (all_subtrees ts)
    parts_typed no_trees w h = tt
    parts_typed (tree_and t ts) w h =
        every_both HasType (subtrees t) (all_subtrees ts) (subtrees_typed t w.0 h.0)
        (parts_typed ts w.1 h.1)

  abbrev TermTyped : Term → Type 0
  TermTyped e = IsSome (type_in σ.slots σ.program σ.number e)

  terms_typed : (es : List Term) → Every HasType (map shape es) → Every TermTyped es
  terms_typed [] h = tt
  terms_typed (e ∷ es) h = (ap is_some (sym (shape_type σ e)) ∙ h.0, terms_typed es h.1)

  pub nodes_typed : (e : Term) → TermTyped e → Every TermTyped (nodes e)
  nodes_typed e h =
      let typed = subtrees_typed (shape e) (shape_whole e) (ap is_some (shape_type σ e) ∙ h) in
      terms_typed (nodes e) (subst (Every HasType) (lists_follow.of_terms e) typed)

-- a local that is settled has a type
not_settled : (a b c d : Bool) → only_of a b c d ≡ None
    → slot_fault false (listed (record { int = a; bool = b; list = c; text = d })) 0 ≡ None → ⊥
not_settled false false false false e h = cc
not_settled true false false false e h = cc
not_settled false true false false e h = cc
not_settled false false true false e h = cc
not_settled false false false true e h = cc
not_settled true true c d e h = cc
not_settled true false true d e h = cc
not_settled true false false true e h = cc
not_settled false true true d e h = cc
not_settled false true false true e h = cc
not_settled false false true true e h = cc

pub never_none : (free : Option ℕ) (n : ℕ) (x : List ℕ) (s : TypeSet) → only s ≡ None
    → IsSettled free n (slot.Local x) s → ⊥
never_none free n x s e h =
    not_settled s.int s.bool s.list s.text e
    (subst (λ b. slot_fault b (listed s) 0 ≡ None) (local_lacks free n x 0) (h 0))

-- the routine of a function that is called
abbrev routine_of : Option Callee → Option Routine
routine_of None = None
routine_of (Some g) = Some g.routine

found_if : (b : Bool) (n : ℕ) (r : Routine) (o : Option Callee) (q : Option Routine)
    → q ≡ routine_of o
    → (if b then Some r else q) ≡ routine_of (if b then Some (callee n r) else o)
found_if true n r o q h = refl
found_if false n r o q h = h

found_is : (rs : List Routine) (f : List ℕ) (n : ℕ) → found rs f ≡ routine_of (called_from rs f n)
found_is [] f n = refl
found_is (r ∷ rs) f n =
    found_if (same_bytes f r.name) n r (called_from rs f (n + 1)) (found rs f)
    (found_is rs f (n + 1))

-- no function has the name of a builtin
not_called_if : (b : Bool) (n : ℕ) (f : List ℕ) (r : Routine) (o : Option Callee)
    → same_bytes f r.name ≡ b → builtin_of r.name ≡ None → IsSome (builtin_of f) → o ≡ None
    → (if b then Some (callee n r) else o) ≡ None
not_called_if true n f r o e own h rest =
    let same : f ≡ r.name = (bytes_decides f r.name).0 e in
    let never : is_some (builtin_of f) ≡ false =
    ap (λ x. is_some (builtin_of x)) same ∙ ap is_some own in
    let clash : true ≡ false = sym h ∙ never in
    cc
not_called_if false n f r o e own h rest = rest

not_called : (rs : List Routine) (f : List ℕ) (n : ℕ) → OwnNames rs → IsSome (builtin_of f)
    → called_from rs f n ≡ None
not_called [] f n own h = refl
not_called (r ∷ rs) f n own h =
    not_called_if (same_bytes f r.name) n f r (called_from rs f (n + 1)) refl own.0 h
    (not_called rs f (n + 1) own.1 h)

within_same : (s t : TypeSet) → s ≡ t → IsWithin s t
within_same s t e = subst (IsWithin s) e (λ a h. h)

-- in the function i, whose locals are these, of the program p
module _ (F : FactSet) (p : List Routine) (i : ℕ) where
  abbrev S : Slots
  S = single F

  abbrev type : Term → Option Ty
  type = type_in S p i

  -- an argument that has the type of the parameter
  argument_typed : (o : Option Ty) (q : Option Ty) → is_argument o q ≡ true
      → (t : Ty) × (o ≡ Some t) × (q ≡ Some t)
  argument_typed None q h = cc
  argument_typed (Some t) q h = (t, refl, is_type_some t q h)

  arguments_keep : (j : ℕ) (xs : List (List ℕ)) (es : Terms)
      → are_arguments S j xs (all_types S p i es) ≡ true
      → Every (Keeps F p) (argument_flows j xs i es)
  arguments_keep j [] no_terms h = tt
  arguments_keep j [] (term_and e es) h = tt
  arguments_keep j (x ∷ xs) no_terms h = tt
  arguments_keep j (x ∷ xs) (term_and e es) h =
      let first = is_argument (S j (slot.Local x)) (type e) in
      let rest = are_arguments S j xs (all_types S p i es) in
      let both = and_parts first rest h in
      let t = argument_typed (S j (slot.Local x)) (type e) both.0 in
      let source = types_are F p i e t.0 t.2 in
      let target = set_is (F j (slot.Local x)) t.0 t.1 in (
        within_same (types_in F p i e) (F j (slot.Local x)) (source ∙ sym target),
        arguments_keep j xs es both.1,
      )

  count_is : (es : Terms) → length (all_types S p i es) ≡ count es
  count_is no_terms = refl
  count_is (term_and e es) = let rest = count_is es in omega (arith, rest)

  so_many : (j : ℕ) (xs : List (List ℕ)) (os : List (Option Ty)) → are_arguments S j xs os ≡ true
      → length os ≡ length xs
  so_many j [] [] h = refl
  so_many j [] (o ∷ os) h = cc
  so_many j (x ∷ xs) [] h = cc
  so_many j (x ∷ xs) (o ∷ os) h =
      let both = and_parts (is_argument (S j (slot.Local x)) o) (are_arguments S j xs os) h in
      ap suc (so_many j xs os both.1)

  some_if : (b : Bool) (o : Option Ty) → IsSome (if b then o else None) → b ≡ true
  some_if true o h = refl
  some_if false o h = cc

  -- what a call that has a type is a call of
  record IsCall (l : Option Ty) (b : Option Builtin) (o : Option Callee) (es : Terms) : Type 0 where
    pub no_local : l ≡ None
    pub known : is_some b || is_some o ≡ true
    pub so_many : takes_so_many b (routine_of o) (count es) ≡ true
    pub keeps : (IsSome b → o ≡ None) → Every (Keeps F p) (callee_flows o i es)

  call_is : (l : Option Ty) (b : Option Builtin) (o : Option Callee) (es : Terms)
      → IsSome (call_type S l b o (all_types S p i es)) → IsCall l b o es
  call_is (Some t) b o es h = cc
  call_is None (Some b) o es h =
      let os = all_types S p i es in
      let holds = some_if (takes b (length os) && are_operands b os) (Some (builtin_gives b)) h in
      let enough = (and_parts (takes b (length os)) (are_operands b os) holds).0 in
      record {
        no_local = refl;
        known = refl;
        so_many = ap (takes b) (sym (count_is es)) ∙ enough;
        keeps = λ none. subst (λ (c : Option Callee). Every (Keeps F p) (callee_flows c i es))
            (sym (none refl)) tt;
      }
  call_is None None None es h = cc
  call_is None None (Some g) es h =
      let os = all_types S p i es in
      let xs = g.routine.params in
      let holds = some_if (are_arguments S g.number xs os) (S g.number slot.Result) h in
      record {
        no_local = refl;
        known = refl;
        so_many =
            eq-eqb (count es) (length xs) (sym (count_is es) ∙ so_many g.number xs os holds);
        keeps = λ none. arguments_keep g.number xs es holds;
      }

  some_routine : (o : Option Callee) → is_some (routine_of o) ≡ is_some o
  some_routine None = refl
  some_routine (Some g) = refl

  -- q is the function, its slots are settled, and no other name has a type
  module _ (own : OwnNames p) (q : Routine) (free : Option ℕ)
      (settled : (y : Slot) → is_slot q y ≡ true → IsSettled free i y (F i y))
      (alone : (x : List ℕ) → is_among (locals q) x ≡ false → F i (slot.Local x) ≡ no_types) where
    typed_local : (x : List ℕ) (b : Bool) → is_among (locals q) x ≡ b → IsSome (S i (slot.Local x))
        → b ≡ true
    typed_local x true e h = refl
    typed_local x false e h =
        let never : IsSome (only no_types) = subst (λ t. IsSome (only t)) (alone x e) h in
        absurd (cc)

    no_local : (x : List ℕ) (b : Bool) → is_among (locals q) x ≡ b → S i (slot.Local x) ≡ None
        → b ≡ false
    no_local x false e h = refl
    no_local x true e h =
        absurd (never_none free i x (F i (slot.Local x)) h (settled (slot.Local x) e))

    pub record IsFine (m : Term) : Type 0 where
      pub named : is_name_fault p (locals q) m ≡ false
      pub counted : is_arity_fault p m ≡ false
      pub keeps : Every (Keeps F p) (node_flows p i m)

    node_fine : (m : Term) → IsSome (type m) → IsFine m
    node_fine (ast.Name x) h = record {
      named = ap not (typed_local x (is_among (locals q) x) refl h);
      counted = refl;
      keeps = tt;
    }
    node_fine (ast.Call f es) h =
        let o = called p f in
        let c = call_is (S i (slot.Local f)) (builtin_of f) o es h in
        let other = no_local f (is_among (locals q) f) refl c.no_local in
        let same = found_is p f 0 in
        let there =
        ap (λ r. not (is_builtin f || is_some r)) same
        ∙ ap (λ b. not (is_builtin f || b)) (some_routine o) ∙ ap not c.known in
        record {
          named = λ j. other j || there j;
          counted =
              ap (λ r. not (takes_so_many (builtin_of f) r (count es))) same ∙ ap not c.so_many;
          keeps = c.keeps (not_called p f 0 own);
        }
    node_fine _ h = record { named = refl; counted = refl; keeps = tt }

    all_fine : (ms : List Term) → Every (λ m. IsSome (type m)) ms → Every IsFine ms
    all_fine [] h = tt
    all_fine (m ∷ ms) h = (node_fine m h.0, all_fine ms h.1)

    -- the nodes of terms that have types
    pub terms_fine : (es : List Term) → Every (λ e. IsSome (type e)) es
        → Every IsFine (flat_map nodes es)
    terms_fine [] h = tt
    terms_fine (e ∷ es) h =
        every_both IsFine (nodes e) (flat_map nodes es)
        (all_fine (nodes e)
        (nodes_typed (record { slots = S; program = p; number = i }) e h.0))
        (terms_fine es h.1)
