-- The functions of the weighted tree of a program that facts type are typed.
use Rattle.std.proofs.Common.{◌≡◌, ℕ, zero, suc, ◌+◌, List, [], ◌∷◌, map, slice_get, refl, sym, ap}
use Rattle.std.proofs.Common.{subst, Some, add-one, arith}
use Rattle.std.specs.Prelude.{⊤}
use Rattle.mpy_tree.specs.declared.typing.Fact.{Fact}
use Rattle.mpy_tree.specs.Entries.{Entry}
use Rattle.mpy_tree.specs.Shapes.{block_shape, program_shape, routine_shapes, statement_shapes}
use Rattle.mpy_tree.specs.Sites.{sites}
use Rattle.mpy_tree.specs.Syntax.{Routine}
use Rattle.mpy_tree.specs.Trees as kind
use Rattle.mpy_tree.specs.Trees.{one}
use Rattle.mpy_tree.specs.Typings.{AreTypes, set_of}
use Rattle.mpy_types.proofs.Every.{Every}
use Rattle.choice_tree.specs.declared.tree.WFunc.{WFunc}
use Rattle.choice_tree.specs.declared.tree.WProg.{WProg}
use Rattle.choice_tree.specs.Contexts.{Context, Setting, below, elsewhere, outermost, scope_in}
use Rattle.choice_tree.specs.Growing.{grown, parts_grown, steps, weighted_program}
use Rattle.choice_tree.specs.StatementViews.{weighted_func, weighted_prog}
use Rattle.choice_tree.specs.Templates.{Correction}
use Rattle.choice_tree.specs.WeightedTrees.{Weighted, Weighteds, listed, no_weighted}
use Rattle.choice_tree.specs.WeightedTrees.{numbered, numbered_all, picks, weighted_and}
use Rattle.choice_tree.specs.WeightedViews.{weighteds}
use Rattle.typed_programs.proofs.Linked.{AreFineFrom, all_fine}
use Rattle.typed_trees.specs.TypedStatements.{IsTyped, IsTypedProgram}
use Rattle.typed_trees.specs.TypingLaws.{setting_by}
use Rattle.typed_trees.specs.Wholes.{MakeWholes}
use Rattle.typed_trees.proofs.TypedPlaces.{places_are}
use Rattle.typed_trees.proofs.GrownStatements.{statement_grown}
use Rattle.typed_trees.proofs.NumberedTypes.{numbered_typed}
use Rattle.typed_trees.proofs.TypedBodies.{IsTypedPlace, over_parts, statements_grown}

-- the functions from the number i on are typed, as they are written and as weighted trees
abbrev WrittenFrom : Setting → ℕ → List Routine → Type 0
WrittenFrom g i [] = ⊤
WrittenFrom g i (r ∷ rs) =
    Every (IsTypedPlace (scope_in g i)) (sites r.body) × WrittenFrom g (suc i) rs

abbrev GrownFrom : Setting → ℕ → Weighteds → Type 0
GrownFrom g i no_weighted = ⊤
GrownFrom g i (weighted_and w ws) = IsTyped (scope_in g i) w × GrownFrom g (suc i) ws

functions_grown : (g : Setting) → MakeWholes g.rules → (rs : List Routine) (m i : ℕ) (c : Context)
    → WrittenFrom g i rs
    → GrownFrom g i (parts_grown g (grown g m) (routine_shapes rs) kind.Program i c)
functions_grown g wholes [] m i c h = tt
functions_grown g wholes (r ∷ rs) m i c h =
    let d = below g kind.Program i c in
    let k = kind.Function r.line r.name r.params in (
      over_parts g wholes m elsewhere d k (one (block_shape r.body)) refl refl
          (λ j. (
            over_parts g wholes j elsewhere (below g k 0 d) kind.Block (statement_shapes r.body)
                refl refl (λ q. statements_grown g wholes r.body q 0 (below g k 0 d) h.0),
            tt,
          )),
      functions_grown g wholes rs m (suc i) c h.1,
    )

functions_numbered : (g : Setting) (i : ℕ) (ws : Weighteds) (from : ℕ) → GrownFrom g i ws
    → GrownFrom g i (numbered_all ws from)
functions_numbered g i no_weighted from h = tt
functions_numbered g i (weighted_and w ws) from h = (
  numbered_typed (scope_in g i) w from h.0,
  functions_numbered g (suc i) ws (from + picks w) h.1,
)

function_at : (g : Setting) (n : ℕ) (ws : Weighteds) (k i : ℕ) (f : Weighted) → GrownFrom g n ws
    → n + k ≡ i → slice_get (listed ws) k ≡ Some f → IsTyped (scope_in g i) f
function_at g n no_weighted k i f h e is = cc
function_at g n (weighted_and w ws) zero i f h e is =
    let same : w ≡ f = cc in
    let place : n ≡ i = omega (arith, e) in
    subst (λ j. IsTyped (scope_in g j) f) place (subst (IsTyped (scope_in g n)) same h.0)
function_at g n (weighted_and w ws) (suc k) i f h e is =
    function_at g (suc n) ws k i f h.1 (omega (arith, e)) is

fine_typed : (rules : List Correction) (T : List Fact) (p : List Routine) (i : ℕ)
    (rs : List Routine) → AreFineFrom (set_of T) p i rs → WrittenFrom (setting_by rules p T) i rs
fine_typed rules T p i [] h = tt
fine_typed rules T p i (r ∷ rs) h =
    let rest = subst (λ j. AreFineFrom (set_of T) p j rs) (add-one i) h.1 in
    (places_are (set_of T) p i (sites r.body) h.0, fine_typed rules T p (suc i) rs rest)

pub program_typed : (rules : List Correction) (T : List Fact) (p : List Routine) (entry : Entry)
    → MakeWholes rules → AreTypes T p entry
    → IsTypedProgram (setting_by rules p T) (weighted_program (setting_by rules p T) p)
program_typed rules T p entry wholes typed =
    let g = setting_by rules p T in
    let w =
    statement_grown g (steps (program_shape p)) elsewhere (outermost g) kind.Program
    (routine_shapes p) refl refl in
    let fs = parts_grown g (grown g w.0) (routine_shapes p) kind.Program 0 (outermost g) in
    let fit = fine_typed rules T p 0 p (all_fine T p entry typed) in
    let grows = functions_grown g wholes p w.0 0 (outermost g) fit in
    subst (λ x. IsTypedProgram g (numbered x 0)) (sym w.1)
    (λ i f is. function_at g 0 (numbered_all fs 0) i i f (functions_numbered g 0 fs 0 grows)
    (omega arith) is)

-- a function of the code's weighted program
func_at : (fs : List WFunc) (i : ℕ) (f : WFunc) → slice_get fs i ≡ Some f
    → slice_get (listed (weighteds (map weighted_func fs))) i ≡ Some (weighted_func f)
func_at [] i f is = cc
func_at (x ∷ fs) zero f is = let same : x ≡ f = cc in ap (λ y. Some (weighted_func y)) same
func_at (x ∷ fs) (suc i) f is = func_at fs i f is

pub func_typed : (g : Setting) (w : WProg) (p : List Routine) (i : ℕ) (f : WFunc)
    → IsTypedProgram g (weighted_program g p) → weighted_prog w ≡ weighted_program g p
    → slice_get w.funcs.items.items i ≡ Some f → IsTyped (scope_in g i) (weighted_func f)
func_typed g w p i f typed same is =
    subst (IsTypedProgram g) (sym same) typed i (weighted_func f)
    (func_at w.funcs.items.items i f is)
