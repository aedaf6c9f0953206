-- Facts that type a program type the weighted program that rules make of it.
use Rattle.std.proofs.Common.{◌≡◌, ℕ, zero, suc, ◌+◌, Bool, true, false, List, [], ◌∷◌, map, Option}
use Rattle.std.proofs.Common.{Some, None, if◌then◌else◌, is_some, refl, sym, ap, ◌∙◌, subst}
use Rattle.std.proofs.Common.{slice_get, arith}
use Rattle.std.specs.Prelude.{⊤}
use Rattle.mpy_tree.specs.declared.typing.Fact.{Fact}
use Rattle.mpy_tree.specs.declared.typing.Slot.TheVariants as slot
use Rattle.mpy_tree.specs.declared.typing.Ty.{Ty}
use Rattle.mpy_tree.specs.Entries.{Entry}
use Rattle.mpy_tree.specs.Faults.{free_function}
use Rattle.mpy_tree.specs.Options.{◌>>=◌}
use Rattle.mpy_tree.specs.Rules.{Slots, are_arguments, callee_type, single}
use Rattle.mpy_tree.specs.SetTypes.{Callee, FactSet, callee, called, called_from}
use Rattle.mpy_tree.specs.Shapes.{block_shape, program_shape, routine_shape, routine_shapes}
use Rattle.mpy_tree.specs.Syntax.{Routine}
use Rattle.mpy_tree.specs.Trees as kind
use Rattle.mpy_tree.specs.Trees.{one}
use Rattle.mpy_tree.specs.Typings.{AreTypes, set_of}
use Rattle.mpy_tree.specs.Values.{same_bytes}
use Rattle.mpy_types.proofs.Every.{all_of}
use Rattle.choice_tree.specs.declared.tree.WFunc.{WFunc}
use Rattle.choice_tree.specs.declared.tree.WProg.{WProg}
use Rattle.choice_tree.specs.Contexts.{Context, Setting, below, elsewhere, outermost}
use Rattle.choice_tree.specs.Contexts as contexts
use Rattle.choice_tree.specs.Growing.{grown, parts_grown, steps, weighted_program}
use Rattle.choice_tree.specs.StatementViews.{weighted_body, weighted_func, weighted_prog}
use Rattle.choice_tree.specs.Templates.{Correction}
use Rattle.choice_tree.specs.WeightedTrees.{numbered, numbered_all, picks}
use Rattle.choice_tree.specs.WeightedViews.{weighteds}
use Rattle.typed_trees.specs.TypingLaws.{setting_by}
use Rattle.typed_trees.specs.Wholes.{MakeWholes}
use Rattle.typed_trees.proofs.GrownStatements.{statement_grown}
use Rattle.typed_trees.proofs.TypedFunctions.{func_typed, program_typed}
use Rattle.sym_stmt.specs.Programs.{TypesProgram, callee_takes, functions_of, header, scope_in}
use Rattle.sym_stmt.proofs.ProgramFacts.{AreHeadersTyped, IsAlone, IsHeaderTyped, are_facts}
use Rattle.typed_trees.proofs.StatementsFollow.{typed_follows}

-- the functions of a weighted program have the names and the parameters of those of a program
abbrev HaveHeaders : List WFunc → List Routine → Type 0
HaveHeaders [] [] = ⊤
HaveHeaders (f ∷ fs) (r ∷ rs) =
    (f.name ≡ r.name) × (f.params ≡ r.params) × HaveHeaders fs rs
HaveHeaders _ _ = ⊥

grown_headers : (g : Setting) (m : ℕ) (rs : List Routine) (fs : List WFunc) (i from : ℕ)
    (c : Context)
    → weighteds (map weighted_func fs)
    ≡ numbered_all (parts_grown g (grown g m) (routine_shapes rs) kind.Program i c) from
    → HaveHeaders fs rs
grown_headers g m [] [] i from c e = tt
grown_headers g m [] (f ∷ fs) i from c e = absurd cc
grown_headers g m (r ∷ rs) [] i from c e = absurd cc
grown_headers g m (r ∷ rs) (f ∷ fs) i from c e =
    let d = below g kind.Program i c in
    let k = kind.Function r.line r.name r.params in
    let grows = statement_grown g m elsewhere d k (one (block_shape r.body)) refl refl in
    let w = grown g m elsewhere d (routine_shape r) in
    let head : weighted_func f ≡ numbered w from = cc in
    let tail : weighteds (map weighted_func fs)
    ≡ numbered_all (parts_grown g (grown g m) (routine_shapes rs) kind.Program (suc i) c)
    (from + picks w) = cc in
    let whole = head ∙ ap (λ v. numbered v from) grows.1 in
    let name : f.name ≡ r.name = cc in
    let params : f.params ≡ r.params = cc in
    (name, params, grown_headers g m rs fs (suc i) (from + picks w) c tail)

have_headers : (g : Setting) (p : List Routine) (w : WProg)
    → weighted_prog w ≡ weighted_program g p → HaveHeaders (functions_of w) p
have_headers g p w e =
    let grows =
    statement_grown g (steps (program_shape p)) elsewhere (outermost g) kind.Program
    (routine_shapes p) refl refl in
    let whole = e ∙ ap (λ v. numbered v 0) grows.1 in
    let parts : weighteds (map weighted_func (functions_of w))
    ≡ numbered_all (parts_grown g (grown g grows.0) (routine_shapes p) kind.Program 0
    (outermost g)) 0 = cc in
    grown_headers g grows.0 p (functions_of w) 0 0 (outermost g) parts

-- so a name is that of a function with the same number and the same parameters
abbrev known_of : Option Callee → Option (ℕ × List (List ℕ))
known_of None = None
known_of (Some g) = Some (g.number, g.routine.params)

known_by : (b c : Bool) (r : Routine) (w : WFunc) (n : ℕ) (o q : Option Callee) → c ≡ b
    → w.params ≡ r.params → known_of o ≡ known_of q
    → known_of (if b then Some (callee n r) else o)
    ≡ known_of (if c then Some (callee n (header w)) else q)
known_by true true r w n o q e params rest =
    ap (λ (xs : List (List ℕ)). Some (n, xs)) (sym params)
known_by true false r w n o q e params rest = absurd cc
known_by false true r w n o q e params rest = absurd cc
known_by false false r w n o q e params rest = rest

known_alike : (f : List ℕ) (fs : List WFunc) (rs : List Routine) (n : ℕ) → HaveHeaders fs rs
    → known_of (called_from rs f n) ≡ known_of (called_from (map header fs) f n)
known_alike f [] [] n h = refl
known_alike f [] (r ∷ rs) n h = absurd h
known_alike f (w ∷ fs) [] n h = absurd h
known_alike f (w ∷ fs) (r ∷ rs) n h =
    known_by (same_bytes f r.name) (same_bytes f w.name) r w n (called_from rs f (n + 1))
    (called_from (map header fs) f (n + 1)) (ap (same_bytes f) h.0) h.1
    (known_alike f fs rs (n + 1) h.2)

-- and all that types ask of it is the same
module _ (S : Slots) (o q : Option Callee) (same : known_of o ≡ known_of q) where
  abbrev takes_known : Option (ℕ × List (List ℕ)) → List (Option Ty) → Bool
  takes_known None os = false
  takes_known (Some k) os = are_arguments S k.0 k.1 os

  takes_by : (u : Option Callee) (os : List (Option Ty))
      → callee_takes S u os ≡ takes_known (known_of u) os
  takes_by None os = refl
  takes_by (Some g) os = refl

  takes_alike : (os : List (Option Ty)) → callee_takes S o os ≡ callee_takes S q os
  takes_alike os = takes_by o os ∙ ap (λ k. takes_known k os) same ∙ sym (takes_by q os)

  abbrev result_known : Option (ℕ × List (List ℕ)) → Option Ty
  result_known None = None
  result_known (Some k) = S k.0 slot.Result

  result_by : (u : Option Callee)
      → (u >>= λ c. S c.number slot.Result) ≡ result_known (known_of u)
  result_by None = refl
  result_by (Some g) = refl

  results_alike : (o >>= λ c. S c.number slot.Result) ≡ (q >>= λ c. S c.number slot.Result)
  results_alike = result_by o ∙ ap result_known same ∙ sym (result_by q)

  call_by : (u : Option Callee) (os : List (Option Ty)) → callee_type S u os
      ≡ (if takes_known (known_of u) os then result_known (known_of u) else None)
  call_by None os = refl
  call_by (Some g) os = refl

  calls_alike : (os : List (Option Ty)) → callee_type S o os ≡ callee_type S q os
  calls_alike os =
      call_by o os ∙ ap (λ k. if takes_known k os then result_known k else None) same
      ∙ sym (call_by q os)

header_at : (free : Option ℕ) (F : FactSet) (fs : List WFunc) (rs : List Routine) (n k i : ℕ)
    (f : WFunc) → HaveHeaders fs rs → AreHeadersTyped free F n rs → n + k ≡ i
    → slice_get fs k ≡ Some f → IsHeaderTyped free F i f.params
header_at free F [] rs n k i f h typed e is = absurd cc
header_at free F (w ∷ fs) [] n k i f h typed e is = absurd h
header_at free F (w ∷ fs) (r ∷ rs) n zero i f h typed e is =
    let same : w ≡ f = cc in
    let place : n ≡ i = omega (arith, e) in
    let params : r.params ≡ f.params = sym h.1 ∙ ap (λ (v : WFunc). v.params) same in
    subst (λ j. IsHeaderTyped free F j f.params) place
    (subst (IsHeaderTyped free F n) params typed.0)
header_at free F (w ∷ fs) (r ∷ rs) n (suc k) i f h typed e is =
    header_at free F fs rs (n + 1) k i f h.2 typed.1 (omega (arith, e)) is

pub rewritten_typed : (rules : List Correction) (T : List Fact) (p : List Routine) (e : Entry)
    (w : WProg) → MakeWholes rules → AreTypes T p e
    → weighted_prog w ≡ weighted_program (setting_by rules p T) p → TypesProgram T w e
rewritten_typed rules T p e w wholes typed same =
    let g = setting_by rules p T in
    let S = single (set_of T) in
    let fs = functions_of w in
    let free = free_function p e in
    let facts = are_facts T p e typed in
    let heads = have_headers g p w same in
    let grows = program_typed rules T p e wholes typed in
    let known = λ (f : List ℕ). known_alike f fs p 0 heads in
    let by_tree = called p e.name in
    let by_headers = called (map header fs) e.name in
    record {
      functions = record {
        alone = all_of (IsAlone T) T facts.alone;
        typed = λ i f is.
            let h = header_at free (set_of T) fs p 0 i i f heads facts.headers (omega arith) is in
            record {
              differ = h.differ;
              params = h.params;
              body = typed_follows (contexts.scope_in g i) (scope_in w T i) (λ x. refl)
                  (λ c os. calls_alike S (called p c) (called (map header fs) c) (known c) os) refl
                  (weighted_body f.body) (func_typed g w p i f grows same is).0;
            };
      };
      takes_them =
          sym (takes_alike S by_tree by_headers (known e.name) (map (λ t. Some t) e.types))
          ∙ facts.takes_them;
      gives = λ must.
          sym (ap is_some (results_alike S by_tree by_headers (known e.name))) ∙ facts.gives must;
    }
