-- In a program that facts type the terms of each statement have the types that its rule asks.
use Rattle.std.proofs.Common.{◌≡◌, ℕ, true, List, [], ◌∷◌, refl, sym, ap, ◌∙◌}
use Rattle.std.proofs.Common.{Option, Some, None, IsSome}
use Rattle.mpy_tree.specs.declared.typing.Slot.TheVariants as slot
use Rattle.mpy_tree.specs.declared.typing.Ty.{Ty}
use Rattle.mpy_tree.specs.declared.typing.Ty.TheVariants as ty
use Rattle.mpy_tree.specs.Options.{◌>>=◌}
use Rattle.mpy_tree.specs.Rules.{is_sequence, member_of, single}
use Rattle.mpy_tree.specs.SetTypes.{FactSet, types_in}
use Rattle.mpy_tree.specs.Sites.{Site, asks, does}
use Rattle.mpy_tree.specs.Syntax.{Action, Routine, Term, a_term, no_term}
use Rattle.mpy_tree.specs.Syntax as ast
use Rattle.mpy_tree.specs.TypeSets.{members}
use Rattle.mpy_types.proofs.Every.{Every}
use Rattle.choice_tree.specs.Typing.{Scope, same_type}
use Rattle.typed_programs.proofs.OneType.{member_just, settled, some_type, types_are}
use Rattle.typed_programs.proofs.Statements.{IsFine}
use Rattle.typed_trees.specs.TypedStatements.{goes_over, local_type, result_type}
use Rattle.typed_trees.proofs.TypedBodies.{IsTypedPlace, is_typed_act, term_type}

same_self : (t : Ty) → same_type (Some t) (Some t) ≡ true
same_self ty.Int = refl
same_self ty.Bool = refl
same_self ty.List = refl
same_self ty.Text = refl

both_same : (o q : Option Ty) (t : Ty) → o ≡ Some t → q ≡ Some t → same_type o q ≡ true
both_same o q t e f = (λ i. same_type (e i) (f i)) ∙ same_self t

member_there : (o : Option Ty) → is_sequence o ≡ true → IsSome (o >>= member_of)
member_there None h = cc
member_there (Some t) h = h

module _ (F : FactSet) (p : List Routine) (i : ℕ) where
  abbrev scope : Scope
  scope = record { slots = single F; program = p; number = i }

  assigned : (line : ℕ) (x : List ℕ) (e : Term) → IsFine F p i (does line (ast.Assign x e))
      → same_type (term_type scope e) (local_type scope x) ≡ true
  assigned line x e h =
      let o = term_type scope e in
      let t = some_type o h.0 in
      let types = types_are F p i e t.0 t.1 in
      let flow = h.1.0 in
      both_same o (local_type scope x) t.0 t.1
      (settled (types_in F p i e) (F i (slot.Local x)) t.0 types flow.0 flow.1)

  returned : (line : ℕ) (e : Term) → IsFine F p i (does line (ast.Return (a_term e)))
      → same_type (term_type scope e) (result_type scope) ≡ true
  returned line e h =
      let o = term_type scope e in
      let t = some_type o h.0 in
      let types = types_are F p i e t.0 t.1 in
      let flow = h.1.0 in
      both_same o (result_type scope) t.0 t.1
      (settled (types_in F p i e) (F i slot.Result) t.0 types flow.0 flow.1)

  gone_over : (line : ℕ) (x : List ℕ) (e : Term) (body : ast.Block)
      → IsFine F p i (does line (ast.For x e body))
      → goes_over (local_type scope x) (term_type scope e) ≡ true
  gone_over line x e body h =
      let o = term_type scope e in
      let m = some_type (o >>= member_of) (member_there o h.0) in
      let t = sequence_type o h.0 in
      let flow = h.1.0 in
      let is : member_of t.0 ≡ Some m.0 = ap (λ q. q >>= member_of) (sym t.1) ∙ m.1 in
      both_same (o >>= member_of) (local_type scope x) m.0 m.1
      (settled (members (types_in F p i e)) (F i (slot.Local x)) m.0
      (ap members (types_are F p i e t.0 t.1) ∙ member_just t.0 m.0 is) flow.0 flow.1)
    where
      sequence_type : (o : Option Ty) → is_sequence o ≡ true → (t : Ty) × (o ≡ Some t)
      sequence_type None h = cc
      sequence_type (Some t) h = (t, refl)

  act_is : (line : ℕ) (act : Action) → IsFine F p i (does line act) → is_typed_act scope act ≡ true
  act_is line (ast.Assign x e) h = assigned line x e h
  act_is line (ast.Return (a_term e)) h = returned line e h
  act_is line (ast.Return no_term) h = refl
  act_is line (ast.For x e body) h = gone_over line x e body h
  act_is line act h = h.0

  place_is : (s : Site) → IsFine F p i s → IsTypedPlace scope s
  place_is (does line act) h = act_is line act h
  place_is (asks line e) h = h.0

  pub places_are : (ss : List Site) → Every (IsFine F p i) ss → Every (IsTypedPlace scope) ss
  places_are [] h = tt
  places_are (s ∷ ss) h = (place_is s h.0, places_are ss h.1)
