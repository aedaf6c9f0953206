-- The statements of a rewriting obey their rules, and what flows from them is of the types of their
-- slots.
use Rattle.std.proofs.Common.{◌≡◌, ℕ, true, ◌&&◌, List}
use Rattle.std.proofs.Common.{Option, Some, refl, sym, ap, ◌∙◌, subst, IsSome, is_some}
use Rattle.std.proofs.lemmas.Bool.{and_parts}
use Rattle.mpy_tree.specs.declared.operators.ArithOp.{ArithOp}
use Rattle.mpy_tree.specs.declared.operators.ArithOp.TheVariants.{Add, Floor, Mul, Power, Rem, Sub}
use Rattle.mpy_tree.specs.declared.typing.Slot.{Slot}
use Rattle.mpy_tree.specs.declared.typing.Slot.TheVariants as slot
use Rattle.mpy_tree.specs.declared.typing.Ty.{Ty}
use Rattle.mpy_tree.specs.declared.typing.Ty.TheVariants as ty
use Rattle.mpy_tree.specs.Flows.{Keeps, act_flows, site_flows}
use Rattle.mpy_tree.specs.Locals.{site_assigned, site_changed}
use Rattle.mpy_tree.specs.Names.{site_prints}
use Rattle.mpy_tree.specs.Rules.{Slots, act_obeys, augment_obeys, is_sequence, is_type, single}
use Rattle.mpy_tree.specs.Rules.{site_obeys, type_in}
use Rattle.mpy_tree.specs.SetTypes.{FactSet, types_in}
use Rattle.mpy_tree.specs.Shapes.{shape}
use Rattle.mpy_tree.specs.Sites.{Site, asks, does, own_terms, site_terms}
use Rattle.mpy_tree.specs.Syntax.{Action, Routine, Term, a_term, no_term}
use Rattle.mpy_tree.specs.Syntax as ast
use Rattle.mpy_tree.specs.TypeSets.{IsWithin, members}
use Rattle.mpy_types.proofs.Every.{Every}
use Rattle.choice_tree.specs.Contexts.{Setting, Sharing, apart, scope_in, shared}
use Rattle.choice_tree.specs.Typing.{Scope}
use Rattle.choice_tree.proofs.ShapeTypes.{shape_type}
use Rattle.choice_tree.proofs.Types.{type_kept}
use Rattle.typed_programs.proofs.OneType.{some_type, types_are}
use Rattle.typed_trees.proofs.PartTypes.{number_there, sequence_there}
use Rattle.rewriting_laws.proofs.Alike.{AlikeAct, AlikeFrom, AlikeSite, Part}
use Rattle.rewriting_laws.proofs.Alike.{append, assign, augment, augment_at, both_ask, both_do}
use Rattle.rewriting_laws.proofs.Alike.{branch, give, give_none, go_on, go_over, leave, pass, put}
use Rattle.rewriting_laws.proofs.Alike.{place_in, print, repeat}
use Rattle.rewriting_laws.proofs.Becoming.{Becomes}
use Rattle.rewriting_laws.proofs.Types.{term_alike}
use Rattle.typed_trees.proofs.TypedBodies.{augment_there}

-- statements that are alike assign to the same names, and change the same ones
pub same_assigned : {g : Setting} {σ : Scope} (s t : Site) → AlikeSite g σ s t
    → site_assigned t ≡ site_assigned s
same_assigned _ _ (both_do (assign e)) = refl
same_assigned _ _ (both_do (augment e)) = refl
same_assigned _ _ (both_do (put k e)) = refl
same_assigned _ _ (both_do (augment_at k e)) = refl
same_assigned _ _ (both_do (append e)) = refl
same_assigned _ _ (both_do (print e)) = refl
same_assigned _ _ (both_do give_none) = refl
same_assigned _ _ (both_do (give e)) = refl
same_assigned _ _ (both_do pass) = refl
same_assigned _ _ (both_do leave) = refl
same_assigned _ _ (both_do go_on) = refl
same_assigned _ _ (both_do (branch xs l)) = refl
same_assigned _ _ (both_do (repeat e a)) = refl
same_assigned _ _ (both_do (go_over e a)) = refl
same_assigned _ _ (both_ask e) = refl

pub same_changed : {g : Setting} {σ : Scope} (s t : Site) → AlikeSite g σ s t
    → site_changed t ≡ site_changed s
same_changed _ _ (both_do (assign e)) = refl
same_changed _ _ (both_do (augment e)) = refl
same_changed _ _ (both_do (put k e)) = refl
same_changed _ _ (both_do (augment_at k e)) = refl
same_changed _ _ (both_do (append e)) = refl
same_changed _ _ (both_do (print e)) = refl
same_changed _ _ (both_do give_none) = refl
same_changed _ _ (both_do (give e)) = refl
same_changed _ _ (both_do pass) = refl
same_changed _ _ (both_do leave) = refl
same_changed _ _ (both_do go_on) = refl
same_changed _ _ (both_do (branch xs l)) = refl
same_changed _ _ (both_do (repeat e a)) = refl
same_changed _ _ (both_do (go_over e a)) = refl
same_changed _ _ (both_ask e) = refl

-- or print, both of them
pub same_prints : {g : Setting} {σ : Scope} (s t : Site) → AlikeSite g σ s t
    → site_prints t ≡ site_prints s
same_prints _ _ (both_do (assign e)) = refl
same_prints _ _ (both_do (augment e)) = refl
same_prints _ _ (both_do (put k e)) = refl
same_prints _ _ (both_do (augment_at k e)) = refl
same_prints _ _ (both_do (append e)) = refl
same_prints _ _ (both_do (print e)) = refl
same_prints _ _ (both_do give_none) = refl
same_prints _ _ (both_do (give e)) = refl
same_prints _ _ (both_do pass) = refl
same_prints _ _ (both_do leave) = refl
same_prints _ _ (both_do go_on) = refl
same_prints _ _ (both_do (branch xs l)) = refl
same_prints _ _ (both_do (repeat e a)) = refl
same_prints _ _ (both_do (go_over e a)) = refl
same_prints _ _ (both_ask e) = refl

puts_there : (x i e : Option Ty) → is_type ty.List x && is_type ty.Int i && is_type ty.Int e ≡ true
    → IsSome i × IsSome e
puts_there x i e h =
    let list = is_type ty.List x in
    let all = and_parts (list && is_type ty.Int i) (is_type ty.Int e) h in
    (number_there i (and_parts list (is_type ty.Int i) all.0).1, number_there e all.1)

-- the terms of a statement that obeys its rule have types
module _ (S : Slots) (p : List Routine) (i : ℕ) where
  abbrev HasTypes : List Term → Type 0
  HasTypes es = Every (λ e. IsSome (type_in S p i e)) es

  act_typed : (act : Action) → act_obeys S p i act ≡ true → HasTypes (own_terms act)
  act_typed (ast.Assign x e) h = (h, tt)
  act_typed (ast.Augment x op e) h =
      (augment_there op (S i (slot.Local x)) (type_in S p i e) h, tt)
  act_typed (ast.Put x k e) h =
      let both = puts_there (S i (slot.Local x)) (type_in S p i k) (type_in S p i e) h in
      (both.0, (both.1, tt))
  act_typed (ast.AugmentAt x k op e) h =
      let both = puts_there (S i (slot.Local x)) (type_in S p i k) (type_in S p i e) h in
      (both.0, (both.1, tt))
  act_typed (ast.Append x e) h =
      let list = is_type ty.List (S i (slot.Local x)) in
      let both = and_parts list (is_type ty.Int (type_in S p i e)) h in
      (number_there (type_in S p i e) both.1, tt)
  act_typed (ast.Print e) h = (h, tt)
  act_typed (ast.Return no_term) h = tt
  act_typed (ast.Return (a_term e)) h = (h, tt)
  act_typed ast.Pass h = tt
  act_typed ast.Break h = tt
  act_typed ast.Continue h = tt
  act_typed (ast.If arms last) h = tt
  act_typed (ast.While e body) h = (h, tt)
  act_typed (ast.For x e body) h = (sequence_there (type_in S p i e) h, tt)

  pub site_typed : (s : Site) → site_obeys S p i s ≡ true → HasTypes (site_terms s)
  site_typed (does line act) h = act_typed act h
  site_typed (asks line e) h = (h, tt)

-- p is a rewriting of a program whose slots have the types of these facts
module _ (g : Setting) (p : List Routine) (alike : AlikeFrom g 0 g.program p) (i : ℕ) where
  abbrev s : List Routine
  s = g.program

  abbrev before : Term → Option Ty
  before = type_in g.slots s i

  abbrev after : Term → Option Ty
  after = type_in g.slots p i

  same_type : (b : Sharing) (e f : Term) → Becomes g (place_in (scope_in g i) b) (shape e) (shape f)
      → after f ≡ before e
  same_type b e f w =
      term_alike g p alike i f ∙ type_kept w.4 ∙ shape_type (scope_in g i) e

  -- the rules are obeyed as before
  pub same_obeys : (t u : Site) → AlikeSite g (scope_in g i) t u
      → site_obeys g.slots p i u ≡ site_obeys g.slots s i t
  same_obeys _ _ (both_do (assign {e} {f} w)) = ap is_some (same_type shared e f w)
  same_obeys _ _ (both_do (augment {x} {op} {e} {f} w)) =
      ap (augment_obeys op (g.slots i (slot.Local x))) (same_type apart e f w)
  same_obeys _ _ (both_do (put {x} {i = k} {j} {e} {f} v w)) =
      λ n. is_type ty.List (g.slots i (slot.Local x)) && is_type ty.Int (same_type apart k j v n)
      && is_type ty.Int (same_type apart e f w n)
  same_obeys _ _ (both_do (augment_at {x} {i = k} {j} {e} {f} v w)) =
      λ n. is_type ty.List (g.slots i (slot.Local x)) && is_type ty.Int (same_type apart k j v n)
      && is_type ty.Int (same_type apart e f w n)
  same_obeys _ _ (both_do (append {x} {e} {f} w)) =
      λ n. is_type ty.List (g.slots i (slot.Local x)) && is_type ty.Int (same_type apart e f w n)
  same_obeys _ _ (both_do (print {e} {f} w)) = ap is_some (same_type apart e f w)
  same_obeys _ _ (both_do give_none) = refl
  same_obeys _ _ (both_do (give {e} {f} w)) = ap is_some (same_type shared e f w)
  same_obeys _ _ (both_do pass) = refl
  same_obeys _ _ (both_do leave) = refl
  same_obeys _ _ (both_do go_on) = refl
  same_obeys _ _ (both_do (branch xs l)) = refl
  same_obeys _ _ (both_do (repeat {e} {f} w a)) = ap is_some (same_type apart e f w)
  same_obeys _ _ (both_do (go_over {e} {f} w a)) = ap is_sequence (same_type shared e f w)
  same_obeys _ _ (both_ask {e} {f} w) = ap is_some (same_type apart e f w)

  module _ (F : FactSet) (facts : g.slots ≡ single F) where
    -- what flows is the same
    same_flow : (b : Sharing) (e f : Term)
        → Becomes g (place_in (scope_in g i) b) (shape e) (shape f) → IsSome (before e)
        → types_in F p i f ≡ types_in F s i e
    same_flow b e f w h =
        let t = some_type (before e) h in
        let first : type_in (single F) s i e ≡ Some t.0 =
        subst (λ S. type_in S s i e ≡ Some t.0) facts t.1 in
        let second : type_in (single F) p i f ≡ Some t.0 =
        subst (λ S. type_in S p i f ≡ Some t.0) facts (same_type b e f w ∙ t.1) in
        types_are F p i f t.0 second ∙ sym (types_are F s i e t.0 first)

    -- so it still flows into slots of its types
    flow_kept : (b : Sharing) (e f : Term) (y : Slot)
        → Becomes g (place_in (scope_in g i) b) (shape e) (shape f) → IsSome (before e)
        → IsWithin (types_in F s i e) (F i y) → IsWithin (types_in F p i f) (F i y)
    flow_kept b e f y w h k =
        subst (λ t. IsWithin t (F i y)) (sym (same_flow b e f w h)) k

    -- but for products
    augmented : (op : ArithOp) (x : List ℕ) (e f : Term) → Part g (scope_in g i) e f
        → IsSome (before e) → Every (Keeps F s) (act_flows i (ast.Augment x op e))
        → Every (Keeps F p) (act_flows i (ast.Augment x op f))
    augmented Mul x e f w h k = tt
    augmented Add x e f w h k = (flow_kept apart e f (slot.Local x) w h k.0, tt)
    augmented Sub x e f w h k = (flow_kept apart e f (slot.Local x) w h k.0, tt)
    augmented Floor x e f w h k = (flow_kept apart e f (slot.Local x) w h k.0, tt)
    augmented Rem x e f w h k = (flow_kept apart e f (slot.Local x) w h k.0, tt)
    augmented Power x e f w h k = (flow_kept apart e f (slot.Local x) w h k.0, tt)

    act_flows_kept : (x y : Action) → AlikeAct g (scope_in g i) x y
        → act_obeys g.slots s i x ≡ true → Every (Keeps F s) (act_flows i x)
        → Every (Keeps F p) (act_flows i y)
    act_flows_kept _ _ (assign {x} {e} {f} w) h k =
        (flow_kept shared e f (slot.Local x) w h k.0, tt)
    act_flows_kept _ _ (augment {x} {op} {e} {f} w) h k =
        let there = augment_there op (g.slots i (slot.Local x)) (before e) h in
        augmented op x e f w there k
    act_flows_kept _ _ (put v w) h k = tt
    act_flows_kept _ _ (augment_at v w) h k = tt
    act_flows_kept _ _ (append w) h k = tt
    act_flows_kept _ _ (print w) h k = tt
    act_flows_kept _ _ give_none h k = tt
    act_flows_kept _ _ (give {e} {f} w) h k = (flow_kept shared e f slot.Result w h k.0, tt)
    act_flows_kept _ _ pass h k = tt
    act_flows_kept _ _ leave h k = tt
    act_flows_kept _ _ go_on h k = tt
    act_flows_kept _ _ (branch xs l) h k = tt
    act_flows_kept _ _ (repeat w a) h k = tt
    act_flows_kept _ _ (go_over {x} {e} {f} w a) h k =
        let there = sequence_there (before e) h in
        let same = ap members (same_flow shared e f w there) in
        (subst (λ t. IsWithin t (F i (slot.Local x))) (sym same) k.0, tt)

    pub flows_kept : (t u : Site) → AlikeSite g (scope_in g i) t u
        → site_obeys g.slots s i t ≡ true → Every (Keeps F s) (site_flows i t)
        → Every (Keeps F p) (site_flows i u)
    flows_kept _ _ (both_do {x} {y} a) h k = act_flows_kept x y a h k
    flows_kept _ _ (both_ask e) h k = tt
