-- Weighted trees by their children: what the outcomes of these say of the outcome of the whole.
use Rattle.std.proofs.Common.{◌≡◌, ◌<◌, ◌≤◌, ℕ, zero, suc, Bool, true, false, List, [], ◌∷◌, ◌++◌, map, length, slice_get, refl, sym, ap, ◌∙◌, subst, arith, cond, Option, Some, None, option_map, ◌⊎◌, inl, inr}
use Rattle.std.specs.Prelude.{nat_lt}
use Rattle.std.specs.Option.{unwrap_or}
use Rattle.std.proofs.lemmas.Bool.Decides.{nat_tests}
use Rattle.std.specs.declared.result.Result.{Result}
use Rattle.mpy_tree.specs.declared.limits.Limits.{Limits}
use Rattle.mpy_tree.specs.declared.value.Value.{Value}
use Rattle.mpy_tree.specs.declared.outcome.Halted.{Halted}
use Rattle.mpy_tree.specs.Expressions.{Calls, value_of}
use Rattle.mpy_tree.specs.Syntax.{Term}
use Rattle.mpy_tree.specs.Shapes.{shape}
use Rattle.mpy_tree.specs.Trees.{Kind, Tree, node}
use Rattle.mpy_tree.specs.Values.{Locals}
use Rattle.choice_tree.specs.Heads.{root, trees}
use Rattle.choice_tree.specs.Selections.{chosen, other_plains, plain, plains}
use Rattle.choice_tree.specs.WeightedTrees.{Weighted, Others, plainly, pick, no_others, other_and, children, other_trees}
use Rattle.sym_values.specs.declared.value.SymOutcome.{SymOutcome}
use Rattle.sym_values.specs.Reading.{OutcomeReads}
use Rattle.sym_nodes.specs.Nodes.{node_result}
use Rattle.sym_nodes.specs.Operands.{PartsRead}
use Rattle.sym_nodes.specs.Plain.{AllReadAsPlain, ReadsAsPlain, kind_of, number_of}
use Rattle.sym_nodes.specs.Members.{place_chosen}
use Rattle.sym_nodes.proofs.Terms.{parts_read, subterms, term_result, term_shape}

module _ {B : Type 0} (rd rd' : B → Bool) (l : Limits) (calls : Calls) (s : Locals) (line : ℕ) (m : ℕ → ℕ) where
  -- a node that is no pick
  pub node_plain : (k : Kind) (w : Weighted) (os : List (SymOutcome B)) (o : SymOutcome B) → Some k ≡ kind_of w
      → ((rs : List (Result Value Halted)) → PartsRead rd os rs → OutcomeReads rd' o (node_result l calls s line k rs))
      → AllReadAsPlain rd (value_of l calls s line) m os (children w) → ReadsAsPlain rd' (value_of l calls s line) m o w
  node_plain k (pick number base ms) os o e h all = absurd cc
  node_plain k (plainly kind ws) os o e h all = λ t is.
      let parts : node (root (shape t)) (trees (map shape (subterms t))) ≡ node kind (plains m ws) = sym (term_shape t) ∙ is in
      let same : root (shape t) ≡ k = cc in
      let rest : trees (map shape (subterms t)) ≡ plains m ws = cc in
      let results = map (value_of l calls s line) (subterms t) in
      subst (λ (r : Result Value Halted). OutcomeReads rd' o r) (sym (term_result l calls s line t ∙ ap (λ (kind : Kind). node_result l calls s line kind results) same))
      (h results (parts_read rd (value_of l calls s line) m (subterms t) ws os rest all))

-- the outcome at the place of a child
module _ {B : Type 0} (rd : B → Bool) (value : Term → Result Value Halted) (m : ℕ → ℕ) where
  pub as_many : (os : List (SymOutcome B)) (ws : List Weighted) → AllReadAsPlain rd value m os ws → length os ≡ length ws
  as_many [] [] h = refl
  as_many [] (w ∷ ws) h = absurd h
  as_many (o ∷ os) [] h = absurd h
  as_many (o ∷ os) (w ∷ ws) h = ap suc (as_many os ws h.1)

  outcome_at : (os : List (SymOutcome B)) (ws : List Weighted) (i : ℕ) (w : Weighted) → AllReadAsPlain rd value m os ws → slice_get ws i ≡ Some w
      → (o : SymOutcome B) × (slice_get os i ≡ Some o) × ReadsAsPlain rd value m o w
  outcome_at [] [] i w h e = cc
  outcome_at [] (x ∷ ws) i w h e = absurd h
  outcome_at (o ∷ os) [] i w h e = absurd h
  outcome_at (o ∷ os) (x ∷ ws) zero w h e =
      let same : x ≡ w = cc in (o, refl, subst (ReadsAsPlain rd value m o) same h.0)
  outcome_at (o ∷ os) (x ∷ ws) (suc i) w h e = outcome_at os ws i w h.1 e

  -- one outcome more at the end
  pub one_more : (os : List (SymOutcome B)) (ws : List Weighted) (o : SymOutcome B) (w : Weighted) → AllReadAsPlain rd value m os ws → ReadsAsPlain rd value m o w
      → AllReadAsPlain rd value m (os ++ o ∷ []) (ws ++ w ∷ [])
  one_more [] [] o w h k = (k, tt)
  one_more [] (x ∷ ws) o w h k = absurd h
  one_more (p ∷ os) [] o w h k = absurd h
  one_more (p ∷ os) (x ∷ ws) o w h k = (h.0, one_more os ws o w h.1 k)

-- the plain trees of members, by their places
plains_at : (m : ℕ → ℕ) (others : Others) (i : ℕ) → slice_get (other_plains m others) i ≡ option_map (plain m) (slice_get (other_trees others) i)
plains_at m no_others i = refl
plains_at m (other_and rule cost w os) zero = refl
plains_at m (other_and rule cost w os) (suc i) = plains_at m os i

there : {A : Type 0} (xs : List A) (i : ℕ) → ((x : A) × (slice_get xs i ≡ Some x) × (i < length xs)) ⊎ ((slice_get xs i ≡ None) × (length xs ≤ i))
there [] i = inr (refl, omega arith)
there (x ∷ xs) zero = inl (x, refl, omega arith)
there (x ∷ xs) (suc i) = elim (there xs i) [
  | inl h ↦ inl (h.0, h.1, let k = h.2 in omega arith)
  | inr h ↦ inr (h.0, let k = h.1 in omega arith)
]

within : (i n : ℕ) → i < n → nat_lt i n ≡ true
within i n h = grind (arith, nat_tests)

beyond : (i n : ℕ) → n ≤ i → nat_lt i n ≡ false
beyond i n h = grind (arith, nat_tests)

same_place : (b : Bool) → cond b zero zero ≡ zero
same_place true = refl
same_place false = refl

-- the child that is chosen
pub chosen_child : (m : ℕ → ℕ) (i : ℕ) (base : Weighted) (others : Others)
    → (w : Weighted) × (slice_get (base ∷ other_trees others) (place_chosen i (length (base ∷ other_trees others))) ≡ Some w) × (plain m w ≡ chosen i (plain m base) (other_plains m others))
chosen_child m zero base others = (base, ap (slice_get (base ∷ other_trees others)) (same_place (nat_lt 0 (length (base ∷ other_trees others)))), refl)
chosen_child m (suc i) base others = elim (there (other_trees others) i) [
  | inl h ↦ (
    h.0,
    let k = h.2 in ap (λ (b : Bool). slice_get (base ∷ other_trees others) (cond b (suc i) 0)) (within (suc i) (length (base ∷ other_trees others)) (omega arith)) ∙ h.1,
    sym (ap (λ (o : Option Tree). unwrap_or o (plain m base)) (plains_at m others i ∙ ap (option_map (plain m)) h.1)),
  )
  | inr h ↦ (
    base,
    let k = h.1 in ap (λ (b : Bool). slice_get (base ∷ other_trees others) (cond b (suc i) 0)) (beyond (suc i) (length (base ∷ other_trees others)) (omega arith)),
    sym (ap (λ (o : Option Tree). unwrap_or o (plain m base)) (plains_at m others i ∙ ap (option_map (plain m)) h.0)),
  )
]

module _ {B : Type 0} (rd rd' : B → Bool) (value : Term → Result Value Halted) (m : ℕ → ℕ) where
  -- a pick, whose outcome reads as that of the chosen member
  pub pick_plain : (number i : ℕ) (w : Weighted) (os : List (SymOutcome B)) (o : SymOutcome B) → Some number ≡ number_of w → i ≡ m number
      → ((p : SymOutcome B) (x : Result Value Halted) → slice_get os (place_chosen i (length os)) ≡ Some p → OutcomeReads rd p x → OutcomeReads rd' o x)
      → AllReadAsPlain rd value m os (children w) → ReadsAsPlain rd' value m o w
  pick_plain number i (plainly k ws) os o is same h all = absurd cc
  pick_plain number i (pick n base others) os o is same h all = λ t e.
      let number_is : number ≡ n = cc in
      let child = chosen_child m (m n) base others in
      let many = as_many rd value m os (base ∷ other_trees others) all in
      let part = outcome_at rd value m os (base ∷ other_trees others) _ child.0 all child.1 in
      let place : place_chosen i (length os) ≡ place_chosen (m n) (length (base ∷ other_trees others)) = ap (λ (j : ℕ). place_chosen j (length os)) (same ∙ ap m number_is) ∙ ap (place_chosen (m n)) many in
      h part.0 (value t) (ap (slice_get os) place ∙ part.1) (part.2 t (e ∙ sym child.2))
