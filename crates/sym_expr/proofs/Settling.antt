-- Nodes of which one part says what the whole gives.
use Rattle.std.proofs.Common.{◌≡◌, ℕ, Bool, true, false, List, [], ◌∷◌, map, length, slice_get, sym, ap, ◌∙◌, subst, refl, Some, ◌⊎◌, inl, inr}
use Rattle.std.specs.Prelude.{◌||◌, if◌then◌else◌}
use Rattle.std.specs.declared.result.Result.{Result}
use Rattle.std.specs.declared.result.Result.TheVariants.{Ok, Err}
use Rattle.mpy_tree.specs.declared.limits.Limits.{Limits}
use Rattle.mpy_tree.specs.declared.value.Value.{Value}
use Rattle.mpy_tree.specs.declared.value.Value.TheVariants as val
use Rattle.mpy_tree.specs.declared.outcome.Halted.{Halted}
use Rattle.mpy_tree.specs.Expressions.{Calls, both, either, value_of}
use Rattle.mpy_tree.specs.Operations.{holds}
use Rattle.mpy_tree.specs.Syntax.{Term}
use Rattle.mpy_tree.specs.Shapes.{shape}
use Rattle.mpy_tree.specs.Trees.{Kind, node}
use Rattle.mpy_tree.specs.Trees as kind
use Rattle.mpy_tree.specs.Values.{Locals}
use Rattle.choice_tree.specs.Heads.{root, trees}
use Rattle.choice_tree.specs.Selections.{plain, plains}
use Rattle.choice_tree.specs.WeightedTrees.{Weighted, Weighteds, plainly, pick, no_weighted, weighted_and, children, listed, other_trees}
use Rattle.sym_values.specs.declared.value.SymOutcome.{SymOutcome}
use Rattle.sym_values.specs.Reading.{IsOutcome, OutcomeReads, Reading, read, sure}
use Rattle.sym_nodes.specs.Members.{place_chosen}
use Rattle.sym_nodes.specs.Nodes.{cond_result, node_result, side_kind, side_result}
use Rattle.sym_nodes.specs.Plain.{ReadsAsPlain, kind_of, number_of}
use Rattle.sym_nodes.proofs.Members.{chosen_child}
use Rattle.sym_nodes.proofs.Outcomes.{cond_is}
use Rattle.sym_nodes.proofs.Terms.{subterms, term_result, term_shape}

-- terms whose trees are the plain trees of children
abbrev ArePlain : (ℕ → ℕ) → List Term → List Weighted → Type 0
ArePlain m [] [] = Unit {0}
ArePlain m (t ∷ ts) (w ∷ ws) = (shape t ≡ plain m w) × ArePlain m ts ws
ArePlain m [] (w ∷ ws) = ⊥
ArePlain m (t ∷ ts) [] = ⊥

plain_terms : (m : ℕ → ℕ) (ts : List Term) (ws : Weighteds) → trees (map shape ts) ≡ plains m ws → ArePlain m ts (listed ws)
plain_terms m [] no_weighted e = tt
plain_terms m [] (weighted_and w ws) e = absurd cc
plain_terms m (t ∷ ts) no_weighted e = absurd cc
plain_terms m (t ∷ ts) (weighted_and w ws) e =
    let first : shape t ≡ plain m w = cc in
    let rest : trees (map shape ts) ≡ plains m ws = cc in
    (first, plain_terms m ts ws rest)

module _ (l : Limits) (calls : Calls) (s : Locals) (line : ℕ) (m : ℕ → ℕ) where
  -- the parts of a term whose tree is the plain tree of a node
  node_terms : (k : Kind) (w : Weighted) (t : Term) → Some k ≡ kind_of w → shape t ≡ plain m w
      → (ts : List Term) × ArePlain m ts (children w) × (value_of l calls s line t ≡ node_result l calls s line k (map (value_of l calls s line) ts))
  node_terms k (pick number base os) t e is = absurd cc
  node_terms k (plainly kind ws) t e is =
      let parts : node (root (shape t)) (trees (map shape (subterms t))) ≡ node kind (plains m ws) = sym (term_shape t) ∙ is in
      let same : root (shape t) ≡ k = cc in
      let rest : trees (map shape (subterms t)) ≡ plains m ws = cc in (
        subterms t,
        plain_terms m (subterms t) ws rest,
        term_result l calls s line t ∙ ap (λ (j : Kind). node_result l calls s line j (map (value_of l calls s line) (subterms t))) same,
      )

  module _ {B : Type 0} (rd : B → Bool) (o : SymOutcome B) where
    two_parts : (k : Kind) (a b : Weighted) (ts : List Term) → ArePlain m ts (a ∷ b ∷ [])
        → ((t u : Term) → shape t ≡ plain m a → shape u ≡ plain m b → OutcomeReads rd o (node_result l calls s line k (value_of l calls s line t ∷ value_of l calls s line u ∷ [])))
        → OutcomeReads rd o (node_result l calls s line k (map (value_of l calls s line) ts))
    two_parts k a b [] e h = absurd e
    two_parts k a b (t ∷ []) e h = absurd e.1
    two_parts k a b (t ∷ u ∷ []) e h = h t u e.0 e.1.0
    two_parts k a b (t ∷ u ∷ v ∷ ts) e h = absurd e.1.1

    three_parts : (k : Kind) (a b d : Weighted) (ts : List Term) → ArePlain m ts (a ∷ b ∷ d ∷ [])
        → ((t u v : Term) → shape t ≡ plain m a → shape u ≡ plain m b → shape v ≡ plain m d
        → OutcomeReads rd o (node_result l calls s line k (value_of l calls s line t ∷ value_of l calls s line u ∷ value_of l calls s line v ∷ [])))
        → OutcomeReads rd o (node_result l calls s line k (map (value_of l calls s line) ts))
    three_parts k a b d [] e h = absurd e
    three_parts k a b d (t ∷ []) e h = absurd e.1
    three_parts k a b d (t ∷ u ∷ []) e h = absurd e.1.1
    three_parts k a b d (t ∷ u ∷ v ∷ []) e h = h t u v e.0 e.1.0 e.1.1.0
    three_parts k a b d (t ∷ u ∷ v ∷ x ∷ ts) e h = absurd e.1.1.1

    -- an outcome reads as a node where it reads as what the kind gives on what the parts give
    two_plain : (k : Kind) (w a b : Weighted) → Some k ≡ kind_of w → children w ≡ a ∷ b ∷ []
        → ((t u : Term) → shape t ≡ plain m a → shape u ≡ plain m b → OutcomeReads rd o (node_result l calls s line k (value_of l calls s line t ∷ value_of l calls s line u ∷ [])))
        → ReadsAsPlain rd (value_of l calls s line) m o w
    two_plain k w a b e c h = λ t is.
        let parts = node_terms k w t e is in
        subst (λ (r : Result Value Halted). OutcomeReads rd o r) (sym parts.2) (two_parts k a b parts.0 (subst (ArePlain m parts.0) c parts.1) h)

    three_plain : (k : Kind) (w a b d : Weighted) → Some k ≡ kind_of w → children w ≡ a ∷ b ∷ d ∷ []
        → ((t u v : Term) → shape t ≡ plain m a → shape u ≡ plain m b → shape v ≡ plain m d
        → OutcomeReads rd o (node_result l calls s line k (value_of l calls s line t ∷ value_of l calls s line u ∷ value_of l calls s line v ∷ [])))
        → ReadsAsPlain rd (value_of l calls s line) m o w
    three_plain k w a b d e c h = λ t is.
        let parts = node_terms k w t e is in
        subst (λ (r : Result Value Halted). OutcomeReads rd o r) (sym parts.2) (three_parts k a b d parts.0 (subst (ArePlain m parts.0) c parts.1) h)

-- where the left side stops, the right side doesn't count
stops_here : (stop : Bool) (line : ℕ) (fault : Bool) (reading : Reading) (x y : Result Value Halted) → IsOutcome fault reading x → (fault ≡ true) ⊎ (reading ≡ sure (val.Bool stop))
    → IsOutcome fault reading (side_result stop line x y)
stops_here false line fault reading (Err e) y h k = h
stops_here true line fault reading (Err e) y h k = h
stops_here stop line fault reading (Ok v) y h (inl k) = absurd (let fine : fault ≡ false = h.0 in cc)
stops_here false line fault reading (Ok v) y h (inr k) =
    let same : val.Bool false ≡ v = ap (λ (i : Reading). i.value) (sym k ∙ h.1) in
    subst (λ (i : Value). IsOutcome fault reading (both i y line)) same (h.0, k)
stops_here true line fault reading (Ok v) y h (inr k) =
    let same : val.Bool true ≡ v = ap (λ (i : Reading). i.value) (sym k ∙ h.1) in
    subst (λ (i : Value). IsOutcome fault reading (either i y line)) same (h.0, k)

side_node : (l : Limits) (calls : Calls) (s : Locals) (line : ℕ) (stop : Bool) (x y : Result Value Halted)
    → node_result l calls s line (side_kind stop) (x ∷ y ∷ []) ≡ side_result stop line x y
side_node l calls s line true x y = refl
side_node l calls s line false x y = refl

module _ {B : Type 0} (rd : B → Bool) (l : Limits) (calls : Calls) (s : Locals) (line : ℕ) (m : ℕ → ℕ) (stop : Bool) (w a b : Weighted) (o : SymOutcome B) where
  -- an `and` or an `or` whose left side settles it
  pub side_settled : Some (side_kind stop) ≡ kind_of w → children w ≡ a ∷ b ∷ [] → (rd o.fault ≡ true) ⊎ (read rd o.value ≡ sure (val.Bool stop))
      → ReadsAsPlain rd (value_of l calls s line) m o a → ReadsAsPlain rd (value_of l calls s line) m o w
  side_settled e c k h = two_plain l calls s line m rd o (side_kind stop) w a b e c (λ t u p q.
      let x = value_of l calls s line t in
      let y = value_of l calls s line u in
      subst (λ (r : Result Value Halted). OutcomeReads rd o r) (sym (side_node l calls s line stop x y)) (stops_here stop line (rd o.fault) (read rd o.value) x y (h t p) k))

  -- one of which both sides are looked at
  pub side_plain : Some (side_kind stop) ≡ kind_of w → children w ≡ a ∷ b ∷ []
      → ((t u : Term) → shape t ≡ plain m a → shape u ≡ plain m b → OutcomeReads rd o (side_result stop line (value_of l calls s line t) (value_of l calls s line u)))
      → ReadsAsPlain rd (value_of l calls s line) m o w
  side_plain e c h = two_plain l calls s line m rd o (side_kind stop) w a b e c (λ t u p q.
      subst (λ (r : Result Value Halted). OutcomeReads rd o r) (sym (side_node l calls s line stop (value_of l calls s line t) (value_of l calls s line u))) (h t u p q))

-- a conditional, of which both arms are looked at, and one of which one is
module _ {B : Type 0} (rd : B → Bool) (l : Limits) (calls : Calls) (s : Locals) (line : ℕ) (m : ℕ → ℕ) (w a b d : Weighted) (o : SymOutcome B) where
  pub cond_plain : Some kind.Cond ≡ kind_of w → children w ≡ a ∷ b ∷ d ∷ []
      → ((t u v : Term) → shape t ≡ plain m a → shape u ≡ plain m b → shape v ≡ plain m d
      → OutcomeReads rd o (cond_result (value_of l calls s line u) (value_of l calls s line t) (value_of l calls s line v)))
      → ReadsAsPlain rd (value_of l calls s line) m o w
  cond_plain e c h = three_plain l calls s line m rd o kind.Cond w a b d e c h

one_arm : (known : Bool) (a b fault : Bool) (test reading : Reading) (x y z : Result Value Halted)
    → IsOutcome a test x → ((v : Value) → test ≡ sure v → holds v ≡ known) → IsOutcome b reading (if known then y else z) → fault ≡ (a || b)
    → IsOutcome fault reading (cond_result x y z)
one_arm known a b fault test reading x y z h k arm e =
    cond_is a b fault test reading x y z h (λ v is. subst (λ (i : Bool). IsOutcome b reading (if i then y else z)) (sym (k v is)) arm) e

arm_read : {B : Type 0} (rd : B → Bool) (value : Term → Result Value Halted) (m : ℕ → ℕ) (known : Bool) (a d : Weighted) (o : SymOutcome B) (t v : Term) → shape t ≡ plain m a → shape v ≡ plain m d
    → ReadsAsPlain rd value m o (if known then a else d) → OutcomeReads rd o (if known then value t else value v)
arm_read rd value m true a d o t v p r arm = arm t p
arm_read rd value m false a d o t v p r arm = arm v r

-- what was read before, and what is read
module _ {B : Type 0} (before rd : B → Bool) (l : Limits) (calls : Calls) (s : Locals) (line : ℕ) (m : ℕ → ℕ) (w a b d : Weighted) (known : Bool) (tested armed o : SymOutcome B) where
  pub cond_known : Some kind.Cond ≡ kind_of w → children w ≡ a ∷ b ∷ d ∷ []
      → ReadsAsPlain before (value_of l calls s line) m tested b → ((v : Value) → read before tested.value ≡ sure v → holds v ≡ known)
      → ReadsAsPlain rd (value_of l calls s line) m armed (if known then a else d)
      → rd o.fault ≡ (before tested.fault || rd armed.fault) → read rd o.value ≡ read rd armed.value
      → ReadsAsPlain rd (value_of l calls s line) m o w
  cond_known e c h k arm fault value = cond_plain rd l calls s line m w a b d o e c (λ t u v p q r.
      let x = value_of l calls s line u in
      let y = value_of l calls s line t in
      let z = value_of l calls s line v in
      let reading = arm_read rd (value_of l calls s line) m known a d armed t v p r arm in
      one_arm known (before tested.fault) (rd armed.fault) (rd o.fault) (read before tested.value) (read rd o.value) x y z
      (h u q) k (subst (λ (i : Reading). IsOutcome (rd armed.fault) i (if known then y else z)) (sym value) reading) fault)

-- a pick whose member is known
module _ {B : Type 0} (rd : B → Bool) (value : Term → Result Value Halted) (m : ℕ → ℕ) where
  pub pick_known : (number i : ℕ) (w child : Weighted) (o : SymOutcome B) → Some number ≡ number_of w → i ≡ m number
      → slice_get (children w) (place_chosen i (length (children w))) ≡ Some child → ReadsAsPlain rd value m o child → ReadsAsPlain rd value m o w
  pick_known number i (plainly k ws) child o is same at h = absurd cc
  pick_known number i (pick n base ms) child o is same at h = λ t e.
      let number_is : number ≡ n = cc in
      let chosen = chosen_child m (m n) base ms in
      let kids = base ∷ other_trees ms in
      let place = ap (λ (j : ℕ). slice_get kids (place_chosen j (length kids))) (same ∙ ap m number_is) in
      let both : Some child ≡ Some chosen.0 = sym at ∙ place ∙ chosen.1 in
      let one : child ≡ chosen.0 = cc in
      h t (e ∙ sym (ap (plain m) one ∙ chosen.2))
