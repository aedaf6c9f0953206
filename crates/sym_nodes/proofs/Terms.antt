-- What a term gives, by its root and by what its parts give.
use Rattle.std.proofs.Common.{◌≡◌, ℕ, Bool, true, false, List, [], ◌∷◌, ◌++◌, map, refl, not, Some, None, ap}
use Rattle.std.specs.declared.result.Result.{Result}
use Rattle.std.specs.declared.result.Result.TheVariants.{Ok, Err}
use Rattle.mpy_tree.specs.declared.limits.Limits.{Limits}
use Rattle.mpy_tree.specs.declared.value.Value.{Value}
use Rattle.mpy_tree.specs.declared.value.Value.TheVariants as val
use Rattle.mpy_tree.specs.declared.outcome.Halt.{Halt}
use Rattle.mpy_tree.specs.declared.outcome.Halted.{Halted}
use Rattle.mpy_tree.specs.Syntax.{Term, Terms, MaybeTerm, no_terms, term_and, no_term, a_term}
use Rattle.mpy_tree.specs.Syntax as ast
use Rattle.mpy_tree.specs.Shapes.{shape, shapes}
use Rattle.mpy_tree.specs.Trees as kind
use Rattle.mpy_tree.specs.Trees.{node, no_trees, tree_and}
use Rattle.mpy_tree.specs.Values.{◌>>=◌, on_line, Locals}
use Rattle.mpy_tree.specs.Operations.{negative, holds, arith, compare, truth, index}
use Rattle.mpy_tree.specs.Expressions.{Calls, value_of, values_of, list_of, slice_of, apply}
use Rattle.choice_tree.specs.Heads.{root, trees}
use Rattle.choice_tree.specs.Selections.{plain, plains}
use Rattle.choice_tree.specs.WeightedTrees.{Weighteds, no_weighted, weighted_and, listed}
use Rattle.sym_values.specs.declared.value.SymOutcome.{SymOutcome}
use Rattle.sym_nodes.specs.Nodes.{all_of, on_one, on_two, sliced, node_result}
use Rattle.sym_nodes.specs.Operands.{PartsRead}
use Rattle.sym_nodes.specs.Plain.{AllReadAsPlain}

-- the parts of a term, as they are written
abbrev pub listed_terms : Terms → List Term
listed_terms no_terms = []
listed_terms (term_and e es) = e ∷ listed_terms es

abbrev pub ends : MaybeTerm → List Term
ends no_term = []
ends (a_term e) = e ∷ []

abbrev pub subterms : Term → List Term
subterms (ast.Int n) = []
subterms (ast.Bool b) = []
subterms (ast.Text cs) = []
subterms (ast.Name x) = []
subterms (ast.List es) = listed_terms es
subterms (ast.Neg e) = e ∷ []
subterms (ast.Not e) = e ∷ []
subterms (ast.Arith op a b) = a ∷ b ∷ []
subterms (ast.Cmp op a b) = a ∷ b ∷ []
subterms (ast.And a b) = a ∷ b ∷ []
subterms (ast.Or a b) = a ∷ b ∷ []
subterms (ast.Cond t a b) = a ∷ t ∷ b ∷ []
subterms (ast.Index v i) = v ∷ i ∷ []
subterms (ast.Slice v from to) = v ∷ (ends from ++ ends to)
subterms (ast.Call f es) = listed_terms es

one_is : (line : ℕ) (op : Value → Result Value Halt) (r : Result Value Halted)
    → (r >>= λ v. on_line line (op v)) ≡ (all_of (r ∷ []) >>= λ vs. on_line line (on_one op vs))
one_is line op (Ok v) = refl
one_is line op (Err e) = refl

two_is : (line : ℕ) (op : Value → Value → Result Value Halt) (r q : Result Value Halted)
    → (r >>= λ v. q >>= λ w. on_line line (op v w)) ≡ (all_of (r ∷ q ∷ []) >>= λ vs. on_line line (on_two op vs))
two_is line op (Ok v) (Ok w) = refl
two_is line op (Ok v) (Err e) = refl
two_is line op (Err e) q = refl

-- a slice, by its ends
module _ (line : ℕ) where
  slice_none : (r : Result Value Halted)
      → (r >>= λ v. on_line line (slice_of v None None)) ≡ (all_of (r ∷ []) >>= λ vs. on_line line (sliced false false vs))
  slice_none (Ok v) = refl
  slice_none (Err e) = refl

  slice_from : (r a : Result Value Halted)
      → (r >>= λ v. (a >>= λ x. Ok (Some x)) >>= λ x. on_line line (slice_of v x None)) ≡ (all_of (r ∷ a ∷ []) >>= λ vs. on_line line (sliced true false vs))
  slice_from (Ok v) (Ok x) = refl
  slice_from (Ok v) (Err e) = refl
  slice_from (Err e) a = refl

  slice_to : (r b : Result Value Halted)
      → (r >>= λ v. (b >>= λ x. Ok (Some x)) >>= λ y. on_line line (slice_of v None y)) ≡ (all_of (r ∷ b ∷ []) >>= λ vs. on_line line (sliced false true vs))
  slice_to (Ok v) (Ok x) = refl
  slice_to (Ok v) (Err e) = refl
  slice_to (Err e) b = refl

  slice_both : (r a b : Result Value Halted)
      → (r >>= λ v. (a >>= λ x. Ok (Some x)) >>= λ x. (b >>= λ y. Ok (Some y)) >>= λ y. on_line line (slice_of v x y)) ≡ (all_of (r ∷ a ∷ b ∷ []) >>= λ vs. on_line line (sliced true true vs))
  slice_both (Ok v) (Ok x) (Ok y) = refl
  slice_both (Ok v) (Ok x) (Err e) = refl
  slice_both (Ok v) (Err e) b = refl
  slice_both (Err e) a b = refl

module _ (l : Limits) (calls : Calls) (s : Locals) (line : ℕ) where
  all_is : (es : Terms) → values_of l calls s line es ≡ all_of (map (value_of l calls s line) (listed_terms es))
  all_is no_terms = refl
  all_is (term_and e es) = ap (λ (r : Result (List Value) Halted). value_of l calls s line e >>= λ v. r >>= λ vs. Ok (v ∷ vs)) (all_is es)

  -- a node gives what its kind gives on the results of its parts
  pub term_result : (t : Term)
      → value_of l calls s line t ≡ node_result l calls s line (root (shape t)) (map (value_of l calls s line) (subterms t))
  term_result (ast.Int n) = refl
  term_result (ast.Bool b) = refl
  term_result (ast.Text cs) = refl
  term_result (ast.Name x) = refl
  term_result (ast.List es) = ap (λ (r : Result (List Value) Halted). r >>= λ vs. on_line line (list_of l vs)) (all_is es)
  term_result (ast.Neg e) = one_is line (negative l) (value_of l calls s line e)
  term_result (ast.Not e) = elim (value_of l calls s line e) as (λ (r : Result Value Halted). (r >>= λ v. Ok (val.Bool (not (holds v)))) ≡ (all_of (r ∷ []) >>= λ vs. on_line line (on_one (λ v. Ok (val.Bool (not (holds v)))) vs))) [ Ok v ↦ refl | Err e ↦ refl ]
  term_result (ast.Arith op a b) = two_is line (arith l op) (value_of l calls s line a) (value_of l calls s line b)
  term_result (ast.Cmp op a b) = two_is line (λ v w. truth (compare op v w)) (value_of l calls s line a) (value_of l calls s line b)
  term_result (ast.And a b) = refl
  term_result (ast.Or a b) = refl
  term_result (ast.Cond t a b) = refl
  term_result (ast.Index v i) = two_is line index (value_of l calls s line v) (value_of l calls s line i)
  term_result (ast.Slice v no_term no_term) = slice_none line (value_of l calls s line v)
  term_result (ast.Slice v (a_term a) no_term) = slice_from line (value_of l calls s line v) (value_of l calls s line a)
  term_result (ast.Slice v no_term (a_term b)) = slice_to line (value_of l calls s line v) (value_of l calls s line b)
  term_result (ast.Slice v (a_term a) (a_term b)) = slice_both line (value_of l calls s line v) (value_of l calls s line a) (value_of l calls s line b)
  term_result (ast.Call f es) = ap (λ (r : Result (List Value) Halted). r >>= λ vs. apply l calls f vs line) (all_is es)

listed_shapes : (es : Terms) → shapes es ≡ trees (map shape (listed_terms es))
listed_shapes no_terms = refl
listed_shapes (term_and e es) = ap (tree_and (shape e)) (listed_shapes es)

-- the tree of a term is the root with the trees of its parts
pub term_shape : (t : Term) → shape t ≡ node (root (shape t)) (trees (map shape (subterms t)))
term_shape (ast.Int n) = refl
term_shape (ast.Bool b) = refl
term_shape (ast.Text cs) = refl
term_shape (ast.Name x) = refl
term_shape (ast.List es) = ap (node kind.List) (listed_shapes es)
term_shape (ast.Neg e) = refl
term_shape (ast.Not e) = refl
term_shape (ast.Arith op a b) = refl
term_shape (ast.Cmp op a b) = refl
term_shape (ast.And a b) = refl
term_shape (ast.Or a b) = refl
term_shape (ast.Cond t a b) = refl
term_shape (ast.Index v i) = refl
term_shape (ast.Slice v no_term no_term) = refl
term_shape (ast.Slice v (a_term a) no_term) = refl
term_shape (ast.Slice v no_term (a_term b)) = refl
term_shape (ast.Slice v (a_term a) (a_term b)) = refl
term_shape (ast.Call f es) = ap (node (kind.Call f)) (listed_shapes es)

-- outcomes that read as what the plain expressions of children give read as the results of the parts
module _ {B : Type 0} (rd : B → Bool) (value : Term → Result Value Halted) (m : ℕ → ℕ) where
  pub parts_read : (ts : List Term) (ws : Weighteds) (os : List (SymOutcome B)) → trees (map shape ts) ≡ plains m ws
      → AllReadAsPlain rd value m os (listed ws) → PartsRead rd os (map value ts)
  parts_read [] no_weighted [] e h = tt
  parts_read [] no_weighted (o ∷ os) e h = h
  parts_read [] (weighted_and w ws) os e h = absurd cc
  parts_read (t ∷ ts) no_weighted os e h = absurd cc
  parts_read (t ∷ ts) (weighted_and w ws) [] e h = h
  parts_read (t ∷ ts) (weighted_and w ws) (o ∷ os) e h =
      let first : shape t ≡ plain m w = cc in
      let rest : trees (map shape ts) ≡ plains m ws = cc in
      (h.0 t first, parts_read ts ws os rest h.1)
