-- A `return`, with a value and without one.
use Rattle.std.proofs.Common.{◌≡◌, ◌∙◌, ℕ, Option, Some, None, refl, ap, subst, List}
use Rattle.mpy_tree.specs.declared.limits.Limits.{Limits}
use Rattle.mpy_tree.specs.Expressions.{Calls}
use Rattle.mpy_tree.specs.Shapes.{shape}
use Rattle.mpy_tree.specs.Statements.{ended_by}
use Rattle.mpy_tree.specs.Syntax.{MaybeTerm, Term, a_term, no_term}
use Rattle.mpy_tree.specs.Values.{State}
use Rattle.choice_tree.specs.declared.tree.WExpr.{WExpr}
use Rattle.choice_tree.specs.Selections.{plain}
use Rattle.choice_tree.specs.StatementViews.{maybe_weighted}
use Rattle.choice_tree.specs.Typing.{Scope}
use Rattle.choice_tree.specs.WeightedTrees.{plainly}
use Rattle.mpy_tree.specs.Trees as kind
use Rattle.typed_trees.specs.TypedStatements.{IsTyped}
use Rattle.choice_tree.specs.WeightedViews.{weighted_of}
use Rattle.sym_nodes.specs.Environments.{AllHavePicks, HasPicks}
use Rattle.sym_paths.specs.Endings.{seen_from}
use Rattle.sym_blocks.specs.Runs.{IsPlainMaybe, run_give, run_return}
use Rattle.sym_blocks.specs.Typing.{MayReturn, Returns}

module _ (l : Limits) (calls : Calls) (m : ℕ → ℕ) (line : ℕ) where
  pub give_nothing : (w : Option WExpr) (o : Option State) (t : MaybeTerm) → w ≡ None → IsPlainMaybe (maybe_weighted w) m t → seen_from o (λ s. ended_by line s s.printed) ≡ seen_from o (run_give line l calls t)
  give_nothing None o no_term e h = refl
  give_nothing None o (a_term u) e h = absurd cc
  give_nothing (Some w) o t e h = absurd cc

  pub give_value : (w : Option WExpr) (e : WExpr) (t : MaybeTerm) → w ≡ Some e → IsPlainMaybe (maybe_weighted w) m t → (u : Term) × (shape u ≡ plain m (weighted_of e)) × (run_give line l calls t ≡ run_return line l calls u)
  give_value None e t is h = absurd cc
  give_value (Some w) e no_term is h = absurd cc
  give_value (Some w) e (a_term u) is h =
      let first : shape u ≡ plain m (weighted_of w) = cc in
      let same : w ≡ e = cc in
      (u, first ∙ ap (λ (x : WExpr). plain m (weighted_of x)) same, refl)

pub value_typed : (σ : Scope) (w : Option WExpr) (e : WExpr) → w ≡ Some e → MayReturn σ w → Returns σ (weighted_of e)
value_typed σ w e is h = subst (MayReturn σ) is h

pub value_picks : {B : Type 0} (picks : List (List B)) (w : Option WExpr) (e : WExpr) → w ≡ Some e → AllHavePicks picks (maybe_weighted w) → HasPicks picks (weighted_of e)
value_picks picks w e is h = (subst (λ (o : Option WExpr). AllHavePicks picks (maybe_weighted o)) is h).0

pub may_return : (σ : Scope) (line : ℕ) (w : Option WExpr) → IsTyped σ (plainly (kind.Return line) (maybe_weighted w)) → MayReturn σ w
may_return σ line None h = tt
may_return σ line (Some e) h = h
