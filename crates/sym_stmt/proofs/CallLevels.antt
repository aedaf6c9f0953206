-- The levels of calls of a program, while these are remembered.
use Rattle.std.proofs.Common.{◌≡◌, ◌≤◌, ◌<◌, ℕ, suc, zero, List, refl, sym, subst, arith, min}
use Rattle.std.proofs.Math.Nat.{min-eq_left, min-eq_right, zero-min}
use Rattle.mpy_tree.specs.declared.limits.Limits.{Limits}
use Rattle.mpy_tree.specs.declared.typing.Fact.{Fact}
use Rattle.mpy_tree.specs.Expressions.{Calls}
use Rattle.mpy_tree.specs.Running.{calls_below}
use Rattle.mpy_tree.specs.Shapes.{program_shape}
use Rattle.mpy_tree.specs.Syntax.{Routine}
use Rattle.choice_tree.specs.declared.tree.WProg.{WProg}
use Rattle.choice_tree.specs.Selections.{plain}
use Rattle.choice_tree.specs.StatementViews.{weighted_prog}
use Rattle.sym_nodes.specs.Environments.{HasPicks}
use Rattle.sym_calls.specs.Remembered.{Fixed}
use Rattle.sym_calls.specs.Reuse.{CanReuse}
use Rattle.sym_expr.specs.Signatures.{Signatures}
use Rattle.sym_stmt.specs.Levels.{AreCallsAt, AreDeeper, CanEnter, Fixes, IsUpTo}
use Rattle.sym_stmt.specs.Programs.{TypesFunctions, signatures_of}

-- the calls of the chosen program that may go so many levels deeper
pub calls_at : (w : WProg) (l : Limits) (m : ℕ → ℕ) (p : List Routine)
    → program_shape p ≡ plain m (weighted_prog w) → (n : ℕ)
    → AreCallsAt w n l m (calls_below l p n)
calls_at w l m p chosen zero = λ f vs line. refl
calls_at w l m p chosen (suc n) = record {
  program = p;
  chosen = chosen;
  below = calls_below l p n;
  are_below = calls_at w l m p chosen n;
  entered = λ f vs line. refl;
}

module _ {B : Type 0} {w : WProg} {T : List Fact} {picks : List (List B)} {k : Fixed B}
    {level most : ℕ} {below : Signatures} {AreBelow : Limits → (ℕ → ℕ) → Calls → Type 0}
    {HaveBelow : List (List B) → Type 0}
    (h : IsUpTo k w T level most below AreBelow HaveBelow picks) where
  -- calls of the level itself, which are built once
  pub level_itself : level ≤ most
      → CanReuse k (signatures_of w T) (λ l m calls. AreDeeper w (AreBelow l m) l m calls)
      (λ ps. CanEnter w T below HaveBelow ps) level picks
  level_itself less = record {
    same = sym h.fixes.signatures;
    fixed = sym h.fixes.picks;
    many = h.entered;
    level_calls = λ l m calls called.
        let at = subst (λ n. k.are_calls n l m calls) h.next called in
        let deeper = h.fixes.to_calls (suc h.number) l m calls at in
        let fewer : min h.number most ≡ h.number = min-eq_left (omega (arith, h.next, less)) in
        record {
          program = deeper.program;
          chosen = deeper.chosen;
          below = deeper.below;
          are_below = h.below l m deeper.below
              (subst (λ n. AreCallsAt w n l m deeper.below) (sym fewer) deeper.are_below);
          entered = deeper.entered;
        };
  }

  -- and where there are fewer, calls of the functions below
  pub level_below : most < level → (l : Limits) (m : ℕ → ℕ) (calls : Calls)
      → k.are_calls (min level most) l m calls → AreBelow l m calls
  level_below more l m calls called =
      let here : min level most ≡ most = min-eq_right (omega arith) in
      let there : min h.number most ≡ most = min-eq_right (omega (arith, h.next, more)) in
      h.below l m calls (subst (λ n. AreCallsAt w n l m calls) (sym there)
      (h.fixes.to_calls most l m calls (subst (λ n. k.are_calls n l m calls) here called)))

module _ {B : Type 0} {w : WProg} {T : List Fact} {picks : List (List B)} {k : Fixed B}
    (fixes : Fixes w T picks k) (typed : TypesFunctions T w)
    (many : HasPicks picks (weighted_prog w)) (most : ℕ) where
  -- the first level, and the one above another
  pub first_level : IsUpTo k w T 1 most (signatures_of w T) (AreCallsAt w zero) (λ qs. Unit {0}) picks
  first_level = record {
    fixes = fixes;
    entered = record { typed = typed; many = many; same = refl; have_below = tt };
    number = zero;
    next = refl;
    below = λ l m calls called. subst (λ n. AreCallsAt w n l m calls) (zero-min most) called;
  }

  pub next_level : (n : ℕ) (HaveBelow : List (List B) → Type 0) → HaveBelow picks
      → IsUpTo k w T (suc n) most (signatures_of w T)
      (λ l m calls. k.are_calls (min n most) l m calls) HaveBelow picks
  next_level n HaveBelow have = record {
    fixes = fixes;
    entered = record { typed = typed; many = many; same = refl; have_below = have };
    number = n;
    next = refl;
    below = fixes.of_calls (min n most);
  }
