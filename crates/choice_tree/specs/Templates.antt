-- The two sides of a correction rule. The rules are those of the error models of Singh, Gulwani and
-- Solar-Lezama (PLDI 2013), in the concrete syntax of this project.
use Rattle.std.specs.Prelude.{◌≡◌, ⊤, ◌||◌, ℕ, Bool, false, List, [], ◌∷◌, Option}
use Rattle.mpy_tree.specs.declared.operators.ArithOp.{ArithOp}
use Rattle.mpy_tree.specs.declared.operators.CmpOp.{CmpOp}
use Rattle.mpy_tree.specs.Trees.{Kind}
use Rattle.choice_tree.specs.declared.rules.Meta.{Meta}
use Rattle.choice_tree.specs.declared.rules.Place.{Place}
use Rattle.choice_tree.specs.declared.rules.Place.TheVariants as place

-- what a node may be
pub data NodeTemplate : Type 0 where
  exactly : (k : Kind) → NodeTemplate
  -- {+, -}, and an operator that is written as it stands
  one_arith : (ops : List ArithOp) → NodeTemplate
  -- {<, <=}
  one_comparison : (ops : List CmpOp) → NodeTemplate
  -- $o
  some_arith : (m : Meta) → NodeTemplate
  -- $c
  some_comparison : (m : Meta) → NodeTemplate

-- a side: a node with its parts as they are written, $a, {e1, .., ek} or ?$a
mutual
  pub data Template : Type 0 where
    made : (k : NodeTemplate) (ps : Templates) → Template
    hole : (m : Meta) → Template
    one_of : (ps : Templates) → Template
    some_local : (m : Meta) → Template

  pub data Templates : Type 0 where
    no_templates : Templates
    template_and : (p : Template) (ps : Templates) → Templates

-- a rule: its line, its name and its cost, its two sides with their places, and its message
pub record Correction : Type 0 where
  pub line : ℕ
  pub name : List ℕ
  pub cost : ℕ
  pub place : Place
  pub left : Template
  pub right_place : Place
  pub right : Template
  pub say : Option (List ℕ)

-- a primed metavariable stands in it
abbrev mutual
  pub has_prime : Template → Bool
  has_prime (made k ps) = any_prime ps
  has_prime (hole m) = m.primed
  has_prime (one_of ps) = any_prime ps
  has_prime (some_local m) = false

  pub any_prime : Templates → Bool
  any_prime no_templates = false
  any_prime (template_and p ps) = has_prime p || any_prime ps

-- In a rule without a place, no primed metavariable is the whole left side: else rewriting would
-- not end.
abbrev pub KeepsPrimes : Place → Template → Template → Type 0
KeepsPrimes place.Anywhere (hole m) right = has_prime right ≡ false
KeepsPrimes _ _ right = ⊤

abbrev pub KeepPrimes : List Correction → Type 0
KeepPrimes [] = ⊤
KeepPrimes (r ∷ rs) = KeepsPrimes r.place r.left r.right × KeepPrimes rs
