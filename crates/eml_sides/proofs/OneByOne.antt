-- What is seen of tokens, one terminal after another.
use Rattle.std.proofs.Common.{◌≡◌, ℕ, zero, suc, ◌<◌, ◌≤◌, Bool, true, false, cond, codes, List, []}
use Rattle.std.proofs.Common.{◌∷◌, length, Option, Some, None, IfSome, refl, ap, sym, ◌∙◌, subst}
use Rattle.std.proofs.Common.{arith}
use Rattle.mpy_tree.specs.Options.{◌>>=◌}
use Rattle.mpy_tree.specs.declared.operators.ArithOp.{ArithOp}
use Rattle.mpy_tree.specs.declared.operators.CmpOp.{CmpOp}
use Rattle.mpy_lexer.specs.declared.token.Token.{Token}
use Rattle.mpy_expressions.specs.declared.words.Word.TheVariants as word
use Rattle.mpy_expressions.specs.declared.terminals.Terminal.{Terminal}
use Rattle.mpy_expressions.specs.declared.terminals.Terminal.TheVariants as terminal
use Rattle.mpy_expressions.proofs.Shorter.{any, if_bound}
use Rattle.choice_tree.specs.declared.forms.Mark.{Mark}
use Rattle.choice_tree.specs.declared.forms.Mark.TheVariants as mark
use Rattle.eml_sides.specs.Singles.{is_mark, single}
use Rattle.eml_sides.specs.OperatorSets.{arith_of, comparison_of, behind_operator, ariths_at}
use Rattle.eml_sides.specs.OperatorSets.{comparisons_at}
use Rattle.eml_sides.specs.RuleTerminals.{Sight, local_by, local_at, comparison_set, operator_set}
use Rattle.eml_sides.specs.RuleTerminals.{perhaps_a_set, terminal_at, terminals_within}

-- one of two, whichever the test takes
either_some : {A : Type 0} (b : Bool) (x y : Option A) (P : A → Type 0) → IfSome x P → IfSome y P
    → IfSome (cond b x y) P
either_some true x y P p q = p
either_some false x y P p q = q

either_within : (b : Bool) (x y : Sight) (n : ℕ) → length x.1 ≤ n → length y.1 ≤ n
    → length (cond b x y).1 ≤ n
either_within true x y n p q = p
either_within false x y n p q = q

-- fewer tokens than the bound stand behind
abbrev EndsBelow : {A : Type 0} → ℕ → A × List Token → Type 0
EndsBelow n x = length x.1 < n

behind_short : {A : Type 0} (op : A) (u : Token) (ts : List Token) (n : ℕ)
    (others : Option (List A × List Token)) → length ts < n → IfSome others (EndsBelow n)
    → IfSome (behind_operator op u ts others) (EndsBelow n)
behind_short {A} op u ts n others few h =
    either_some (is_mark (codes "}") u) (Some (op ∷ [], ts))
    (cond (is_mark (codes ",") u) (others >>= λ o. Some (op ∷ o.0, o.1)) None) (EndsBelow n) few
    (either_some (is_mark (codes ",") u) (others >>= λ o. Some (op ∷ o.0, o.1)) None (EndsBelow n)
    (if_bound others (λ o. Some (op ∷ o.0, o.1)) (EndsBelow n) (EndsBelow n) h (λ o p. p)) tt)

more_below : {A : Type 0} (o : Option (A × List Token)) (m n : ℕ) → m ≤ n → IfSome o (EndsBelow m)
    → IfSome o (EndsBelow n)
more_below None m n le h = tt
more_below (Some x) m n le h = omega arith

ariths_short : (ts : List Token) → IfSome (ariths_at ts) (EndsBelow (length ts))
ariths_short (t ∷ u ∷ ts) = if_bound (arith_of t) _ (λ op. Unit {0}) _ (any (arith_of t))
    (λ op h. behind_short op u ts (length (t ∷ u ∷ ts)) (ariths_at ts) (omega arith)
    (more_below (ariths_at ts) (length ts) (length (t ∷ u ∷ ts)) (omega arith)
    (ariths_short ts)))
ariths_short _ = tt

comparisons_short : (ts : List Token) → IfSome (comparisons_at ts) (EndsBelow (length ts))
comparisons_short (t ∷ u ∷ ts) =
    if_bound (comparison_of t) _ (λ op. Unit {0}) _ (any (comparison_of t))
    (λ op h. behind_short op u ts (length (t ∷ u ∷ ts)) (comparisons_at ts) (omega arith)
    (more_below (comparisons_at ts) (length ts) (length (t ∷ u ∷ ts)) (omega arith)
    (comparisons_short ts)))
comparisons_short _ = tt

comparison_set_within : (ts : List Token) → length (comparison_set ts).1 ≤ length ts
comparison_set_within ts = by (comparisons_at ts) (comparisons_short ts)
  where
    by : (o : Option (List CmpOp × List Token)) → IfSome o (EndsBelow (length ts))
        → length
        (elim o as
        (λ _. Sight) [
          | Some c ↦ (terminal.Comparator (mark.Comparisons c.0), c.1)
          | None ↦ (terminal.Word word.LeftBrace, ts)
        ]).1 ≤ length ts
    by None h = omega arith
    by (Some c) h = omega arith

operator_set_within : (ts : List Token) → length (operator_set ts).1 ≤ length ts
operator_set_within ts = by (ariths_at ts) (ariths_short ts)
  where
    by : (o : Option (List ArithOp × List Token)) → IfSome o (EndsBelow (length ts))
        → length
        (elim o as
        (λ _. Sight) [
          | Some a ↦ (terminal.Operator (mark.Ariths a.0), a.1)
          | None ↦ comparison_set
              ts
        ]).1 ≤ length ts
    by None h = comparison_set_within ts
    by (Some a) h = omega arith

local_by_within : (seen : Terminal Mark) (t : Token) (ts : List Token)
    → length (local_by seen t ts).1 ≤ length (t ∷ ts)
local_by_within (terminal.Special (mark.Meta m)) t ts =
    either_within m.primed (terminal.Other, t ∷ ts) (terminal.Special (mark.Local m), ts)
    (length (t ∷ ts)) (omega arith) (omega arith)
local_by_within _ t ts = omega arith

local_within : (ts : List Token) → length (local_at ts).1 ≤ length ts
local_within [] = omega arith
local_within (t ∷ ts) = local_by_within (single t) t ts

perhaps_within : (seen : Terminal Mark) (ts : List Token)
    → length (perhaps_a_set seen ts).1 ≤ length ts
perhaps_within (terminal.Word word.LeftBrace) ts = operator_set_within ts
perhaps_within _ ts = omega arith

-- each terminal takes a token at least
pub terminal_short : (ts : List Token) → IfSome (terminal_at ts) (EndsBelow (length ts))
terminal_short [] = tt
terminal_short (t ∷ ts) = let h =
    either_within (is_mark (codes "?") t) (local_at ts) (perhaps_a_set (single t) ts) (length ts)
    (local_within ts) (perhaps_within (single t) ts) in omega arith

none_within : (n : ℕ) → terminals_within n [] ≡ []
none_within zero = refl
none_within (suc n) = refl

-- a bound that is no less than the number of tokens changes nothing
within_same : (n m : ℕ) (ts : List Token) → length ts ≤ n → length ts ≤ m
    → terminals_within n ts ≡ terminals_within m ts
within_same n m [] p q = none_within n ∙ sym (none_within m)
within_same zero m (t ∷ ts) p q = absurd (omega arith)
within_same (suc n) zero (t ∷ ts) p q = absurd (omega arith)
within_same (suc n) (suc m) (t ∷ ts) p q =
    let seen = cond (is_mark (codes "?") t) (local_at ts) (perhaps_a_set (single t) ts) in
    let h : length seen.1 < length (t ∷ ts) = terminal_short (t ∷ ts) in
    ap (λ l. seen.0 ∷ l) (within_same n m seen.1 (omega arith) (omega arith))

-- the first terminal, and then those of the rest
pub next_terminal : (ts : List Token) (x : Sight) → terminal_at ts ≡ Some x
    → terminals_within (length ts) ts ≡ x.0 ∷ terminals_within (length x.1) x.1
next_terminal ts x e =
    let h : length x.1 < length ts =
    subst (λ o. IfSome o (EndsBelow (length ts))) e (terminal_short ts) in
    within_same (length ts) (suc (length ts)) ts (omega arith) (omega arith)
    ∙ ap (λ o. elim o as
    (λ _. List (Terminal Mark)) [
      | Some seen ↦ seen.0 ∷ terminals_within
          (length ts) seen.1
      | None ↦ []
    ]) e
    ∙ ap (λ l. x.0 ∷ l) (within_same (length ts) (length x.1) x.1 (omega arith) (omega arith))

pub shorter_behind : (ts : List Token) (x : Sight) → terminal_at ts ≡ Some x
    → length x.1 < length ts
shorter_behind ts x e = subst (λ o. IfSome o (EndsBelow (length ts))) e (terminal_short ts)

-- no terminal, no token
pub no_terminal : (ts : List Token) → terminal_at ts ≡ None → terminals_within (length ts) ts ≡ []
no_terminal [] e = refl
no_terminal (t ∷ ts) e = absurd (cc)
