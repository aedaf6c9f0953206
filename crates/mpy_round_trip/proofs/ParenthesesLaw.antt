-- Above its own level an expression is spelled in parentheses alone.
use Rattle.std.proofs.Common.{◌≡◌, ◌≤◌, ◌⊎◌, inl, inr, List, Option, Some, None, refl, arith}
use Rattle.mpy_tree.specs.Syntax.{Term}
use Rattle.mpy_tree.specs.declared.levels.Level.{Level}
use Rattle.mpy_tree.specs.declared.levels.Level.TheVariants as level
use Rattle.mpy_tree.specs.Levels.{above, rank}
use Rattle.mpy_tree.specs.Printing.{level_of}
use Rattle.mpy_expressions.specs.declared.terminals.Terminal.{Terminal}
use Rattle.mpy_expressions.specs.Grammar.{conditional, disjunction, conjunction, negation, compared, arithmetic, minus, index, slice, number, quoted, truth, hole, set, operated, likened, call, items, parenthesized, higher, name as a_name}
use Rattle.mpy_round_trip.specs.Parentheses.{IsParenthesized, ParenthesizedAboveItsLevel}

below_next : (k : Level) → rank k ≤ rank (above k)
below_next level.Conditional = omega arith
below_next level.Disjunction = omega arith
below_next level.Conjunction = omega arith
below_next level.Negation = omega arith
below_next level.Comparison = omega arith
below_next level.Sum = omega arith
below_next level.Product = omega arith
below_next level.Unary = omega arith
below_next level.Power = omega arith
below_next level.Postfix = omega arith
below_next level.Atom = omega arith

further_down : (k : Level) (xs : List (Terminal Unit)) (e : Term) → (rank (above k) ≤ rank (level_of e)) ⊎ IsParenthesized xs e → (rank k ≤ rank (level_of e)) ⊎ IsParenthesized xs e
further_down k xs e (inl h) = inl (omega (arith, below_next k))
further_down k xs e (inr p) = inr p

pub highest : ParenthesizedAboveItsLevel
highest _ _ _ (conditional a t b) = inl (omega arith)
highest _ _ _ (disjunction a b) = inl (omega arith)
highest _ _ _ (conjunction a b) = inl (omega arith)
highest _ _ _ (negation a) = inl (omega arith)
highest _ _ _ (compared op a b) = inl (omega arith)
highest _ _ _ (arithmetic op a b) = inl (omega arith)
highest _ _ _ (minus a) = inl (omega arith)
highest _ _ _ (index v i) = inl (omega arith)
highest _ _ _ (slice v from to) = inl (omega arith)
highest _ _ _ (number n) = inl (omega arith)
highest _ _ _ (quoted cs) = inl (omega arith)
highest _ _ _ (truth b) = inl (omega arith)
highest _ _ _ (a_name x) = inl (omega arith)
highest _ _ e (hole x h) = absurd (let z : None ≡ Some e = h in cc)
highest _ _ e (set h s) = absurd (let z : None ≡ Some e = h in cc)
highest _ _ _ (operated x {f = f} h s t) = absurd (let z : ◌≡◌ {A = Option (Term → Term → Term)} None (Some f) = h in cc)
highest _ _ _ (likened x {f = f} h s t) = absurd (let z : ◌≡◌ {A = Option (Term → Term → Term)} None (Some f) = h in cc)
highest _ _ _ (call f es) = inl (omega arith)
highest _ _ _ (items es) = inl (omega arith)
highest _ _ _ (parenthesized {xs = ys} s) = inr (ys, (refl, s))
highest k xs e (higher s) = further_down k xs e (highest (above k) xs e s)
