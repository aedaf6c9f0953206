-- One operator more of a set.
use Rattle.std.proofs.Common.{◌≡◌, ◌≤◌, ◌-◌, true, false, cond, codes, List, [], ◌∷◌, ◌++◌, length}
use Rattle.std.proofs.Common.{get_or, take, drop, Option, Some, None, refl, ap, sym, ◌∙◌}
use Rattle.std.proofs.Common.{append_assoc, arith}
use Rattle.mpy_tree.specs.Options.{◌>>=◌}
use Rattle.mpy_tree.specs.declared.operators.ArithOp.{ArithOp}
use Rattle.mpy_tree.specs.declared.operators.CmpOp.{CmpOp}
use Rattle.mpy_lexer.specs.declared.token.Token.{Token}
use Rattle.mpy_expressions.proofs.Between.{all_behind}
use Rattle.eml_sides.specs.Singles.{is_mark}
use Rattle.eml_sides.specs.OperatorSets.{arith_of, comparison_of, behind_operator, ariths_at}
use Rattle.eml_sides.specs.OperatorSets.{comparisons_at}

-- the operators before, and those of a set
abbrev pub behind_all : {A : Type 0} → List A → Option (List A × List Token)
    → Option (List A × List Token)
behind_all front o = o >>= λ s. Some (front ++ s.0, s.1)

-- the operator joins those before it
moved : {A : Type 0} (front : List A) (op : A) (o : Option (List A × List Token))
    → behind_all front (o >>= λ s. Some (op ∷ s.0, s.1)) ≡ behind_all (front ++ (op ∷ [])) o
moved front op None = refl
moved front op (Some s) = ap (λ l. Some (l, s.1)) (sym (append_assoc front (op ∷ []) s.0))

behind_comma : {A : Type 0} (op : A) (u : Token) (ts : List Token)
    (others : Option (List A × List Token)) → is_mark (codes "}") u ≡ false
    → is_mark (codes ",") u ≡ true
    → behind_operator op u ts others ≡ (others >>= λ s. Some (op ∷ s.0, s.1))
behind_comma {A} op u ts others p q =
    ap (λ b. cond b (Some (op ∷ [], ts))
    (cond (is_mark (codes ",") u) (others >>= λ s. Some (op ∷ s.0, s.1)) None)) p
    ∙ ap (λ b. cond b (others >>= λ s. Some (op ∷ s.0, s.1)) None) q

-- the rest behind two tokens
two_more : (a b : Token) (ts : List Token)
    → take (length (a ∷ b ∷ ts) - 2) (drop 2 (a ∷ b ∷ ts)) ≡ ts
two_more a b ts = all_behind (a ∷ b ∷ ts) 2

pub ariths_more : (ts : List Token) (t u : Token) (op : ArithOp) (front next : List ArithOp)
    → 2 ≤ length ts → t ≡ get_or ts 0 t → u ≡ get_or ts 1 u → arith_of t ≡ Some op
    → is_mark (codes "}") u ≡ false → is_mark (codes ",") u ≡ true → next ≡ front ++ (op ∷ [])
    → behind_all front (ariths_at ts)
    ≡ behind_all next (ariths_at (take (length ts - 2) (drop 2 ts)))
ariths_more [] t u op front next le p q is closing comma pushed = absurd (omega arith)
ariths_more (a ∷ []) t u op front next le p q is closing comma pushed = absurd (omega arith)
ariths_more (a ∷ b ∷ ts) t u op front next le p q is closing comma pushed =
    ap (λ x. behind_all front (arith_of x >>= λ o. behind_operator o b ts (ariths_at ts))) (sym p)
    ∙ ap (λ x. behind_all front (x >>= λ o. behind_operator o b ts (ariths_at ts))) is
    ∙ ap (λ x. behind_all front (behind_operator op x ts (ariths_at ts))) (sym q)
    ∙ ap (behind_all front) (behind_comma op u ts (ariths_at ts) closing comma)
    ∙ moved front op (ariths_at ts)
    ∙ ap (λ l. behind_all l (ariths_at ts)) (sym pushed)
    ∙ ap (λ l. behind_all next (ariths_at l)) (sym (two_more a b ts))

pub comparisons_more : (ts : List Token) (t u : Token) (op : CmpOp) (front next : List CmpOp)
    → 2 ≤ length ts → t ≡ get_or ts 0 t → u ≡ get_or ts 1 u → comparison_of t ≡ Some op
    → is_mark (codes "}") u ≡ false → is_mark (codes ",") u ≡ true → next ≡ front ++ (op ∷ [])
    → behind_all front (comparisons_at ts)
    ≡ behind_all next (comparisons_at (take (length ts - 2) (drop 2 ts)))
comparisons_more [] t u op front next le p q is closing comma pushed = absurd (omega arith)
comparisons_more (a ∷ []) t u op front next le p q is closing comma pushed = absurd (omega arith)
comparisons_more (a ∷ b ∷ ts) t u op front next le p q is closing comma pushed =
    ap (λ x. behind_all front (comparison_of x >>= λ o. behind_operator o b ts (comparisons_at ts)))
    (sym p)
    ∙ ap (λ x. behind_all front (x >>= λ o. behind_operator o b ts (comparisons_at ts))) is
    ∙ ap (λ x. behind_all front (behind_operator op x ts (comparisons_at ts))) (sym q)
    ∙ ap (behind_all front) (behind_comma op u ts (comparisons_at ts) closing comma)
    ∙ moved front op (comparisons_at ts)
    ∙ ap (λ l. behind_all l (comparisons_at ts)) (sym pushed)
    ∙ ap (λ l. behind_all next (comparisons_at l)) (sym (two_more a b ts))
