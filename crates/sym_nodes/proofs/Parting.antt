-- A slice of values, by the ends that are there.
use Rattle.std.proofs.Common.{◌≡◌, ◌∙◌, ◌+◌, ◌-◌, Bool, true, false, List, [], ◌∷◌, length, get_or}
use Rattle.std.proofs.Common.{Option, Some, None, ap, arith}
use Rattle.mpy_tree.specs.declared.value.Value.{Value}
use Rattle.mpy_tree.specs.Expressions.{slice_of}
use Rattle.choice_tree.specs.Heads.{one_if}
use Rattle.sym_nodes.specs.Nodes.{end_value, sliced}

abbrev between : Bool → Bool → List Value → Value → Type 0
between from to vs v =
    slice_of v (end_value vs from 1) (end_value vs to (length vs - 1)) ≡ sliced from to vs

by_ends : (from to : Bool) (vs : List Value) (v : Value) → length vs ≡ 1 + one_if from + one_if to
    → v ≡ get_or vs 0 v → between from to vs v
by_ends from to [] v m e = absurd (omega arith)
by_ends false false (x ∷ []) v m e = ap (λ (u : Value). slice_of u None None) e
by_ends true false (x ∷ []) v m e = absurd (omega arith)
by_ends false true (x ∷ []) v m e = absurd (omega arith)
by_ends true true (x ∷ []) v m e = absurd (omega arith)
by_ends false false (x ∷ y ∷ vs) v m e = absurd (omega arith)
by_ends true false (x ∷ y ∷ []) v m e = ap (λ (u : Value). slice_of u (Some y) None) e
by_ends false true (x ∷ y ∷ []) v m e = ap (λ (u : Value). slice_of u None (Some y)) e
by_ends true true (x ∷ y ∷ []) v m e = absurd (omega arith)
by_ends true false (x ∷ y ∷ z ∷ vs) v m e = absurd (omega arith)
by_ends false true (x ∷ y ∷ z ∷ vs) v m e = absurd (omega arith)
by_ends true true (x ∷ y ∷ z ∷ []) v m e = ap (λ (u : Value). slice_of u (Some y) (Some z)) e
by_ends true true (x ∷ y ∷ z ∷ w ∷ vs) v m e = absurd (omega arith)

pub sliced_by : (from to : Bool) (vs : List Value) (v : Value) (low high : Option Value)
    → length vs ≡ 1 + one_if from + one_if to → v ≡ get_or vs 0 v → low ≡ end_value vs from 1
    → high ≡ end_value vs to (length vs - 1) → slice_of v low high ≡ sliced from to vs
sliced_by from to vs v low high m e p q =
    ap (λ (a : Option Value). slice_of v a high) p
    ∙ ap (λ (b : Option Value). slice_of v (end_value vs from 1) b) q ∙ by_ends from to vs v m e
