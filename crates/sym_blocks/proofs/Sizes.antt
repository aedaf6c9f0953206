-- The parts of a weighted statement have fewer nodes.
use Rattle.std.proofs.Common.{◌≡◌, ◌∙◌, ◌<◌, ◌≤◌, ◌+◌, ℕ, zero, suc, List, [], ◌∷◌, map, length, get_or, sym, ap, arith}
use Rattle.choice_tree.specs.declared.tree.WArm.{WArm, out-WArm}
use Rattle.choice_tree.specs.declared.tree.WArms.{WArms, out-WArms}
use Rattle.choice_tree.specs.declared.tree.WStmt.{WStmt}
use Rattle.choice_tree.specs.declared.tree.WStmts.{WStmts, out-WStmts}
use Rattle.choice_tree.specs.StatementViews.{arms_before, weighted_arm, weighted_arms, weighted_body, weighted_stmt}
use Rattle.choice_tree.specs.WeightedTrees.{Weighted, Weighteds, nodes, nodes_in}
use Rattle.choice_tree.specs.WeightedViews.{weighted_of, weighteds}
use Rattle.sym_blocks.proofs.Views.{arm_is, arms_are, body_is}

part_smaller : {A : Type 0} (f : A → Weighted) (xs : List A) (i : ℕ) (x : A) → i < length xs → x ≡ get_or xs i x → nodes (f x) ≤ nodes_in (weighteds (map f xs))
part_smaller f [] i x h e = absurd (omega arith)
part_smaller f (y ∷ xs) zero x h e = let same : nodes (f x) ≡ nodes (f y) = ap (λ z. nodes (f z)) e in omega (arith, same)
part_smaller f (y ∷ xs) (suc i) x h e = let rest = part_smaller f xs i x (omega arith) e in omega (arith, rest)

pub stmt_smaller : (b : WStmts) (items : List WStmt) (i : ℕ) (s : WStmt) → items ≡ (out-WStmts b).items.items → i < length items → s ≡ get_or items i s → nodes (weighted_stmt s) < nodes (weighted_body b)
stmt_smaller b items i s is h e =
    let less = part_smaller weighted_stmt items i s h e in
    let view : nodes (weighted_body b) ≡ suc (nodes_in (weighteds (map weighted_stmt items))) =
    ap nodes (body_is b) ∙ ap (λ (xs : List WStmt). suc (nodes_in (weighteds (map weighted_stmt xs)))) (sym is) in
    omega (arith, less, view)

arm_smaller_in : {A : Type 0} (f : A → Weighted) (xs : List A) (ws : Weighteds) (i : ℕ) (x : A) → i < length xs → x ≡ get_or xs i x → nodes (f x) ≤ nodes_in (arms_before (map f xs) ws)
arm_smaller_in f [] ws i x h e = absurd (omega arith)
arm_smaller_in f (y ∷ xs) ws zero x h e = let same : nodes (f x) ≡ nodes (f y) = ap (λ z. nodes (f z)) e in omega (arith, same)
arm_smaller_in f (y ∷ xs) ws (suc i) x h e = let rest = arm_smaller_in f xs ws i x (omega arith) e in omega (arith, rest)

pub arm_smaller : (b : WArms) (items : List WArm) (ws : Weighteds) (i : ℕ) (a : WArm) → items ≡ (out-WArms b).items.items → i < length items → a ≡ get_or items i a → nodes (weighted_arm a) ≤ nodes_in (arms_before (weighted_arms b) ws)
arm_smaller b items ws i a is h e =
    let less = arm_smaller_in weighted_arm items ws i a h e in
    let view : nodes_in (arms_before (weighted_arms b) ws) ≡ nodes_in (arms_before (map weighted_arm items) ws) =
    ap (λ (xs : List Weighted). nodes_in (arms_before xs ws)) (arms_are b) ∙ ap (λ (xs : List WArm). nodes_in (arms_before (map weighted_arm xs) ws)) (sym is) in
    omega (arith, less, view)

pub else_smaller : (xs : List Weighted) (ws : Weighteds) → nodes_in ws ≤ nodes_in (arms_before xs ws)
else_smaller [] ws = omega arith
else_smaller (x ∷ xs) ws = let rest = else_smaller xs ws in omega (arith, rest)

pub body_smaller : (a : WArm) → nodes (weighted_body (out-WArm a).body) < nodes (weighted_arm a)
body_smaller a = let view : nodes (weighted_arm a) ≡ suc (nodes (weighted_of (out-WArm a).test) + (nodes (weighted_body (out-WArm a).body) + 0)) = ap nodes (arm_is a) in omega (arith, view)
