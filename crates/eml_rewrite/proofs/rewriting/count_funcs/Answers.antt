use Rattle.std.proofs.Common.{◌≡◌, ℕ, suc, ◌+◌, ◌≤◌, List, Some, slice_get, ap, drop, arith}
use Rattle.choice_tree.specs.WeightedTrees.{Weighted, size, sizes}
use Rattle.eml_match.proofs.Places.{is_place}
use Rattle.eml_rewrite.specs.Programs.{setting_of}
use Rattle.eml_rewrite.proofs.Appending.{each_from, each_next}
use Rattle.eml_rewrite.proofs.Programs.{func_tree, funcs_each}
use Rattle.eml_rewrite.proofs.rewriting.count_funcs.Goals as goal

next_counted : {X : Type 0} (f : ℕ → X → Weighted) (xs : List X) (i j : ℕ) (x : X)
    (n m k all : ℕ) → j ≡ suc i → Some x ≡ slice_get xs i → m ≤ size (f i x) → k ≤ n + m
    → n + sizes (each_from f i (drop i xs)) ≤ all → k + sizes (each_from f j (drop j xs)) ≤ all
next_counted f xs i j x n m k all s h few sum front =
    let next = ap sizes (each_next f xs i x h) in rw s (omega arith)

pub funcs-init : goal.funcs-init
funcs-init g c =
    let fs = c.args.scopes.now.funcs.now in
    let σ = setting_of (g.K.Known.gives c.args.known.now) c.args.rules.now fs in
    let all = ap sizes (funcs_each σ fs) in
    omega arith

pub funcs-smaller : goal.funcs-smaller
funcs-smaller g c =
    let below =
    is_place c.args.scopes.now.funcs.now c.funcs.i c.in-Some.func.now c.in-Some.ensures.part in
    omega (arith, below)

pub funcs-preserved : goal.funcs-preserved
funcs-preserved g c =
    let fs = c.args.scopes.now.funcs.now in
    let σ = setting_of (g.K.Known.gives c.args.known.now) c.args.rules.now fs in
    next_counted (func_tree σ) fs c.funcs.i (c.funcs.i + 1) c.in-Some.func.now c.funcs.nodes
    c.in_ok-more-in-Some.more c.saturating_add-nodes.result _ (omega arith)
    c.in-Some.ensures.part c.in_ok-more-in-Some.ensures (omega arith) c.funcs.invariant
