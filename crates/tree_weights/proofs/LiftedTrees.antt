-- Trees without picks, made one after another.
use Rattle.std.proofs.Common.{◌≡◌, ℕ, zero, suc, ◌+◌, ◌<◌, ◌≤◌, ◌++◌, List, [], ◌∷◌, map, drop}
use Rattle.std.proofs.Common.{slice_get, Some, None, Result, Ok, Err, IfOk, refl, sym, ap, ◌∙◌, arith}
use Rattle.std.proofs.Common.{append_assoc}
use Rattle.std.proofs.lemmas.List.{append-nil}
use Rattle.mpy_tree.specs.Trees.{Tree, Trees, node, no_trees, tree_and, tree_depth, most_depth}
use Rattle.choice_tree.proofs.Walking.{next_of, no_next}
use Rattle.choice_tree.specs.WeightedTrees.{weighted_and, lifted}
use Rattle.choice_tree.specs.WeightedTrees.{lifted_all, plainly}
use Rattle.choice_tree.specs.WeightedViews.{weighteds}
use Rattle.eml_match.specs.Parts.{parts, tree_list}
use Rattle.choice_tree.specs.Heads.{root}

-- of a list one more is made, and then all
pub made_next : {X Y : Type 0} (f : X → Y) (xs : List X) (i j : ℕ) (x : X) (y : Y)
    (built more : List Y) → j ≡ suc i → Some x ≡ slice_get xs i → y ≡ f x
    → more ≡ built ++ y ∷ [] → map f xs ≡ built ++ map f (drop i xs)
    → map f xs ≡ more ++ map f (drop j xs)
made_next f xs i j x y built more e h is put whole =
    whole
    ∙ ap (λ ys. built ++ map f ys) (next_of xs i x h)
    ∙ ap (λ z. built ++ z ∷ map f (drop (suc i) xs)) (sym is)
    ∙ sym (append_assoc built (y ∷ []) (map f (drop (suc i) xs)))
    ∙ ap (λ ys. ys ++ map f (drop (suc i) xs)) (sym put)
    ∙ ap (λ k. more ++ map f (drop k xs)) (sym e)

pub made_all : {X Y : Type 0} (f : X → Y) (xs : List X) (i : ℕ) (built : List Y)
    → None ≡ slice_get xs i → map f xs ≡ built ++ map f (drop i xs) → built ≡ map f xs
made_all f xs i built h whole =
    sym (whole ∙ ap (λ ys. built ++ map f ys) (no_next xs i h) ∙ append-nil built)

-- the parts of a node
pub lifted_parts : (ts : Trees) → weighteds (map lifted (tree_list ts)) ≡ lifted_all ts
lifted_parts no_trees = refl
lifted_parts (tree_and t ts) = ap (weighted_and (lifted t)) (lifted_parts ts)

pub lifted_node : (t : Tree) → plainly (root t) (weighteds (map lifted (parts t))) ≡ lifted t
lifted_node (node k ts) = ap (plainly k) (lifted_parts ts)

part_within : (ts : Trees) (i : ℕ) (d : Tree) → Some d ≡ slice_get (tree_list ts) i
    → tree_depth d ≤ most_depth ts
part_within no_trees i d h = cc
part_within (tree_and t ts) zero d h = let e : d ≡ t = cc in rw e (omega arith)
part_within (tree_and t ts) (suc i) d h = let r = part_within ts i d h in omega arith

pub part_less_deep : (t d : Tree) (i : ℕ) → Some d ≡ slice_get (parts t) i
    → tree_depth d < tree_depth t
part_less_deep (node k ts) d i h = let r = part_within ts i d h in omega arith

pub if_ok : {A E : Type 0} {P Q : A → Type 0} (r : Result A E) → ((a : A) → P a → Q a)
    → IfOk r P → IfOk r Q
if_ok (Ok a) f h = f a h
if_ok (Err e) f h = tt
