-- The part at a place of a list, and a walk over the parts of a side and of a term together.
use Rattle.std.proofs.Common.{◌≡◌, ℕ, zero, suc, ◌+◌, ◌<◌, ◌≤◌, List, [], ◌∷◌, ◌++◌, map, drop}
use Rattle.std.proofs.Common.{length, slice_get, Option, Some, None, option_map, refl, sym, ap, ◌∙◌}
use Rattle.std.proofs.Common.{arith, append_assoc, Result, Ok, Err, IfOk}
use Rattle.std.proofs.lemmas.List.{append-nil}
use Rattle.eml_match.specs.declared.bindings.Binding.{Binding}
use Rattle.mpy_tree.specs.declared.tree.Expr.{Expr}
use Rattle.mpy_tree.specs.View.{term_of, terms}
use Rattle.mpy_tree.specs.Shapes.{shape, shapes}
use Rattle.mpy_tree.specs.Trees.{Tree, Trees, node, no_trees, tree_and}
use Rattle.choice_tree.specs.declared.rules.PExpr.{PExpr}
use Rattle.choice_tree.specs.RuleViews.{template_of, templates}
use Rattle.choice_tree.specs.Templates.{Template, Templates, made, hole, one_of, some_local}
use Rattle.choice_tree.specs.Templates.{no_templates, template_and}
use Rattle.choice_tree.specs.Matching.{Bindings, together, matches, matches_all, node_matches}
use Rattle.eml_match.specs.MatchViews.{each_matches, head_matches, bindings_of, binding_of}
use Rattle.eml_match.specs.Parts.{tree_list, parts, template_list, template_parts}

pub expr_at : (xs : List Expr) (i : ℕ) (o : Option Expr) → o ≡ slice_get xs i
    → option_map (λ e. shape (term_of e)) o
    ≡ slice_get (tree_list (shapes (terms (map term_of xs)))) i
expr_at [] i o h = ap (option_map (λ e. shape (term_of e))) h
expr_at (x ∷ xs) zero o h = ap (option_map (λ e. shape (term_of e))) h
expr_at (x ∷ xs) (suc i) o h = expr_at xs i o h

pub pattern_at : (xs : List PExpr) (i : ℕ) (o : Option PExpr) → o ≡ slice_get xs i
    → option_map template_of o ≡ slice_get (template_list (templates (map template_of xs))) i
pattern_at [] i o h = ap (option_map template_of) h
pattern_at (x ∷ xs) zero o h = ap (option_map template_of) h
pattern_at (x ∷ xs) (suc i) o h = pattern_at xs i o h

pub each_is : (ps : Templates) (ts : Trees)
    → each_matches (template_list ps) (tree_list ts) ≡ matches_all ps ts
each_is no_templates no_trees = refl
each_is no_templates (tree_and t ts) = refl
each_is (template_and p ps) no_trees = refl
each_is (template_and p ps) (tree_and t ts) = ap (together (matches p t)) (each_is ps ts)

-- a node that matches goes on with its parts, and one that doesn't matches nothing
pub head_then_parts : (p : Template) (t : Tree) (β : Bindings) → Some β ≡ head_matches p t
    → together (Some β) (each_matches (template_parts p) (parts t)) ≡ matches p t
head_then_parts (made k ps) (node j ts) β h =
    ap (λ b. together b (each_matches (template_list ps) (tree_list ts))) h
    ∙ ap (together (node_matches k j)) (each_is ps ts)
head_then_parts (hole m) t β h = cc
head_then_parts (one_of ps) t β h = cc
head_then_parts (some_local m) t β h = cc

none_together : (b : Option Bindings) → together None b ≡ None
none_together None = refl
none_together (Some β) = refl

-- how large a side is
abbrev mutual
  pub template_size : Template → ℕ
  template_size (made k ps) = suc (templates_size ps)
  template_size (hole m) = 1
  template_size (one_of ps) = 1
  template_size (some_local m) = 1

  pub templates_size : Templates → ℕ
  templates_size no_templates = 0
  templates_size (template_and p ps) = template_size p + templates_size ps

part_smaller : (ps : Templates) (i : ℕ) (q : Template) → Some q ≡ slice_get (template_list ps) i
    → template_size q ≤ templates_size ps
part_smaller no_templates i q h = cc
part_smaller (template_and p ps) zero q h = let e : q ≡ p = cc in rw e (omega arith)
part_smaller (template_and p ps) (suc i) q h = let r = part_smaller ps i q h in omega arith

pub pattern_smaller : (p q : Template) (i : ℕ) → Some q ≡ slice_get (template_parts p) i
    → template_size q < template_size p
pattern_smaller (made k ps) q i h = let r = part_smaller ps i q h in omega arith
pattern_smaller (hole m) q i h = cc
pattern_smaller (one_of ps) q i h = cc
pattern_smaller (some_local m) q i h = cc

pub next_of : {X : Type 0} (xs : List X) (i : ℕ) (x : X) → Some x ≡ slice_get xs i
    → drop i xs ≡ x ∷ drop (suc i) xs
next_of [] i x h = cc
next_of (y ∷ xs) zero x h = let e : x ≡ y = cc in rw e refl
next_of (y ∷ xs) (suc i) x h = next_of xs i x h

pub no_next : {X : Type 0} (xs : List X) (i : ℕ) → None ≡ slice_get xs i → drop i xs ≡ []
no_next [] zero h = refl
no_next [] (suc i) h = refl
no_next (y ∷ xs) zero h = cc
no_next (y ∷ xs) (suc i) h = no_next xs i h

pub is_place : {X : Type 0} (xs : List X) (i : ℕ) (x : X) → Some x ≡ slice_get xs i
    → i < length xs
is_place [] i x h = cc
is_place (y ∷ xs) zero x h = omega arith
is_place (y ∷ xs) (suc i) x h = let r = is_place xs i x h in omega arith

together_twice : (a b : Bindings) (r : Option Bindings)
    → together (Some a) (together (Some b) r) ≡ together (Some (a ++ b)) r
together_twice a b None = refl
together_twice a b (Some c) = ap Some (sym (append_assoc a b c))

-- the parts at a place, and those behind them
pub each_next : (ps : List Template) (ts : List Tree) (i j : ℕ) (q : Template) (t : Tree)
    (all now new more : Bindings) → j ≡ suc i → Some q ≡ slice_get ps i
    → Some t ≡ slice_get ts i → Some more ≡ matches q t → new ≡ now ++ more
    → together (Some all) (each_matches ps ts)
    ≡ together (Some now) (each_matches (drop i ps) (drop i ts))
    → together (Some all) (each_matches ps ts)
    ≡ together (Some new) (each_matches (drop j ps) (drop j ts))
each_next ps ts i j q t all now new more e hp ht found put whole =
    let rest = each_matches (drop (suc i) ps) (drop (suc i) ts) in
    rw (e, put)
    (whole
    ∙ (λ k. together (Some now) (each_matches (next_of ps i q hp k) (next_of ts i t ht k)))
    ∙ ap (λ b. together (Some now) (together b rest)) (sym found)
    ∙ together_twice now more rest)

pub each_end : (ps : List Template) (ts : List Tree) (i : ℕ) (all now : Bindings)
    → None ≡ slice_get ps i → None ≡ slice_get ts i
    → together (Some all) (each_matches ps ts)
    ≡ together (Some now) (each_matches (drop i ps) (drop i ts))
    → Some now ≡ together (Some all) (each_matches ps ts)
each_end ps ts i all now hp ht whole =
    sym (whole
    ∙ (λ k. together (Some now) (each_matches (no_next ps i hp k) (no_next ts i ht k)))
    ∙ ap Some (append-nil now))

pub each_longer : (ps : List Template) (ts : List Tree) (i : ℕ) (t : Tree) (all now : Bindings)
    → None ≡ slice_get ps i → Some t ≡ slice_get ts i
    → together (Some all) (each_matches ps ts)
    ≡ together (Some now) (each_matches (drop i ps) (drop i ts))
    → None ≡ together (Some all) (each_matches ps ts)
each_longer ps ts i t all now hp ht whole =
    sym (whole
    ∙ (λ k. together (Some now) (each_matches (no_next ps i hp k) (next_of ts i t ht k))))

pub each_shorter : (ps : List Template) (ts : List Tree) (i : ℕ) (q : Template)
    (all now : Bindings) → Some q ≡ slice_get ps i → None ≡ slice_get ts i
    → together (Some all) (each_matches ps ts)
    ≡ together (Some now) (each_matches (drop i ps) (drop i ts))
    → None ≡ together (Some all) (each_matches ps ts)
each_shorter ps ts i q all now hp ht whole =
    sym (whole
    ∙ (λ k. together (Some now) (each_matches (next_of ps i q hp k) (no_next ts i ht k))))

pub each_fails : (ps : List Template) (ts : List Tree) (i : ℕ) (q : Template) (t : Tree)
    (all now : Bindings) → Some q ≡ slice_get ps i → Some t ≡ slice_get ts i
    → None ≡ matches q t
    → together (Some all) (each_matches ps ts)
    ≡ together (Some now) (each_matches (drop i ps) (drop i ts))
    → None ≡ together (Some all) (each_matches ps ts)
each_fails ps ts i q t all now hp ht found whole =
    let rest = each_matches (drop (suc i) ps) (drop (suc i) ts) in
    sym (whole
    ∙ (λ k. together (Some now) (each_matches (next_of ps i q hp k) (next_of ts i t ht k)))
    ∙ ap (λ b. together (Some now) (together b rest)) (sym found)
    ∙ ap (together (Some now)) (none_together rest))

pub bound_append : (xs ys : List Binding)
    → bindings_of (xs ++ ys) ≡ bindings_of xs ++ bindings_of ys
bound_append [] ys = refl
bound_append (x ∷ xs) ys = ap (λ bs. binding_of x ∷ bs) (bound_append xs ys)

pub if_ok : {A E : Type 0} {P Q : A → Type 0} (r : Result A E) → ((a : A) → P a → Q a)
    → IfOk r P → IfOk r Q
if_ok (Ok a) f h = f a h
if_ok (Err e) f h = tt
