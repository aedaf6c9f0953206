-- The weighted tree of a program: its bases are the program as it is written, and without rules it
-- is nothing else.
use Rattle.std.proofs.Common.{◌≡◌, ℕ, zero, suc, ◌+◌, Bool, true, false, ◌&&◌, List, [], refl, ap}
use Rattle.std.proofs.Common.{◌∙◌, if◌then◌else◌}
use Rattle.mpy_tree.specs.declared.typing.Fact.{Fact}
use Rattle.mpy_tree.specs.Shapes.{program_shape}
use Rattle.mpy_tree.specs.Syntax.{Routine}
use Rattle.mpy_tree.specs.Trees as kind
use Rattle.mpy_tree.specs.Trees.{Kind, Tree, Trees, node, no_trees, tree_and}
use Rattle.choice_tree.specs.Contexts.{Context, Setting, Sharing, Site, at_assign, at_for, at_if}
use Rattle.choice_tree.specs.Contexts.{at_return, at_while, below, copies, elsewhere, is_copied}
use Rattle.choice_tree.specs.Contexts.{outermost, sharing_below, site_below}
use Rattle.choice_tree.specs.Growing.{grown, node_grown, parts_grown, steps, weighted_program}
use Rattle.choice_tree.specs.Rewriting.{written, written_all}
use Rattle.choice_tree.specs.Typing.{copy_of, is_list_name}
use Rattle.choice_tree.specs.WeightedTrees.{Weighteds, base_of, lifted, lifted_all}
use Rattle.choice_tree.specs.WeightedTrees.{numbered, numbered_all, picks, plainly, weighted_and}
use Rattle.choice_tree.proofs.Numbers.{base_numbered}
use Rattle.choice_tree.proofs.Sound.{grown_based}
use Rattle.typed_trees.specs.TypingLaws.{setting_by}

-- only what stands in an alternative is copied
not_copied : (k : Kind) (i : ℕ) (s : Sharing) → is_copied s ≡ false
    → is_copied (sharing_below k i s) ≡ false
not_copied kind.Cond zero s h = h
not_copied kind.Cond (suc zero) s h = refl
not_copied kind.Cond (suc (suc i)) s h = h
not_copied (kind.Assign line x) i s h = refl
not_copied (kind.Return line) i s h = refl
not_copied (kind.For line x) i s h = refl
not_copied _ i s h = refl

not_both : (a b : Bool) → b ≡ false → (a && b) ≡ false
not_both true b h = h
not_both false b h = refl

otherwise : (b : Bool) (x y : Tree) → b ≡ false → (if b then x else y) ≡ y
otherwise true x y h = absurd cc
otherwise false x y h = refl

mutual
  written_is : (g : Setting) (t : Tree) (c : Context) → is_copied c.sharing ≡ false
      → written g t c ≡ t
  written_is g (node k ts) c h =
      otherwise (copies c (node k ts)) (copy_of (node k ts)) (node k (written_all g ts k 0 c))
      (not_both (is_list_name c.scope (node k ts)) (is_copied c.sharing) h)
      ∙ ap (node k) (all_written g ts k 0 c h)

  all_written : (g : Setting) (ts : Trees) (k : Kind) (i : ℕ) (c : Context)
      → is_copied c.sharing ≡ false → written_all g ts k i c ≡ ts
  all_written g no_trees k i c h = refl
  all_written g (tree_and t ts) k i c h =
      let head = written_is g t (below g k i c) (not_copied k i c.sharing h) in
      let tail = all_written g ts k (suc i) c h in
      λ j. tree_and (head j) (tail j)

-- the bases of the weighted tree of a program are the program
pub base_is : (g : Setting) (p : List Routine) → base_of (weighted_program g p) ≡ program_shape p
base_is g p =
    let t = program_shape p in
    base_numbered (grown g (steps t) elsewhere (outermost g) t) 0
    ∙ grown_based g (steps t) elsewhere (outermost g) t ∙ written_is g t (outermost g) refl

either_lifted : (b : Bool) (t : Tree) (k : Kind) (ws : Weighteds) (ts : Trees)
    → ws ≡ lifted_all ts → (if b then lifted t else plainly k ws) ≡ lifted (if b then t else node k ts)
either_lifted true t k ws ts e = refl
either_lifted false t k ws ts e = ap (plainly k) e

mutual
  numbered_lifted : (t : Tree) (from : ℕ) → numbered (lifted t) from ≡ lifted t
  numbered_lifted (node k ts) from = ap (plainly k) (all_lifted ts from)

  all_lifted : (ts : Trees) (from : ℕ) → numbered_all (lifted_all ts) from ≡ lifted_all ts
  all_lifted no_trees from = refl
  all_lifted (tree_and t ts) from =
      let head = numbered_lifted t from in
      let tail = all_lifted ts (from + picks (lifted t)) in
      λ j. weighted_and (head j) (tail j)

-- without rules
module _ (p : List Routine) (T : List Fact) where
  abbrev alone : Setting
  alone = setting_by [] p T

  abbrev IsLifted : ℕ → Type 0
  IsLifted n =
      (site : Site) (c : Context) (t : Tree) → grown alone n site c t ≡ lifted (written alone t c)

  parts_lifted : (n : ℕ) → IsLifted n → (ts : Trees) (k : Kind) (i : ℕ) (c : Context)
      → parts_grown alone (grown alone n) ts k i c ≡ lifted_all (written_all alone ts k i c)
  parts_lifted n h no_trees k i c = refl
  parts_lifted n h (tree_and t ts) k i c =
      let head = h (site_below k) (below alone k i c) t in
      let tail = parts_lifted n h ts k (suc i) c in
      λ j. weighted_and (head j) (tail j)

  node_lifted : (n : ℕ) → IsLifted n → (c : Context) (t : Tree)
      → node_grown alone (grown alone n) c t ≡ lifted (written alone t c)
  node_lifted n h c (node k ts) =
      either_lifted (copies c (node k ts)) (copy_of (node k ts)) k
      (parts_grown alone (grown alone n) ts k 0 c) (written_all alone ts k 0 c)
      (parts_lifted n h ts k 0 c)

  grown_lifted : (n : ℕ) → IsLifted n
  grown_lifted zero site c t = refl
  grown_lifted (suc n) elsewhere c t = node_lifted n (grown_lifted n) c t
  grown_lifted (suc n) at_return c t = grown_lifted n elsewhere c t
  grown_lifted (suc n) (at_assign x) c t = grown_lifted n elsewhere c t
  grown_lifted (suc n) at_if c t = grown_lifted n elsewhere c t
  grown_lifted (suc n) at_while c t = grown_lifted n elsewhere c t
  grown_lifted (suc n) (at_for x) c t = grown_lifted n elsewhere c t

  -- the weighted tree is the program
  pub without_rules : weighted_program alone p ≡ lifted (program_shape p)
  without_rules =
      let t = program_shape p in
      ap (λ w. numbered w 0) (grown_lifted (steps t) elsewhere (outermost alone) t
      ∙ ap lifted (written_is alone t (outermost alone) refl)) ∙ numbered_lifted t 0
