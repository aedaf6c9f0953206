-- The weighted tree by no rules has no picks.
use Rattle.std.proofs.Common.{◌≡◌, ℕ, zero, suc, ◌+◌, Bool, true, false, ◌&&◌, List, []}
use Rattle.std.proofs.Common.{if◌then◌else◌, refl, ap, ◌∙◌}
use Rattle.std.specs.Prelude.{filter}
use Rattle.mpy_tree.specs.Syntax.{Routine}
use Rattle.mpy_tree.specs.Shapes.{program_shape}
use Rattle.mpy_tree.specs.Trees as kind
use Rattle.mpy_tree.specs.Trees.{Kind, Tree, Trees, node, no_trees, tree_and}
use Rattle.choice_tree.specs.Contexts.{Setting, Site, elsewhere, at_return, at_assign, at_if}
use Rattle.choice_tree.specs.Contexts.{at_while, at_for, Sharing, Context, below, copies, inside}
use Rattle.choice_tree.specs.Contexts.{is_copied, outermost, sharing_below, site_below}
use Rattle.choice_tree.specs.Drafts.{proposals}
use Rattle.choice_tree.specs.Growing.{Growing, alternatives, base_grown, grown, is_alternative}
use Rattle.choice_tree.specs.Growing.{members, node_grown, parts_grown, picked, steps}
use Rattle.choice_tree.specs.Growing.{weighted_program}
use Rattle.choice_tree.specs.Matching.{here}
use Rattle.choice_tree.specs.Rewriting.{written, written_all}
use Rattle.choice_tree.specs.Typing.{copy_of, is_list_name}
use Rattle.choice_tree.specs.WeightedTrees.{lifted, lifted_all, numbered, numbered_all, picks}
use Rattle.choice_tree.specs.WeightedTrees.{plainly, weighted_and}

-- outside of alternatives no name is copied
below_uncopied : (k : Kind) (i : ℕ) (s : Sharing) → is_copied s ≡ false
    → is_copied (sharing_below k i s) ≡ false
below_uncopied kind.Cond zero s h = h
below_uncopied kind.Cond (suc zero) s h = refl
below_uncopied kind.Cond (suc (suc i)) s h = h
below_uncopied (kind.Assign line x) i s h = refl
below_uncopied (kind.Return line) i s h = refl
below_uncopied (kind.For line x) i s h = refl
below_uncopied _ i s h = refl

and_false : (b : Bool) → (b && false) ≡ false
and_false true = refl
and_false false = refl

not_copied : (c : Context) (t : Tree) → is_copied c.sharing ≡ false → copies c t ≡ false
not_copied c t h = rw h (and_false (is_list_name c.scope t))

mutual
  written_plain : (g : Setting) (t : Tree) (c : Context) → is_copied c.sharing ≡ false
      → written g t c ≡ t
  written_plain g (node k ts) c h =
      ap (λ b. if b then copy_of (node k ts) else node k (written_all g ts k 0 c))
      (not_copied c (node k ts) h)
      ∙ ap (node k) (all_written_plain g ts k 0 c h)

  all_written_plain : (g : Setting) (ts : Trees) (k : Kind) (i : ℕ) (c : Context)
      → is_copied c.sharing ≡ false → written_all g ts k i c ≡ ts
  all_written_plain g no_trees k i c h = refl
  all_written_plain g (tree_and t ts) k i c h =
      λ j. tree_and (written_plain g t (below g k i c) (below_uncopied k i c.sharing h) j)
      (all_written_plain g ts k (suc i) c h j)

-- the trees that a way of growing gives have no picks there
abbrev NoPicks : Growing → Type 0
NoPicks grow =
    (site : Site) (c : Context) (t : Tree) → is_copied c.sharing ≡ false → grow site c t ≡ lifted t

parts_lifted : (g : Setting) (grow : Growing) → NoPicks grow → (ts : Trees) (k : Kind) (i : ℕ)
    (c : Context) → is_copied c.sharing ≡ false → parts_grown g grow ts k i c ≡ lifted_all ts
parts_lifted g grow none no_trees k i c h = refl
parts_lifted g grow none (tree_and t ts) k i c h =
    λ j. weighted_and
    (none (site_below k) (below g k i c) t (below_uncopied k i c.sharing h) j)
    (parts_lifted g grow none ts k (suc i) c h j)

node_lifted : (g : Setting) (grow : Growing) → NoPicks grow → (c : Context) (t : Tree)
    → is_copied c.sharing ≡ false → node_grown g grow c t ≡ lifted t
node_lifted g grow none c (node k ts) h =
    ap (λ b. if b then lifted (copy_of (node k ts)) else plainly k (parts_grown g grow ts k 0 c))
    (not_copied c (node k ts) h)
    ∙ ap (plainly k) (parts_lifted g grow none ts k 0 c h)

base_lifted : (g : Setting) (grow : Growing) → NoPicks grow → NoPicks (base_grown g grow)
base_lifted g grow none elsewhere c t h = node_lifted g grow none c t h
base_lifted g grow none at_return c t h = none elsewhere c t h
base_lifted g grow none (at_assign x) c t h = none elsewhere c t h
base_lifted g grow none at_if c t h = none elsewhere c t h
base_lifted g grow none at_while c t h = none elsewhere c t h
base_lifted g grow none (at_for x) c t h = none elsewhere c t h

grown_lifted : (g : Setting) → g.rules ≡ [] → (n : ℕ) → NoPicks (grown g n)
grown_lifted g none zero site c t h = ap lifted (written_plain g t c h)
grown_lifted g none (suc n) site c t h =
    ap (λ rules. picked (base_grown g (grown g n) site c t)
    (members g (grown g n) (inside c)
    (filter (is_alternative c.scope t) (proposals (here site) c.scope rules t)))) none
    ∙ base_lifted g (grown g n) (grown_lifted g none n) site c t h

mutual
  no_numbers : (t : Tree) (from : ℕ) → numbered (lifted t) from ≡ lifted t
  no_numbers (node k ts) from = ap (plainly k) (none_numbered ts from)

  none_numbered : (ts : Trees) (from : ℕ) → numbered_all (lifted_all ts) from ≡ lifted_all ts
  none_numbered no_trees from = refl
  none_numbered (tree_and t ts) from =
      λ j. weighted_and (no_numbers t from j) (none_numbered ts (from + picks (lifted t)) j)

pub program_lifted : (g : Setting) (s : List Routine) → g.rules ≡ []
    → weighted_program g s ≡ lifted (program_shape s)
program_lifted g s none =
    let t = program_shape s in
    ap (λ w. numbered w 0) (grown_lifted g none (steps t) elsewhere (outermost g) t refl)
    ∙ no_numbers t 0
