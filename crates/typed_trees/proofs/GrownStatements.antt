-- No rule is tried at a statement: its weighted tree is the statement over those of its parts.
use Rattle.std.proofs.Common.{◌≡◌, ℕ, zero, suc, Bool, true, false, List, [], ◌∷◌, filter, refl}
use Rattle.std.proofs.Common.{ap, ◌∙◌, cond, Option, Some, None}
use Rattle.std.specs.Prelude.{if◌then◌else◌}
use Rattle.mpy_tree.specs.declared.typing.Ty.{Ty}
use Rattle.mpy_tree.specs.Trees.{Kind, Tree, Trees, node, no_trees, tree_and}
use Rattle.choice_tree.specs.Contexts.{Context, Setting, Site, at_assign, at_for, at_if, at_return}
use Rattle.choice_tree.specs.Contexts.{at_while, below, copies, elsewhere, inside}
use Rattle.choice_tree.specs.Drafts.{Proposal, filled, proposals}
use Rattle.choice_tree.specs.Growing.{Growing, alternatives, grown, is_alternative, members}
use Rattle.choice_tree.specs.Growing.{node_grown, parts_grown, picked}
use Rattle.choice_tree.specs.Matching.{here}
use Rattle.choice_tree.specs.Rewriting.{written_all}
use Rattle.choice_tree.specs.Typing.{Scope, copy_of, same_type, type_of}
use Rattle.choice_tree.specs.WeightedTrees.{Weighted, Weighteds, lifted, lifted_all, plainly}
use Rattle.choice_tree.specs.WeightedTrees.{weighted_and}

never_same : (o : Option Ty) → same_type o None ≡ false
never_same None = refl
never_same (Some t) = refl

none_pass : (σ : Scope) (t : Tree) (ps : List Proposal) → type_of σ t ≡ None
    → filter (is_alternative σ t) ps ≡ []
none_pass σ t [] e = refl
none_pass σ t (p ∷ ps) e =
    let refused =
    ap (same_type (type_of σ (filled p.draft))) e ∙ never_same (type_of σ (filled p.draft)) in
    let rest = filter (is_alternative σ t) ps in
    ap (λ b. cond b (p ∷ rest) rest) refused ∙ none_pass σ t ps e

-- what has no type has no alternatives
alone : (g : Setting) (grow : Growing) (site : Site) (c : Context) (t : Tree) (base : Weighted)
    → type_of c.scope t ≡ None
    → picked base (members g grow (inside c) (alternatives g (here site) c t)) ≡ base
alone g grow site c t base e =
    ap (λ ps. picked base (members g grow (inside c) ps))
    (none_pass c.scope t (proposals (here site) c.scope g.rules t) e)

written_parts : (g : Setting) (ts : Trees) (k : Kind) (i : ℕ) (c : Context)
    → lifted_all (written_all g ts k i c) ≡ parts_grown g (grown g zero) ts k i c
written_parts g no_trees k i c = refl
written_parts g (tree_and t ts) k i c =
    ap (weighted_and (grown g zero elsewhere (below g k i c) t)) (written_parts g ts k (suc i) c)

either_written : (k : Kind) (ts us : Trees) (b : Bool) → b ≡ false
    → lifted (if b then copy_of (node k ts) else node k us) ≡ plainly k (lifted_all us)
either_written k ts us true e = cc
either_written k ts us false e = refl

either_grown : (k : Kind) (ts : Trees) (ws : Weighteds) (b : Bool) → b ≡ false
    → (if b then lifted (copy_of (node k ts)) else plainly k ws) ≡ plainly k ws
either_grown k ts ws true e = cc
either_grown k ts ws false e = refl

-- a node over parts that grow by so many steps
abbrev pub GrownOver : Setting → Context → Kind → Trees → Weighted → Type 0
GrownOver g c k ts w = (m : ℕ) × (w ≡ plainly k (parts_grown g (grown g m) ts k 0 c))

placed_grown : (g : Setting) (n : ℕ) (site : Site) (c : Context) (k : Kind) (ts : Trees)
    → type_of c.scope (node k ts) ≡ None → GrownOver g c k ts (grown g n elsewhere c (node k ts))
    → GrownOver g c k ts (picked (grown g n elsewhere c (node k ts))
    (members g (grown g n) (inside c) (alternatives g (here site) c (node k ts))))
placed_grown g n site c k ts e h =
    (h.0, alone g (grown g n) site c (node k ts) (grown g n elsewhere c (node k ts)) e ∙ h.1)

pub statement_grown : (g : Setting) (n : ℕ) (site : Site) (c : Context) (k : Kind) (ts : Trees)
    → type_of c.scope (node k ts) ≡ None → copies c (node k ts) ≡ false
    → GrownOver g c k ts (grown g n site c (node k ts))
statement_grown g zero site c k ts e h = (
  0,
  either_written k ts (written_all g ts k 0 c) (copies c (node k ts)) h
      ∙ ap (plainly k) (written_parts g ts k 0 c),
)
statement_grown g (suc n) elsewhere c k ts e h = (
  n,
  alone g (grown g n) elsewhere c (node k ts) (node_grown g (grown g n) c (node k ts)) e
      ∙ either_grown k ts (parts_grown g (grown g n) ts k 0 c) (copies c (node k ts)) h,
)
statement_grown g (suc n) at_return c k ts e h =
    placed_grown g n at_return c k ts e (statement_grown g n elsewhere c k ts e h)
statement_grown g (suc n) (at_assign x) c k ts e h =
    placed_grown g n (at_assign x) c k ts e (statement_grown g n elsewhere c k ts e h)
statement_grown g (suc n) at_if c k ts e h =
    placed_grown g n at_if c k ts e (statement_grown g n elsewhere c k ts e h)
statement_grown g (suc n) at_while c k ts e h =
    placed_grown g n at_while c k ts e (statement_grown g n elsewhere c k ts e h)
statement_grown g (suc n) (at_for x) c k ts e h =
    placed_grown g n (at_for x) c k ts e (statement_grown g n elsewhere c k ts e h)
