-- Which programs the rules make of a program, at which cost, and by which edits.
use Rattle.std.specs.Prelude.{◌≡◌, ◌⊎◌, ℕ, suc, ◌+◌, true, false, if◌then◌else◌, List}
use Rattle.std.specs.Prelude.{[], ◌∷◌, ◌++◌}
use Rattle.mpy_tree.specs.Syntax.{Routine}
use Rattle.mpy_tree.specs.Trees.{Kind, Tree, Trees, node, no_trees, tree_and}
use Rattle.mpy_tree.specs.Shapes.{program_shape}
use Rattle.choice_tree.specs.Typing.{type_of, same_type, copy_of}
use Rattle.choice_tree.specs.Contexts.{Setting, Site, elsewhere, Context, site_below, line_below}
use Rattle.choice_tree.specs.Contexts.{below, inside, copies, outermost}
use Rattle.choice_tree.specs.Matching.{without_place, with_place}
use Rattle.choice_tree.specs.Drafts.{Draft, Drafts, as_is, again, no_drafts, draft_and, filled}
use Rattle.choice_tree.specs.Drafts.{Proposal, proposals}

-- A replacement on a line by a rule, counted from 0: the term that was there, and the one that is
-- there afterwards.
pub record Edit : Type 0 where
  pub line : ℕ
  pub rule : ℕ
  pub old : Tree
  pub new : Tree

-- a is in the list
abbrev pub In : {A : Type 0} → A → List A → Type 0
In a [] = ⊥
In a (x ∷ xs) = (a ≡ x) ⊎ In a xs

-- a term as it is written where it stands
abbrev mutual
  pub written : Setting → Tree → Context → Tree
  written g (node k ts) c =
      if copies c (node k ts) then copy_of (node k ts) else node k (written_all g ts k 0 c)

  pub written_all : Setting → Trees → Kind → ℕ → Context → Trees
  written_all g no_trees k i c = no_trees
  written_all g (tree_and t ts) k i c =
      tree_and (written g t (below g k i c)) (written_all g ts k (suc i) c)

-- what a rule makes on a line
abbrev pub edit_by : ℕ → ℕ → Tree → Tree → Edit
edit_by line rule old new = record { line = line; rule = rule; old = old; new = new }

abbrev pub edit : Setting → ℕ → Context → ℕ → Tree → Tree → Edit
edit g line c rule t t' = edit_by line rule (written g t c) t'

mutual
  -- The rules make t' of t at this cost, by these edits: from left to right, an outer one before
  -- its inner ones.
  pub data Rewrites (g : Setting)
      : Site → ℕ → Context → Tree → Tree → ℕ → List Edit → Type 0 where
    -- the node stays, and its parts are rewritten where they stand
    kept : {site : Site} {line : ℕ} {c : Context} {k : Kind} {ts ts' : Trees} {n : ℕ}
        {es : List Edit}
        → copies c (node k ts) ≡ false
        → RewritesAll g k 0 (line_below k line) c ts ts' n es
        → Rewrites g site line c (node k ts) (node k ts') n es
    -- the name of a list stays, as a copy, in an alternative that would share the list
    copied : {site : Site} {line : ℕ} {c : Context} {k : Kind} {ts : Trees}
        → copies c (node k ts) ≡ true
        → Rewrites g site line c (node k ts) (copy_of (node k ts)) 0 []
    -- a rule without a place replaces the term by one of its type
    replaced : {site : Site} {line : ℕ} {c : Context} {t t' : Tree} {n : ℕ} {es : List Edit}
        (p : Proposal)
        → In p (proposals without_place c.scope g.rules t)
        → Finishes g line (inside c) p.draft t' n es
        → same_type (type_of c.scope t') (type_of c.scope t) ≡ true
        → Rewrites g site line c t t' (p.cost + n) (edit g line c p.rule t t' ∷ es)
    -- a rule with the place of this site does so
    replaced_at : {site : Site} {line : ℕ} {c : Context} {t t' : Tree} {n : ℕ} {es : List Edit}
        (p : Proposal)
        → In p (proposals (with_place site) c.scope g.rules t)
        → Finishes g line (inside c) p.draft t' n es
        → same_type (type_of c.scope t') (type_of c.scope t) ≡ true
        → Rewrites g site line c t t' (p.cost + n) (edit g line c p.rule t t' ∷ es)

  -- each part of a node, from the one at place i on
  pub data RewritesAll (g : Setting)
      : Kind → ℕ → ℕ → Context → Trees → Trees → ℕ → List Edit → Type 0 where
    none : {k : Kind} {i : ℕ} {line : ℕ} {c : Context}
        → RewritesAll g k i line c no_trees no_trees 0 []
    each : {k : Kind} {i : ℕ} {line : ℕ} {c : Context} {t t' : Tree} {ts ts' : Trees}
        {n m : ℕ} {es fs : List Edit}
        → Rewrites g (site_below k) line (below g k i c) t t' n es
        → RewritesAll g k (suc i) line c ts ts' m fs
        → RewritesAll g k i line c (tree_and t ts) (tree_and t' ts') (n + m) (es ++ fs)

  -- a draft becomes a term: its parts that are to be rewritten again are
  pub data Finishes (g : Setting)
      : ℕ → Context → Draft → Tree → ℕ → List Edit → Type 0 where
    made : {line : ℕ} {c : Context} {k : Kind} {ds : Drafts} {ts : Trees} {n : ℕ}
        {es : List Edit}
        → copies c (filled (as_is k ds)) ≡ false
        → FinishesAll g k 0 (line_below k line) c ds ts n es
        → Finishes g line c (as_is k ds) (node k ts) n es
    made_a_copy : {line : ℕ} {c : Context} {k : Kind} {ds : Drafts}
        → copies c (filled (as_is k ds)) ≡ true
        → Finishes g line c (as_is k ds) (copy_of (filled (as_is k ds))) 0 []
    rewritten : {line : ℕ} {c : Context} {t t' : Tree} {n : ℕ} {es : List Edit}
        → Rewrites g elsewhere line c t t' n es
        → Finishes g line c (again t) t' n es

  pub data FinishesAll (g : Setting)
      : Kind → ℕ → ℕ → Context → Drafts → Trees → ℕ → List Edit → Type 0 where
    finished : {k : Kind} {i : ℕ} {line : ℕ} {c : Context}
        → FinishesAll g k i line c no_drafts no_trees 0 []
    and_all : {k : Kind} {i : ℕ} {line : ℕ} {c : Context} {d : Draft} {t : Tree} {ds : Drafts}
        {ts : Trees} {n m : ℕ} {es fs : List Edit}
        → Finishes g line (below g k i c) d t n es
        → FinishesAll g k (suc i) line c ds ts m fs
        → FinishesAll g k i line c (draft_and d ds) (tree_and t ts) (n + m) (es ++ fs)

-- the rules make the program p of s
abbrev pub IsRewriting :
    Setting → List Routine → List Routine → ℕ → List Edit → Type 0
IsRewriting g s p n es =
    Rewrites g elsewhere 0 (outermost g) (program_shape s) (program_shape p) n es
