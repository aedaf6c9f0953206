-- What rules propose for a whole term are whole terms.
use Rattle.std.proofs.Common.{◌≡◌, ℕ, suc, Bool, true, false, List, [], ◌∷◌, map, refl, sym}
use Rattle.std.proofs.Common.{ap, subst, Option, Some, None}
use Rattle.std.specs.Prelude.{if◌then◌else◌, flat_map}
use Rattle.std.proofs.lemmas.List.Elements.{All-head, All-tail}
use Rattle.mpy_tree.specs.Trees as kind
use Rattle.mpy_tree.specs.Trees.{Kind, Tree, Trees, node, no_trees, tree_and, leaf}
use Rattle.choice_tree.specs.declared.rules.Meta.{Meta}
use Rattle.choice_tree.specs.declared.rules.Place.{Place}
use Rattle.choice_tree.specs.declared.rules.Place.TheVariants as P
use Rattle.choice_tree.specs.Contexts.{Site, elsewhere, at_return, at_assign, at_if, at_while}
use Rattle.choice_tree.specs.Contexts.{at_for}
use Rattle.choice_tree.specs.Drafts.{Draft, Drafts, again, as_is, bound_operator, bound_term}
use Rattle.choice_tree.specs.Drafts.{draft_and, draft_of, drafts_of, filled, filled_all}
use Rattle.choice_tree.specs.Drafts.{local_draft, locals_like, no_drafts, node_drafts}
use Rattle.choice_tree.specs.Drafts.{node_resolutions, operator_in, proposal, proposals}
use Rattle.choice_tree.specs.Drafts.{proposals_from, resolutions, resolutions_all}
use Rattle.choice_tree.specs.Drafts.{resolutions_of_each, resolved, same_meta, term_in}
use Rattle.choice_tree.specs.Heads.{HasParts}
use Rattle.choice_tree.specs.Matching.{Bindings, Bound, a_term, an_operator, bind_if}
use Rattle.choice_tree.specs.Matching.{here, matches, matches_all, node_matches, only_if, takes}
use Rattle.choice_tree.specs.Matching.{together}
use Rattle.choice_tree.specs.Templates.{Correction, NodeTemplate, Template, Templates, exactly}
use Rattle.choice_tree.specs.Templates.{hole, made, no_templates, one_arith, one_comparison}
use Rattle.choice_tree.specs.Templates.{one_of, some_arith, some_comparison, some_local}
use Rattle.choice_tree.specs.Templates.{template_and}
use Rattle.choice_tree.specs.Typing.{Scope}
use Rattle.choice_tree.proofs.Lists.{Each, each_any, each_append, each_flat_map, each_map}
use Rattle.typed_trees.specs.Wholes.{AreWhole, AreWholeSides, IsWhole, IsWholeSide, MakeWholes}
use Rattle.typed_trees.specs.Wholes.{TemplateHasParts, part_count, side_count}

-- a term is whole, and an operator has two parts
abbrev IsWholeBound : Bound → Type 0
IsWholeBound (a_term t) = IsWhole t
IsWholeBound (an_operator k) = HasParts k 2

abbrev BindWholes : Bindings → Type 0
BindWholes β = Each (λ b. IsWholeBound b.bound) β

-- what is bound where there are bindings
abbrev WholeIfAny : Option Bindings → Type 0
WholeIfAny None = Unit {0}
WholeIfAny (Some β) = BindWholes β

whole_together : (a b : Option Bindings) → WholeIfAny a → WholeIfAny b → WholeIfAny (together a b)
whole_together (Some a) (Some b) h k = each_append (λ b. IsWholeBound b.bound) a b h k
whole_together (Some a) None h k = tt
whole_together None (Some b) h k = tt
whole_together None None h k = tt

only_whole : (b : Bool) → WholeIfAny (only_if b)
only_whole true = tt
only_whole false = tt

bound_whole : (b : Bool) (m : Meta) (x : Bound) → IsWholeBound x → WholeIfAny (bind_if b m x)
bound_whole true m x h = (h, tt)
bound_whole false m x h = tt

node_whole : (k : NodeTemplate) (j : Kind) → WholeIfAny (node_matches k j)
node_whole (exactly k) j = only_whole _
node_whole (one_arith ops) (kind.Arith op) = only_whole _
node_whole (one_comparison ops) (kind.Cmp op) = only_whole _
node_whole (some_arith m) (kind.Arith op) = bound_whole _ m (an_operator (kind.Arith op)) refl
node_whole (some_comparison m) (kind.Cmp op) = bound_whole _ m (an_operator (kind.Cmp op)) refl
node_whole _ _ = tt

mutual
  matches_whole : (p : Template) (t : Tree) → IsWhole t → WholeIfAny (matches p t)
  matches_whole (made k ps) (node j ts) h =
      whole_together (node_matches k j) (matches_all ps ts) (node_whole k j)
      (matches_all_whole ps ts h.1)
  matches_whole (hole m) (node j ts) h = bound_whole (takes m.letter j) m (a_term (node j ts)) h
  matches_whole (one_of ps) t h = tt
  matches_whole (some_local m) t h = tt

  matches_all_whole : (ps : Templates) (ts : Trees) → AreWhole ts → WholeIfAny (matches_all ps ts)
  matches_all_whole no_templates no_trees h = tt
  matches_all_whole no_templates (tree_and t ts) h = tt
  matches_all_whole (template_and p ps) no_trees h = tt
  matches_all_whole (template_and p ps) (tree_and t ts) h =
      whole_together (matches p t) (matches_all ps ts) (matches_whole p t h.0)
      (matches_all_whole ps ts h.1)

-- the target of a place
place_whole : (site : Site) (p : Place) → WholeIfAny (here site p)
place_whole elsewhere P.Anywhere = tt
place_whole at_return P.Return = tt
place_whole (at_assign x) (P.Assign m) = ((refl, tt), tt)
place_whole at_if P.If = tt
place_whole at_while P.While = tt
place_whole (at_for x) (P.For m) = ((refl, tt), tt)
place_whole _ _ = tt

-- what a metavariable stands for
either : {A : Type 0} (P : A → Type 0) (b : Bool) (xs ys : List A) → Each P xs → Each P ys
    → Each P (if b then xs else ys)
either P true xs ys h k = h
either P false xs ys h k = k

terms_in : (x : Bound) → IsWholeBound x → Each IsWhole (term_in x)
terms_in (a_term t) h = (h, tt)
terms_in (an_operator k) h = tt

operators_in : (x : Bound) → IsWholeBound x → Each (λ k. HasParts k 2) (operator_in x)
operators_in (a_term t) h = tt
operators_in (an_operator k) h = (h, tt)

terms_bound : (β : Bindings) (m : Meta) → BindWholes β → Each IsWhole (bound_term β m)
terms_bound [] m h = tt
terms_bound (b ∷ bs) m h =
    either IsWhole (same_meta b.meta m) (term_in b.bound) (bound_term bs m) (terms_in b.bound h.0)
    (terms_bound bs m h.1)

operators_bound : (β : Bindings) (m : Meta) → BindWholes β
    → Each (λ k. HasParts k 2) (bound_operator β m)
operators_bound [] m h = tt
operators_bound (b ∷ bs) m h =
    either (λ k. HasParts k 2) (same_meta b.meta m) (operator_in b.bound) (bound_operator bs m)
    (operators_in b.bound h.0) (operators_bound bs m h.1)

-- each node that a node of a side may be has as many parts
kinds_fit : (β : Bindings) (k : NodeTemplate) (n : ℕ) → BindWholes β → TemplateHasParts k n
    → Each (λ j. HasParts j n) (node_resolutions β k)
kinds_fit β (exactly k) n h e = (e, tt)
kinds_fit β (one_arith ops) n h e =
    each_map (λ op. Unit {0}) (λ j. HasParts j n) kind.Arith ops (λ op u. e)
    (each_any (λ op. Unit {0}) ops (λ op. tt))
kinds_fit β (one_comparison ops) n h e =
    each_map (λ op. Unit {0}) (λ j. HasParts j n) kind.Cmp ops (λ op u. e)
    (each_any (λ op. Unit {0}) ops (λ op. tt))
kinds_fit β (some_arith m) n h e =
    subst (λ i. Each (λ j. HasParts j i) (bound_operator β m)) (sym e) (operators_bound β m h)
kinds_fit β (some_comparison m) n h e =
    subst (λ i. Each (λ j. HasParts j i) (bound_operator β m)) (sym e) (operators_bound β m h)

-- a draft that is the term
mutual
  filled_back : (t : Tree) → filled (draft_of t) ≡ t
  filled_back (node k ts) = ap (node k) (all_filled_back ts)

  all_filled_back : (ts : Trees) → filled_all (drafts_of ts) ≡ ts
  all_filled_back no_trees = refl
  all_filled_back (tree_and t ts) = λ i. tree_and (filled_back t i) (all_filled_back ts i)

-- a draft whose instance is whole, and drafts of so many parts
abbrev MakesWhole : Draft → Type 0
MakesWhole d = IsWhole (filled d)

abbrev MakeSoMany : ℕ → Drafts → Type 0
MakeSoMany n ds = AreWhole (filled_all ds) × (part_count (filled_all ds) ≡ n)

hole_whole : (β : Bindings) (m : Meta) (b : Bool) → BindWholes β
    → Each MakesWhole (map (if b then again else draft_of) (bound_term β m))
hole_whole β m true h =
    each_map IsWhole MakesWhole again (bound_term β m) (λ t w. w) (terms_bound β m h)
hole_whole β m false h =
    each_map IsWhole MakesWhole draft_of (bound_term β m)
    (λ t w. subst IsWhole (sym (filled_back t)) w) (terms_bound β m h)

mutual
  resolutions_whole : (p : Template) (σ : Scope) (β : Bindings) → BindWholes β → IsWholeSide p
      → Each MakesWhole (resolutions σ β p)
  resolutions_whole (made k no_templates) σ β h w =
      each_map (λ j. HasParts j 0) MakesWhole (λ j. as_is j no_drafts) (node_resolutions β k)
      (λ j e. (e, tt)) (kinds_fit β k 0 h w.0)
  resolutions_whole (made k (template_and p ps)) σ β h w =
      each_flat_map MakesWhole MakesWhole
      (λ d. flat_map (node_drafts d (resolutions_all σ β ps)) (node_resolutions β k))
      (resolutions σ β p)
      (λ d dw. each_flat_map (λ j. HasParts j (suc (side_count ps))) MakesWhole
      (node_drafts d (resolutions_all σ β ps)) (node_resolutions β k)
      (λ j e. each_map (MakeSoMany (side_count ps)) MakesWhole (λ ds. as_is j (draft_and d ds))
      (resolutions_all σ β ps)
      (λ ds dsw. (subst (HasParts j) (ap suc (sym dsw.1)) e, (dw, dsw.0)))
      (all_whole ps σ β h w.1.1))
      (kinds_fit β k (suc (side_count ps)) h w.0))
      (resolutions_whole p σ β h w.1.0)
  resolutions_whole (hole m) σ β h w = hole_whole β m m.primed h
  resolutions_whole (one_of ps) σ β h w = each_whole ps σ β h w
  resolutions_whole (some_local m) σ β h w =
      each_flat_map (λ t. Unit {0}) MakesWhole (λ t. map local_draft (locals_like σ t))
      (bound_term β m)
      (λ t u. each_map (λ x. Unit {0}) MakesWhole local_draft (locals_like σ t)
      (λ x e. (refl, tt)) (each_any (λ x. Unit {0}) (locals_like σ t) (λ x. tt)))
      (each_any (λ t. Unit {0}) (bound_term β m) (λ t. tt))

  all_whole : (ps : Templates) (σ : Scope) (β : Bindings) → BindWholes β → AreWholeSides ps
      → Each (MakeSoMany (side_count ps)) (resolutions_all σ β ps)
  all_whole no_templates σ β h w = ((tt, refl), tt)
  all_whole (template_and p ps) σ β h w =
      each_flat_map MakesWhole (MakeSoMany (suc (side_count ps)))
      (λ d. map (draft_and d) (resolutions_all σ β ps)) (resolutions σ β p)
      (λ d dw. each_map (MakeSoMany (side_count ps)) (MakeSoMany (suc (side_count ps)))
      (draft_and d) (resolutions_all σ β ps) (λ ds dsw. ((dw, dsw.0), ap suc dsw.1))
      (all_whole ps σ β h w.1))
      (resolutions_whole p σ β h w.0)

  each_whole : (ps : Templates) (σ : Scope) (β : Bindings) → BindWholes β → AreWholeSides ps
      → Each MakesWhole (resolutions_of_each σ β ps)
  each_whole no_templates σ β h w = tt
  each_whole (template_and p ps) σ β h w =
      each_append MakesWhole (resolutions σ β p) (resolutions_of_each σ β ps)
      (resolutions_whole p σ β h w.0) (each_whole ps σ β h w.1)

resolved_whole : (right : Template) (σ : Scope) (b : Option Bindings) → WholeIfAny b
    → IsWholeSide right → Each MakesWhole (resolved σ right b)
resolved_whole right σ None h w = tt
resolved_whole right σ (Some β) h w = resolutions_whole right σ β h w

-- the proposals of the rules from the one with this number on
proposed_whole : (site : Site) (σ : Scope) (t : Tree) (i : ℕ) (rules : List Correction)
    → MakeWholes rules → IsWhole t
    → Each (λ p. MakesWhole p.draft) (proposals_from (here site) σ t i rules)
proposed_whole site σ t i [] w h = tt
proposed_whole site σ t i (r ∷ rs) w h =
    let found = together (here site r.place) (matches r.left t) in
    let bound =
    whole_together (here site r.place) (matches r.left t) (place_whole site r.place)
    (matches_whole r.left t h) in
    each_append (λ p. MakesWhole p.draft) (map (proposal i r.cost) (resolved σ r.right found))
    (proposals_from (here site) σ t (suc i) rs)
    (each_map MakesWhole (λ p. MakesWhole p.draft) (proposal i r.cost) (resolved σ r.right found)
    (λ d k. k) (resolved_whole r.right σ found bound (All-head (λ q. IsWholeSide q.right) r rs w)))
    (proposed_whole site σ t (suc i) rs (All-tail (λ q. IsWholeSide q.right) r rs w) h)

pub wholes_proposed : (site : Site) (σ : Scope) (rules : List Correction) (t : Tree)
    → MakeWholes rules → IsWhole t
    → Each (λ p. MakesWhole p.draft) (proposals (here site) σ rules t)
wholes_proposed site σ rules t w h = proposed_whole site σ t 0 rules w h
