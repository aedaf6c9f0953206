-- The parts of an alternative that are rewritten again are smaller than the term that it replaces.
use Rattle.std.proofs.Common.{◌≡◌, ℕ, suc, ◌≤◌, Bool, true, false, ◌||◌}
use Rattle.std.proofs.Common.{if◌then◌else◌, List, [], ◌∷◌, ◌++◌, map, Option, Some, None, refl}
use Rattle.std.proofs.Common.{arith}
use Rattle.std.specs.Prelude.{flat_map}
use Rattle.mpy_tree.specs.Trees as kind
use Rattle.mpy_tree.specs.Trees.{Kind, Tree, Trees, node, no_trees, tree_and, leaf}
use Rattle.choice_tree.specs.Templates.{NodeTemplate, exactly, one_arith, one_comparison}
use Rattle.choice_tree.specs.Templates.{some_arith, some_comparison, Template, Templates, made}
use Rattle.choice_tree.specs.Templates.{hole, one_of, some_local, no_templates, template_and}
use Rattle.choice_tree.specs.Templates.{Correction, has_prime, any_prime, KeepsPrimes, KeepPrimes}
use Rattle.choice_tree.specs.declared.rules.Meta.{Meta}
use Rattle.choice_tree.specs.declared.rules.Place.{Place}
use Rattle.choice_tree.specs.declared.rules.Place.TheVariants as P
use Rattle.choice_tree.specs.Typing.{Scope}
use Rattle.choice_tree.specs.Contexts.{Site, at_return, at_assign, at_if, at_while}
use Rattle.choice_tree.specs.Contexts.{at_for}
use Rattle.choice_tree.specs.Matching.{Bound, a_term, an_operator, Bindings}
use Rattle.choice_tree.specs.Matching.{together, only_if, bind_if, node_matches, matches}
use Rattle.choice_tree.specs.Matching.{matches_all, takes, without_place, with_place}
use Rattle.choice_tree.specs.Drafts.{Draft, Drafts, as_is, again, no_drafts, draft_and, draft_of}
use Rattle.choice_tree.specs.Drafts.{drafts_of, same_meta, term_in, bound_term, node_resolutions}
use Rattle.choice_tree.specs.Drafts.{node_drafts, local_draft, locals_like, resolutions}
use Rattle.choice_tree.specs.Drafts.{resolutions_all, resolutions_of_each, proposal}
use Rattle.choice_tree.specs.Drafts.{resolved, proposals_from, proposals}
use Rattle.choice_tree.specs.Growing.{steps, steps_in}
use Rattle.choice_tree.proofs.Lists.{Each, each_append, each_map, each_flat_map, each_any}

-- the terms that are to be rewritten again take at most n steps
abbrev mutual
  pub Within : ℕ → Draft → Type 0
  Within n (as_is k ds) = WithinAll n ds
  Within n (again t) = steps t ≤ n

  pub WithinAll : ℕ → Drafts → Type 0
  WithinAll n no_drafts = Unit {0}
  WithinAll n (draft_and d ds) = Within n d × WithinAll n ds

mutual
  as_it_is : (n : ℕ) (t : Tree) → Within n (draft_of t)
  as_it_is n (node k ts) = all_as_they_are n ts

  all_as_they_are : (n : ℕ) (ts : Trees) → WithinAll n (drafts_of ts)
  all_as_they_are n no_trees = tt
  all_as_they_are n (tree_and t ts) = (as_it_is n t, all_as_they_are n ts)

-- so do the terms that are bound
abbrev pub IsBelow : ℕ → Bound → Type 0
IsBelow n (a_term t) = steps t ≤ n
IsBelow n (an_operator k) = Unit {0}

abbrev pub Below : ℕ → Bindings → Type 0
Below n β = Each (λ b. IsBelow n b.bound) β

pub record Joined (a b : Option Bindings) (β : Bindings) : Type 0 where
  pub left : Bindings
  pub right : Bindings
  pub left_is : a ≡ Some left
  pub right_is : b ≡ Some right
  pub all : β ≡ left ++ right

pub joined : (a b : Option Bindings) (β : Bindings) → together a b ≡ Some β → Joined a b β
joined (Some a) (Some b) β h =
    record { left = a; right = b; left_is = refl; right_is = refl; all = cc }
joined _ _ β h = cc

below_together : (n : ℕ) (a b : Option Bindings) (β : Bindings)
    → ((x : Bindings) → a ≡ Some x → Below n x) → ((x : Bindings) → b ≡ Some x → Below n x)
    → together a b ≡ Some β → Below n β
below_together n a b β h k e =
    let j = joined a b β e in
    rw j.all (each_append (λ b. IsBelow n b.bound) j.left j.right (h j.left j.left_is)
    (k j.right j.right_is))

only_below : (n : ℕ) (b : Bool) (β : Bindings) → only_if b ≡ Some β → Below n β
only_below n true β h = let e : β ≡ [] = cc in rw e tt
only_below n false β h = cc

operator_below : (n : ℕ) (b : Bool) (m : Meta) (k : Kind) (β : Bindings)
    → bind_if b m (an_operator k) ≡ Some β → Below n β
operator_below n true m k β h = let e : β ≡ record { meta = m; bound = an_operator k } ∷ [] = cc in
    rw e (tt, tt)
operator_below n false m k β h = cc

term_below : (n : ℕ) (b : Bool) (m : Meta) (t : Tree) (β : Bindings) → steps t ≤ n
    → bind_if b m (a_term t) ≡ Some β → Below n β
term_below n true m t β s h = let e : β ≡ record { meta = m; bound = a_term t } ∷ [] = cc in
    rw e (s, tt)
term_below n false m t β s h = cc

node_below : (n : ℕ) (k : NodeTemplate) (j : Kind) (β : Bindings) → node_matches k j ≡ Some β
    → Below n β
node_below n (exactly k) j β h = only_below n _ β h
node_below n (one_arith ops) (kind.Arith op) β h = only_below n _ β h
node_below n (one_comparison ops) (kind.Cmp op) β h = only_below n _ β h
node_below n (some_arith m) (kind.Arith op) β h = operator_below n _ m (kind.Arith op) β h
node_below n (some_comparison m) (kind.Cmp op) β h = operator_below n _ m (kind.Cmp op) β h
node_below n _ _ β h = cc

mutual
  pub matches_below : (p : Template) (t : Tree) (n : ℕ) (β : Bindings) → steps t ≤ n
      → matches p t ≡ Some β → Below n β
  matches_below (made k ps) (node j ts) n β s h =
      below_together n (node_matches k j) (matches_all ps ts) β (node_below n k j)
      (λ x. matches_all_below ps ts n x (omega arith)) h
  matches_below (hole m) (node j ts) n β s h = term_below n (takes m.letter j) m (node j ts) β s h
  matches_below (one_of ps) t n β s h = cc
  matches_below (some_local m) t n β s h = cc

  pub matches_all_below : (ps : Templates) (ts : Trees) (n : ℕ) (β : Bindings) → steps_in ts ≤ n
      → matches_all ps ts ≡ Some β → Below n β
  matches_all_below no_templates no_trees n β s h = let e : β ≡ [] = cc in rw e tt
  matches_all_below no_templates (tree_and t ts) n β s h = cc
  matches_all_below (template_and p ps) no_trees n β s h = cc
  matches_all_below (template_and p ps) (tree_and t ts) n β s h =
      below_together n (matches p t) (matches_all ps ts) β
      (λ x. matches_below p t n x (omega arith))
      (λ x. matches_all_below ps ts n x (omega arith)) h

-- what a metavariable stands for
term_bound : (n : ℕ) (x : Bound) → IsBelow n x → Each (λ t. steps t ≤ n) (term_in x)
term_bound n (a_term t) s = (s, tt)
term_bound n (an_operator k) s = tt

first_or_later : (n : ℕ) (e : Bool) (xs ys : List Tree) → Each (λ t. steps t ≤ n) xs
    → Each (λ t. steps t ≤ n) ys → Each (λ t. steps t ≤ n) (if e then xs else ys)
first_or_later n true xs ys h k = h
first_or_later n false xs ys h k = k

bound_below : (n : ℕ) (β : Bindings) (m : Meta) → Below n β
    → Each (λ t. steps t ≤ n) (bound_term β m)
bound_below n [] m h = tt
bound_below n (b ∷ bs) m h =
    first_or_later n (same_meta b.meta m) (term_in b.bound) (bound_term bs m)
    (term_bound n b.bound h.0) (bound_below n bs m h.1)

or_left : (a b : Bool) → a ≡ true → a || b ≡ true
or_left true b h = refl
or_left false b h = cc

or_right : (a b : Bool) → b ≡ true → a || b ≡ true
or_right true b h = refl
or_right false b h = h

hole_within : (n : ℕ) (β : Bindings) (m : Meta) (e : Bool) → (e ≡ true → Below n β)
    → Each (Within n) (map (if e then again else draft_of) (bound_term β m))
hole_within n β m true h =
    each_map (λ t. steps t ≤ n) (Within n) again (bound_term β m) (λ t s. s)
    (bound_below n β m (h refl))
hole_within n β m false h =
    each_map (λ t. Unit {0}) (Within n) draft_of (bound_term β m) (λ t s. as_it_is n t)
    (each_any (λ t. Unit {0}) (bound_term β m) (λ t. tt))

-- each resolution of a template
mutual
  pub resolutions_within : (p : Template) (σ : Scope) (β : Bindings) (n : ℕ)
      → (has_prime p ≡ true → Below n β) → Each (Within n) (resolutions σ β p)
  resolutions_within (made k no_templates) σ β n h =
      each_map (λ j. Unit {0}) (Within n) (λ j. as_is j no_drafts) (node_resolutions β k)
      (λ j s. tt)
      (each_any (λ j. Unit {0}) (node_resolutions β k) (λ j. tt))
  resolutions_within (made k (template_and p ps)) σ β n h =
      each_flat_map (Within n) (Within n)
      (λ d. flat_map (node_drafts d (resolutions_all σ β ps))
      (node_resolutions β k)) (resolutions σ β p)
      (λ d dw. each_flat_map (λ j. Unit {0}) (Within n)
      (node_drafts d (resolutions_all σ β ps))
      (node_resolutions β k)
      (λ j s. each_map (WithinAll n) (Within n) (λ ds. as_is j (draft_and d ds))
      (resolutions_all σ β ps) (λ ds dsw. (dw, dsw))
      (all_within ps σ β n (λ e. h (or_right (has_prime p) (any_prime ps) e))))
      (each_any (λ j. Unit {0}) (node_resolutions β k) (λ j. tt)))
      (resolutions_within p σ β n (λ e. h (or_left (has_prime p) (any_prime ps) e)))
  resolutions_within (hole m) σ β n h = hole_within n β m m.primed h
  resolutions_within (one_of ps) σ β n h = each_within ps σ β n h
  resolutions_within (some_local m) σ β n h =
      each_flat_map (λ t. Unit {0}) (Within n) (λ t. map local_draft (locals_like σ t))
      (bound_term β m)
      (λ t s. each_map (λ x. Unit {0}) (Within n) local_draft (locals_like σ t) (λ x e. tt)
      (each_any (λ x. Unit {0}) (locals_like σ t) (λ x. tt)))
      (each_any (λ t. Unit {0}) (bound_term β m) (λ t. tt))

  all_within : (ps : Templates) (σ : Scope) (β : Bindings) (n : ℕ)
      → (any_prime ps ≡ true → Below n β) → Each (WithinAll n) (resolutions_all σ β ps)
  all_within no_templates σ β n h = (tt, tt)
  all_within (template_and p ps) σ β n h =
      each_flat_map (Within n) (WithinAll n) (λ d. map (draft_and d) (resolutions_all σ β ps))
      (resolutions σ β p)
      (λ d dw. each_map (WithinAll n) (WithinAll n) (draft_and d) (resolutions_all σ β ps)
      (λ ds dsw. (dw, dsw))
      (all_within ps σ β n (λ e. h (or_right (has_prime p) (any_prime ps) e))))
      (resolutions_within p σ β n (λ e. h (or_left (has_prime p) (any_prime ps) e)))

  each_within : (ps : Templates) (σ : Scope) (β : Bindings) (n : ℕ)
      → (any_prime ps ≡ true → Below n β) → Each (Within n) (resolutions_of_each σ β ps)
  each_within no_templates σ β n h = tt
  each_within (template_and p ps) σ β n h =
      each_append (Within n) (resolutions σ β p) (resolutions_of_each σ β ps)
      (resolutions_within p σ β n (λ e. h (or_left (has_prime p) (any_prime ps) e)))
      (each_within ps σ β n (λ e. h (or_right (has_prime p) (any_prime ps) e)))

resolved_within : (n : ℕ) (σ : Scope) (right : Template) (b : Option Bindings)
    → ((β : Bindings) → b ≡ Some β → has_prime right ≡ true → Below n β)
    → Each (Within n) (resolved σ right b)
resolved_within n σ right None h = tt
resolved_within n σ right (Some β) h = resolutions_within right σ β n (h β refl)

-- the terms that a rule binds, where it has a primed metavariable
abbrev pub RuleBelow : ℕ → (Place → Option Bindings) → Tree → Correction → Type 0
RuleBelow n here t r = (β : Bindings) → together (here r.place) (matches r.left t) ≡ Some β
    → has_prime r.right ≡ true → Below n β

proposals_within : (n : ℕ) (here : Place → Option Bindings) (σ : Scope) (t : Tree) (i : ℕ)
    (rules : List Correction) → Each (RuleBelow n here t) rules
    → Each (λ p. Within n p.draft) (proposals_from here σ t i rules)
proposals_within n here σ t i [] h = tt
proposals_within n here σ t i (r ∷ rs) h =
    let found = together (here r.place) (matches r.left t) in
    each_append (λ p. Within n p.draft) (map (proposal i r.cost) (resolved σ r.right found))
    (proposals_from here σ t (suc i) rs)
    (each_map (Within n) (λ p. Within n p.draft) (proposal i r.cost) (resolved σ r.right found)
    (λ d w. w) (resolved_within n σ r.right found h.0))
    (proposals_within n here σ t (suc i) rs h.1)

-- a rule without a place binds smaller terms
anywhere_below : (n : ℕ) (place : Place) (left right : Template) (t : Tree) (β : Bindings)
    → KeepsPrimes place left right → steps t ≤ suc n
    → together (without_place place) (matches left t) ≡ Some β → has_prime right ≡ true → Below n β
anywhere_below n P.Anywhere (made k ps) right (node j ts) β keeps s h e =
    below_together n (node_matches k j) (matches_all ps ts) β (node_below n k j)
    (λ x. matches_all_below ps ts n x (omega arith))
    (one_side (together (node_matches k j) (matches_all ps ts)) h)
  where
    one_side : (a : Option Bindings) → together (Some []) a ≡ Some β → a ≡ Some β
    one_side (Some a) h = h
    one_side None h = cc
anywhere_below n P.Anywhere (hole m) right t β keeps s h e = cc
anywhere_below n P.Anywhere (one_of ps) right t β keeps s h e = cc
anywhere_below n P.Anywhere (some_local m) right t β keeps s h e = cc
anywhere_below n _ left right t β keeps s h e = cc

rules_below : (n : ℕ) (rules : List Correction) (t : Tree) → KeepPrimes rules → steps t ≤ suc n
    → Each (RuleBelow n without_place t) rules
rules_below n [] t keeps s = tt
rules_below n (r ∷ rs) t keeps s = (
  (λ β h e. anywhere_below n r.place r.left r.right t β keeps.0 s h e),
  rules_below n rs t
      keeps.1 s,
)

pub alternatives_within : (n : ℕ) (σ : Scope) (rules : List Correction) (t : Tree)
    → KeepPrimes rules → steps t ≤ suc n
    → Each (λ p. Within n p.draft) (proposals without_place σ rules t)
alternatives_within n σ rules t keeps s =
    proposals_within n without_place σ t 0 rules (rules_below n rules t keeps s)

-- a rule with a place binds terms that aren't larger, and the target
two_steps : (n : ℕ) (t : Tree) → steps t ≤ n → 2 ≤ n
two_steps n (node k ts) s = omega arith

place_below : (n : ℕ) (site : Site) (place : Place) (β : Bindings) → 2 ≤ n
    → with_place site place ≡ Some β → Below n β
place_below n at_return P.Return β s h = let e : β ≡ [] = cc in rw e tt
place_below n (at_assign x) (P.Assign m) β s h = term_below n true m (leaf (kind.Name x)) β s h
place_below n at_if P.If β s h = let e : β ≡ [] = cc in rw e tt
place_below n at_while P.While β s h = let e : β ≡ [] = cc in rw e tt
place_below n (at_for x) (P.For m) β s h = term_below n true m (leaf (kind.Name x)) β s h
place_below n _ _ β s h = cc

placed_below : (n : ℕ) (site : Site) (rules : List Correction) (t : Tree) → steps t ≤ n
    → Each (RuleBelow n (with_place site) t) rules
placed_below n site rules t s =
    each_any (RuleBelow n (with_place site) t) rules
    (λ r β h e. below_together n (with_place site r.place) (matches r.left t) β
    (λ x. place_below n site r.place x (two_steps n t s)) (λ x. matches_below r.left t n x s) h)

pub placed_within : (n : ℕ) (site : Site) (σ : Scope) (rules : List Correction) (t : Tree)
    → steps t ≤ n → Each (λ p. Within n p.draft) (proposals (with_place site) σ rules t)
placed_within n site σ rules t s =
    proposals_within n (with_place site) σ t 0 rules (placed_below n site rules t s)
