-- The rules of a rewriting's edits.
use Rattle.std.proofs.Common.{◌≡◌, ℕ, suc, ◌+◌, ◌<◌, List, [], ◌∷◌, ◌++◌, map, length, Option, Some, All, slice_get, refl, sym, ap, subst, ◌∙◌, arith, inl, inr}
use Rattle.std.specs.List.{sum_by}
use Rattle.std.specs.Option.{option_map_or}
use Rattle.std.proofs.Math.ListN.{get_or-map}
use Rattle.std.proofs.lemmas.List.{length-map}
use Rattle.std.proofs.lemmas.List.Elements.{All-append, All-cons, All-nil}
use Rattle.std.proofs.lemmas.List.Sums.{sum_by-append, sum_by-cons}
use Rattle.std.proofs.lemmas.Option.{slice_get_within}
use Rattle.mpy_tree.specs.Trees.{Kind, Tree, Trees}
use Rattle.choice_tree.specs.declared.rules.Place.{Place}
use Rattle.choice_tree.specs.Contexts.{Setting, Site, Context}
use Rattle.choice_tree.specs.Drafts.{Draft, Drafts, Proposal, proposal, proposed, proposals, proposals_from}
use Rattle.choice_tree.specs.Matching.{Bindings}
use Rattle.choice_tree.specs.Rewriting.{In, Rewrites, RewritesAll, Finishes, FinishesAll}
use Rattle.choice_tree.specs.Rewriting.{kept, copied, replaced, replaced_at, none, each, made, made_a_copy, rewritten, finished, and_all}
use Rattle.choice_tree.specs.Rewriting as tree
use Rattle.choice_tree.specs.Templates.{Correction}
use Rattle.choice_tree.specs.Typing.{Scope}
use Rattle.mpy_tree.specs.Syntax.{Routine}
use Rattle.input_space.specs.Tasks.{Task, setting}
use Rattle.input_space.specs.Tasks as task
use Rattle.feedback_text.specs.Answers.{Edit, edit_tree}
use Rattle.feedback_text.specs.EditRules.{AreByRules, rule_cost}

-- THE RULE OF A PROPOSAL

-- the number is that of a rule of this cost
abbrev IsRuleAt : List Correction → ℕ → ℕ → Type 0
IsRuleAt rules i cost = (r : Correction) × (slice_get rules i ≡ Some r) × (r.cost ≡ cost)

in_both : {A : Type 0} (xs ys : List A) (a : A) {P : Type 0} → In a (xs ++ ys) → (In a xs → P) → (In a ys → P) → P
in_both [] ys a i f g = g i
in_both (x ∷ xs) ys a i f g = elim i [
  | inl e ↦ f (inl e)
  | inr later ↦ in_both xs ys a later (λ j. f (inr j)) g
]

of_rule : (i cost : ℕ) (ds : List Draft) (p : Proposal) → In p (map (proposal i cost) ds) → (p.rule ≡ i) × (p.cost ≡ cost)
of_rule i cost [] p h = absurd h
of_rule i cost (d ∷ ds) p h = elim h [
  | inl e ↦ (ap (λ q. q.rule) e, ap (λ q. q.cost) e)
  | inr later ↦ of_rule i cost ds p later
]

-- the rules before are those that the numbers count too
behind : (here : Place → Option Bindings) (σ : Scope) (t : Tree) (i : ℕ) (rs : List Correction) (p : Proposal)
    → In p (proposals_from here σ t i rs) → (j : ℕ) × (p.rule ≡ i + j) × IsRuleAt rs j p.cost
behind here σ t i [] p h = absurd h
behind here σ t i (r ∷ rs) p h =
    in_both (proposed here σ t i r) (proposals_from here σ t (suc i) rs) p h
    (λ now. let is = of_rule i r.cost _ p now in (0, (let e = is.0 in omega arith), (r, refl, sym is.1)))
    (λ later. let is = behind here σ t (suc i) rs p later in (suc is.0, (let e = is.1 in omega arith), is.2))

by_a_rule : (here : Place → Option Bindings) (σ : Scope) (rules : List Correction) (t : Tree) (p : Proposal)
    → In p (proposals here σ rules t) → IsRuleAt rules p.rule p.cost
by_a_rule here σ rules t p h =
    let is = behind here σ t 0 rules p h in
    let P : ℕ → Type 0 = λ n. IsRuleAt rules n p.cost in
    subst P (let e = is.1 in omega arith) is.2

-- THE RULES OF A REWRITING

abbrev pub cost_at : List Correction → tree.Edit → ℕ
cost_at rules e = option_map_or (λ r. r.cost) (slice_get rules e.rule) 0

abbrev pub IsNamed : List Correction → tree.Edit → Type 0
IsNamed rules e = e.rule < length rules

pub record Costed (rules : List Correction) (n : ℕ) (es : List tree.Edit) : Type 0 where
  pub named : All (IsNamed rules) es
  pub sum : sum_by (cost_at rules) es ≡ n

no_edit : (rules : List Correction) → Costed rules 0 []
no_edit rules = record { named = All-nil (IsNamed rules); sum = refl }

one_more : (rules : List Correction) (e : tree.Edit) (c n : ℕ) (es : List tree.Edit) → IsRuleAt rules e.rule c → Costed rules n es → Costed rules (c + n) (e ∷ es)
one_more rules e c n es at rest =
    let cost : cost_at rules e ≡ c = ap (λ o. option_map_or (λ (r : Correction). r.cost) o 0) at.1 ∙ at.2 in
    record {
      named = All-cons (IsNamed rules) e es (slice_get_within rules e.rule at.0 at.1) rest.named;
      sum = sum_by-cons (cost_at rules) e es ∙ ap (λ x. x + sum_by (cost_at rules) es) cost ∙ ap (λ x. c + x) rest.sum;
    }

joined : (rules : List Correction) (n m : ℕ) (es fs : List tree.Edit) → Costed rules n es → Costed rules m fs → Costed rules (n + m) (es ++ fs)
joined rules n m es fs a b =
    record {
      named = All-append (IsNamed rules) es fs a.named b.named;
      sum = sum_by-append (cost_at rules) es fs ∙ ap (λ x. x + sum_by (cost_at rules) fs) a.sum ∙ ap (λ x. n + x) b.sum;
    }

mutual
  pub costed : (g : Setting) {site : Site} {line : ℕ} {c : Context} {t t' : Tree} {n : ℕ} {es : List tree.Edit}
      → Rewrites g site line c t t' n es → Costed g.rules n es
  costed g (kept e parts) = all_costed g parts
  costed g (copied e) = no_edit g.rules
  costed g (replaced p is finish e) = one_more g.rules _ p.cost _ _ (by_a_rule _ _ g.rules _ p is) (finish_costed g finish)
  costed g (replaced_at p is finish e) = one_more g.rules _ p.cost _ _ (by_a_rule _ _ g.rules _ p is) (finish_costed g finish)

  all_costed : (g : Setting) {k : Kind} {i line : ℕ} {c : Context} {ts ts' : Trees} {n : ℕ} {es : List tree.Edit}
      → RewritesAll g k i line c ts ts' n es → Costed g.rules n es
  all_costed g none = no_edit g.rules
  all_costed g (each first rest) = joined g.rules _ _ _ _ (costed g first) (all_costed g rest)

  finish_costed : (g : Setting) {line : ℕ} {c : Context} {d : Draft} {t : Tree} {n : ℕ} {es : List tree.Edit}
      → Finishes g line c d t n es → Costed g.rules n es
  finish_costed g (made e parts) = all_finish_costed g parts
  finish_costed g (made_a_copy e) = no_edit g.rules
  finish_costed g (rewritten again) = costed g again

  all_finish_costed : (g : Setting) {k : Kind} {i line : ℕ} {c : Context} {ds : Drafts} {ts : Trees} {n : ℕ} {es : List tree.Edit}
      → FinishesAll g k i line c ds ts n es → Costed g.rules n es
  all_finish_costed g finished = no_edit g.rules
  all_finish_costed g (and_all first rest) = joined g.rules _ _ _ _ (finish_costed g first) (all_finish_costed g rest)

same_sum : (rules : List Correction) (es : List Edit) → sum_by (rule_cost rules) es ≡ sum_by (cost_at rules) (map edit_tree es)
same_sum rules [] = refl
same_sum rules (e ∷ es) =
    sum_by-cons (rule_cost rules) e es ∙ ap (λ x. rule_cost rules e + x) (same_sum rules es)
    ∙ sym (sum_by-cons (cost_at rules) (edit_tree e) (map edit_tree es))

same_named : (rules : List Correction) (es : List Edit) → All (IsNamed rules) (map edit_tree es) → All (λ e. e.rule < length rules) es
same_named rules es h k d within =
    let P : tree.Edit → Type 0 = λ e. e.rule < length rules in
    subst P (get_or-map edit_tree es k d) (h k (edit_tree d) (rw (length-map es edit_tree) within))

pub by_rules : (k : Task) (p : List Routine) (cost : ℕ) (edits : List Edit) → task.Rewrites k p cost (map edit_tree edits) → AreByRules k.rules cost edits
by_rules k p cost edits makes =
    let is = costed (setting k) makes in
    record { named = same_named k.rules edits is.named; costs_add_up = same_sum k.rules edits ∙ is.sum }
