-- What proper rules propose for a proper term is proper.
use Rattle.std.proofs.Common.{◌≡◌, ℕ, suc, Bool, true, false, List, [], ◌∷◌, map}
use Rattle.std.proofs.Common.{Option, Some, None, if◌then◌else◌, refl, sym, ap, inl, inr, subst}
use Rattle.std.specs.Prelude.{⊤, flat_map}
use Rattle.std.proofs.lemmas.List.Elements.{All-head, All-tail}
use Rattle.mpy_tree.specs.Trees as kind
use Rattle.mpy_tree.specs.Trees.{Kind, Tree, Trees, leaf, no_trees, node, tree_and}
use Rattle.choice_tree.specs.declared.rules.Meta.{Meta}
use Rattle.choice_tree.specs.declared.rules.Place.{Place}
use Rattle.choice_tree.specs.declared.rules.Place.TheVariants as P
use Rattle.choice_tree.specs.Contexts.{Site, at_assign, at_for, at_if, at_return, at_while}
use Rattle.choice_tree.specs.Drafts.{Draft, Drafts, again, as_is, bound_operator, bound_term}
use Rattle.choice_tree.specs.Drafts.{draft_and, draft_of, drafts_of, filled, filled_all}
use Rattle.choice_tree.specs.Drafts.{local_draft, locals_like, no_drafts, node_drafts}
use Rattle.choice_tree.specs.Drafts.{node_resolutions, operator_in, proposal, proposals_from}
use Rattle.choice_tree.specs.Drafts.{resolutions, resolutions_all, resolutions_of_each, resolved}
use Rattle.choice_tree.specs.Drafts.{same_meta, term_in}
use Rattle.choice_tree.specs.Matching.{Bindings, Bound, a_term, an_operator, bind_if}
use Rattle.choice_tree.specs.Matching.{is_some_arith, is_some_comparison, matches, matches_all}
use Rattle.choice_tree.specs.Matching.{node_matches, only_if, takes, together, with_place}
use Rattle.choice_tree.specs.Matching.{without_place}
use Rattle.choice_tree.specs.Rewriting.{In}
use Rattle.choice_tree.specs.Templates.{Correction, NodeTemplate, Template, Templates, exactly}
use Rattle.choice_tree.specs.Templates.{hole, made, no_templates, one_arith, one_comparison}
use Rattle.choice_tree.specs.Templates.{one_of, some_arith, some_comparison, some_local}
use Rattle.choice_tree.specs.Templates.{template_and}
use Rattle.choice_tree.specs.Typing.{Scope, locals_of, same_type, type_of}
use Rattle.choice_tree.proofs.Lists.{Each, each_any, each_append, each_flat_map, each_map}
use Rattle.choice_tree.proofs.Lists.{in_filtered}
use Rattle.mpy_round_trip.specs.Proper.{AreProperTrees, IsName, IsProperTree}
use Rattle.input_space.specs.ProperRules.{AreProperRules, AreProperSides, IsProperChoice}
use Rattle.input_space.specs.ProperRules.{IsProperKind, IsProperRule, IsProperSide}
use Rattle.rewriting_laws.proofs.ProperNames.{HasNames, HasTarget}
use Rattle.rewriting_laws.proofs.ProperNodes.{loop_or_none, proper_over}

-- a draft of a term is filled with it
mutual
  filled_is : (t : Tree) → filled (draft_of t) ≡ t
  filled_is (node k ts) = ap (node k) (all_filled ts)

  all_filled : (ts : Trees) → filled_all (drafts_of ts) ≡ ts
  all_filled no_trees = refl
  all_filled (tree_and t ts) = λ i. tree_and (filled_is t i) (all_filled ts i)

either : {A : Type 0} (Q : A → Type 0) (b : Bool) (xs ys : List A) → Each Q xs → Each Q ys
    → Each Q (if b then xs else ys)
either Q true xs ys h k = h
either Q false xs ys h k = k

each_listed : {A : Type 0} (Q : A → Type 0) (xs : List A) → ((x : A) → In x xs → Q x) → Each Q xs
each_listed Q [] h = tt
each_listed Q (x ∷ xs) h = (h x (inl refl), each_listed Q xs (λ y i. h y (inr i)))

like_names : (σ : Scope) (t : Tree) → HasNames σ → Each IsName (locals_like σ t)
like_names σ t names =
    each_listed IsName (locals_like σ t)
    (λ x i. names x (in_filtered (λ y. same_type (type_of σ (leaf (kind.Name y))) (type_of σ t))
    (locals_of σ.program σ.number) x i).0)

-- terms that stand in a loop or don't
module _ (loop : Bool) where
  -- WHAT MATCHING BINDS

  abbrev IsProperBound : Bound → Type 0
  IsProperBound (a_term t) = IsProperTree loop t
  IsProperBound (an_operator k) = IsProperKind k

  abbrev pub BindProper : Bindings → Type 0
  BindProper β = Each (λ b. IsProperBound b.bound) β

  abbrev pub ProperIfAny : Option Bindings → Type 0
  ProperIfAny None = ⊤
  ProperIfAny (Some β) = BindProper β

  both_proper : (a b : Option Bindings) → ProperIfAny a → ProperIfAny b
      → ProperIfAny (together a b)
  both_proper (Some a) (Some b) h k = each_append (λ x. IsProperBound x.bound) a b h k
  both_proper (Some a) None h k = tt
  both_proper None (Some b) h k = tt
  both_proper None None h k = tt

  only_proper : (b : Bool) → ProperIfAny (only_if b)
  only_proper true = tt
  only_proper false = tt

  bound_proper : (b : Bool) (m : Meta) (x : Bound) → IsProperBound x
      → ProperIfAny (bind_if b m x)
  bound_proper true m x h = (h, tt)
  bound_proper false m x h = tt

  node_bound : (k : NodeTemplate) (j : Kind) → ProperIfAny (node_matches k j)
  node_bound (exactly k) j = only_proper _
  node_bound (one_arith ops) (kind.Arith op) = only_proper _
  node_bound (one_comparison ops) (kind.Cmp op) = only_proper _
  node_bound (some_arith m) (kind.Arith op) =
      bound_proper (is_some_arith op) m (an_operator (kind.Arith op)) (refl, tt)
  node_bound (some_comparison m) (kind.Cmp op) =
      bound_proper (is_some_comparison op) m (an_operator (kind.Cmp op)) (refl, tt)
  node_bound _ _ = tt

  none_matches : (a b : Option Bindings) → a ≡ None → ProperIfAny (together a b)
  none_matches None (Some b) e = tt
  none_matches None None e = tt
  none_matches (Some a) b e = absurd (let z : Some a ≡ None = e in cc)

  mutual
    matches_proper : (p : Template) (t : Tree) → IsProperTree loop t
        → ProperIfAny (matches p t)
    matches_proper (made k ps) (node j ts) h = elim (loop_or_none loop k j) [
      | inl same ↦
          both_proper (node_matches k j) (matches_all ps ts) (node_bound k j)
          (all_match_proper ps ts (subst (λ b. AreProperTrees b ts) same h.1))
      | inr none ↦ none_matches (node_matches k j) (matches_all ps ts) none
    ]
    matches_proper (hole m) (node j ts) h =
        bound_proper (takes m.letter j) m (a_term (node j ts)) h
    matches_proper (one_of ps) t h = tt
    matches_proper (some_local m) t h = tt

    all_match_proper : (ps : Templates) (ts : Trees) → AreProperTrees loop ts
        → ProperIfAny (matches_all ps ts)
    all_match_proper no_templates no_trees h = tt
    all_match_proper no_templates (tree_and t ts) h = tt
    all_match_proper (template_and p ps) no_trees h = tt
    all_match_proper (template_and p ps) (tree_and t ts) h =
        both_proper (matches p t) (matches_all ps ts) (matches_proper p t h.0)
        (all_match_proper ps ts h.1)

  -- a place binds the target of the statement at most
  pub anywhere_proper : (p : Place) → ProperIfAny (without_place p)
  anywhere_proper P.Anywhere = tt
  anywhere_proper _ = tt

  pub placed_proper : (site : Site) → HasTarget site → (p : Place)
      → ProperIfAny (with_place site p)
  placed_proper at_return h P.Return = tt
  placed_proper (at_assign x) h (P.Assign m) = ((h, tt), tt)
  placed_proper at_if h P.If = tt
  placed_proper at_while h P.While = tt
  placed_proper (at_for x) h (P.For m) = ((h, tt), tt)
  placed_proper _ h _ = tt

  -- what a metavariable stands for
  terms_in : (x : Bound) → IsProperBound x → Each (IsProperTree loop) (term_in x)
  terms_in (a_term t) h = (h, tt)
  terms_in (an_operator k) h = tt

  operators_in : (x : Bound) → IsProperBound x → Each IsProperKind (operator_in x)
  operators_in (a_term t) h = tt
  operators_in (an_operator k) h = (h, tt)

  terms_bound : (β : Bindings) (m : Meta) → BindProper β
      → Each (IsProperTree loop) (bound_term β m)
  terms_bound [] m h = tt
  terms_bound (b ∷ bs) m h =
      either (IsProperTree loop) (same_meta b.meta m) (term_in b.bound) (bound_term bs m)
      (terms_in b.bound h.0) (terms_bound bs m h.1)

  operators_bound : (β : Bindings) (m : Meta) → BindProper β
      → Each IsProperKind (bound_operator β m)
  operators_bound [] m h = tt
  operators_bound (b ∷ bs) m h =
      either IsProperKind (same_meta b.meta m) (operator_in b.bound) (bound_operator bs m)
      (operators_in b.bound h.0) (operators_bound bs m h.1)

  -- DRAFTS, by their instances

  abbrev pub MakesProper : Draft → Type 0
  MakesProper d = IsProperTree loop (filled d)

  abbrev AllMakeProper : Drafts → Type 0
  AllMakeProper ds = AreProperTrees loop (filled_all ds)

  draft_proper : (t : Tree) → IsProperTree loop t → MakesProper (draft_of t)
  draft_proper t h = subst (IsProperTree loop) (sym (filled_is t)) h

  hole_proper : (β : Bindings) (m : Meta) (b : Bool) → BindProper β
      → Each MakesProper (map (if b then again else draft_of) (bound_term β m))
  hole_proper β m true h =
      each_map (IsProperTree loop) MakesProper again (bound_term β m) (λ t w. w)
      (terms_bound β m h)
  hole_proper β m false h =
      each_map (IsProperTree loop) MakesProper draft_of (bound_term β m) draft_proper
      (terms_bound β m h)

  kinds_proper : (β : Bindings) (k : NodeTemplate) → BindProper β → IsProperChoice k
      → Each IsProperKind (node_resolutions β k)
  kinds_proper β (exactly k) h w = (w, tt)
  kinds_proper β (one_arith ops) h w =
      each_map (λ op. ⊤) IsProperKind kind.Arith ops (λ op u. (refl, tt))
      (each_any (λ op. ⊤) ops (λ op. tt))
  kinds_proper β (one_comparison ops) h w =
      each_map (λ op. ⊤) IsProperKind kind.Cmp ops (λ op u. (refl, tt))
      (each_any (λ op. ⊤) ops (λ op. tt))
  kinds_proper β (some_arith m) h w = operators_bound β m h
  kinds_proper β (some_comparison m) h w = operators_bound β m h

  module _ (σ : Scope) (names : HasNames σ) (β : Bindings) (bound : BindProper β) where
    mutual
      resolutions_proper : (p : Template) → IsProperSide p → Each MakesProper (resolutions σ β p)
      resolutions_proper (made k no_templates) w =
          each_map IsProperKind MakesProper (λ j. as_is j no_drafts) (node_resolutions β k)
          (λ j e. proper_over loop j no_trees e tt) (kinds_proper β k bound w.0)
      resolutions_proper (made k (template_and p ps)) w =
          each_flat_map MakesProper MakesProper
          (λ d. flat_map (node_drafts d (resolutions_all σ β ps)) (node_resolutions β k))
          (resolutions σ β p)
          (λ d first. each_flat_map IsProperKind MakesProper
          (node_drafts d (resolutions_all σ β ps)) (node_resolutions β k)
          (λ j e. each_map AllMakeProper MakesProper (λ ds. as_is j (draft_and d ds))
          (resolutions_all σ β ps)
          (λ ds rest. proper_over loop j (tree_and (filled d) (filled_all ds)) e (first, rest))
          (all_resolutions_proper ps w.1.1))
          (kinds_proper β k bound w.0))
          (resolutions_proper p w.1.0)
      resolutions_proper (hole m) w = hole_proper β m m.primed bound
      resolutions_proper (one_of ps) w = each_resolution_proper ps w
      resolutions_proper (some_local m) w =
          each_flat_map (λ t. ⊤) MakesProper (λ t. map local_draft (locals_like σ t))
          (bound_term β m)
          (λ t u. each_map IsName MakesProper local_draft (locals_like σ t) (λ x e. (e, tt))
          (like_names σ t names))
          (each_any (λ t. ⊤) (bound_term β m) (λ t. tt))

      all_resolutions_proper : (ps : Templates) → AreProperSides ps
          → Each AllMakeProper (resolutions_all σ β ps)
      all_resolutions_proper no_templates w = (tt, tt)
      all_resolutions_proper (template_and p ps) w =
          each_flat_map MakesProper AllMakeProper
          (λ d. map (draft_and d) (resolutions_all σ β ps)) (resolutions σ β p)
          (λ d first. each_map AllMakeProper AllMakeProper (draft_and d)
          (resolutions_all σ β ps) (λ ds rest. (first, rest)) (all_resolutions_proper ps w.1))
          (resolutions_proper p w.0)

      each_resolution_proper : (ps : Templates) → AreProperSides ps
          → Each MakesProper (resolutions_of_each σ β ps)
      each_resolution_proper no_templates w = tt
      each_resolution_proper (template_and p ps) w =
          each_append MakesProper (resolutions σ β p) (resolutions_of_each σ β ps)
          (resolutions_proper p w.0) (each_resolution_proper ps w.1)

  resolved_proper : (σ : Scope) → HasNames σ → (right : Template) (b : Option Bindings)
      → ProperIfAny b → IsProperSide right → Each MakesProper (resolved σ right b)
  resolved_proper σ names right None h w = tt
  resolved_proper σ names right (Some β) h w = resolutions_proper σ names β h right w

  -- what rules propose
  pub proposed_proper : (here : Place → Option Bindings) → ((p : Place) → ProperIfAny (here p))
      → (σ : Scope) → HasNames σ → (t : Tree) (i : ℕ) (rules : List Correction)
      → AreProperRules rules → IsProperTree loop t
      → Each (λ p. MakesProper p.draft) (proposals_from here σ t i rules)
  proposed_proper here bind σ names t i [] w h = tt
  proposed_proper here bind σ names t i (r ∷ rs) w h =
      let found = together (here r.place) (matches r.left t) in
      let bound =
      both_proper (here r.place) (matches r.left t) (bind r.place)
      (matches_proper r.left t h) in
      let rule : IsProperRule r = All-head IsProperRule r rs w in
      each_append (λ p. MakesProper p.draft) (map (proposal i r.cost) (resolved σ r.right found))
      (proposals_from here σ t (suc i) rs)
      (each_map MakesProper (λ p. MakesProper p.draft) (proposal i r.cost)
      (resolved σ r.right found) (λ d k. k)
      (resolved_proper σ names r.right found bound rule.right))
      (proposed_proper here bind σ names t (suc i) rs (All-tail IsProperRule r rs w) h)
