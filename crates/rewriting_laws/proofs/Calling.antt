-- A rewriting calls no function that the program doesn't call.
use Rattle.std.proofs.Common.{◌≡◌, ℕ, suc, Bool, true, false, ◌||◌, List, [], ◌∷◌, map}
use Rattle.std.proofs.Common.{Option, Some, None, if◌then◌else◌, refl, sym, ap, ◌∙◌}
use Rattle.std.specs.Prelude.{⊤, flat_map}
use Rattle.std.specs.List.{list_any}
use Rattle.std.proofs.lemmas.List.Elements.{All-head, All-tail}
use lib.Pointwise.{bytes_decides}
use Rattle.std.proofs.lemmas.Bool.{or_parts}
use Rattle.mpy_tree.specs.Builtins.{builtin_of}
use Rattle.mpy_tree.specs.Shapes.{shape}
use Rattle.mpy_tree.specs.Sharing.{is_call_of}
use Rattle.mpy_tree.specs.Sites.{nodes as term_nodes}
use Rattle.mpy_tree.specs.Syntax.{Term}
use Rattle.mpy_tree.specs.Syntax as ast
use Rattle.mpy_tree.specs.Trees as kind
use Rattle.mpy_tree.specs.Trees.{Kind, Tree, Trees, node, no_trees, tree_and}
use Rattle.mpy_tree.specs.Values.{same_bytes}
use Rattle.mpy_laws.specs.TreeLaws.{all_subtrees, subtrees}
use Rattle.mpy_laws.proofs.Preorder.{lists_follow}
use Rattle.choice_tree.specs.declared.rules.Meta.{Meta}
use Rattle.choice_tree.specs.declared.rules.Place.{Place}
use Rattle.choice_tree.specs.declared.rules.Place.TheVariants as P
use Rattle.choice_tree.specs.Contexts.{Context, Setting, Site, at_assign, at_for, at_if, at_return}
use Rattle.choice_tree.specs.Contexts.{at_while}
use Rattle.choice_tree.specs.Drafts.{Draft, Drafts, again, as_is, bound_operator, bound_term}
use Rattle.choice_tree.specs.Drafts.{draft_and, draft_of, drafts_of, filled, filled_all}
use Rattle.choice_tree.specs.Drafts.{local_draft, locals_like, no_drafts, node_drafts}
use Rattle.choice_tree.specs.Drafts.{node_resolutions, operator_in, proposal, proposals}
use Rattle.choice_tree.specs.Drafts.{proposals_from, resolutions, resolutions_all}
use Rattle.choice_tree.specs.Drafts.{resolutions_of_each, resolved, same_meta, term_in}
use Rattle.choice_tree.specs.Matching.{Bindings, Bound, a_term, an_operator, bind_if}
use Rattle.choice_tree.specs.Matching.{matches, matches_all, node_matches, only_if, takes}
use Rattle.choice_tree.specs.Matching.{together, with_place, without_place}
use Rattle.choice_tree.specs.Rewriting.{Edit, Finishes, FinishesAll, Rewrites, RewritesAll}
use Rattle.choice_tree.specs.Rewriting.{and_all, copied, each, finished, kept, made, made_a_copy}
use Rattle.choice_tree.specs.Rewriting.{none, replaced, replaced_at, rewritten}
use Rattle.choice_tree.specs.Templates.{Correction, NodeTemplate, Template, Templates, exactly}
use Rattle.choice_tree.specs.Templates.{hole, made as made_side, no_templates, one_arith}
use Rattle.choice_tree.specs.Templates.{one_comparison, one_of, some_arith, some_comparison}
use Rattle.choice_tree.specs.Templates.{some_local, template_and}
use Rattle.choice_tree.specs.Typing.{Scope}
use Rattle.choice_tree.proofs.Lists.{Each, each_any, each_append, each_flat_map, each_in, each_map}
use Rattle.eml_faults.specs.MeaningFaults.{is_no_builtin, is_unknown_call}
use Rattle.eml_faults.specs.Sides.{nodes, nodes_of_all}
use Rattle.rewriting_laws.specs.RuleCalls.{CallBuiltinsAlone}
use Rattle.rewriting_laws.proofs.Nothing.{none_both, none_left, none_right}

module _ (f : List ℕ) where
  -- whether a node is a call of the function
  abbrev pub names_call : Kind → Bool
  names_call (kind.Call g) = same_bytes f g
  names_call _ = false

  abbrev mutual
    pub NoCall : Tree → Type 0
    NoCall (node k ts) = (names_call k ≡ false) × NoCalls ts

    pub NoCalls : Trees → Type 0
    NoCalls no_trees = ⊤
    NoCalls (tree_and t ts) = NoCall t × NoCalls ts

  -- the calls of a term are those of its tree
  abbrev root_calls : Tree → Bool
  root_calls (node k ts) = names_call k

  mutual
    found_none : (t : Tree) → list_any root_calls (subtrees t) ≡ false → NoCall t
    found_none (node k ts) h =
        let both = or_parts (names_call k) (list_any root_calls (all_subtrees ts)) h in
        (both.0, all_found_none ts both.1)

    all_found_none : (ts : Trees) → list_any root_calls (all_subtrees ts) ≡ false → NoCalls ts
    all_found_none no_trees h = tt
    all_found_none (tree_and t ts) h = (
      found_none t (none_left root_calls (subtrees t) (all_subtrees ts) h),
      all_found_none ts (none_right root_calls (subtrees t) (all_subtrees ts) h),
    )

  mutual
    none_found : (t : Tree) → NoCall t → list_any root_calls (subtrees t) ≡ false
    none_found (node k ts) h = λ i. h.0 i || none_found_in ts h.1 i

    none_found_in : (ts : Trees) → NoCalls ts → list_any root_calls (all_subtrees ts) ≡ false
    none_found_in no_trees h = refl
    none_found_in (tree_and t ts) h =
        none_both root_calls (subtrees t) (all_subtrees ts) (none_found t h.0)
        (none_found_in ts h.1)

  shape_calls : (e : Term) → root_calls (shape e) ≡ is_call_of f e
  shape_calls (ast.Call g es) = refl
  shape_calls _ = refl

  any_shaped : (es : List Term)
      → list_any root_calls (map shape es) ≡ list_any (is_call_of f) es
  any_shaped [] = refl
  any_shaped (e ∷ es) = λ i. shape_calls e i || any_shaped es i

  term_calls : (e : Term)
      → list_any root_calls (subtrees (shape e)) ≡ list_any (is_call_of f) (term_nodes e)
  term_calls e = ap (list_any root_calls) (lists_follow.of_terms e) ∙ any_shaped (term_nodes e)

  pub calls_none : (e : Term) → list_any (is_call_of f) (term_nodes e) ≡ false → NoCall (shape e)
  calls_none e h = found_none (shape e) (term_calls e ∙ h)

  pub none_called : (e : Term) → NoCall (shape e) → list_any (is_call_of f) (term_nodes e) ≡ false
  none_called e h = sym (term_calls e) ∙ none_found (shape e) h

  -- what matching binds in a term
  abbrev NoneBound : Bound → Type 0
  NoneBound (a_term t) = NoCall t
  NoneBound (an_operator k) = names_call k ≡ false

  abbrev BindNone : Bindings → Type 0
  BindNone β = Each (λ b. NoneBound b.bound) β

  abbrev NoneIfAny : Option Bindings → Type 0
  NoneIfAny None = ⊤
  NoneIfAny (Some β) = BindNone β

  none_together : (a b : Option Bindings) → NoneIfAny a → NoneIfAny b → NoneIfAny (together a b)
  none_together (Some a) (Some b) h k = each_append (λ b. NoneBound b.bound) a b h k
  none_together (Some a) None h k = tt
  none_together None (Some b) h k = tt
  none_together None None h k = tt

  only_none : (b : Bool) → NoneIfAny (only_if b)
  only_none true = tt
  only_none false = tt

  bound_none : (b : Bool) (m : Meta) (x : Bound) → NoneBound x → NoneIfAny (bind_if b m x)
  bound_none true m x h = (h, tt)
  bound_none false m x h = tt

  node_none : (k : NodeTemplate) (j : Kind) → NoneIfAny (node_matches k j)
  node_none (exactly k) j = only_none _
  node_none (one_arith ops) (kind.Arith op) = only_none _
  node_none (one_comparison ops) (kind.Cmp op) = only_none _
  node_none (some_arith m) (kind.Arith op) = bound_none _ m (an_operator (kind.Arith op)) refl
  node_none (some_comparison m) (kind.Cmp op) = bound_none _ m (an_operator (kind.Cmp op)) refl
  node_none _ _ = tt

  mutual
    matches_none : (p : Template) (t : Tree) → NoCall t → NoneIfAny (matches p t)
    matches_none (made_side k ps) (node j ts) h =
        none_together (node_matches k j) (matches_all ps ts) (node_none k j)
        (matches_all_none ps ts h.1)
    matches_none (hole m) (node j ts) h =
        bound_none (takes m.letter j) m (a_term (node j ts)) h
    matches_none (one_of ps) t h = tt
    matches_none (some_local m) t h = tt

    matches_all_none : (ps : Templates) (ts : Trees) → NoCalls ts
        → NoneIfAny (matches_all ps ts)
    matches_all_none no_templates no_trees h = tt
    matches_all_none no_templates (tree_and t ts) h = tt
    matches_all_none (template_and p ps) no_trees h = tt
    matches_all_none (template_and p ps) (tree_and t ts) h =
        none_together (matches p t) (matches_all ps ts) (matches_none p t h.0)
        (matches_all_none ps ts h.1)

  -- a place binds a name at most
  anywhere_none : (p : Place) → NoneIfAny (without_place p)
  anywhere_none P.Anywhere = tt
  anywhere_none _ = tt

  placed_none : (site : Site) (p : Place) → NoneIfAny (with_place site p)
  placed_none at_return P.Return = tt
  placed_none (at_assign x) (P.Assign m) = ((refl, tt), tt)
  placed_none at_if P.If = tt
  placed_none at_while P.While = tt
  placed_none (at_for x) (P.For m) = ((refl, tt), tt)
  placed_none _ _ = tt

  -- what a metavariable stands for
  either : {A : Type 0} (Q : A → Type 0) (b : Bool) (xs ys : List A) → Each Q xs → Each Q ys
      → Each Q (if b then xs else ys)
  either Q true xs ys h k = h
  either Q false xs ys h k = k

  terms_in : (x : Bound) → NoneBound x → Each NoCall (term_in x)
  terms_in (a_term t) h = (h, tt)
  terms_in (an_operator k) h = tt

  operators_in : (x : Bound) → NoneBound x → Each (λ k. names_call k ≡ false) (operator_in x)
  operators_in (a_term t) h = tt
  operators_in (an_operator k) h = (h, tt)

  terms_bound : (β : Bindings) (m : Meta) → BindNone β → Each NoCall (bound_term β m)
  terms_bound [] m h = tt
  terms_bound (b ∷ bs) m h =
      either NoCall (same_meta b.meta m) (term_in b.bound) (bound_term bs m)
      (terms_in b.bound h.0) (terms_bound bs m h.1)

  operators_bound : (β : Bindings) (m : Meta) → BindNone β
      → Each (λ k. names_call k ≡ false) (bound_operator β m)
  operators_bound [] m h = tt
  operators_bound (b ∷ bs) m h =
      either (λ k. names_call k ≡ false) (same_meta b.meta m) (operator_in b.bound)
      (bound_operator bs m) (operators_in b.bound h.0) (operators_bound bs m h.1)

  -- a draft whose instance has no call
  abbrev MakesNone : Draft → Type 0
  MakesNone d = NoCall (filled d)

  abbrev MakeNone : Drafts → Type 0
  MakeNone ds = NoCalls (filled_all ds)

  mutual
    draft_none : (t : Tree) → NoCall t → MakesNone (draft_of t)
    draft_none (node k ts) h = (h.0, drafts_none ts h.1)

    drafts_none : (ts : Trees) → NoCalls ts → MakeNone (drafts_of ts)
    drafts_none no_trees h = tt
    drafts_none (tree_and t ts) h = (draft_none t h.0, drafts_none ts h.1)

  hole_none : (β : Bindings) (m : Meta) (b : Bool) → BindNone β
      → Each MakesNone (map (if b then again else draft_of) (bound_term β m))
  hole_none β m true h =
      each_map NoCall MakesNone again (bound_term β m) (λ t w. w) (terms_bound β m h)
  hole_none β m false h =
      each_map NoCall MakesNone draft_of (bound_term β m) draft_none (terms_bound β m h)

  -- the function is no builtin
  module _ (own : builtin_of f ≡ None) where
    other_name : (g : List ℕ) (b : Bool) → same_bytes f g ≡ b
        → is_no_builtin (builtin_of g) ≡ false → b ≡ false
    other_name g false same h = refl
    other_name g true same h =
        let is : f ≡ g = (bytes_decides f g).0 same in
        let unknown : is_no_builtin (builtin_of g) ≡ true =
        ap (λ x. is_no_builtin (builtin_of x)) (sym is) ∙ ap is_no_builtin own in
        cc

    exact_none : (k : Kind) (ps : Templates) → is_unknown_call (made_side (exactly k) ps) ≡ false
        → names_call k ≡ false
    exact_none (kind.Call g) ps h = other_name g (same_bytes f g) refl h
    exact_none _ ps h = refl

    kinds_none : (β : Bindings) (k : NodeTemplate) (ps : Templates) → BindNone β
        → is_unknown_call (made_side k ps) ≡ false
        → Each (λ j. names_call j ≡ false) (node_resolutions β k)
    kinds_none β (exactly k) ps h e = (exact_none k ps e, tt)
    kinds_none β (one_arith ops) ps h e =
        each_map (λ op. ⊤) (λ j. names_call j ≡ false) kind.Arith ops (λ op u. refl)
        (each_any (λ op. ⊤) ops (λ op. tt))
    kinds_none β (one_comparison ops) ps h e =
        each_map (λ op. ⊤) (λ j. names_call j ≡ false) kind.Cmp ops (λ op u. refl)
        (each_any (λ op. ⊤) ops (λ op. tt))
    kinds_none β (some_arith m) ps h e = operators_bound β m h
    kinds_none β (some_comparison m) ps h e = operators_bound β m h

    -- a side that calls builtins alone
    abbrev Known : Template → Type 0
    Known p = list_any is_unknown_call (nodes p) ≡ false

    abbrev AllKnown : Templates → Type 0
    AllKnown ps = list_any is_unknown_call (nodes_of_all ps) ≡ false

    first_known : (p : Template) (ps : Templates) → AllKnown (template_and p ps) → Known p
    first_known p ps h = none_left is_unknown_call (nodes p) (nodes_of_all ps) h

    rest_known : (p : Template) (ps : Templates) → AllKnown (template_and p ps) → AllKnown ps
    rest_known p ps h = none_right is_unknown_call (nodes p) (nodes_of_all ps) h

    node_known : (k : NodeTemplate) (ps : Templates) → Known (made_side k ps)
        → (is_unknown_call (made_side k ps) ≡ false) × AllKnown ps
    node_known k ps h =
        or_parts (is_unknown_call (made_side k ps)) (list_any is_unknown_call (nodes_of_all ps)) h

    mutual
      resolutions_none : (p : Template) (σ : Scope) (β : Bindings) → BindNone β → Known p
          → Each MakesNone (resolutions σ β p)
      resolutions_none (made_side k no_templates) σ β h w =
          each_map (λ j. names_call j ≡ false) MakesNone (λ j. as_is j no_drafts)
          (node_resolutions β k) (λ j e. (e, tt))
          (kinds_none β k no_templates h (node_known k no_templates w).0)
      resolutions_none (made_side k (template_and p ps)) σ β h w =
          let known = node_known k (template_and p ps) w in
          each_flat_map MakesNone MakesNone
          (λ d. flat_map (node_drafts d (resolutions_all σ β ps)) (node_resolutions β k))
          (resolutions σ β p)
          (λ d dn. each_flat_map (λ j. names_call j ≡ false) MakesNone
          (node_drafts d (resolutions_all σ β ps)) (node_resolutions β k)
          (λ j e. each_map MakeNone MakesNone (λ ds. as_is j (draft_and d ds))
          (resolutions_all σ β ps) (λ ds dsn. (e, (dn, dsn)))
          (all_none ps σ β h (rest_known p ps known.1)))
          (kinds_none β k (template_and p ps) h known.0))
          (resolutions_none p σ β h (first_known p ps known.1))
      resolutions_none (hole m) σ β h w = hole_none β m m.primed h
      resolutions_none (one_of ps) σ β h w = each_none_of ps σ β h w
      resolutions_none (some_local m) σ β h w =
          each_flat_map (λ t. ⊤) MakesNone (λ t. map local_draft (locals_like σ t))
          (bound_term β m)
          (λ t u. each_map (λ x. ⊤) MakesNone local_draft (locals_like σ t)
          (λ x e. (refl, tt)) (each_any (λ x. ⊤) (locals_like σ t) (λ x. tt)))
          (each_any (λ t. ⊤) (bound_term β m) (λ t. tt))

      all_none : (ps : Templates) (σ : Scope) (β : Bindings) → BindNone β → AllKnown ps
          → Each MakeNone (resolutions_all σ β ps)
      all_none no_templates σ β h w = (tt, tt)
      all_none (template_and p ps) σ β h w =
          each_flat_map MakesNone MakeNone (λ d. map (draft_and d) (resolutions_all σ β ps))
          (resolutions σ β p)
          (λ d dn. each_map MakeNone MakeNone (draft_and d) (resolutions_all σ β ps)
          (λ ds dsn. (dn, dsn)) (all_none ps σ β h (rest_known p ps w)))
          (resolutions_none p σ β h (first_known p ps w))

      each_none_of : (ps : Templates) (σ : Scope) (β : Bindings) → BindNone β → AllKnown ps
          → Each MakesNone (resolutions_of_each σ β ps)
      each_none_of no_templates σ β h w = tt
      each_none_of (template_and p ps) σ β h w =
          each_append MakesNone (resolutions σ β p) (resolutions_of_each σ β ps)
          (resolutions_none p σ β h (first_known p ps w))
          (each_none_of ps σ β h (rest_known p ps w))

    resolved_none : (right : Template) (σ : Scope) (b : Option Bindings) → NoneIfAny b
        → Known right → Each MakesNone (resolved σ right b)
    resolved_none right σ None h w = tt
    resolved_none right σ (Some β) h w = resolutions_none right σ β h w

    -- what rules propose
    proposed_none : (here : Place → Option Bindings) → ((p : Place) → NoneIfAny (here p))
        → (σ : Scope) (t : Tree) (i : ℕ) (rules : List Correction) → CallBuiltinsAlone rules
        → NoCall t → Each (λ p. MakesNone p.draft) (proposals_from here σ t i rules)
    proposed_none here bind σ t i [] w h = tt
    proposed_none here bind σ t i (r ∷ rs) w h =
        let found = together (here r.place) (matches r.left t) in
        let bound =
        none_together (here r.place) (matches r.left t) (bind r.place)
        (matches_none r.left t h) in
        each_append (λ p. MakesNone p.draft)
        (map (proposal i r.cost) (resolved σ r.right found))
        (proposals_from here σ t (suc i) rs)
        (each_map MakesNone (λ p. MakesNone p.draft) (proposal i r.cost)
        (resolved σ r.right found) (λ d k. k)
        (resolved_none r.right σ found bound (All-head (λ q. Known q.right) r rs w)))
        (proposed_none here bind σ t (suc i) rs (All-tail (λ q. Known q.right) r rs w) h)

    module _ (g : Setting) (rules : CallBuiltinsAlone g.rules) where
      mutual
        pub still_none : {site : Site} {line : ℕ} {c : Context} {t u : Tree} {n : ℕ}
            {es : List Edit} → Rewrites g site line c t u n es → NoCall t → NoCall u
        still_none (kept e all) h = (h.0, all_still_none all h.1)
        still_none (copied e) h = (refl, (h, tt))
        still_none (replaced {c} {t} p i fin same) h =
            let drafts = proposed_none without_place anywhere_none c.scope t 0 g.rules rules h in
            let ps = proposals without_place c.scope g.rules t in
            draft_still_none fin (each_in (λ q. MakesNone q.draft) ps p drafts i)
        still_none (replaced_at {site} {c} {t} p i fin same) h =
            let here = with_place site in
            let drafts = proposed_none here (placed_none site) c.scope t 0 g.rules rules h in
            let ps = proposals here c.scope g.rules t in
            draft_still_none fin (each_in (λ q. MakesNone q.draft) ps p drafts i)

        all_still_none : {k : Kind} {i line : ℕ} {c : Context} {ts us : Trees} {n : ℕ}
            {es : List Edit} → RewritesAll g k i line c ts us n es → NoCalls ts → NoCalls us
        all_still_none none h = tt
        all_still_none (each r rs) h = (still_none r h.0, all_still_none rs h.1)

        draft_still_none : {line : ℕ} {c : Context} {d : Draft} {u : Tree} {n : ℕ}
            {es : List Edit} → Finishes g line c d u n es → MakesNone d → NoCall u
        draft_still_none (made e all) h = (h.0, drafts_still_none all h.1)
        draft_still_none (made_a_copy e) h = (refl, (h, tt))
        draft_still_none (rewritten r) h = still_none r h

        drafts_still_none : {k : Kind} {i line : ℕ} {c : Context} {ds : Drafts} {us : Trees}
            {n : ℕ} {es : List Edit} → FinishesAll g k i line c ds us n es → MakeNone ds
            → NoCalls us
        drafts_still_none finished h = tt
        drafts_still_none (and_all r rs) h = (draft_still_none r h.0, drafts_still_none rs h.1)
