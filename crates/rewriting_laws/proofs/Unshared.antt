-- A rewriting of a program in which no statement shares has none that does.
use Rattle.std.proofs.Common.{◌≡◌, ℕ, ◌+◌, suc, Bool, true, false, ◌&&◌, ◌||◌, List, [], ◌∷◌}
use Rattle.std.proofs.Common.{None, refl, sym, ap, ◌∙◌, subst, add-one}
use Rattle.std.specs.List.{flat_map, list_any}
use Rattle.std.proofs.lemmas.Bool.{or_parts}
use Rattle.mpy_tree.specs.Builtins.{builtin_of}
use Rattle.mpy_tree.specs.Locals.{is_among}
use Rattle.mpy_tree.specs.Rules.{Slots}
use Rattle.mpy_tree.specs.Shapes.{shape}
use Rattle.mpy_tree.specs.Sharing.{called_on, changed_on, changes, has_line, is_call_of, is_called}
use Rattle.mpy_tree.specs.Sharing.{on_line_if, open_to, shared, shared_by, shared_from, shared_on}
use Rattle.mpy_tree.specs.Sharing.{some_name}
use Rattle.mpy_tree.specs.Sites.{Site, line_of, nodes, site_nodes, site_terms, sites}
use Rattle.mpy_tree.specs.Syntax.{Action, Routine, Term}
use Rattle.mpy_tree.specs.Values.{same_bytes}
use Rattle.choice_tree.specs.Contexts.{Setting, scope_in}
use Rattle.choice_tree.specs.Typing.{Scope}
use Rattle.choice_tree.proofs.ShapeTypes.{shape_type}
use Rattle.rewriting_laws.specs.RuleCalls.{CallBuiltinsAlone}
use Rattle.rewriting_laws.proofs.Alike.{AlikeAct, AlikeFrom, AlikeSite, AlikeSites, AlikeTerms}
use Rattle.rewriting_laws.proofs.Alike.{Whole}
use Rattle.rewriting_laws.proofs.Alike.{append, assign, augment, augment_at, both_ask, both_do}
use Rattle.rewriting_laws.proofs.Alike.{branch, give, give_none, go_on, go_over, leave, nowhere}
use Rattle.rewriting_laws.proofs.Alike.{pass, print, put, repeat, sites_alike, terms_alike, there}
use Rattle.rewriting_laws.proofs.Calling.{calls_none, none_called, still_none}
use Rattle.rewriting_laws.proofs.Nothing.{Implies, and_less, nil_both}
use Rattle.rewriting_laws.proofs.Nothing.{none_both, none_left, none_right, off, on_none}
use Rattle.rewriting_laws.proofs.Opening.{Fewer, fewer, if_list, open_at, shape_opens}
use Rattle.rewriting_laws.proofs.OwnNames.{OwnNames}
use Rattle.rewriting_laws.proofs.Types.{term_alike}
use Rattle.mpy_type_laws.proofs.Nothing.{nil_left, nil_right}

-- what is found at no statement isn't found at one that is alike
nothing_alike : {g : Setting} {σ : Scope} {A : Type 0} (f h : Site → List A)
    → ((s t : Site) → AlikeSite g σ s t → f s ≡ [] → h t ≡ []) → {ss ts : List Site}
    → AlikeSites g σ ss ts → flat_map f ss ≡ [] → flat_map h ts ≡ []
nothing_alike f h step nowhere e = refl
nothing_alike f h step (there {s} {t} {ss} {ts} a rest) e =
    nil_both (h t) (flat_map h ts) (step s t a (nil_left (f s) (flat_map f ss) e))
    (nothing_alike f h step rest (nil_right (f s) (flat_map f ss) e))

no_line : (xs : List ℕ) → has_line xs ≡ false → xs ≡ []
no_line [] h = refl
no_line (x ∷ xs) h = cc

-- a function that isn't called isn't called in a rewriting
module _ (g : Setting) (rules : CallBuiltinsAlone g.rules) (f : List ℕ) (own : builtin_of f ≡ None)
  where
    terms_uncalled : (σ : Scope) (es ds : List Term) → AlikeTerms g σ es ds
        → list_any (is_call_of f) (flat_map nodes es) ≡ false
        → list_any (is_call_of f) (flat_map nodes ds) ≡ false
    terms_uncalled σ [] [] h e = refl
    terms_uncalled σ [] (d ∷ ds) h e = absurd h
    terms_uncalled σ (e ∷ es) [] h x = absurd h
    terms_uncalled σ (e ∷ es) (d ∷ ds) h x =
        let first = calls_none f e (none_left (is_call_of f) (nodes e) (flat_map nodes es) x) in
        let rest = none_right (is_call_of f) (nodes e) (flat_map nodes es) x in
        none_both (is_call_of f) (nodes d) (flat_map nodes ds)
        (none_called f d (still_none f own g rules h.0.1.4 first)) (terms_uncalled σ es ds h.1 rest)

    site_uncalled : (σ : Scope) (s t : Site) → AlikeSite g σ s t → called_on f s ≡ []
        → called_on f t ≡ []
    site_uncalled σ s t h e =
        on_none (list_any (is_call_of f) (site_nodes t)) (line_of t)
        (terms_uncalled σ (site_terms s) (site_terms t) (terms_alike h)
        (off (list_any (is_call_of f) (site_nodes s)) (line_of s) e))

    uncalled : (i : ℕ) (rs qs : List Routine) → AlikeFrom g i rs qs
        → Implies (is_called qs f) (is_called rs f)
    uncalled i [] [] h e = refl
    uncalled i [] (q ∷ qs) h e = absurd h
    uncalled i (r ∷ rs) [] h e = absurd h
    uncalled i (r ∷ rs) (q ∷ qs) h e =
        let lines = flat_map (called_on f) (sites r.body) in
        let both = or_parts (has_line lines) (is_called rs f) e in
        let first =
        nothing_alike (called_on f) (called_on f) (site_uncalled (scope_in g i))
        (sites_alike h.0.body)
        (no_line lines both.0) in
        let rest = uncalled (suc i) rs qs h.1 both.1 in
        λ j. has_line (first j) || rest j

some_any : (xs : List (List ℕ)) → some_name xs ≡ list_any (λ x. true) xs
some_any [] = refl
some_any (x ∷ xs) = refl

-- a name of the first is one of the others
among_fewer : (us xs ys : List (List ℕ)) → Fewer us xs → list_any (is_among xs) ys ≡ false
    → list_any (is_among us) ys ≡ false
among_fewer us xs [] f h = refl
among_fewer us xs (y ∷ ys) f h =
    let both = or_parts (is_among xs y) (list_any (is_among xs) ys) h in
    let first = f (same_bytes y) both.0 in
    let rest = among_fewer us xs ys f both.1 in
    λ j. first j || rest j

-- the function i of a program and of a rewriting of it
module _ (g : Setting) (p : List Routine) (alike : AlikeFrom g 0 g.program p) (i : ℕ) where
  abbrev S : Slots
  S = g.slots

  abbrev s : List Routine
  s = g.program

  abbrev σ : Scope
  σ = scope_in g i

  open_before : (e : Term) → open_to S s i e ≡ open_at σ (shape e)
  open_before e = λ j. if_list (sym (shape_type σ e) j) (sym (shape_opens e) j)

  open_after : (e : Term) → open_to S p i e ≡ open_at σ (shape e)
  open_after e = λ j. if_list (term_alike g p alike i e j) (sym (shape_opens e) j)

  whole_fewer : (e f : Term) → Whole g σ e f → Fewer (open_to S p i f) (open_to S s i e)
  whole_fewer e f w P h =
      ap (list_any P) (open_after f)
      ∙ fewer w.4 refl P (ap (list_any P) (sym (open_before e)) ∙ h)

  changes_alike : {x y : Action} → AlikeAct g σ x y → changes S s i x ≡ changes S p i y
  changes_alike (assign e) = refl
  changes_alike (augment e) = refl
  changes_alike (put k e) = refl
  changes_alike (augment_at k e) = refl
  changes_alike (append e) = refl
  changes_alike (print e) = refl
  changes_alike give_none = refl
  changes_alike (give e) = refl
  changes_alike pass = refl
  changes_alike leave = refl
  changes_alike go_on = refl
  changes_alike (branch xs l) = refl
  changes_alike (repeat e a) = refl
  changes_alike (go_over e a) = refl

  -- a change of what a `for` goes over
  site_unchanged : (us xs : List (List ℕ)) → Fewer us xs → (a b : Site) → AlikeSite g σ a b
      → changed_on S s i xs a ≡ [] → changed_on S p i us b ≡ []
  site_unchanged us xs f _ _ (both_do {line} {x} {y} a) h =
      let before = off (list_any (is_among xs) (changes S s i x)) line h in
      let after = among_fewer us xs (changes S s i x) f before in
      on_none (list_any (is_among us) (changes S p i y)) line
      (ap (list_any (is_among us)) (sym (changes_alike a)) ∙ after)
  site_unchanged us xs f _ _ (both_ask e) h = refl

  -- the function may be called where d says so, and only where b does
  module _ (b d : Bool) (less : Implies d b) (ps : List (List ℕ)) where
    param_unchanged : (x y : Action) (line : ℕ) → AlikeAct g σ x y
        → on_line_if (b && list_any (is_among ps) (changes S s i x)) line ≡ []
        → on_line_if (d && list_any (is_among ps) (changes S p i y)) line ≡ []
    param_unchanged x y line a h =
        let before = list_any (is_among ps) (changes S s i x) in
        let after = list_any (is_among ps) (changes S p i y) in
        on_none (d && after) line
        (and_less b d before after less
        (λ e. ap (list_any (is_among ps)) (sym (changes_alike a)) ∙ e)
        (off (b && before) line h))

    act_unshared : (line : ℕ) (x y : Action) → AlikeAct g σ x y
        → shared_by S s i b ps line x ≡ [] → shared_by S p i d ps line y ≡ []
    act_unshared line _ _ (assign {x} {e} {f} w) h =
        let before = off (some_name (open_to S s i e)) line h in
        on_none (some_name (open_to S p i f)) line
        (some_any (open_to S p i f)
        ∙ whole_fewer e f w (λ n. true) (sym (some_any (open_to S s i e)) ∙ before))
    act_unshared line _ _ (give {e} {f} w) h =
        let before = list_any (is_among ps) (open_to S s i e) in
        let after = list_any (is_among ps) (open_to S p i f) in
        on_none (d && after) line
        (and_less b d before after less (whole_fewer e f w (is_among ps))
        (off (b && before) line h))
    act_unshared line _ _ (go_over {x} {e} {f} w body) h =
        let us = open_to S p i f in
        let xs = open_to S s i e in
        nothing_alike (changed_on S s i xs) (changed_on S p i us)
        (site_unchanged us xs (whole_fewer e f w)) (sites_alike body) h
    act_unshared line x y (augment e) h = param_unchanged x y line (augment e) h
    act_unshared line x y (put k e) h = param_unchanged x y line (put k e) h
    act_unshared line x y (augment_at k e) h = param_unchanged x y line (augment_at k e) h
    act_unshared line x y (append e) h = param_unchanged x y line (append e) h
    act_unshared line x y (print e) h = param_unchanged x y line (print e) h
    act_unshared line x y give_none h = param_unchanged x y line give_none h
    act_unshared line x y pass h = param_unchanged x y line pass h
    act_unshared line x y leave h = param_unchanged x y line leave h
    act_unshared line x y go_on h = param_unchanged x y line go_on h
    act_unshared line x y (branch xs l) h = param_unchanged x y line (branch xs l) h
    act_unshared line x y (repeat e a) h = param_unchanged x y line (repeat e a) h

    site_unshared : (t u : Site) → AlikeSite g σ t u → shared_on S s i b ps t ≡ []
        → shared_on S p i d ps u ≡ []
    site_unshared _ _ (both_do {line} {x} {y} a) h = act_unshared line x y a h
    site_unshared _ _ (both_ask e) h = refl

module _ (g : Setting) (rules : CallBuiltinsAlone g.rules) (p : List Routine)
    (alike : AlikeFrom g 0 g.program p) where
  unshared_from : (i : ℕ) (rs qs : List Routine) → AlikeFrom g i rs qs → OwnNames rs
      → shared_from g.slots g.program i rs ≡ [] → shared_from g.slots p i qs ≡ []
  unshared_from i [] [] h own e = refl
  unshared_from i [] (q ∷ qs) h own e = absurd h
  unshared_from i (r ∷ rs) [] h own e = absurd h
  unshared_from i (r ∷ rs) (q ∷ qs) h own e =
      let b = is_called g.program r.name in
      let less = uncalled g rules r.name own.0 0 g.program p alike in
      let before = flat_map (shared_on g.slots g.program i b r.params) (sites r.body) in
      let later = shared_from g.slots g.program (i + 1) rs in
      let shares : List (List ℕ) → Bool → List ℕ =
      λ ps d. flat_map (shared_on g.slots p i d ps) (sites q.body) in
      let front =
      nothing_alike (shared_on g.slots g.program i b r.params)
      (shared_on g.slots p i (is_called p r.name) r.params)
      (site_unshared g p alike i b (is_called p r.name) less r.params) (sites_alike h.0.body)
      (nil_left before later e) in
      let whole : shares q.params (is_called p q.name) ≡ [] =
      (λ j. shares (h.0.params j) (is_called p (h.0.name j))) ∙ front in
      let next = subst (λ j. shared_from g.slots g.program j rs ≡ []) (add-one i)
      (nil_right before later e) in
      let rest = unshared_from (suc i) rs qs h.1 own.1 next in
      nil_both (shares q.params (is_called p q.name)) (shared_from g.slots p (i + 1) qs) whole
      (subst (λ j. shared_from g.slots p j qs ≡ []) (sym (add-one i)) rest)

  pub unshared : OwnNames g.program → shared g.slots g.program ≡ [] → shared g.slots p ≡ []
  unshared own h = unshared_from 0 g.program p alike own h
