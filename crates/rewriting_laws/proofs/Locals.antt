-- Which names are locals of a function.
use Rattle.std.proofs.Common.{◌≡◌, ℕ, Bool, true, false, ◌&&◌, ◌||◌, cond, List, [], ◌∷◌, ◌++◌}
use Rattle.std.proofs.Common.{if◌then◌else◌, refl, sym, ap, ◌∙◌}
use Rattle.std.specs.List.{filter, flat_map}
use Rattle.std.proofs.Math.Bool.{or-false}
use Rattle.std.proofs.lemmas.List.Folds.{list_any-append}
use lib.Pointwise.{bytes_decides}
use Rattle.mpy_tree.specs.Locals.{and_new, is_among, locals, node_names, site_assigned}
use Rattle.mpy_tree.specs.Locals.{site_changed, site_names}
use Rattle.mpy_tree.specs.Sites.{Site, site_nodes, sites}
use Rattle.mpy_tree.specs.Syntax.{Routine}
use Rattle.mpy_tree.specs.Values.{same_bytes}
use Rattle.rewriting_laws.proofs.Nothing.{Implies, none_both, none_left, none_right}

abbrev pub assigned_in : Routine → List (List ℕ)
assigned_in r = flat_map site_assigned (sites r.body)

module _ (x : List ℕ) where
  abbrev among : List (List ℕ) → Bool
  among xs = is_among xs x

  after_one : (a c r : Bool) → a || (c || false) || r ≡ a || (c || r)
  after_one true c r = refl
  after_one false true r = refl
  after_one false false r = refl

  there_already : (a c r : Bool) → (c ≡ true → a ≡ true) → a || r ≡ a || (c || r)
  there_already true c r h = refl
  there_already false false r h = refl
  there_already false true r h = let e = h refl in cc

  one_more : (seen : List (List ℕ)) (y : List ℕ) (r b : Bool) → is_among seen y ≡ b
      → among (if b then seen else seen ++ y ∷ []) || r ≡ among seen || (same_bytes x y || r)
  one_more seen y r true e =
      there_already (among seen) (same_bytes x y) r
      (λ h. ap (is_among seen) ((bytes_decides x y).0 h) ∙ e)
  one_more seen y r false e =
      ap (λ b. b || r) (list_any-append (same_bytes x) seen (y ∷ []))
      ∙ after_one (among seen) (same_bytes x y) r

  among_new : (seen xs : List (List ℕ)) → among (and_new seen xs) ≡ among seen || among xs
  among_new seen [] = sym (or-false (among seen))
  among_new seen (y ∷ ys) =
      among_new (if is_among seen y then seen else seen ++ y ∷ []) ys
      ∙ one_more seen y (among ys) (is_among seen y) refl

  kept_first : (a b c r : Bool) → (c ≡ true → a ≡ b)
      → (if b then c || (a && r) else a && r) ≡ a && (c || r)
  kept_first true true c r h = refl
  kept_first true false true r h = let e = h refl in cc
  kept_first true false false r h = refl
  kept_first false true true r h = let e = h refl in cc
  kept_first false true false r h = refl
  kept_first false false c r h = refl

  among_if : (zs : List (List ℕ)) (z : List ℕ) (b : Bool)
      → among (cond b (z ∷ zs) zs) ≡ (if b then same_bytes x z || among zs else among zs)
  among_if zs z true = refl
  among_if zs z false = refl

  among_filter : (ys xs : List (List ℕ))
      → among (filter (is_among ys) xs) ≡ among ys && among xs
  among_filter ys [] = sym (and_false (among ys))
    where
      and_false : (b : Bool) → b && false ≡ false
      and_false true = refl
      and_false false = refl
  among_filter ys (z ∷ xs) =
      among_if (filter (is_among ys) xs) z (is_among ys z)
      ∙ (λ i. if is_among ys z then same_bytes x z || among_filter ys xs i
      else among_filter ys xs i)
      ∙ kept_first (among ys) (is_among ys z) (same_bytes x z) (among xs)
      (λ h. ap (is_among ys) ((bytes_decides x z).0 h))

  -- what is assigned is mentioned
  unmentioned : (ss : List Site)
      → Implies (among (flat_map site_assigned ss)) (among (flat_map site_names ss))
  unmentioned [] h = refl
  unmentioned (s ∷ ss) h =
      let test = same_bytes x in
      let rest = flat_map site_names ss in
      let more = flat_map node_names (site_nodes s) in
      let own = none_left test (site_names s) rest h in
      let targets = none_left test (site_assigned s ++ site_changed s) more own in
      none_both test (site_assigned s) (flat_map site_assigned ss)
      (none_left test (site_assigned s) (site_changed s) targets)
      (unmentioned ss (none_right test (site_names s) rest h))

  narrowed : (a n : Bool) → Implies a n → a && n ≡ a
  narrowed true true h = refl
  narrowed true false h = let e = h refl in cc
  narrowed false n h = refl

  -- the parameters and what is assigned
  pub local_names : (r : Routine)
      → is_among (locals r) x ≡ is_among r.params x || is_among (assigned_in r) x
  local_names r =
      let ss = sites r.body in
      let kept = filter (is_among (assigned_in r)) (flat_map site_names ss) in
      among_new [] (r.params ++ kept) ∙ list_any-append (same_bytes x) r.params kept
      ∙ ap (λ b. among r.params || b)
      (among_filter (assigned_in r) (flat_map site_names ss)
      ∙ narrowed (among (assigned_in r)) (among (flat_map site_names ss)) (unmentioned ss))
