-- The resolution of a number is that element of the list of resolutions.
use Rattle.std.proofs.Common.{◌≡◌, ℕ, zero, suc, ◌+◌, ◌*◌, ◌-◌, ◌/◌, ◌%◌, ◌<◌, ◌≤◌, Bool, true}
use Rattle.std.proofs.Common.{false, if◌then◌else◌, nat_lt, List, [], ◌∷◌, ◌++◌, map, length}
use Rattle.std.proofs.Common.{slice_get, Some, refl, ap, sym, ◌∙◌, arith}
use Rattle.std.specs.Prelude.{flat_map}
use Rattle.std.proofs.lemmas.List.{map-append}
use Rattle.std.proofs.lemmas.Bool.Decides.{nat_tests}
use Rattle.std.proofs.lemmas.Nat.{div-add-mod', mod_below}
use Rattle.mpy_tree.specs.Trees.{Kind, Tree}
use Rattle.choice_tree.specs.declared.rules.Meta.{Meta}
use Rattle.choice_tree.specs.Templates.{exactly}
use Rattle.choice_tree.specs.Templates.{Template, Templates, made}
use Rattle.choice_tree.specs.Templates.{hole, one_of, some_local, no_templates, template_and}
use Rattle.choice_tree.specs.Typing.{Scope}
use Rattle.choice_tree.specs.Matching.{Bindings, Bound, a_term, an_operator}
use Rattle.choice_tree.specs.Drafts.{Draft, Drafts, again, no_drafts, draft_and, draft_of}
use Rattle.choice_tree.specs.Drafts.{bound_term, term_in, same_meta, node_resolutions, locals_like}
use Rattle.choice_tree.specs.Drafts.{local_draft, resolutions, resolutions_all, resolutions_of_each}
use Rattle.eml_match.specs.Resolutions.{bound_locals, node_draft, locals_for, count}
use Rattle.eml_match.specs.Resolutions.{count_all, count_each, of_kind, of_bound, of_local}
use Rattle.eml_match.specs.Resolutions.{resolution, resolution_all, resolution_of}

-- the element at a place
abbrev IsAt : {A : Type 0} → List A → ℕ → A → Type 0
IsAt xs i a = slice_get xs i ≡ Some a

at_map : {A B : Type 0} (f : A → B) (xs : List A) (i : ℕ) (a : A) → IsAt xs i a
    → IsAt (map f xs) i (f a)
at_map f [] i a h = cc
at_map f (x ∷ xs) zero a h = let e : x ≡ a = cc in ap (λ y. Some (f y)) e
at_map f (x ∷ xs) (suc i) a h = at_map f xs i a h

at_left : {A : Type 0} (xs ys : List A) (i : ℕ) (a : A) → IsAt xs i a → IsAt (xs ++ ys) i a
at_left [] ys i a h = cc
at_left (x ∷ xs) ys zero a h = h
at_left (x ∷ xs) ys (suc i) a h = at_left xs ys i a h

at_right : {A : Type 0} (xs ys : List A) (k j : ℕ) (a : A) → k ≡ length xs + j → IsAt ys j a
    → IsAt (xs ++ ys) k a
at_right [] ys k j a e h = let s : k ≡ j = omega arith in rw s h
at_right (x ∷ xs) ys zero j a e h = absurd (omega arith)
at_right (x ∷ xs) ys (suc k) j a e h = at_right xs ys k j a (omega arith) h

-- lists of one length, one after another
at_flat : {A B : Type 0} (g : A → List B) (n : ℕ) → ((x : A) → length (g x) ≡ n)
    → (xs : List A) (q d k : ℕ) (a : A) (b : B) → k ≡ q * n + d → IsAt xs q a → IsAt (g a) d b
    → IsAt (flat_map g xs) k b
at_flat g n same [] q d k a b e h i = cc
at_flat g n same (x ∷ xs) zero d k a b e h i =
    let s : x ≡ a = cc in
    let p : k ≡ d = omega arith in
    rw p (at_left (g x) (flat_map g xs) d b (rw s i))
at_flat g n same (x ∷ xs) (suc q) d k a b e h i =
    let m : suc q * n ≡ q * n + n = grind arith in
    let l = same x in
    at_right (g x) (flat_map g xs) k (q * n + d) b (omega arith)
    (at_flat g n same xs q d (q * n + d) a b refl h i)

length_flat : {A B : Type 0} (g : A → List B) (n : ℕ) → ((x : A) → length (g x) ≡ n) → (xs : List A)
    → length (flat_map g xs) ≡ length xs * n
length_flat g n same [] = omega arith
length_flat g n same (x ∷ xs) =
    let l = same x in
    let r = length_flat g n same xs in
    let m : suc (length xs) * n ≡ length xs * n + n = grind arith in
    let a = length_appended (g x) (flat_map g xs) in
    omega arith
  where
    length_appended : {A : Type 0} (xs ys : List A) → length (xs ++ ys) ≡ length xs + length ys
    length_appended [] ys = omega arith
    length_appended (x ∷ xs) ys = let r = length_appended xs ys in omega arith

length_mapped : {A B : Type 0} (f : A → B) (xs : List A) → length (map f xs) ≡ length xs
length_mapped f [] = refl
length_mapped f (x ∷ xs) = ap suc (length_mapped f xs)

length_joined : {A : Type 0} (xs ys : List A) → length (xs ++ ys) ≡ length xs + length ys
length_joined [] ys = omega arith
length_joined (x ∷ xs) ys = let r = length_joined xs ys in omega arith

record Found {A : Type 0} (xs : List A) (i : ℕ) : Type 0 where
  pub element : A
  pub is : IsAt xs i element

found : {A : Type 0} (xs : List A) (i : ℕ) → i < length xs → Found xs i
found [] i h = absurd (omega arith)
found (x ∷ xs) zero h = record { element = x; is = refl }
found (x ∷ xs) (suc i) h = let f = found xs i (omega arith) in
    record { element = f.element; is = f.is }

digit_below : (a q m s r : ℕ) → r ≡ q * m + s → r < a * m → q < a
digit_below zero q m s r e h = let z : 0 * m ≡ 0 = grind arith in absurd (omega arith)
digit_below (suc a) zero m s r e h = omega arith
digit_below (suc a) (suc q) m s r e h =
    let x : suc q * m ≡ q * m + m = grind arith in
    let y : suc a * m ≡ a * m + m = grind arith in
    let k : q < a = digit_below a q m s (q * m + s) refl (omega arith) in
    omega arith

times_one : {a b x y : ℕ} → a ≡ x → b ≡ y → a * (1 * b) ≡ x * y
times_one e h = (λ i. e i * (1 * h i)) ∙ grind arith

-- the drafts of locals are those of the list of locals
locals_are : (σ : Scope) (ts : List Tree)
    → flat_map (λ t. map local_draft (locals_like σ t)) ts ≡ map local_draft (bound_locals σ ts)
locals_are σ [] = refl
locals_are σ (t ∷ ts) =
    ap (λ ds. map local_draft (locals_like σ t) ++ ds) (locals_are σ ts) ∙ sym
    (map-append local_draft (locals_like σ t) (bound_locals σ ts))

-- the drafts of a node, by its kinds and the drafts of its parts behind the first
abbrev node_rest : List Kind → List Drafts → Draft → List Draft
node_rest kinds rest d = flat_map (λ j. map (λ ds. node_draft (draft_and d ds) j) rest) kinds

rest_length : (kinds : List Kind) (rest : List Drafts) (d : Draft)
    → length (node_rest kinds rest d) ≡ length kinds * length rest
rest_length kinds rest d =
    length_flat (λ j. map (λ ds. node_draft (draft_and d ds) j) rest) (length rest)
    (λ j. length_mapped (λ ds. node_draft (draft_and d ds) j) rest) kinds

-- the number of the parts, and their resolution, with or without others behind the first
all_count : (p : Template) (ps : Templates) (σ : Scope) (β : Bindings)
    → count_all (template_and p ps) (locals_for σ β) β ≡ count p (locals_for σ β) β * count_all ps
    (locals_for σ β) β
all_count p no_templates σ β = grind arith
all_count p (template_and q ps) σ β = refl

mutual
  pub counted : (p : Template) (σ : Scope) (β : Bindings) → length (resolutions σ β p) ≡ count p
      (locals_for σ β) β
  counted (made (exactly k) no_templates) σ β = refl
  counted (made (exactly k) (template_and p ps)) σ β =
      length_flat (node_rest (k ∷ []) (resolutions_all σ β ps))
      (1 * length (resolutions_all σ β ps))
      (λ d. rest_length (k ∷ []) (resolutions_all σ β ps) d) (resolutions σ β p)
      ∙ times_one (counted p σ β) (counted_all ps σ β) ∙ sym (all_count p ps σ β)
  counted (made k no_templates) σ β = length_mapped (node_draft no_drafts) (node_resolutions β k)
  counted (made k (template_and p ps)) σ β =
      length_flat (node_rest (node_resolutions β k) (resolutions_all σ β ps))
      (length (node_resolutions β k) * length (resolutions_all σ β ps))
      (λ d. rest_length (node_resolutions β k) (resolutions_all σ β ps) d) (resolutions σ β p)
      ∙ (λ i. counted p σ β i * (length (node_resolutions β k) * counted_all ps σ β i))
  counted (hole m) σ β = length_mapped (if m.primed then again else draft_of) (bound_term β m)
  counted (one_of ps) σ β = counted_each ps σ β
  counted (some_local m) σ β =
      ap length (locals_are σ (bound_term β m)) ∙ length_mapped local_draft
      (bound_locals σ (bound_term β m))

  pub counted_all : (ps : Templates) (σ : Scope) (β : Bindings)
      → length (resolutions_all σ β ps) ≡ count_all ps (locals_for σ β) β
  counted_all no_templates σ β = refl
  counted_all (template_and p ps) σ β =
      length_flat (λ d. map (draft_and d) (resolutions_all σ β ps))
      (length (resolutions_all σ β ps))
      (λ d. length_mapped (draft_and d) (resolutions_all σ β ps)) (resolutions σ β p)
      ∙ (λ i. counted p σ β i * counted_all ps σ β i) ∙ sym (all_count p ps σ β)

  counted_each : (ps : Templates) (σ : Scope) (β : Bindings)
      → length (resolutions_of_each σ β ps) ≡ count_each ps (locals_for σ β) β
  counted_each no_templates σ β = refl
  counted_each (template_and p ps) σ β =
      length_joined (resolutions σ β p) (resolutions_of_each σ β ps) ∙
      (λ i. counted p σ β i + counted_each ps σ β i)

-- the first part and the others, by the digits of a number
abbrev all_resolved : (p : Template) (ps : Templates) (σ : Scope) (β : Bindings) (r : ℕ) → Type 0
all_resolved p ps σ β r = (q j : ℕ) × (r ≡ q * count_all ps (locals_for σ β) β + j) × (j <
    count_all ps (locals_for σ β) β)
    × (resolution_all (template_and p ps) (locals_for σ β) β r ≡ draft_and (resolution p
    (locals_for σ β) β q)
    (resolution_all ps (locals_for σ β) β j))

positive : (a b r : ℕ) → r < a * b → 0 < b
positive a zero r h = let z : a * 0 ≡ 0 = grind arith in absurd (omega arith)
positive a (suc b) r h = omega arith

by_digits : (p : Template) (ps : Templates) (σ : Scope) (β : Bindings) (r : ℕ)
    → r < count_all (template_and p ps) (locals_for σ β) β → all_resolved p ps σ β r
by_digits p no_templates σ β r h = (r, 0, grind arith, omega arith, refl)
by_digits p (template_and q ps) σ β r h =
    let n = count_all (template_and q ps) (locals_for σ β) β in (
      r / n,
      r % n,
      sym (div-add-mod' r n),
      mod_below r n (positive (count p (locals_for σ β) β) n r
          h),
      refl,
    )

one_kind : (q n j r : ℕ) → r ≡ q * n + j → r ≡ q * (1 * n) + (0 * n + j)
one_kind q n j r e = e ∙ grind arith

-- of a node whose kind is one of some, beside two parts at least
kind_digits : (a k n r : ℕ) → r < a * (k * n)
    → (r ≡ (r / n / k) * (k * n) + ((r / n % k) * n + r % n)) × (r / n % k < k) × (r % n < n)
kind_digits a k n r h =
    let m = positive a (k * n) r h in
    let np : 0 < n = positive k n 0 m in
    let kp : 0 < k = positive n k 0 (let c : k * n ≡ n * k = grind arith in omega arith) in
    let x = div-add-mod' r n in
    let y = div-add-mod' (r / n) k in (
      digits (r / n / k) k n (r / n % k) (r / n) (r % n) r (sym y) (sym x),
      mod_below (r / n) k kp,
      mod_below r n np,
    )
  where
    digits : (q k n i s j r : ℕ) → s ≡ q * k + i → r ≡ s * n + j → r ≡ q * (k * n) + (i * n + j)
    digits q k n i s j r e f = f ∙ ap (λ x. x * n + j) e ∙ grind arith

-- a metavariable stands for one term at most
term_once : (x : Bound) → length (term_in x) ≤ 1
term_once (a_term t) = omega arith
term_once (an_operator k) = omega arith

either_once : (e : Bool) (xs ys : List Tree) → length xs ≤ 1 → length ys ≤ 1
    → length (if e then xs else ys) ≤ 1
either_once true xs ys h k = h
either_once false xs ys h k = k

bound_once : (β : Bindings) (m : Meta) → length (bound_term β m) ≤ 1
bound_once [] m = omega arith
bound_once (b ∷ bs) m =
    either_once (same_meta b.meta m) (term_in b.bound) (bound_term bs m) (term_once b.bound)
    (bound_once bs m)

of_hole : (primed : Bool) (ts : List Tree) (r : ℕ) → length ts ≤ 1 → r < length ts
    → IsAt (map (if primed then again else draft_of) ts) r (of_bound primed ts)
of_hole primed [] r o h = absurd (omega arith)
of_hole true (t ∷ ts) zero o h = refl
of_hole false (t ∷ ts) zero o h = refl
of_hole primed (t ∷ ts) (suc r) o h = absurd (omega arith)

of_kind_at : (ds : Drafts) (ks : List Kind) (r : ℕ) → r < length ks
    → IsAt (map (node_draft ds) ks) r (of_kind (slice_get ks r) ds)
of_kind_at ds [] r h = absurd (omega arith)
of_kind_at ds (k ∷ ks) zero h = refl
of_kind_at ds (k ∷ ks) (suc r) h = of_kind_at ds ks r (omega arith)

of_local_at : (xs : List (List ℕ)) (r : ℕ) → r < length xs
    → IsAt (map local_draft xs) r (of_local (slice_get xs r))
of_local_at [] r h = absurd (omega arith)
of_local_at (x ∷ xs) zero h = refl
of_local_at (x ∷ xs) (suc r) h = of_local_at xs r (omega arith)

in_set : (n : ℕ) (xs ys : List Draft) (r : ℕ) (d e : Draft) → length xs ≡ n → (r < n → IsAt xs r d)
    → (n ≤ r → IsAt ys (r - n) e) → IsAt (xs ++ ys) r (if nat_lt r n then d else e)
in_set n xs ys r d e l h k = by_test (nat_lt r n) refl
  where
    by_test : (b : Bool) → nat_lt r n ≡ b → IsAt (xs ++ ys) r (if b then d else e)
    by_test true t = let below : r < n = grind (arith, nat_tests) in at_left xs ys r d (h below)
    by_test false t = let above : n ≤ r = grind (arith, nat_tests) in
        at_right xs ys r (r - n) e (omega arith) (k above)

-- a node of one kind, or of the kind of a number, before the drafts of its parts
at_node : (kinds : List Kind) (firsts : List Draft) (rest : List Drafts) (q i j r : ℕ) (d : Draft)
    (ds : Drafts) → r ≡ q * (length kinds * length rest) + (i * length rest + j) → i < length kinds
    → IsAt firsts q d → IsAt rest j ds
    → IsAt (flat_map (node_rest kinds rest) firsts) r (of_kind (slice_get kinds i) (draft_and d ds))
at_node kinds firsts rest q i j r d ds e h a b =
    let f = found kinds i h in
    rw f.is (at_flat (node_rest kinds rest) (length kinds * length rest)
    (λ x. rest_length kinds rest x) firsts q (i * length rest + j) r d
    (node_draft (draft_and d ds) f.element) e a
    (at_flat (λ k. map (λ es. node_draft (draft_and d es) k) rest) (length rest)
    (λ k. length_mapped (λ es. node_draft (draft_and d es) k) rest) kinds i j
    (i * length rest + j) f.element (node_draft (draft_and d ds) f.element) refl f.is
    (at_map (λ es. node_draft (draft_and d es) f.element) rest j ds b)))

mutual
  -- the resolution of a number below the count is that element of the list
  pub resolved_at : (p : Template) (σ : Scope) (β : Bindings) (r : ℕ) → r < count p (locals_for σ
      β) β
      → IsAt (resolutions σ β p) r (resolution p (locals_for σ β) β r)
  resolved_at (made (exactly k) no_templates) σ β zero h = refl
  resolved_at (made (exactly k) no_templates) σ β (suc r) h = absurd (omega arith)
  resolved_at (made (exactly k) (template_and p ps)) σ β r h =
      let d = by_digits p ps σ β r h in
      let n = counted_all ps σ β in
      let below : d.0 < count p (locals_for σ β) β =
      digit_below (count p (locals_for σ β) β) d.0 (count_all ps (locals_for σ β) β) d.1 r d.2
      (let c = all_count p ps σ β in omega arith) in
      rw d.4 (at_node (k ∷ []) (resolutions σ β p) (resolutions_all σ β ps) d.0 0 d.1 r
      (resolution p (locals_for σ β) β d.0) (resolution_all ps (locals_for σ β) β d.1)
      (rw n (one_kind d.0 (count_all ps (locals_for σ β) β) d.1 r d.2)) (omega arith)
      (resolved_at p σ β d.0 below) (all_resolved_at ps σ β d.1 d.3))
  resolved_at (made k no_templates) σ β r h = of_kind_at no_drafts (node_resolutions β k) r h
  resolved_at (made k (template_and p ps)) σ β r h =
      let n = count_all ps (locals_for σ β) β in
      let m = length (node_resolutions β k) in
      let d = kind_digits (count p (locals_for σ β) β) m n r h in
      let below : r / n / m < count p (locals_for σ β) β =
      digit_below (count p (locals_for σ β) β) (r / n / m) (m * n) ((r / n % m) * n + r % n) r d.0
      h in
      at_node (node_resolutions β k) (resolutions σ β p) (resolutions_all σ β ps) (r / n / m)
      (r / n % m) (r % n) r (resolution p (locals_for σ β) β (r / n / m)) (resolution_all ps
      (locals_for σ β) β (r % n))
      (rw (counted_all ps σ β) d.0) d.1 (resolved_at p σ β (r / n / m) below)
      (all_resolved_at ps σ β (r % n) d.2)
  resolved_at (hole m) σ β r h = of_hole m.primed (bound_term β m) r (bound_once β m) h
  resolved_at (one_of ps) σ β r h = resolved_in ps σ β r h
  resolved_at (some_local m) σ β r h =
      rw (locals_are σ (bound_term β m)) (of_local_at (bound_locals σ (bound_term β m)) r h)

  pub all_resolved_at : (ps : Templates) (σ : Scope) (β : Bindings) (r : ℕ) → r < count_all ps
      (locals_for σ β) β
      → IsAt (resolutions_all σ β ps) r (resolution_all ps (locals_for σ β) β r)
  all_resolved_at no_templates σ β zero h = refl
  all_resolved_at no_templates σ β (suc r) h = absurd (omega arith)
  all_resolved_at (template_and p ps) σ β r h =
      let d = by_digits p ps σ β r h in
      let n = counted_all ps σ β in
      let below : d.0 < count p (locals_for σ β) β =
      digit_below (count p (locals_for σ β) β) d.0 (count_all ps (locals_for σ β) β) d.1 r d.2
      (let c = all_count p ps σ β in omega arith) in
      rw d.4 (at_flat (λ e. map (draft_and e) (resolutions_all σ β ps)) (count_all ps (locals_for σ
      β) β)
      (λ e. length_mapped (draft_and e) (resolutions_all σ β ps) ∙ n) (resolutions σ β p) d.0
      d.1 r (resolution p (locals_for σ β) β d.0) _ d.2
      (resolved_at p σ β d.0 below)
      (at_map (draft_and (resolution p (locals_for σ β) β d.0)) (resolutions_all σ β ps) d.1
      (resolution_all ps (locals_for σ β) β d.1) (all_resolved_at ps σ β d.1 d.3)))

  resolved_in : (ps : Templates) (σ : Scope) (β : Bindings) (r : ℕ) → r < count_each ps (locals_for
      σ β) β
      → IsAt (resolutions_of_each σ β ps) r (resolution_of ps (locals_for σ β) β r)
  resolved_in no_templates σ β r h = absurd (omega arith)
  resolved_in (template_and p ps) σ β r h =
      in_set (count p (locals_for σ β) β) (resolutions σ β p) (resolutions_of_each σ β ps) r
      (resolution p (locals_for σ β) β r)
      (resolution_of ps (locals_for σ β) β (r - count p (locals_for σ β) β)) (counted p σ β)
      (λ below. resolved_at p σ β r below)
      (λ above. resolved_in ps σ β (r - count p (locals_for σ β) β) (omega arith))
