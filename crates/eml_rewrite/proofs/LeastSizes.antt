-- Weighted trees are no smaller than what is counted.
use Rattle.std.proofs.Common.{◌≡◌, ℕ, zero, suc, ◌+◌, ◌<◌, ◌≤◌, min, Bool, true, false, cond}
use Rattle.std.proofs.Common.{if◌then◌else◌, List, [], ◌∷◌, length, filter, drop, map, Option, Some, slice_get, refl, ap}
use Rattle.std.proofs.Common.{sym, ◌∙◌, arith}
use Rattle.std.specs.List.{sum_by}
use Rattle.std.proofs.lemmas.List.Sums.{sum_by-cons}
use Rattle.mpy_tree.specs.declared.typing.Ty.{Ty}
use Rattle.mpy_tree.specs.Trees as kind
use Rattle.mpy_tree.specs.Trees.{Kind, Tree, Trees, node, no_trees, tree_and}
use Rattle.choice_tree.specs.Contexts.{Setting, elsewhere, Context, Sharing, apart, shared, copied}
use Rattle.choice_tree.specs.Contexts.{site_below, scope_below, sharing_below, below, copies}
use Rattle.choice_tree.specs.Contexts.{sharing_inside}
use Rattle.choice_tree.specs.Drafts.{Draft, Drafts, as_is, again, no_drafts, draft_and, draft_of}
use Rattle.choice_tree.specs.Drafts.{drafts_of, filled, filled_all, Proposal, proposals}
use Rattle.choice_tree.specs.Growing.{Growing, grown, steps, steps_in, parts_grown, node_grown}
use Rattle.choice_tree.specs.Growing.{draft_grown, drafts_grown, members, picked, alternatives}
use Rattle.choice_tree.specs.Growing.{is_alternative}
use Rattle.choice_tree.specs.Heads.{HasParts, root}
use Rattle.choice_tree.specs.Matching.{Bindings, here, is_expression, without_place}
use Rattle.choice_tree.specs.Templates.{KeepPrimes, Template}
use Rattle.choice_tree.specs.Typing.{Scope, copy_of, same_type, type_of, types_of}
use Rattle.choice_tree.specs.WeightedTrees.{Weighted, Weighteds, plainly, lifted, size, sizes}
use Rattle.choice_tree.specs.WeightedTrees.{other_sizes}
use Rattle.choice_tree.proofs.Enough.{enough}
use Rattle.choice_tree.proofs.Lists.{Each}
use Rattle.choice_tree.proofs.Within.{Within, WithinAll, alternatives_within}
use Rattle.eml_match.specs.Parts.{parts, tree_list}
use Rattle.eml_match.specs.Resolutions.{Locals, resolution}
use Rattle.eml_match.proofs.Places.{next_of}
use Rattle.eml_instances.specs.Resolving.{drafts, each_resolved}
use Rattle.eml_rewrite.specs.LeastSizes.{draft_least, drafts_least, kept_least, least_size}
use Rattle.eml_rewrite.specs.LeastSizes.{node_least, others_least, size_by}
use Rattle.eml_rewrite.proofs.Sizes.{IsTerm, either_rooted, rooted, typed_expression}

-- the elements from a place on, with what is counted of those in front
abbrev pub IsFront : {X : Type 0} → (X → ℕ) → List X → ℕ → ℕ → ℕ → Type 0
IsFront f xs i n all = n + sum_by f (drop i xs) ≤ all

pub one_more : {X : Type 0} (f : X → ℕ) (xs : List X) (i j : ℕ) (x : X) (n m k all : ℕ) → j ≡ suc i
    → Some x ≡ slice_get xs i → m ≤ f x → k ≤ n + m → IsFront f xs i n all → IsFront f xs j k all
one_more f xs i j x n m k all s h few sum front =
    let e = ap (sum_by f) (next_of xs i x h) ∙ sum_by-cons f x (drop (suc i) xs) in
    rw s (omega arith)

-- the parts of an expression stand in its function, and no rule with a place is for them
part_scope : (g : Setting) (k : Kind) (i : ℕ) (σ : Scope) → is_expression k ≡ true
    → scope_below g k i σ ≡ σ
part_scope g kind.Program i σ h = cc
part_scope g _ i σ h = refl

part_site : (k : Kind) → is_expression k ≡ true → site_below k ≡ elsewhere
part_site (kind.Assign line x) h = cc
part_site (kind.Return line) h = cc
part_site (kind.Arm line) h = cc
part_site (kind.While line) h = cc
part_site (kind.For line x) h = cc
part_site _ h = refl

node_counted : (c : Context) (k : Kind) (ts : Trees) (n : ℕ) (ws : Weighteds)
    → (is_expression k ≡ true → n ≤ sizes ws)
    → node_least k n
    ≤ size (if copies c (node k ts) then lifted (copy_of (node k ts)) else plainly k ws)
node_counted c (kind.Int i) ts n ws h = let r = h refl in omega arith
node_counted c (kind.Bool b) ts n ws h = let r = h refl in omega arith
node_counted c (kind.Text cs) ts n ws h = let r = h refl in omega arith
node_counted c (kind.Name x) ts n ws h =
    either_rooted (copies c (node (kind.Name x) ts)) (kind.Name x) ts (plainly (kind.Name x) ws)
    (omega arith)
node_counted c kind.List ts n ws h = let r = h refl in omega arith
node_counted c kind.Neg ts n ws h = let r = h refl in omega arith
node_counted c kind.Not ts n ws h = let r = h refl in omega arith
node_counted c (kind.Arith op) ts n ws h = let r = h refl in omega arith
node_counted c (kind.Cmp op) ts n ws h = let r = h refl in omega arith
node_counted c kind.And ts n ws h = let r = h refl in omega arith
node_counted c kind.Or ts n ws h = let r = h refl in omega arith
node_counted c kind.Cond ts n ws h = let r = h refl in omega arith
node_counted c kind.Index ts n ws h = let r = h refl in omega arith
node_counted c (kind.Slice from to) ts n ws h = let r = h refl in omega arith
node_counted c (kind.Call f) ts n ws h = let r = h refl in omega arith
node_counted c _ ts n ws h = omega arith

-- what is counted of terms that take so many steps at most is no more than grows
abbrev pub IsBelow : Scope → (Tree → ℕ) → Growing → ℕ → Type 0
IsBelow σ least grow f = (t : Tree) (s : Sharing) → steps t ≤ f
    → least t ≤ size (grow elsewhere (record { scope = σ; sharing = s }) t)

module _ (g : Setting) (σ : Scope) (least : Tree → ℕ) (grow : Growing) (f : ℕ)
    (below_grown : IsBelow σ least grow f) where
  parts_counted : (ts : Trees) (k : Kind) (i : ℕ) (s : Sharing) → is_expression k ≡ true
      → steps_in ts ≤ f
      → sum_by least (tree_list ts)
      ≤ sizes (parts_grown g grow ts k i (record { scope = σ; sharing = s }))
  parts_counted no_trees k i s e h = omega arith
  parts_counted (tree_and t ts) k i s e h =
      let first : least t
      ≤ size (grow (site_below k) (below g k i (record { scope = σ; sharing = s })) t) =
      rw (part_site k e, part_scope g k i σ e)
      (below_grown t (sharing_below k i s) (omega arith)) in
      let rest = parts_counted ts k (suc i) s e (omega arith) in
      let sum = sum_by-cons least t (tree_list ts) in
      omega arith

  mutual
    draft_counted : (d : Draft) (s : Sharing) → Within f d
        → draft_least least d
        ≤ size (draft_grown g grow d (record { scope = σ; sharing = s }))
    draft_counted (as_is k ds) s w =
        node_counted (record { scope = σ; sharing = s }) k (filled_all ds)
        (drafts_least least ds)
        (drafts_grown g grow ds k 0 (record { scope = σ; sharing = s }))
        (λ e. drafts_counted ds k 0 s e w)
    draft_counted (again t) s w = below_grown t s w

    drafts_counted : (ds : Drafts) (k : Kind) (i : ℕ) (s : Sharing) → is_expression k ≡ true
        → WithinAll f ds
        → drafts_least least ds
        ≤ sizes (drafts_grown g grow ds k i (record { scope = σ; sharing = s }))
    drafts_counted no_drafts k i s e w = omega arith
    drafts_counted (draft_and d ds) k i s e w =
        let first : draft_least least d
        ≤ size (draft_grown g grow d (below g k i (record { scope = σ; sharing = s }))) =
        rw (part_scope g k i σ e) (draft_counted d (sharing_below k i s) w.0) in
        let rest = drafts_counted ds k (suc i) s e w.1 in
        omega arith

  members_counted : (ps : List Proposal) (s : Sharing) → Each (λ p. Within f p.draft) ps
      → sum_by (λ q. draft_least least q.draft) ps
      ≤ other_sizes (members g grow (record { scope = σ; sharing = s }) ps)
  members_counted [] s w = omega arith
  members_counted (p ∷ ps) s w =
      let first = draft_counted p.draft s w.0 in
      let rest = members_counted ps s w.1 in
      let sum = sum_by-cons (λ q. draft_least least q.draft) p ps in
      omega arith

  pub picked_counted : (base : Weighted) (n : ℕ) (ps : List Proposal) (s : Sharing) → n ≤ size base
      → Each (λ p. Within f p.draft) ps
      → n + others_least least ps
      ≤ size (picked base (members g grow (record { scope = σ; sharing = s }) ps))
  picked_counted base n [] s h w = omega arith
  picked_counted base n (p ∷ ps) s h w =
      let all = members_counted (p ∷ ps) s w in
      omega arith

-- more steps change nothing
least_by : (g : Setting) (σ : Scope) (t : Tree) (s : Sharing) → least_size g σ t ≤ size_by g σ t s
least_by g σ t apart = omega arith
least_by g σ t shared = omega arith
least_by g σ t copied = omega arith

pub least_below : (g : Setting) → KeepPrimes g.rules → (σ : Scope) (f : ℕ)
    → IsBelow σ (least_size g σ) (grown g f) f
least_below g keeps σ f t s h =
    rw (enough g keeps f (steps t) elsewhere (record { scope = σ; sharing = s }) t (omega arith)
    (omega arith)) (least_by g σ t s)

-- what holds of each holds of those that pass a test
each_if : {A : Type 0} (P : A → Type 0) (x : A) (ys : List A) (b : Bool) → P x → Each P ys
    → Each P (cond b (x ∷ ys) ys)
each_if P x ys true h k = (h, k)
each_if P x ys false h k = k

pub each_filtered : {A : Type 0} (P : A → Type 0) (test : A → Bool) (xs : List A) → Each P xs
    → Each P (filter test xs)
each_filtered P test [] h = tt
each_filtered P test (x ∷ xs) h =
    each_if P x (filter test xs) (test x) h.0 (each_filtered P test xs h.1)

-- a node, with its parts, and where there are alternatives
least_of_three : (n a b c : ℕ) → n ≤ a → n ≤ b → n ≤ c → n ≤ min a (min b c)
least_of_three n a b c h k l = omega arith

node_by : (g : Setting) → KeepPrimes g.rules → (σ : Scope) (k : Kind) (ts : Trees) (n : ℕ)
    → is_expression k ≡ true → n ≤ node_least k (sum_by (least_size g σ) (tree_list ts))
    → (here s : Sharing)
    → n + others_least (least_size g σ) (alternatives g without_place (record {
      scope = σ;
      sharing = here;
    }) (node k ts)) ≤ size_by g σ (node k ts) s
node_by g keeps σ k ts n e h here s =
    let f = suc (steps_in ts) in
    let c : Context = record { scope = σ; sharing = s } in
    let grow = grown g f in
    let few = least_below g keeps σ f in
    let kept =
    node_counted c k ts (sum_by (least_size g σ) (tree_list ts)) (parts_grown g grow ts k 0 c)
    (λ e. parts_counted g σ (least_size g σ) grow f few ts k 0 s e (omega arith)) in
    picked_counted g σ (least_size g σ) grow f few (node_grown g grow c (node k ts)) n
    (alternatives g without_place c (node k ts)) (sharing_inside s) (omega arith)
    (each_filtered (λ p. Within f p.draft) (is_alternative σ (node k ts))
    (proposals without_place σ g.rules (node k ts))
    (alternatives_within f σ g.rules (node k ts) keeps (omega arith)))

-- a name has no parts
pub over_parts : {X : Type 0} (f : X → ℕ) (k : Kind) (xs : List X) → HasParts k (length xs)
    → suc (sum_by f xs) ≤ node_least k (sum_by f xs)
over_parts f (kind.Int n) xs h = omega arith
over_parts f (kind.Bool b) xs h = omega arith
over_parts f (kind.Text cs) xs h = omega arith
over_parts f (kind.Name x) [] h = omega arith
over_parts f (kind.Name x) (y ∷ ys) h = absurd (omega arith)
over_parts f kind.List xs h = omega arith
over_parts f kind.Neg xs h = omega arith
over_parts f kind.Not xs h = omega arith
over_parts f (kind.Arith op) xs h = omega arith
over_parts f (kind.Cmp op) xs h = omega arith
over_parts f kind.And xs h = omega arith
over_parts f kind.Or xs h = omega arith
over_parts f kind.Cond xs h = omega arith
over_parts f kind.Index xs h = omega arith
over_parts f (kind.Slice from to) xs h = omega arith
over_parts f (kind.Call g) xs h = omega arith
over_parts f _ xs h = absurd h

pub term_counted : (g : Setting) → KeepPrimes g.rules → (c : Context) (t : Tree)
    → is_expression (root t) ≡ true → HasParts (root t) (length (parts t))
    → kept_least (least_size g c.scope) t
    + others_least (least_size g c.scope) (alternatives g (here elsewhere) c t)
    ≤ least_size g c.scope t
term_counted g keeps c (node k ts) e has =
    let σ = c.scope in
    let n = suc (sum_by (least_size g σ) (tree_list ts)) in
    let few = over_parts (least_size g σ) k (tree_list ts) has in
    let by = node_by g keeps σ k ts n e few c.sharing in
    least_of_three
    (n + others_least (least_size g σ) (alternatives g (here elsewhere) c (node k ts)))
    (size_by g σ (node k ts) apart) (size_by g σ (node k ts) shared)
    (size_by g σ (node k ts) copied) (by apart) (by shared) (by copied)

-- each expression has a node
pub some_node : (g : Setting) (σ : Scope) (t : Tree) → is_expression (root t) ≡ true
    → 1 ≤ least_size g σ t
some_node g σ (node k ts) h =
    let by : (s : Sharing) → 1 ≤ size_by g σ (node k ts) s =
    λ s. rooted g (steps (node k ts)) elsewhere (record { scope = σ; sharing = s }) k ts h in
    least_of_three 1 (size_by g σ (node k ts) apart) (size_by g σ (node k ts) shared)
    (size_by g σ (node k ts) copied) (by apart) (by shared) (by copied)

-- and so has each member
node_has_one : (k : Kind) (n : ℕ) → is_expression k ≡ true → 1 ≤ node_least k n
node_has_one (kind.Name x) n h = omega arith
node_has_one _ n h = grind arith

draft_has_one : (least : Tree → ℕ) → ((t : Tree) → is_expression (root t) ≡ true → 1 ≤ least t)
    → (σ : Scope) (d : Draft) (o : Option Ty) → same_type (type_of σ (filled d)) o ≡ true
    → 1 ≤ draft_least least d
draft_has_one least some σ (as_is k ds) o h =
    node_has_one k (drafts_least least ds) (typed_expression σ k (types_of σ (filled_all ds)) o h)
draft_has_one least some σ (again (node k ts)) o h =
    some (node k ts) (typed_expression σ k (types_of σ ts) o h)

members_have_one : (least : Tree → ℕ)
    → ((t : Tree) → is_expression (root t) ≡ true → 1 ≤ least t) → (σ : Scope) (t : Tree)
    → (ps : List Proposal)
    → length (filter (is_alternative σ t) ps)
    ≤ sum_by (λ q. draft_least least q.draft) (filter (is_alternative σ t) ps)
members_have_one least some σ t [] = omega arith
members_have_one least some σ t (p ∷ ps) =
    more (is_alternative σ t p) refl (members_have_one least some σ t ps)
  where
    more : (b : Bool) → is_alternative σ t p ≡ b
        → length (filter (is_alternative σ t) ps)
        ≤ sum_by (λ q. draft_least least q.draft) (filter (is_alternative σ t) ps)
        → length (cond b (p ∷ filter (is_alternative σ t) ps) (filter (is_alternative σ t) ps))
        ≤ sum_by (λ q. draft_least least q.draft)
        (cond b (p ∷ filter (is_alternative σ t) ps) (filter (is_alternative σ t) ps))
    more true e h =
        let one = draft_has_one least some σ p.draft (type_of σ t) e in
        let sum =
        sum_by-cons (λ q. draft_least least q.draft) p (filter (is_alternative σ t) ps) in
        omega arith
    more false e h = h

pub many_counted : (least : Tree → ℕ)
    → ((t : Tree) → is_expression (root t) ≡ true → 1 ≤ least t) → (σ : Scope) (t : Tree)
    → (ps : List Proposal) (n : ℕ) → n < length (filter (is_alternative σ t) ps)
    → n + 1 ≤ others_least least (filter (is_alternative σ t) ps)
many_counted least some σ t ps n h =
    listed (filter (is_alternative σ t) ps) h (members_have_one least some σ t ps)
  where
    listed : (qs : List Proposal) → n < length qs
        → length qs ≤ sum_by (λ q. draft_least least q.draft) qs → n + 1 ≤ others_least least qs
    listed [] h s = absurd (omega arith)
    listed (q ∷ qs) h s = omega arith

pub mapped_sum : {X Y : Type 0} (f : Y → ℕ) (seen : X → Y) (xs : List X)
    → sum_by f (map seen xs) ≡ sum_by (λ x. f (seen x)) xs
mapped_sum f seen [] = refl
mapped_sum f seen (x ∷ xs) =
    sum_by-cons f (seen x) (map seen xs)
    ∙ ap (λ n. f (seen x) + n) (mapped_sum f seen xs)
    ∙ sym (sum_by-cons (λ y. f (seen y)) x xs)

pub members_begin : {X : Type 0} (least : Tree → ℕ) (seen : X → Proposal) (xs : List X)
    → 0 < length xs
    → IsFront (λ x. draft_least least (seen x).draft) xs 0 1 (others_least least (map seen xs))
members_begin least seen [] h = absurd (omega arith)
members_begin least seen (x ∷ xs) h =
    let all = mapped_sum (λ p. draft_least least p.draft) seen (x ∷ xs) in omega arith

-- the parts of a resolution
pub resolved_at : (qs : List Template) (L : Locals) (β : Bindings) (f : ℕ → ℕ) (i j k : ℕ)
    (q : Template) → k ≡ j + i → Some q ≡ slice_get qs i
    → Some (resolution q L β (f k)) ≡ slice_get (each_resolved qs L β f j) i
resolved_at [] L β f i j k q e h = cc
resolved_at (p ∷ ps) L β f zero j k q e h =
    let same : q ≡ p = cc in
    let there : k ≡ j = omega arith in
    λ x. Some (resolution (same x) L β (f (there x)))
resolved_at (p ∷ ps) L β f (suc i) j k q e h =
    resolved_at ps L β f i (suc j) k q (omega arith) h

drafts_sum : (least : Tree → ℕ) (ds : List Draft)
    → drafts_least least (drafts ds) ≡ sum_by (draft_least least) ds
drafts_sum least [] = refl
drafts_sum least (d ∷ ds) =
    ap (λ n. draft_least least d + n) (drafts_sum least ds) ∙ sym (sum_by-cons (draft_least least) d
    ds)

resolved_length : (qs : List Template) (L : Locals) (β : Bindings) (f : ℕ → ℕ) (j : ℕ)
    → length (each_resolved qs L β f j) ≡ length qs
resolved_length [] L β f j = refl
resolved_length (q ∷ qs) L β f j = ap suc (resolved_length qs L β f (suc j))

pub side_counted : (least : Tree → ℕ) (k : Kind) (qs : List Template) (L : Locals) (β : Bindings)
    (f : ℕ → ℕ) (d : Draft) (n : ℕ) → d ≡ as_is k (drafts (each_resolved qs L β f 0))
    → HasParts k (length qs)
    → n ≤ suc (sum_by (draft_least least) (each_resolved qs L β f 0)) → n ≤ draft_least least d
side_counted least k qs L β f d n e has h =
    let ds = each_resolved qs L β f 0 in
    let over =
    over_parts (draft_least least) k ds (rw (resolved_length qs L β f 0) has) in
    rw (e, drafts_sum least ds) (omega arith)

-- an expression as it stands
pub term_root : (t : Tree) → IsTerm t → is_expression (root t) ≡ true
term_root (node k ts) h = h.0

stand_sum : (least : Tree → ℕ) (ts : Trees)
    → drafts_least least (drafts_of ts) ≡ sum_by (λ u. draft_least least (draft_of u)) (tree_list ts)
stand_sum least no_trees = refl
stand_sum least (tree_and t ts) =
    ap (λ n. draft_least least (draft_of t) + n) (stand_sum least ts)
    ∙ sym (sum_by-cons (λ u. draft_least least (draft_of u)) t (tree_list ts))

pub stands_counted : (least : Tree → ℕ) (t : Tree) (n : ℕ) → HasParts (root t) (length (parts t))
    → n ≤ suc (sum_by (λ u. draft_least least (draft_of u)) (parts t))
    → n ≤ draft_least least (draft_of t)
stands_counted least (node k ts) n has h =
    let over = over_parts (λ u. draft_least least (draft_of u)) k (tree_list ts) has in
    rw (stand_sum least ts) (omega arith)
