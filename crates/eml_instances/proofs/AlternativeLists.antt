-- Lists of alternatives.
use Rattle.std.proofs.Common.{◌≡◌, ℕ, zero, suc, ◌+◌, ◌<◌, ◌≤◌, Bool, true, false, if◌then◌else◌}
use Rattle.std.proofs.Common.{List, [], ◌∷◌, ◌++◌, map, drop, length, slice_get, Option, Some, None}
use Rattle.std.proofs.Common.{refl, sym, ap, ◌∙◌, subst, arith, append_assoc, ◌⊎◌, inl, inr}
use Rattle.std.proofs.Common.{get_or}
use Rattle.std.specs.Prelude.{filter, All}
use Rattle.std.specs.declared.vec.Vec.{Vec}
use Rattle.std.specs.declared.alloc.Global.{Global}
use Rattle.std.proofs.lemmas.List.{append-nil, map-append}
use Rattle.std.proofs.lemmas.List.Elements.{All-append}
use Rattle.mpy_tree.specs.declared.typing.Ty.{Ty}
use Rattle.choice_tree.specs.Templates.{Template}
use Rattle.choice_tree.specs.Matching.{Bindings}
use Rattle.choice_tree.specs.Typing.{Scope, same_type, type_of}
use Rattle.choice_tree.specs.Drafts.{Proposal, filled, proposal, resolutions}
use Rattle.choice_tree.specs.Rewriting.{In}
use Rattle.choice_tree.proofs.Walking.{is_place, next_of}
use Rattle.eml_match.specs.MatchedRules.{MatchedRule, matched_of, proposals_by}
use Rattle.eml_instances.specs.declared.listing.Alternative.{Alternative}
use Rattle.eml_instances.specs.Alternatives.{AddsIf, AddsTo, AllAmong, IsNumbered, alternative_seen}
use Rattle.eml_match.specs.Resolutions.{count, locals_for, resolution}
use Rattle.eml_instances.specs.Alternatives.{has_type, proposals_of}
use Rattle.eml_instances.specs.Substitutions.{locals_kept}
use Rattle.eml_instances.proofs.SetResolutions.{like, one_type}

pub at_mapped : {A B : Type 0} (f : A → B) (xs : List A) (i : ℕ) (a : A)
    → slice_get xs i ≡ Some a → slice_get (map f xs) i ≡ Some (f a)
at_mapped f [] i a h = cc
at_mapped f (x ∷ xs) zero a h = let e : x ≡ a = cc in ap (λ y. Some (f y)) e
at_mapped f (x ∷ xs) (suc i) a h = at_mapped f xs i a h

pub mapped_length : {A B : Type 0} (f : A → B) (xs : List A) → length (map f xs) ≡ length xs
mapped_length f [] = refl
mapped_length f (x ∷ xs) = ap suc (mapped_length f xs)

pub joined_length : {A : Type 0} (xs ys : List A) → length (xs ++ ys) ≡ length xs + length ys
joined_length [] ys = omega arith
joined_length (x ∷ xs) ys = let r = joined_length xs ys in omega arith

-- what passes a test among the elements from a place on
pub passing_next : (f : Proposal → Bool) (xs : List Proposal) (i j : ℕ) (x : Proposal)
    → j ≡ suc i → slice_get xs i ≡ Some x → f x ≡ true
    → filter f (drop i xs) ≡ x ∷ filter f (drop j xs)
passing_next f [] i j x e h t = cc
passing_next f (y ∷ xs) zero j x e h t =
    let s : y ≡ x = cc in rw (e, s, t) refl
passing_next f (y ∷ xs) (suc i) zero x e h t = absurd (omega arith)
passing_next f (y ∷ xs) (suc i) (suc j) x e h t = passing_next f xs i j x (omega arith) h t

pub failing_next : (f : Proposal → Bool) (xs : List Proposal) (i j : ℕ) (x : Proposal)
    → j ≡ suc i → slice_get xs i ≡ Some x → f x ≡ false
    → filter f (drop i xs) ≡ filter f (drop j xs)
failing_next f [] i j x e h t = cc
failing_next f (y ∷ xs) zero j x e h t =
    let s : y ≡ x = cc in rw (e, s, t) refl
failing_next f (y ∷ xs) (suc i) zero x e h t = absurd (omega arith)
failing_next f (y ∷ xs) (suc i) (suc j) x e h t = failing_next f xs i j x (omega arith) h t

pub none_left : {A : Type 0} (xs : List A) (i : ℕ) → length xs ≤ i → drop i xs ≡ []
none_left [] zero h = refl
none_left [] (suc i) h = refl
none_left (x ∷ xs) zero h = absurd (omega arith)
none_left (x ∷ xs) (suc i) h = none_left xs i (omega arith)

-- one that passes is put behind those that were found
pub one_found : (g : Alternative → Proposal) (f : Proposal → Bool) (ps all : List Proposal)
    (now new : List Alternative) (a : Alternative) (i j : ℕ)
    → j ≡ suc i → slice_get ps i ≡ Some (g a) → f (g a) ≡ true → new ≡ now ++ a ∷ []
    → all ≡ map g now ++ filter f (drop i ps) → all ≡ map g new ++ filter f (drop j ps)
one_found g f ps all now new a i j e h t put whole =
    whole ∙ ap (λ xs. map g now ++ xs) (passing_next f ps i j (g a) e h t)
    ∙ sym (append_assoc (map g now) (g a ∷ []) (filter f (drop j ps)))
    ∙ ap (λ xs. xs ++ filter f (drop j ps)) (sym (map-append g now (a ∷ [])) ∙ ap (map g) (sym put))

pub all_passed : (f : Proposal → Bool) (now ps all : List Proposal) (i : ℕ) → length ps ≤ i
    → all ≡ now ++ filter f (drop i ps) → now ≡ all
all_passed f now ps all i h whole =
    sym (whole ∙ ap (λ xs. now ++ filter f xs) (none_left ps i h) ∙ append-nil now)

-- what the rules propose from one on
pub filter_joined : (f : Proposal → Bool) (xs ys : List Proposal)
    → filter f (xs ++ ys) ≡ filter f xs ++ filter f ys
filter_joined f [] ys = refl
filter_joined f (x ∷ xs) ys = by_test (f x) refl (filter_joined f xs ys)
  where
    by_test : (b : Bool) → f x ≡ b → filter f (xs ++ ys) ≡ filter f xs ++ filter f ys
        → filter f ((x ∷ xs) ++ ys) ≡ filter f (x ∷ xs) ++ filter f ys
    by_test true t rest = rw t (ap (λ zs. x ∷ zs) rest)
    by_test false t rest = rw t rest

-- what a rule's alternatives by a side are, as far as its numbers were tried
pub record Tried (σ : Scope) (f : Proposal → Bool) (m : MatchedRule) (p : Template)
    (before found : List Alternative) (most i : ℕ) : Type 0 where
  pub listed : map (alternative_seen σ) before ++ filter f (proposals_of σ m p)
      ≡ map (alternative_seen σ) found ++ filter f (drop i (proposals_of σ m p))
  pub numbered : All (IsNumbered σ) found
  pub among : (ms : List MatchedRule) → In m ms → AllAmong ms before → AllAmong ms found
  pub few : length before ≤ most → length found ≤ most

pub none_tried : (σ : Scope) (f : Proposal → Bool) (m : MatchedRule) (p : Template)
    (before : List Alternative) (most : ℕ) → All (IsNumbered σ) before → Tried σ f m p before before most 0
none_tried σ f m p before most h =
    record { listed = refl; numbered = h; among = λ ms i all. all; few = λ h. h }

one_numbered : (σ : Scope) (a : Alternative) → IsNumbered σ a → All (IsNumbered σ) (a ∷ [])
one_numbered σ a h zero d below = h
one_numbered σ a h (suc k) d below = absurd (omega arith)

all_among : (ms : List MatchedRule) (xs : List Alternative) (a : Alternative)
    → In (matched_of a.matched.now) ms → AllAmong ms xs → AllAmong ms (xs ++ a ∷ [])
all_among ms [] a i h = (i, tt)
all_among ms (x ∷ xs) a i h = (h.0, all_among ms xs a i h.1)

pub one_tried : (σ : Scope) (f : Proposal → Bool) (m : MatchedRule) (p : Template)
    (before now : List Alternative) (v : Vec Alternative Global) (o : Option (Vec Alternative
    Global))
    (a : Alternative) (most i j : ℕ) (holds : Bool)
    → Tried σ f m p before now most i → j ≡ suc i → matched_of a.matched.now ≡ m
    → slice_get (proposals_of σ m p) i ≡ Some (alternative_seen σ a) → IsNumbered σ a
    → holds ≡ f (alternative_seen σ a) → o ≡ Some v → AddsIf o most holds now a
    → Tried σ f m p before v.items most j
one_tried σ f m p before now v o a most i j holds t e same at numbered h is adds =
    by_test holds refl
  where
    added : AddsIf (Some v) most holds now a
    added = subst (λ x. AddsIf x most holds now a) is adds

    put : v.items ≡ (if holds then now ++ a ∷ [] else now)
    put = added.0

    few : length before ≤ most → length v.items ≤ most
    few h = added.1 (t.few h)

    by_test : (b : Bool) → holds ≡ b → Tried σ f m p before v.items most j
    by_test true y =
        let new : v.items ≡ now ++ a ∷ [] =
        put ∙ ap (λ x. if x then now ++ a ∷ [] else now) y in
        let here : In (matched_of a.matched.now) (m ∷ []) = inl same in
        record {
          listed = one_found (alternative_seen σ) f (proposals_of σ m p)
              (map (alternative_seen σ) before ++ filter f (proposals_of σ m p)) now v.items a i j e
              at (sym h ∙ y) new t.listed;
          numbered = rw new (All-append (IsNumbered σ) now (a ∷ []) t.numbered
              (one_numbered σ a numbered));
          among = λ ms i all. rw new (all_among ms now a (rw same i) (t.among ms i all));
          few = few;
        }
    by_test false y =
        let new : v.items ≡ now = put ∙ ap (λ x. if x then now ++ a ∷ [] else now) y in
        record {
          listed = t.listed
              ∙ ap (λ xs. map (alternative_seen σ) now ++ xs)
              (failing_next f (proposals_of σ m p) i j (alternative_seen σ a) e at (sym h ∙ y))
              ∙ ap (λ xs. map (alternative_seen σ) xs ++ filter f (drop j (proposals_of σ m p)))
              (sym new);
          numbered = rw new t.numbered;
          among = λ ms i all. rw new (t.among ms i all);
          few = few;
        }

pub too_many : (σ : Scope) (f : Proposal → Bool) (m : MatchedRule) (p : Template)
    (before now : List Alternative) (o : Option (Vec Alternative Global)) (a : Alternative)
    (most i : ℕ) (holds : Bool) → Tried σ f m p before now most i
    → slice_get (proposals_of σ m p) i ≡ Some (alternative_seen σ a)
    → holds ≡ f (alternative_seen σ a) → o ≡ None → AddsIf o most holds now a
    → most < length before + length (filter f (proposals_of σ m p))
too_many σ f m p before now o a most i holds t at h is adds =
    let full : (holds ≡ true) × (most ≤ length now) =
    subst (λ x. AddsIf x most holds now a) is adds in
    let g = alternative_seen σ in
    let next =
    passing_next f (proposals_of σ m p) i (suc i) (g a) refl at (sym h ∙ full.0) in
    let left = joined_length (map g before) (filter f (proposals_of σ m p)) in
    let right = joined_length (map g now) (filter f (drop i (proposals_of σ m p))) in
    let some : length (filter f (drop i (proposals_of σ m p)))
    ≡ suc (length (filter f (drop (suc i) (proposals_of σ m p)))) = ap length next in
    let whole = ap length t.listed in
    let x = mapped_length g before in
    let y = mapped_length g now in
    let most_now = full.1 in
    omega (arith, left, right, some, whole, x, y, most_now)

pub all_tried : (σ : Scope) (f : Proposal → Bool) (m : MatchedRule) (p : Template)
    (before found : List Alternative) (most i : ℕ) → Tried σ f m p before found most i
    → length (proposals_of σ m p) ≤ i
    → map (alternative_seen σ) found
    ≡ map (alternative_seen σ) before ++ filter f (proposals_of σ m p)
all_tried σ f m p before found most i t h =
    all_passed f (map (alternative_seen σ) found) (proposals_of σ m p)
    (map (alternative_seen σ) before ++ filter f (proposals_of σ m p)) i h t.listed

-- the alternatives by the rules that were looked at
pub record Looked (σ : Scope) (f : Proposal → Bool) (ms : List MatchedRule)
    (found : List Alternative) (most i : ℕ) : Type 0 where
  pub listed : filter f (proposals_by σ ms)
      ≡ map (alternative_seen σ) found ++ filter f (proposals_by σ (drop i ms))
  pub numbered : All (IsNumbered σ) found
  pub among : AllAmong ms found
  pub few : length found ≤ most

pub none_looked : (σ : Scope) (f : Proposal → Bool) (ms : List MatchedRule) (most : ℕ)
    → Looked σ f ms [] most 0
none_looked σ f ms most =
    record {
      listed = refl;
      numbered = λ k d below. absurd (omega arith);
      among = tt;
      few = omega arith;
    }

in_at : (ms : List MatchedRule) (i : ℕ) (m : MatchedRule) → Some m ≡ slice_get ms i → In m ms
in_at [] i m h = cc
in_at (x ∷ ms) zero m h = let e : m ≡ x = cc in inl e
in_at (x ∷ ms) (suc i) m h = inr (in_at ms i m h)

by_rule : (σ : Scope) (f : Proposal → Bool) (ms : List MatchedRule) (i j : ℕ) (m : MatchedRule)
    → j ≡ suc i → Some m ≡ slice_get ms i
    → filter f (proposals_by σ (drop i ms))
    ≡ filter f (proposals_of σ m m.right) ++ filter f (proposals_by σ (drop j ms))
by_rule σ f ms i j m e h =
    rw (e, next_of ms i m h)
    (filter_joined f (proposals_of σ m m.right) (proposals_by σ (drop (suc i) ms)))

pub one_looked : (σ : Scope) (f : Proposal → Bool) (ms : List MatchedRule)
    (now : List Alternative) (v : Vec Alternative Global) (o : Option (Vec Alternative Global))
    (m : MatchedRule) (most i j : ℕ) → Looked σ f ms now most i → j ≡ suc i
    → Some m ≡ slice_get ms i → o ≡ Some v
    → AddsTo o most σ m now (filter f (proposals_of σ m m.right)) → Looked σ f ms v.items most j
one_looked σ f ms now v o m most i j t e h is adds =
    let g = alternative_seen σ in
    let x = subst (λ x. AddsTo x most σ m now (filter f (proposals_of σ m m.right))) is adds in
    record {
      listed = t.listed
          ∙ ap (λ xs. map g now ++ xs) (by_rule σ f ms i j m e h)
          ∙ sym (append_assoc (map g now) (filter f (proposals_of σ m m.right))
          (filter f (proposals_by σ (drop j ms))))
          ∙ ap (λ xs. xs ++ filter f (proposals_by σ (drop j ms))) (sym x.0);
      numbered = x.1;
      among = x.2 ms (in_at ms i m h) t.among;
      few = x.3 t.few;
    }

pub too_many_looked : (σ : Scope) (f : Proposal → Bool) (ms : List MatchedRule)
    (now : List Alternative) (o : Option (Vec Alternative Global)) (m : MatchedRule) (most i : ℕ)
    → Looked σ f ms now most i → Some m ≡ slice_get ms i → o ≡ None
    → AddsTo o most σ m now (filter f (proposals_of σ m m.right))
    → most < length (filter f (proposals_by σ ms))
too_many_looked σ f ms now o m most i t h is adds =
    let g = alternative_seen σ in
    let x : most < length now + length (filter f (proposals_of σ m m.right)) =
    subst (λ x. AddsTo x most σ m now (filter f (proposals_of σ m m.right))) is adds in
    let whole = ap length (t.listed ∙ ap (λ xs. map g now ++ xs) (by_rule σ f ms i (suc i) m refl
    h)) in
    let a = joined_length (map g now)
    (filter f (proposals_of σ m m.right) ++ filter f (proposals_by σ (drop (suc i) ms))) in
    let b = joined_length (filter f (proposals_of σ m m.right)) (filter f (proposals_by σ (drop (suc i)
    ms))) in
    let y = mapped_length g now in
    omega (arith, x, whole, a, b, y)

pub all_looked : (σ : Scope) (f : Proposal → Bool) (ms : List MatchedRule)
    (found : List Alternative) (most i : ℕ) → Looked σ f ms found most i → length ms ≤ i
    → map (alternative_seen σ) found ≡ filter f (proposals_by σ ms)
all_looked σ f ms found most i t h =
    sym (t.listed
    ∙ ap (λ xs. map (alternative_seen σ) found ++ filter f (proposals_by σ xs)) (none_left ms i h)
    ∙ append-nil (map (alternative_seen σ) found))

pub at_item : {A B : Type 0} (f : A → B) (xs : List A) (i : ℕ) (d : A) → i < length xs
    → d ≡ get_or xs i d → Some (f d) ≡ slice_get (map f xs) i
at_item f [] i d h e = absurd (omega arith)
at_item f (x ∷ xs) zero d h e = ap (λ y. Some (f y)) e
at_item f (x ∷ xs) (suc i) d h e = at_item f xs i d (omega arith) e

none_pass : (f : Proposal → Bool) (xs : List Proposal)
    → ((i : ℕ) (x : Proposal) → slice_get xs i ≡ Some x → f x ≡ false) → filter f xs ≡ []
none_pass f [] h = refl
none_pass f (x ∷ xs) h = rw (h 0 x refl) (none_pass f xs (λ i y at. h (suc i) y at))

-- what is not of the type with first locals alone isn't with others
pub none_typed : (σ : Scope) (o : Option Ty) (m : MatchedRule) (p : Template)
    → ((p : Template) (σ : Scope) (β : Bindings) → length (resolutions σ β p)
    ≡ count p (locals_for σ β) β)
    → ((p : Template) (σ : Scope) (β : Bindings) (r : ℕ) → r < count p (locals_for σ β) β
    → slice_get (resolutions σ β p) r ≡ Some (resolution p (locals_for σ β) β r))
    → ((q : ℕ) → q < count p (locals_kept false (locals_for σ m.bindings)) m.bindings
    → same_type (type_of σ (filled (resolution p
    (locals_kept false (locals_for σ m.bindings)) m.bindings q))) o ≡ false)
    → filter (has_type σ o) (proposals_of σ m p) ≡ []
none_typed σ o m p counted resolved none =
    none_pass (has_type σ o) (proposals_of σ m p)
    (λ i x at.
    let L = locals_for σ m.bindings in
    let ds = resolutions σ m.bindings p in
    let many = mapped_length (proposal m.rule m.cost) ds in
    let place = is_place (proposals_of σ m p) i x (sym at) in
    let total = counted p σ m.bindings in
    let below : i < count p L m.bindings = omega (arith, many, place, total) in
    let d = resolution p L m.bindings i in
    let here = at_mapped (proposal m.rule m.cost) ds i d (resolved p σ m.bindings i below) in
    let same : x ≡ proposal m.rule m.cost d = (let e : Some x ≡ Some (proposal m.rule m.cost d) =
    sym at ∙ here in cc) in
    let l = like p σ L m.bindings i (one_type σ m.bindings) below in
    ap (has_type σ o) same ∙ ap (λ t. same_type t o) l.same ∙ none l.number l.within)

-- what holds below a number and at it
pub below_next : (P : ℕ → Type 0) (n k : ℕ) → k ≡ suc n → ((q : ℕ) → q < n → P q) → P n
    → (q : ℕ) → q < k → P q
below_next P n k e h here q below = elim (lesser q n (omega (arith, e, below))) [
  | inl less ↦ h q less
  | inr same ↦ subst P (sym same) here
]
  where
    lesser : (a b : ℕ) → a < suc b → (a < b) ⊎ (a ≡ b)
    lesser zero zero h = inr refl
    lesser zero (suc b) h = inl (omega arith)
    lesser (suc a) zero h = absurd (omega arith)
    lesser (suc a) (suc b) h = elim (lesser a b (omega arith)) [
      | inl less ↦ inl (omega arith)
      | inr same ↦ inr (ap suc same)
    ]
