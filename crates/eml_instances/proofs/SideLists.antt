-- Lists of alternatives by some sides of one rule.
use Rattle.std.proofs.Common.{◌≡◌, ℕ, suc, ◌+◌, ◌<◌, ◌≤◌, List, [], ◌∷◌, ◌++◌, map, drop, length}
use Rattle.std.proofs.Common.{slice_get, Bool, Option, Some, None, refl, sym, ap, ◌∙◌, subst, arith}
use Rattle.std.proofs.Common.{append_assoc}
use Rattle.std.specs.Prelude.{filter, flat_map, All}
use Rattle.std.specs.declared.vec.Vec.{Vec}
use Rattle.std.specs.declared.alloc.Global.{Global}
use Rattle.std.proofs.lemmas.List.{append-nil, map-append}
use Rattle.choice_tree.specs.Templates.{Template, Templates, hole, made, no_templates, one_of}
use Rattle.choice_tree.specs.Templates.{some_local, template_and}
use Rattle.choice_tree.specs.Matching.{Bindings}
use Rattle.choice_tree.specs.Typing.{Scope}
use Rattle.choice_tree.specs.Drafts.{Proposal, proposal, resolutions, resolutions_of_each}
use Rattle.choice_tree.specs.Rewriting.{In}
use Rattle.choice_tree.proofs.Walking.{next_of}
use Rattle.eml_match.specs.MatchedRules.{MatchedRule}
use Rattle.eml_match.specs.Parts.{set_elements, template_list}
use Rattle.eml_instances.specs.declared.listing.Alternative.{Alternative}
use Rattle.eml_instances.specs.Alternatives.{AddsTo, AllAmong, IsNumbered, alternative_seen}
use Rattle.eml_instances.specs.Alternatives.{proposals_of}
use Rattle.eml_instances.specs.Resolving.{IsSet}
use Rattle.eml_instances.proofs.AlternativeLists.{filter_joined, joined_length, mapped_length}
use Rattle.eml_instances.proofs.AlternativeLists.{none_left}

map_flat : {A B C : Type 0} (f : B → C) (g : A → List B) (xs : List A)
    → map f (flat_map g xs) ≡ flat_map (λ x. map f (g x)) xs
map_flat f g [] = refl
map_flat f g (x ∷ xs) =
    map-append f (g x) (flat_map g xs) ∙ ap (λ ys. map f (g x) ++ ys) (map_flat f g xs)

-- a rule's alternatives by some sides, as far as these were looked at
pub record Sided (σ : Scope) (f : Proposal → Bool) (m : MatchedRule) (qs : List Template)
    (before found : List Alternative) (most i : ℕ) : Type 0 where
  pub listed : map (alternative_seen σ) before ++ filter f (flat_map (proposals_of σ m) qs)
      ≡ map (alternative_seen σ) found ++ filter f (flat_map (proposals_of σ m) (drop i qs))
  pub numbered : All (IsNumbered σ) found
  pub among : (ms : List MatchedRule) → In m ms → AllAmong ms before → AllAmong ms found
  pub few : length before ≤ most → length found ≤ most

pub none_sided : (σ : Scope) (f : Proposal → Bool) (m : MatchedRule) (qs : List Template)
    (before : List Alternative) (most : ℕ) → All (IsNumbered σ) before
    → Sided σ f m qs before before most 0
none_sided σ f m qs before most h =
    record { listed = refl; numbered = h; among = λ ms i all. all; few = λ h. h }

by_side : (σ : Scope) (f : Proposal → Bool) (m : MatchedRule) (qs : List Template) (i j : ℕ)
    (q : Template) → j ≡ suc i → Some q ≡ slice_get qs i
    → filter f (flat_map (proposals_of σ m) (drop i qs))
    ≡ filter f (proposals_of σ m q) ++ filter f (flat_map (proposals_of σ m) (drop j qs))
by_side σ f m qs i j q e h =
    rw (e, next_of qs i q h)
    (filter_joined f (proposals_of σ m q) (flat_map (proposals_of σ m) (drop (suc i) qs)))

pub one_sided : (σ : Scope) (f : Proposal → Bool) (m : MatchedRule) (qs : List Template)
    (before now : List Alternative) (v : Vec Alternative Global) (o : Option (Vec Alternative
    Global)) (q : Template) (most i j : ℕ) → Sided σ f m qs before now most i → j ≡ suc i
    → Some q ≡ slice_get qs i → o ≡ Some v → AddsTo o most σ m now (filter f (proposals_of σ m q))
    → Sided σ f m qs before v.items most j
one_sided σ f m qs before now v o q most i j t e h is adds =
    let g = alternative_seen σ in
    let x = subst (λ x. AddsTo x most σ m now (filter f (proposals_of σ m q))) is adds in
    let rest = filter f (flat_map (proposals_of σ m) (drop j qs)) in
    record {
      listed = t.listed
          ∙ ap (λ xs. map g now ++ xs) (by_side σ f m qs i j q e h)
          ∙ sym (append_assoc (map g now) (filter f (proposals_of σ m q)) rest)
          ∙ ap (λ xs. xs ++ rest) (sym x.0);
      numbered = x.1;
      among = λ ms here all. x.2 ms here (t.among ms here all);
      few = λ h. x.3 (t.few h);
    }

pub too_many_sided : (σ : Scope) (f : Proposal → Bool) (m : MatchedRule) (qs : List Template)
    (before now : List Alternative) (o : Option (Vec Alternative Global)) (q : Template)
    (most i : ℕ) → Sided σ f m qs before now most i → Some q ≡ slice_get qs i → o ≡ None
    → AddsTo o most σ m now (filter f (proposals_of σ m q))
    → most < length before + length (filter f (flat_map (proposals_of σ m) qs))
too_many_sided σ f m qs before now o q most i t h is adds =
    let g = alternative_seen σ in
    let here = filter f (proposals_of σ m q) in
    let rest = filter f (flat_map (proposals_of σ m) (drop (suc i) qs)) in
    let x : most < length now + length here =
    subst (λ x. AddsTo x most σ m now here) is adds in
    let whole = ap length (t.listed ∙ ap (λ xs. map g now ++ xs) (by_side σ f m qs i (suc i) q refl
    h)) in
    let a = joined_length (map g before) (filter f (flat_map (proposals_of σ m) qs)) in
    let b = joined_length (map g now) (here ++ rest) in
    let c = joined_length here rest in
    let y = mapped_length g before in
    let z = mapped_length g now in
    omega (arith, x, whole, a, b, c, y, z)

pub all_sided : (σ : Scope) (f : Proposal → Bool) (m : MatchedRule) (qs : List Template)
    (before : List Alternative) (v : Vec Alternative Global) (most i : ℕ)
    → Sided σ f m qs before v.items most i → length qs ≤ i
    → AddsTo (Some v) most σ m before (filter f (flat_map (proposals_of σ m) qs))
all_sided σ f m qs before v most i t h = (
  sym (t.listed
      ∙ ap (λ xs. map (alternative_seen σ) v.items ++ filter f (flat_map (proposals_of σ m) xs))
      (none_left qs i h)
      ∙ append-nil (map (alternative_seen σ) v.items)),
  t.numbered,
  t.among,
  t.few,
)

-- a set proposes what its elements do
elements_joined : (σ : Scope) (β : Bindings) (ps : Templates)
    → resolutions_of_each σ β ps ≡ flat_map (resolutions σ β) (template_list ps)
elements_joined σ β no_templates = refl
elements_joined σ β (template_and p ps) =
    ap (λ xs. resolutions σ β p ++ xs) (elements_joined σ β ps)

set_proposals : (σ : Scope) (m : MatchedRule) (p : Template) → IsSet p
    → proposals_of σ m p ≡ flat_map (proposals_of σ m) (set_elements p)
set_proposals σ m (made k ps) s = absurd s
set_proposals σ m (hole k) s = absurd s
set_proposals σ m (some_local k) s = absurd s
set_proposals σ m (one_of ps) s =
    ap (map (proposal m.rule m.cost)) (elements_joined σ m.bindings ps)
    ∙ map_flat (proposal m.rule m.cost) (resolutions σ m.bindings) (template_list ps)

-- so what its elements add it adds
pub set_adds : (σ : Scope) (f : Proposal → Bool) (m : MatchedRule) (p : Template)
    (before : List Alternative) (o : Option (Vec Alternative Global)) (most : ℕ) → IsSet p
    → AddsTo o most σ m before (filter f (flat_map (proposals_of σ m) (set_elements p)))
    → AddsTo o most σ m before (filter f (proposals_of σ m p))
set_adds σ f m p before o most s adds =
    subst (λ ps. AddsTo o most σ m before (filter f ps)) (sym (set_proposals σ m p s)) adds
