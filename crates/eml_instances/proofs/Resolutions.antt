-- A resolution by those of its parts.
use Rattle.std.proofs.Common.{◌≡◌, ℕ, zero, suc, ◌+◌, ◌*◌, ◌/◌, ◌%◌, ◌<◌, List, [], ◌∷◌}
use Rattle.std.proofs.Common.{drop, length, slice_get, Some, refl, sym, ap, ◌∙◌, arith}
use Rattle.std.proofs.Math.Nat.{mul_assoc, one-mul, div-one, mod-eq_of_lt}
use Rattle.std.proofs.lemmas.Nat.{mod_below}
use Rattle.mpy_tree.specs.Trees.{Kind}
use Rattle.choice_tree.specs.Templates.{NodeTemplate, exactly, one_arith, one_comparison}
use Rattle.choice_tree.specs.Templates.{some_arith}
use Rattle.choice_tree.specs.Templates.{some_comparison, Template, Templates, made, hole, one_of}
use Rattle.choice_tree.specs.Templates.{some_local, no_templates, template_and}
use Rattle.choice_tree.specs.Matching.{Bindings}
use Rattle.choice_tree.specs.Drafts.{as_is, no_drafts, draft_and}
use Rattle.eml_match.specs.Parts.{template_list, template_parts}
use Rattle.eml_match.specs.Resolutions.{Locals, count, count_all, kind_count, kind_at, of_kind}
use Rattle.eml_match.specs.Resolutions.{resolution, resolution_all}
use Rattle.eml_instances.specs.Resolving.{counts_product, drafts, place_number}
use Rattle.eml_instances.specs.Resolving.{part_number, each_resolved, parts_resolved, kind_number}
use Rattle.eml_instances.specs.Resolving.{node_kind}
use Rattle.eml_instances.proofs.Counts.{all_counted}
use Rattle.eml_instances.proofs.Digits.{left_some, right_some, quotient_below, digit_within}

-- the resolutions of the parts of a node, if f numbers them from i on
all_are : (ps : Templates) (L : Locals) (β : Bindings) (f : ℕ → ℕ) (i r : ℕ)
    → ((j k : ℕ) → k ≡ i + j → f k ≡ place_number ps L β j r)
    → resolution_all ps L β r ≡ drafts (each_resolved (template_list ps) L β f i)
all_are no_templates L β f i r h = refl
all_are (template_and p no_templates) L β f i r h =
    let e : f i ≡ r = h 0 i (omega arith) ∙ div-one r in
    ap (λ n. draft_and (resolution p L β n) no_drafts) (sym e)
all_are (template_and p (template_and q ps)) L β f i r h =
    let n = count_all (template_and q ps) L β in
    let e : r / n ≡ f i = sym (h 0 i (omega arith)) in
    let rest = all_are (template_and q ps) L β f (suc i) (r % n)
    (λ j k same. h (suc j) k (omega arith)) in
    λ x. draft_and (resolution p L β (e x)) (rest x)

pub exact_gives : (p : Template) (k : Kind) (L : Locals) (β : Bindings) (r : ℕ)
    → node_kind p ≡ Some (exactly k)
    → resolution p L β r ≡ as_is k (drafts (parts_resolved p L β r))
exact_gives (made (exactly j) ps) k L β r h =
    let e : j ≡ k = cc in
    let f : ℕ → ℕ = λ (i : ℕ). part_number (made (exactly j) ps) L β i r in
    let same : (i k : ℕ) → k ≡ 0 + i → f k ≡ place_number ps L β i r = numbered j ps L β r in
    (λ x. as_is (e x) (all_are ps L β f 0 r same x))
  where
    numbered : (j : Kind) (ps : Templates) (L : Locals) (β : Bindings) (r i k : ℕ) → k ≡ 0 + i
        → part_number (made (exactly j) ps) L β k r ≡ place_number ps L β i r
    numbered j ps L β r zero k h =
        let e : k ≡ 0 = omega arith in rw e (div-one (place_number ps L β 0 r))
    numbered j ps L β r (suc i) k h = let e : k ≡ suc i = omega arith in rw e refl
exact_gives (made (one_arith ops) ps) k L β r h = cc
exact_gives (made (one_comparison ops) ps) k L β r h = cc
exact_gives (made (some_arith m) ps) k L β r h = cc
exact_gives (made (some_comparison m) ps) k L β r h = cc
exact_gives (hole m) k L β r h = cc
exact_gives (one_of ps) k L β r h = cc
exact_gives (some_local m) k L β r h = cc

behind_first : (k : NodeTemplate) (p : Template) (ps : Templates) (L : Locals) (β : Bindings)
    (r : ℕ)
    → resolution_all ps L β (r % count_all ps L β)
    ≡ drafts (each_resolved (template_list ps) L β
    (λ i. part_number (made k (template_and p ps)) L β i r) 1)
behind_first k p ps L β r =
    all_are ps L β (λ i. part_number (made k (template_and p ps)) L β i r) 1
    (r % count_all ps L β)
    (λ j i same. let e : i ≡ suc j = omega arith in rw e refl)

-- of a node whose kind is the one with its number, of some
operator_at : (k : NodeTemplate) (p : Template) (ps : Templates) (j : Kind) (L : Locals)
    (β : Bindings) (r : ℕ) → kind_at β k (kind_number (made k (template_and p ps)) L β r) ≡ Some j
    → of_kind (kind_at β k (r / count_all ps L β % kind_count β k))
    (draft_and (resolution p L β (r / count_all ps L β / kind_count β k))
    (resolution_all ps L β (r % count_all ps L β)))
    ≡ as_is j (drafts (parts_resolved (made k (template_and p ps)) L β r))
operator_at k p ps j L β r at =
    let first = resolution p L β (r / count_all ps L β / kind_count β k) in
    let ds = draft_and first (resolution_all ps L β (r % count_all ps L β)) in
    ap (λ n. of_kind (kind_at β k (r / n % kind_count β k)) ds) (all_counted ps L β)
    ∙ ap (λ o. of_kind o ds) at
    ∙ ap (λ es. as_is j (draft_and first es)) (behind_first k p ps L β r)

at_kind : (a b : NodeTemplate) (n : ℕ) (j : Kind) (β : Bindings) → Some a ≡ Some b
    → kind_at β b n ≡ Some j → kind_at β a n ≡ Some j
at_kind a b n j β h at = let e : a ≡ b = cc in rw e at

pub operator_gives : (p : Template) (k : NodeTemplate) (j : Kind) (L : Locals) (β : Bindings)
    (r : ℕ) → node_kind p ≡ Some k → length (template_parts p) ≡ 2
    → kind_at β k (kind_number p L β r) ≡ Some j
    → resolution p L β r ≡ as_is j (drafts (parts_resolved p L β r))
operator_gives (made (exactly i) ps) k j L β r h two at =
    exact_gives (made (exactly i) ps) j L β r
    (ap (λ o. o) (let e : kind_at β (exactly i) (kind_number (made (exactly i) ps) L β r) ≡ Some j =
    at_kind (exactly i) k (kind_number (made (exactly i) ps) L β r) j β h at in
    let f : i ≡ j = cc in ap (λ x. Some (exactly x)) f))
operator_gives (made (one_arith ops) no_templates) k j L β r h two at = absurd (omega arith)
operator_gives (made (one_comparison ops) no_templates) k j L β r h two at = absurd (omega arith)
operator_gives (made (some_arith m) no_templates) k j L β r h two at = absurd (omega arith)
operator_gives (made (some_comparison m) no_templates) k j L β r h two at = absurd (omega arith)
operator_gives (made (one_arith ops) (template_and p ps)) k j L β r h two at =
    let q = made (one_arith ops) (template_and p ps) in
    operator_at (one_arith ops) p ps j L β r
    (at_kind (one_arith ops) k (kind_number q L β r) j β h at)
operator_gives (made (one_comparison ops) (template_and p ps)) k j L β r h two at =
    let q = made (one_comparison ops) (template_and p ps) in
    operator_at (one_comparison ops) p ps j L β r
    (at_kind (one_comparison ops) k (kind_number q L β r) j β h at)
operator_gives (made (some_arith m) (template_and p ps)) k j L β r h two at =
    let q = made (some_arith m) (template_and p ps) in
    operator_at (some_arith m) p ps j L β r
    (at_kind (some_arith m) k (kind_number q L β r) j β h at)
operator_gives (made (some_comparison m) (template_and p ps)) k j L β r h two at =
    let q = made (some_comparison m) (template_and p ps) in
    operator_at (some_comparison m) p ps j L β r
    (at_kind (some_comparison m) k (kind_number q L β r) j β h at)
operator_gives (hole m) k j L β r h two at = cc
operator_gives (one_of ps) k j L β r h two at = cc
operator_gives (some_local m) k j L β r h two at = cc

-- the number of a part, by the counts of the parts behind it
pub product_around : (qs : List Template) (i : ℕ) (q : Template) (L : Locals) (β : Bindings)
    → slice_get qs i ≡ Some q
    → (m : ℕ) × (counts_product qs L β ≡ m * (count q L β * counts_product (drop (suc i) qs) L β))
product_around [] i q L β h = cc
product_around (p ∷ qs) zero q L β h =
    let e : p ≡ q = cc in
    (1, rw e (sym (one-mul (count q L β * counts_product qs L β))))
product_around (p ∷ qs) (suc i) q L β h =
    let x = product_around qs i q L β h in (
      count p L β * x.0,
      ap (λ n. count p L β * n) x.1
          ∙ sym (mul_assoc (count p L β) x.0 (count q L β * counts_product (drop (suc i) qs) L β)),
    )

-- behind the first part, whatever varies with it, if the number among the other parts is so
behind : (p : Template) (ps : Templates) (i : ℕ) (q : Template) (L : Locals) (β : Bindings)
    (r : ℕ) → slice_get (template_list ps) i ≡ Some q → 0 < counts_product (template_list ps) L β
    → ((s : ℕ) → s < counts_product (template_list ps) L β → place_number ps L β i s
    ≡ s / counts_product (drop (suc i) (template_list ps)) L β % count q L β)
    → place_number (template_and p ps) L β (suc i) r
    ≡ r / counts_product (drop (suc i) (template_list ps)) L β % count q L β
behind p ps i q L β r at some inner =
    let n = counts_product (template_list ps) L β in
    let same : count_all ps L β ≡ n = all_counted ps L β in
    let x = product_around (template_list ps) i q L β at in
    let c = count q L β in
    let b = counts_product (drop (suc i) (template_list ps)) L β in
    let parts : 0 < x.0 * (c * b) = omega (arith, x.1, some) in
    let hm = left_some x.0 (c * b) 0 parts in
    let cb = right_some x.0 (c * b) 0 parts in
    ap (λ k. place_number ps L β i (r % k)) same
    ∙ inner (r % n) (mod_below r n some)
    ∙ ap (λ k. (r % k) / b % c) x.1
    ∙ digit_within x.0 c b r hm (left_some c b 0 cb) (right_some c b 0 cb)

place_is : (ps : Templates) (i : ℕ) (q : Template) (L : Locals) (β : Bindings) (r : ℕ)
    → slice_get (template_list ps) i ≡ Some q → r < counts_product (template_list ps) L β
    → place_number ps L β i r
    ≡ r / counts_product (drop (suc i) (template_list ps)) L β % count q L β
place_is no_templates i q L β r at h = cc
place_is (template_and p ps) zero q L β r at h =
    let e : p ≡ q = cc in
    let n = counts_product (template_list ps) L β in
    let same : count_all ps L β ≡ n = all_counted ps L β in
    let g : count p L β * n ≡ count q L β * n = ap (λ x. count x L β * n) e in
    let below : r / n < count q L β = quotient_below r (count q L β) n (omega (arith, g)) in
    ap (λ x. r / x) same ∙ sym (mod-eq_of_lt below)
place_is (template_and p ps) (suc i) q L β r at h =
    behind p ps i q L β r at (right_some (count p L β) (counts_product (template_list ps) L β) r h)
    (λ s below. place_is ps i q L β s at below)

pub place_later : (p : Template) (ps : Templates) (i : ℕ) (q : Template) (L : Locals)
    (β : Bindings) (r : ℕ) → slice_get (template_list ps) i ≡ Some q
    → 0 < counts_product (template_list ps) L β
    → place_number (template_and p ps) L β (suc i) r
    ≡ r / counts_product (drop (suc i) (template_list ps)) L β % count q L β
place_later p ps i q L β r at some =
    behind p ps i q L β r at some (λ s below. place_is ps i q L β s at below)
