-- The count of a side by those of its parts, and counts that stop.
use Rattle.std.proofs.Common.{◌≡◌, ℕ, zero, suc, ◌+◌, ◌*◌, ◌≤◌, List}
use Rattle.std.proofs.Common.{drop, slice_get, Some, None, refl, sym, ap, ◌∙◌, arith}
use Rattle.std.proofs.Common.{◌⊎◌, inl, inr}
use Rattle.std.proofs.Math.Nat.{mul_assoc, mul_comm, mul-one, one-mul}
use Rattle.choice_tree.specs.Templates.{exactly, one_arith, one_comparison, some_arith}
use Rattle.choice_tree.specs.Templates.{some_comparison, Template, Templates, made, hole, one_of}
use Rattle.choice_tree.specs.Templates.{some_local, no_templates, template_and}
use Rattle.choice_tree.specs.Matching.{Bindings}
use Rattle.choice_tree.proofs.Walking.{next_of, no_next}
use Rattle.eml_match.specs.Parts.{template_list}
use Rattle.eml_match.specs.Resolutions.{Locals, count, count_all, count_each, kind_count}
use Rattle.eml_instances.specs.Resolving.{counts_product, counts_sum, root_count, stopped}

pub all_counted : (ps : Templates) (L : Locals) (β : Bindings)
    → count_all ps L β ≡ counts_product (template_list ps) L β
all_counted no_templates L β = refl
all_counted (template_and p no_templates) L β = sym (mul-one (count p L β))
all_counted (template_and p (template_and q ps)) L β =
    ap (λ n. count p L β * n) (all_counted (template_and q ps) L β)

pub each_counted : (ps : Templates) (L : Locals) (β : Bindings)
    → count_each ps L β ≡ counts_sum (template_list ps) L β
each_counted no_templates L β = refl
each_counted (template_and p ps) L β = ap (λ n. count p L β + n) (each_counted ps L β)

turned : (a k b c : ℕ) → b ≡ c → a * (k * b) ≡ k * (a * c)
turned a k b c h =
    ap (λ n. a * (k * n)) h ∙ sym (mul_assoc a k c) ∙ ap (λ n. n * c) (mul_comm a k)
    ∙ mul_assoc k a c

pub counted_at_root : (p : Template) (L : Locals) (β : Bindings) → count p L β ≡ root_count p L β
counted_at_root (made (exactly k) ps) L β =
    all_counted ps L β ∙ sym (one-mul (counts_product (template_list ps) L β))
counted_at_root (made (one_arith ops) no_templates) L β =
    sym (mul-one (kind_count β (one_arith ops)))
counted_at_root (made (one_comparison ops) no_templates) L β =
    sym (mul-one (kind_count β (one_comparison ops)))
counted_at_root (made (some_arith m) no_templates) L β =
    sym (mul-one (kind_count β (some_arith m)))
counted_at_root (made (some_comparison m) no_templates) L β =
    sym (mul-one (kind_count β (some_comparison m)))
counted_at_root (made (one_arith ops) (template_and p ps)) L β =
    turned (count p L β) (kind_count β (one_arith ops)) (count_all ps L β)
    (counts_product (template_list ps) L β) (all_counted ps L β)
counted_at_root (made (one_comparison ops) (template_and p ps)) L β =
    turned (count p L β) (kind_count β (one_comparison ops)) (count_all ps L β)
    (counts_product (template_list ps) L β) (all_counted ps L β)
counted_at_root (made (some_arith m) (template_and p ps)) L β =
    turned (count p L β) (kind_count β (some_arith m)) (count_all ps L β)
    (counts_product (template_list ps) L β) (all_counted ps L β)
counted_at_root (made (some_comparison m) (template_and p ps)) L β =
    turned (count p L β) (kind_count β (some_comparison m)) (count_all ps L β)
    (counts_product (template_list ps) L β) (all_counted ps L β)
counted_at_root (hole m) L β = refl
counted_at_root (one_of ps) L β = each_counted ps L β
counted_at_root (some_local m) L β = refl

-- which of two numbers is less
pub order : (a b : ℕ) → (a ≤ b) ⊎ (b ≤ a)
order zero b = inl (omega arith)
order (suc a) zero = inr (omega arith)
order (suc a) (suc b) = elim (order a b) [
  | inl below ↦ inl (omega arith)
  | inr above ↦ inr (omega arith)
]

grows : (p r : ℕ) → p ≤ p * suc r
grows p r = let e : p * suc r ≡ p * r + p = Rattle.std.proofs.Math.Nat.mul-suc p r in
    omega (arith, e)

-- a product that stops needs its factors only as far as they do
stop_left : (a b : ℕ) → stopped (stopped a * b) ≡ stopped (a * b)
stop_left a zero =
    let e : stopped a * 0 ≡ 0 = grind arith in
    let f : a * 0 ≡ 0 = grind arith in
    rw (e, f) refl
stop_left a (suc b) = elim (order a 64000064) [
  | inl below ↦ let e : stopped a ≡ a = omega arith in rw e refl
  | inr above ↦
      let e : stopped a ≡ 64000064 = omega arith in
      let x = grows 64000064 b in
      let y = grows a b in
      rw e (omega (arith, x, y))
]

pub stop_times : (a b : ℕ) → stopped (stopped a * stopped b) ≡ stopped (a * b)
stop_times a b =
    stop_left a (stopped b) ∙ ap stopped (mul_comm a (stopped b)) ∙ stop_left b a
    ∙ ap stopped (mul_comm b a)

-- the counts of the parts that are left, and those behind the first of them
pub product_next : (qs : List Template) (i j : ℕ) (q : Template) (L : Locals) (β : Bindings)
    → j ≡ suc i → Some q ≡ slice_get qs i
    → counts_product (drop i qs) L β ≡ count q L β * counts_product (drop j qs) L β
product_next qs i j q L β e h = rw (e, next_of qs i q h) refl

pub sum_next : (qs : List Template) (i j : ℕ) (q : Template) (L : Locals) (β : Bindings)
    → j ≡ suc i → Some q ≡ slice_get qs i
    → counts_sum (drop i qs) L β ≡ count q L β + counts_sum (drop j qs) L β
sum_next qs i j q L β e h = rw (e, next_of qs i q h) refl

pub product_end : (qs : List Template) (i : ℕ) (L : Locals) (β : Bindings)
    → None ≡ slice_get qs i → counts_product (drop i qs) L β ≡ 1
product_end qs i L β h = rw (no_next qs i h) refl

pub sum_end : (qs : List Template) (i : ℕ) (L : Locals) (β : Bindings)
    → None ≡ slice_get qs i → counts_sum (drop i qs) L β ≡ 0
sum_end qs i L β h = rw (no_next qs i h) refl

-- one factor more
pub stop_step : (t a r : ℕ) → stopped (stopped (t * stopped a) * r) ≡ stopped (t * (a * r))
stop_step t a r =
    stop_left (t * stopped a) r
    ∙ ap stopped (ap (λ n. n * r) (mul_comm t (stopped a)) ∙ mul_assoc (stopped a) t r)
    ∙ stop_left a (t * r)
    ∙ ap stopped (sym (mul_assoc a t r) ∙ ap (λ n. n * r) (mul_comm a t) ∙ mul_assoc t a r)
