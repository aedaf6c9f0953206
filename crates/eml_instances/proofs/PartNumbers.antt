-- The numbers of kinds, of parts and of elements, from counts that stop.
use Rattle.std.proofs.Common.{◌≡◌, ℕ, zero, suc, ◌+◌, ◌-◌, ◌*◌, ◌/◌, ◌%◌, ◌<◌, ◌≤◌, List, [], ◌∷◌}
use Rattle.std.proofs.Common.{drop, length, slice_get, Some, None, IsSome, refl, sym, ap, ◌∙◌}
use Rattle.std.proofs.Common.{arith, map, nat_lt, true, false, if◌then◌else◌}
use Rattle.std.proofs.lemmas.Bool.Decides.{nat_tests}
use Rattle.std.proofs.Math.Nat.{mul_assoc, mul_comm, div-le_self, mod-le}
use Rattle.std.proofs.lemmas.Nat.{mod_below}
use Rattle.mpy_tree.specs.Trees.{Kind}
use Rattle.choice_tree.specs.declared.rules.Meta.{Meta}
use Rattle.choice_tree.specs.Templates.{NodeTemplate, exactly, one_arith, one_comparison}
use Rattle.choice_tree.specs.Templates.{some_arith}
use Rattle.choice_tree.specs.Templates.{some_comparison, Template, Templates, made, hole, one_of}
use Rattle.choice_tree.specs.Templates.{some_local, no_templates, template_and}
use Rattle.choice_tree.specs.Matching.{Bindings}
use Rattle.choice_tree.specs.Drafts.{Draft, bound_operator}
use Rattle.choice_tree.proofs.Walking.{next_of}
use Rattle.eml_match.specs.Parts.{set_elements, template_list, template_parts}
use Rattle.eml_match.specs.Resolutions.{Locals, count, count_all, kind_count, kind_at, no_draft}
use Rattle.eml_match.specs.Resolutions.{resolution, resolution_of}
use Rattle.eml_instances.specs.Resolving.{IsOperator, counts_product, counts_sum, kind_number}
use Rattle.eml_instances.specs.Resolving.{node_kind, part_number, stopped, template_kinds}
use Rattle.eml_instances.proofs.Counts.{all_counted, counted_at_root, each_counted}
use Rattle.eml_instances.proofs.Digits.{div_stopped, mod_stopped, left_some, right_some}
use Rattle.eml_instances.proofs.Digits.{quotient_below}
use Rattle.eml_instances.proofs.Resolutions.{place_later, product_around}

-- the digit of the kind
pub record KindDigit (p : Template) (L : Locals) (β : Bindings) (r : ℕ) : Type 0 where
  pub behind : 0 < stopped (counts_product (drop 1 (template_parts p)) L β)
  pub kinds : 0 < stopped (template_kinds p β)
  pub is : (r / stopped (counts_product (drop 1 (template_parts p)) L β))
      % stopped (template_kinds p β) ≡ kind_number p L β r
  pub below : kind_number p L β r < template_kinds p β

behind_some : (qs : List Template) (L : Locals) (β : Bindings) → 0 < counts_product qs L β
    → 0 < counts_product (drop 1 qs) L β
behind_some [] L β h = h
behind_some (q ∷ qs) L β h = right_some (count q L β) (counts_product qs L β) 0 h

pub kind_digit : (p : Template) (L : Locals) (β : Bindings) (r : ℕ) → IsSome (node_kind p)
    → r < count p L β → r < 64000064 → KindDigit p L β r
kind_digit (made k ps) L β r s h near =
    let kinds = kind_count β k in
    let all = counts_product (template_list ps) L β in
    let whole : r < kinds * all =
    (let e = counted_at_root (made k ps) L β in omega (arith, e)) in
    let some : 0 < kinds = left_some kinds all r whole in
    let rest : 0 < all = right_some kinds all r whole in
    let b = counts_product (drop 1 (template_list ps)) L β in
    let behind : 0 < b = behind_some (template_list ps) L β rest in
    let less : r / b ≤ r = div-le_self r b in
    let small : r / b < 64000064 = omega (arith, less) in
    record {
      behind = omega (arith, behind);
      kinds = omega (arith, some);
      is = ap (λ n. n % stopped kinds) (div_stopped r b near) ∙ mod_stopped (r / b) kinds small;
      below = mod_below (r / b) kinds some;
    }
kind_digit (hole m) L β r s h near = cc
kind_digit (one_of ps) L β r s h near = cc
kind_digit (some_local m) L β r s h near = cc

pub is_node : (p : Template) (k : NodeTemplate) → node_kind p ≡ Some k → IsSome (node_kind p)
is_node p k h = rw h refl

pub kinds_are : (p : Template) (k : NodeTemplate) (β : Bindings) → node_kind p ≡ Some k
    → template_kinds p β ≡ kind_count β k
kinds_are (made j ps) k β h = let e : j ≡ k = cc in ap (kind_count β) e
kinds_are (hole m) k β h = cc
kinds_are (one_of ps) k β h = cc
kinds_are (some_local m) k β h = cc

pub mapped_at : {A B : Type 0} (f : A → B) (xs : List A) (i : ℕ) (a : A) → Some a ≡ slice_get xs i
    → slice_get (map f xs) i ≡ Some (f a)
mapped_at f [] i a h = cc
mapped_at f (x ∷ xs) zero a h = let e : x ≡ a = cc in ap (λ y. Some (f y)) e
mapped_at f (x ∷ xs) (suc i) a h = mapped_at f xs i a h

pub mapped_many : {A B : Type 0} (f : A → B) (xs : List A) → length (map f xs) ≡ length xs
mapped_many f [] = refl
mapped_many f (x ∷ xs) = ap suc (mapped_many f xs)

pub beyond : {A : Type 0} (xs : List A) (i : ℕ) → None ≡ slice_get xs i → length xs ≤ i
beyond [] i h = omega arith
beyond (x ∷ xs) zero h = cc
beyond (x ∷ xs) (suc i) h = let r = beyond xs i h in omega arith

-- the one operator that a metavariable stands for
pub operator_is_node : (m : Meta) (p : Template) → IsOperator m (node_kind p)
    → IsSome (node_kind p)
operator_is_node m (made k ps) h = refl
operator_is_node m (hole k) h = absurd h
operator_is_node m (one_of ps) h = absurd h
operator_is_node m (some_local k) h = absurd h

pub record OneKind (p : Template) (β : Bindings) (n : ℕ) (j : Kind) : Type 0 where
  pub node : NodeTemplate
  pub is : node_kind p ≡ Some node
  pub at : kind_at β node n ≡ Some j

only_kind : (ks : List Kind) (n : ℕ) (j : Kind) → ks ≡ j ∷ [] → n < length ks
    → slice_get ks n ≡ Some j
only_kind ks n j e h =
    let one : length ks ≡ 1 = ap length e in
    let first : n ≡ 0 = omega (arith, one) in
    rw (e, first) refl

pub one_operator : (m : Meta) (p : Template) (β : Bindings) (n : ℕ) (j : Kind)
    → IsOperator m (node_kind p) → bound_operator β m ≡ j ∷ [] → n < template_kinds p β
    → OneKind p β n j
one_operator m (made (some_arith k) ps) β n j h b below =
    let e : bound_operator β k ≡ j ∷ [] = ap (bound_operator β) h ∙ b in
    record { node = some_arith k; is = refl; at = only_kind (bound_operator β k) n j e below }
one_operator m (made (some_comparison k) ps) β n j h b below =
    let e : bound_operator β k ≡ j ∷ [] = ap (bound_operator β) h ∙ b in
    record { node = some_comparison k; is = refl; at = only_kind (bound_operator β k) n j e below }
one_operator m (made (exactly k) ps) β n j h b below = absurd h
one_operator m (made (one_arith k) ps) β n j h b below = absurd h
one_operator m (made (one_comparison k) ps) β n j h b below = absurd h
one_operator m (hole k) β n j h b below = absurd h
one_operator m (one_of ps) β n j h b below = absurd h
one_operator m (some_local k) β n j h b below = absurd h

pub no_operator : (m : Meta) (p : Template) (β : Bindings) (n : ℕ)
    → IsOperator m (node_kind p) → bound_operator β m ≡ [] → n < template_kinds p β → ⊥
no_operator m (made (some_arith k) ps) β n h b below =
    let e : length (bound_operator β k) ≡ 0 = ap (λ x. length (bound_operator β x)) h ∙ ap length b
    in
    omega (arith, e, below)
no_operator m (made (some_comparison k) ps) β n h b below =
    let e : length (bound_operator β k) ≡ 0 = ap (λ x. length (bound_operator β x)) h ∙ ap length b
    in
    omega (arith, e, below)
no_operator m (made (exactly k) ps) β n h b below = h
no_operator m (made (one_arith k) ps) β n h b below = h
no_operator m (made (one_comparison k) ps) β n h b below = h
no_operator m (hole k) β n h b below = h
no_operator m (one_of ps) β n h b below = h
no_operator m (some_local k) β n h b below = h

-- the elements of a set that are left
abbrev pub resolution_in : List Template → Locals → Bindings → ℕ → Draft
resolution_in [] L β r = no_draft
resolution_in (q ∷ qs) L β r =
    if nat_lt r (count q L β) then resolution q L β r else resolution_in qs L β (r - count q L β)

set_resolved : (ps : Templates) (L : Locals) (β : Bindings) (r : ℕ)
    → resolution_of ps L β r ≡ resolution_in (template_list ps) L β r
set_resolved no_templates L β r = refl
set_resolved (template_and p ps) L β r =
    ap (λ d. if nat_lt r (count p L β) then resolution p L β r else d)
    (set_resolved ps L β (r - count p L β))

pub record InSet (p : Template) (L : Locals) (β : Bindings) (r i n : ℕ) : Type 0 where
  pub same : resolution p L β r ≡ resolution_in (drop i (set_elements p)) L β n
  pub within : n < counts_sum (drop i (set_elements p)) L β
  pub near : n < 64000064

pub set_begins : (p : Template) (L : Locals) (β : Bindings) (r : ℕ)
    → Rattle.eml_instances.specs.Resolving.IsSet p → r < count p L β → r < 64000064
    → InSet p L β r 0 r
set_begins (made k ps) L β r s h near = absurd s
set_begins (hole m) L β r s h near = absurd s
set_begins (some_local m) L β r s h near = absurd s
set_begins (one_of ps) L β r s h near =
    record {
      same = set_resolved ps L β r;
      within = (let e = each_counted ps L β in omega (arith, e));
      near = near;
    }

pub set_found : (p q : Template) (L : Locals) (β : Bindings) (r i n : ℕ) → InSet p L β r i n
    → Some q ≡ slice_get (set_elements p) i → n < stopped (count q L β)
    → (resolution p L β r ≡ resolution q L β n) × (n < count q L β)
set_found p q L β r i n s at h =
    let below : n < count q L β = omega arith in
    let test : nat_lt n (count q L β) ≡ true = grind (arith, nat_tests) in
    let left : resolution_in (drop i (set_elements p)) L β n ≡ resolution q L β n =
    rw (next_of (set_elements p) i q at, test) refl in
    (s.same ∙ left, below)

pub set_goes_on : (p q : Template) (L : Locals) (β : Bindings) (r i j n m : ℕ) → InSet p L β r i n
    → j ≡ suc i → Some q ≡ slice_get (set_elements p) i → stopped (count q L β) ≤ n
    → m ≡ n - stopped (count q L β) → InSet p L β r j m
set_goes_on p q L β r i j n m s e at h less =
    let near : n < 64000064 = s.near in
    let above : count q L β ≤ n = omega arith in
    let test : nat_lt n (count q L β) ≡ false = grind (arith, nat_tests) in
    let same : n - count q L β ≡ m = omega arith in
    let next = next_of (set_elements p) i q at in
    let left : resolution_in (drop i (set_elements p)) L β n
    ≡ resolution_in (drop j (set_elements p)) L β m =
    rw (next, test, same, e) refl in
    let sum : counts_sum (drop i (set_elements p)) L β
    ≡ count q L β + counts_sum (drop j (set_elements p)) L β = rw (next, e) refl in
    record {
      same = s.same ∙ left;
      within = (let w = s.within in omega (arith, w, sum));
      near = omega arith;
    }

pub set_ends : (p : Template) (L : Locals) (β : Bindings) (r i n : ℕ) → InSet p L β r i n
    → None ≡ slice_get (set_elements p) i → ⊥
set_ends p L β r i n s at =
    let none : counts_sum (drop i (set_elements p)) L β ≡ 0 =
    rw (Rattle.choice_tree.proofs.Walking.no_next (set_elements p) i at) refl in
    let w = s.within in omega (arith, w, none)

-- the number of a part
pub record PartDigit (p q : Template) (L : Locals) (β : Bindings) (i j r : ℕ) : Type 0 where
  pub behind : 0 < stopped (counts_product (drop j (template_parts p)) L β)
  pub kinds : 0 < stopped (template_kinds p β)
  pub own : 0 < stopped (count q L β)
  pub first : i ≡ 0
      → (r / stopped (counts_product (drop j (template_parts p)) L β))
      / stopped (template_kinds p β) ≡ part_number p L β i r
  pub later : 0 < i
      → (r / stopped (counts_product (drop j (template_parts p)) L β))
      % stopped (count q L β) ≡ part_number p L β i r
  pub below : part_number p L β i r < count q L β
  pub near : part_number p L β i r < 64000064

-- the first part, which varies slower than the kind
first_below : (r k c b : ℕ) → r < k * (c * b) → r / b / k < c
first_below r k c b h =
    let e : k * (c * b) ≡ (c * k) * b =
    sym (mul_assoc k c b) ∙ ap (λ n. n * b) (mul_comm k c) in
    let outer : r < (c * k) * b = omega (arith, e) in
    quotient_below (r / b) c k (quotient_below r (c * k) b outer)

with_digit : (p q : Template) (L : Locals) (β : Bindings) (i r : ℕ)
    → Some q ≡ slice_get (template_parts p) i → r < count p L β → r < 64000064
    → PartDigit p q L β i (suc i) r
with_digit (made k no_templates) q L β i r at h near = cc
with_digit (made k (template_and p ps)) q L β i r at h near =
    by_place i at
  where
    kinds : ℕ
    kinds = kind_count β k

    whole : r < kinds * counts_product (p ∷ template_list ps) L β
    whole = let e = counted_at_root (made k (template_and p ps)) L β in omega (arith, e)

    by_place : (i : ℕ) → Some q ≡ slice_get (p ∷ template_list ps) i
        → PartDigit (made k (template_and p ps)) q L β i (suc i) r
    by_place zero at =
        let e : p ≡ q = cc in
        let c = count q L β in
        let b = counts_product (template_list ps) L β in
        let g : kinds * (count p L β * b) ≡ kinds * (c * b) = ap (λ x. kinds * (count x L β * b)) e
        in
        let all : r < kinds * (c * b) = omega (arith, g, whole) in
        let hk : 0 < kinds = left_some kinds (c * b) r all in
        let cb : 0 < c * b = right_some kinds (c * b) r all in
        let hc : 0 < c = left_some c b 0 cb in
        let hb : 0 < b = right_some c b 0 cb in
        let same : count_all ps L β ≡ b = all_counted ps L β in
        let number : r / b / kinds ≡ part_number (made k (template_and p ps)) L β 0 r =
        ap (λ n. r / n / kinds) (sym same) in
        let less : r / b ≤ r = div-le_self r b in
        let lesser : r / b / kinds ≤ r / b = div-le_self (r / b) kinds in
        let small : r / b < 64000064 = omega (arith, less) in
        let under = first_below r kinds c b all in
        record {
          behind = omega (arith, hb);
          kinds = omega (arith, hk);
          own = omega (arith, hc);
          first = λ z. ap (λ n. n / stopped kinds) (div_stopped r b near)
              ∙ div_stopped (r / b) kinds small ∙ number;
          later = λ z. absurd (omega (arith, z));
          below = omega (arith, number, under);
          near = omega (arith, number, lesser);
        }
    by_place (suc i) at =
        let c = count q L β in
        let rest = counts_product (template_list ps) L β in
        let b = counts_product (drop (suc i) (template_list ps)) L β in
        let hk : 0 < kinds =
        left_some kinds (counts_product (p ∷ template_list ps) L β) r whole in
        let all : 0 < counts_product (p ∷ template_list ps) L β =
        right_some kinds (counts_product (p ∷ template_list ps) L β) r whole in
        let some : 0 < rest = right_some (count p L β) rest 0 all in
        let x = product_around (template_list ps) i q L β (sym at) in
        let parts : 0 < x.0 * (c * b) = omega (arith, x.1, some) in
        let cb : 0 < c * b = right_some x.0 (c * b) 0 parts in
        let hc : 0 < c = left_some c b 0 cb in
        let hb : 0 < b = right_some c b 0 cb in
        let number : r / b % c ≡ part_number (made k (template_and p ps)) L β (suc i) r =
        sym (place_later p ps i q L β r (sym at) some) in
        let less : r / b ≤ r = div-le_self r b in
        let lesser : r / b % c ≤ r / b = mod-le (r / b) c in
        let small : r / b < 64000064 = omega (arith, less) in
        let under : r / b % c < c = mod_below (r / b) c hc in
        record {
          behind = omega (arith, hb);
          kinds = omega (arith, hk);
          own = omega (arith, hc);
          first = λ z. absurd (omega (arith, z));
          later = λ z. ap (λ n. n % stopped c) (div_stopped r b near)
              ∙ mod_stopped (r / b) c small ∙ number;
          below = omega (arith, number, under);
          near = omega (arith, number, lesser);
        }
with_digit (hole m) q L β i r at h near = cc
with_digit (one_of ps) q L β i r at h near = cc
with_digit (some_local m) q L β i r at h near = cc

pub part_digit : (p q : Template) (L : Locals) (β : Bindings) (i j r : ℕ) → j ≡ suc i
    → Some q ≡ slice_get (template_parts p) i → r < count p L β → r < 64000064
    → PartDigit p q L β i j r
part_digit p q L β i j r e at h near = rw e (with_digit p q L β i r at h near)
