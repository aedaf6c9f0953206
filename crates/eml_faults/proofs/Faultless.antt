-- What rules without a fault keep.
use Rattle.std.proofs.Common.{◌≡◌, ℕ, suc, ◌+◌, ◌<◌, ◌≤◌, Bool, true, false, ◌||◌, ◌&&◌}
use Rattle.std.proofs.Common.{nat_lt}
use Rattle.std.proofs.Common.{nat_le, List, [], ◌∷◌, ◌++◌, length, All, Option, Some, None, arith}
use Rattle.std.proofs.Common.{if◌then◌else◌, refl}
use Rattle.std.proofs.lemmas.Bool.Decides.{nat_tests}
use Rattle.std.specs.List.{list_any}
use Rattle.std.proofs.lemmas.List.Elements.{All-cons}
use Rattle.mpy_tree.specs.declared.refusal.Cause.{Cause}
use Rattle.mpy_tree.specs.declared.refusal.Cause.TheVariants as cause
use Rattle.mpy_tree.specs.NameLengths.{is_long}
use Rattle.choice_tree.specs.declared.rules.Place.{Place}
use Rattle.choice_tree.specs.declared.rules.Place.TheVariants as place
use Rattle.choice_tree.specs.Templates.{Correction, Template, made, hole, one_of, some_local}
use Rattle.choice_tree.specs.Templates.{has_prime, KeepPrimes, KeepsPrimes}
use Rattle.eml_match.specs.Resolutions.{depth}
use Rattle.eml_faults.specs.declared.meanings.MeaningFault.{MeaningFault}
use Rattle.eml_faults.specs.Sides.{metas, nodes, set_count}
use Rattle.eml_faults.specs.LimitFaults.{is_large, is_no_cost, limit_fault, limit_fault_behind}
use Rattle.eml_faults.specs.LimitFaults.{is_long_node, passes_limit}
use Rattle.eml_faults.specs.MeaningFaults.{fault_or, has_stray_prime, is_bare, is_misprimed}
use Rattle.eml_faults.specs.MeaningFaults.{call_cause, is_twice, is_unbound}
use Rattle.eml_faults.specs.MeaningFaults.{is_primed_operator, meaning_cause, meaning_fault_behind}
use Rattle.eml_faults.specs.FaultLaws.{IsSmall}

-- neither, where not one or the other
first_false : (a b : Bool) → (a || b) ≡ false → a ≡ false
first_false true b h = cc
first_false false b h = refl

second_false : (a b : Bool) → (a || b) ≡ false → b ≡ false
second_false true b h = cc
second_false false b h = h

third_cause : (a b d : Bool) (x y z : Cause) (o : Option Cause)
    → (if a then Some x else if b then Some y else if d then Some z else o) ≡ None → d ≡ false
third_cause true b d x y z o h = cc
third_cause false true d x y z o h = cc
third_cause false false true x y z o h = cc
third_cause false false false x y z o h = refl

pub no_cause : (c : Option Cause) (line : ℕ) (rest : Option MeaningFault)
    → fault_or c line rest ≡ None → (c ≡ None) × (rest ≡ None)
no_cause None line rest h = (refl, h)
no_cause (Some c) line rest h = cc

kept : (p : Place) (l r : Template) → (is_bare p l && has_prime r) ≡ false → KeepsPrimes p l r
kept place.Anywhere (made k ps) r h = tt
kept place.Anywhere (hole m) r h = h
kept place.Anywhere (one_of ps) r h = tt
kept place.Anywhere (some_local m) r h = tt
kept place.Return l r h = tt
kept (place.Assign m) l r h = tt
kept place.If l r h = tt
kept place.While l r h = tt
kept (place.For m) l r h = tt

pub primes_kept : (before rs : List Correction) → meaning_fault_behind before rs ≡ None
    → KeepPrimes rs
primes_kept before [] h = tt
primes_kept before (r ∷ rs) h =
    let later = meaning_fault_behind (before ++ r ∷ []) rs in
    let n = no_cause (meaning_cause before r) r.line later h in
    let d : is_misprimed r ≡ false = third_cause (is_twice before r)
    (is_unbound r) (is_misprimed r) cause.RuleTwice cause.RuleMeta cause.RulePrime
    (call_cause (nodes r.right)) n.0 in (
      kept r.place r.left r.right
          (second_false (list_any is_primed_operator (metas r.right)) (has_stray_prime r) d),
      primes_kept (before ++ r ∷ []) rs n.1,
    )

within : (limit n : ℕ) → nat_lt limit n ≡ false → n ≤ limit
within limit n h = grind (arith, nat_tests)

not_under : {n : ℕ} → nat_lt n 1 ≡ false → 1 ≤ n
not_under h = grind (arith, nat_tests)

not_below : (limit n : ℕ) → nat_le limit n ≡ false → n < limit
not_below limit n h = grind (arith, nat_tests)

each_false : (a b c d e : Bool) → (a || b || c || d || e) ≡ false
    → (a ≡ false) × (b ≡ false) × (c ≡ false) × (d ≡ false) × (e ≡ false)
each_false true b c d e h = cc
each_false false true c d e h = cc
each_false false false true d e h = cc
each_false false false false true e h = cc
each_false false false false false e h = (refl, refl, refl, refl, h)

not_deep : (p : Template) → is_large p ≡ false → depth p ≤ 32
not_deep p h =
    within 32 (depth p) (first_false (nat_lt 32 (depth p)) (list_any is_long_node (nodes p)) h)

small : (r : Correction) → passes_limit r ≡ false → IsSmall r
small r h =
    let parts =
    each_false (is_no_cost r.cost) (is_long r.name) (is_large r.left) (is_large r.right)
    (nat_lt 64 (set_count r.right)) h in
    record {
      cost_from = not_under (first_false (nat_lt r.cost 1) (nat_lt 9 r.cost) parts.0);
      cost_to = within 9 r.cost (second_false (nat_lt r.cost 1) (nat_lt 9 r.cost) parts.0);
      left_depth = not_deep r.left parts.2;
      right_depth = not_deep r.right parts.3;
      sets = within 64 (set_count r.right) parts.4;
    }

no_line : (a b : Bool) (line : ℕ) (rest : Option ℕ)
    → (if a || b then Some line else rest) ≡ None
    → (a ≡ false) × (b ≡ false) × (rest ≡ None)
no_line true b line rest h = cc
no_line false true line rest h = cc
no_line false false line rest h = (refl, refl, h)

small_from : (n : ℕ) (rs : List Correction) → n ≤ 64 → limit_fault_behind n rs ≡ None
    → (n + length rs ≤ 64) × All IsSmall rs
small_from n [] w h = (omega arith, λ k d l. absurd (omega arith))
small_from n (r ∷ rs) w h =
    let t = no_line (nat_le 64 n) (passes_limit r) r.line (limit_fault_behind (suc n) rs) h in
    let below : n < 64 = not_below 64 n t.0 in
    let i = small_from (suc n) rs (omega arith) t.2 in
    let many : suc n + length rs ≤ 64 = i.0 in
    (omega arith, All-cons IsSmall r rs (small r t.1) i.1)

pub small_kept : (rs : List Correction) → limit_fault rs ≡ None
    → (length rs ≤ 64) × All IsSmall rs
small_kept rs h =
    let s = small_from 0 rs (omega arith) h in
    let many : 0 + length rs ≤ 64 = s.0 in
    (omega arith, s.1)
