-- What stands in a side of a rule, by the list of its parts.
use Rattle.std.proofs.Common.{◌≡◌, ℕ, zero, suc, ◌+◌, ◌-◌, ◌*◌, ◌<◌, ◌≤◌, min, max, nat_lt, Bool}
use Rattle.std.proofs.Common.{true}
use Rattle.std.proofs.Common.{false, ◌||◌, List, [], ◌∷◌, ◌++◌, map, drop, length, slice_get}
use Rattle.std.proofs.Common.{Some, None, refl, sym, ap, ◌∙◌, arith}
use Rattle.std.proofs.Common.{append_assoc}
use Rattle.std.specs.List.{list_any, flat_map}
use Rattle.std.proofs.lemmas.Bool.Decides.{nat_tests}
use Rattle.std.proofs.lemmas.List.Folds.{list_any-append}
use Rattle.mpy_tree.specs.Trees as kind
use Rattle.choice_tree.specs.declared.rules.PExpr.{PExpr, Call}
use Rattle.choice_tree.specs.declared.rules.PExprs.{PExprs}
use Rattle.choice_tree.specs.declared.rules.PExpr.TheVariants.{rolls-Call}
use Rattle.choice_tree.specs.declared.rules.PExpr.TheOpen as F
use Rattle.choice_tree.specs.declared.rules.PExpr.TheFolds.{fold_out-PExprs, fold-roll-PExpr}
use Rattle.choice_tree.specs.RuleViews.{template_of, templates, pexpr_step, pexprs_step}
use Rattle.choice_tree.specs.Templates.{Template, Templates, made, hole, one_of, some_local}
use Rattle.choice_tree.specs.Templates.{exactly}
use Rattle.choice_tree.specs.Templates.{no_templates, template_and, has_prime, any_prime}
use Rattle.eml_match.specs.Parts.{template_list}
use Rattle.eml_match.specs.Resolutions.{depth, depths}
use Rattle.eml_faults.specs.Sides.{nodes, nodes_of_all, operator_count, set_count, side_parts}
use Rattle.eml_faults.specs.Sides.{set_count_of_all, set_count_of_any}
use Rattle.eml_faults.specs.LimitFaults.{is_long_node}
use Rattle.eml_faults.specs.Walks.{deepest, is_primed_hole, is_set, operators, product_of_counts}
use Rattle.eml_faults.specs.Walks.{sum_of_counts}

rest_from : {X : Type 0} (xs : List X) (i : ℕ) (x : X) → Some x ≡ slice_get xs i
    → drop i xs ≡ x ∷ drop (suc i) xs
rest_from [] i x h = cc
rest_from (y ∷ ys) zero x h = let e : x ≡ y = cc in rw e refl
rest_from (y ∷ ys) (suc i) x h = rest_from ys i x h

-- the elements from a place on
pub rest_at : {X : Type 0} (xs : List X) (i j : ℕ) (x : X) → j ≡ suc i → Some x ≡ slice_get xs i
    → drop i xs ≡ x ∷ drop j xs
rest_at xs i j x e h = rw e (rest_from xs i x h)

pub rest_end : {X : Type 0} (xs : List X) (i : ℕ) → None ≡ slice_get xs i → drop i xs ≡ []
rest_end [] zero h = refl
rest_end [] (suc i) h = refl
rest_end (y ∷ xs) zero h = cc
rest_end (y ∷ xs) (suc i) h = rest_end xs i h

pub call_seen : (f : List ℕ) (es : PExprs)
    → template_of (Call f es)
    ≡ made (exactly (kind.Call f)) (templates (map template_of es.items.items))
call_seen f es =
    ap template_of (sym (rolls-Call f es))
    ∙ fold-roll-PExpr Template Templates pexpr_step pexprs_step (F.Call f es)
    ∙ ap (made (exactly (kind.Call f)))
    (fold_out-PExprs Template Templates pexpr_step pexprs_step es)

pub parts_counted : (xs : List PExpr)
    → length (template_list (templates (map template_of xs))) ≡ length xs
parts_counted [] = refl
parts_counted (x ∷ xs) = ap suc (parts_counted xs)

-- the nodes
nodes_listed : (ps : Templates) → nodes_of_all ps ≡ flat_map nodes (template_list ps)
nodes_listed no_templates = refl
nodes_listed (template_and p ps) = ap (λ ns. nodes p ++ ns) (nodes_listed ps)

pub nodes_by_parts : (p : Template) → nodes p ≡ p ∷ flat_map nodes (side_parts p)
nodes_by_parts (made k ps) = ap (λ ns. made k ps ∷ ns) (nodes_listed ps)
nodes_by_parts (hole m) = refl
nodes_by_parts (one_of ps) = ap (λ ns. one_of ps ∷ ns) (nodes_listed ps)
nodes_by_parts (some_local m) = refl

abbrev pub size : Template → ℕ
size p = length (nodes p)

length_joined : {A : Type 0} (xs ys : List A) → length (xs ++ ys) ≡ length xs + length ys
length_joined [] ys = omega arith
length_joined (x ∷ xs) ys = let r = length_joined xs ys in omega arith

among_smaller : (ps : List Template) (i : ℕ) (q : Template) → Some q ≡ slice_get ps i
    → size q ≤ length (flat_map nodes ps)
among_smaller [] i q h = cc
among_smaller (p ∷ ps) zero q h =
    let e : q ≡ p = cc in
    let l = length_joined (nodes p) (flat_map nodes ps) in
    rw e (omega arith)
among_smaller (p ∷ ps) (suc i) q h =
    let r = among_smaller ps i q h in
    let l = length_joined (nodes p) (flat_map nodes ps) in
    omega arith

pub part_smaller : (p q : Template) (i : ℕ) → Some q ≡ slice_get (side_parts p) i
    → size q < size p
part_smaller p q i h =
    let r = among_smaller (side_parts p) i q h in
    let n = ap length (nodes_by_parts p) in
    omega arith

-- one more part's nodes
pub nodes_next : {A : Type 0} (all now new more rest : List A) → new ≡ now ++ more
    → all ≡ now ++ (more ++ rest) → all ≡ new ++ rest
nodes_next all now new more rest e h = rw e (h ∙ sym (append_assoc now more rest))

-- long names
abbrev pub has_long_in : Template → Bool
has_long_in p = list_any is_long_node (nodes p)

long_among : (ps : List Template)
    → list_any is_long_node (flat_map nodes ps) ≡ list_any has_long_in ps
long_among [] = refl
long_among (p ∷ ps) =
    list_any-append is_long_node (nodes p) (flat_map nodes ps)
    ∙ ap (λ b. has_long_in p || b) (long_among ps)

pub long_by_parts : (p : Template)
    → has_long_in p ≡ (is_long_node p || list_any has_long_in (side_parts p))
long_by_parts p =
    ap (list_any is_long_node) (nodes_by_parts p)
    ∙ ap (λ b. is_long_node p || b) (long_among (side_parts p))

-- primes
or_false : (b : Bool) → (b || false) ≡ b
or_false true = refl
or_false false = refl

mutual
  pub primes_by_nodes : (p : Template) → list_any is_primed_hole (nodes p) ≡ has_prime p
  primes_by_nodes (made k ps) = primes_listed ps
  primes_by_nodes (hole m) = or_false m.primed
  primes_by_nodes (one_of ps) = primes_listed ps
  primes_by_nodes (some_local m) = refl

  primes_listed : (ps : Templates) → list_any is_primed_hole (nodes_of_all ps) ≡ any_prime ps
  primes_listed no_templates = refl
  primes_listed (template_and p ps) =
      list_any-append is_primed_hole (nodes p) (nodes_of_all ps)
      ∙ (λ i. primes_by_nodes p i || primes_listed ps i)

-- depths
depths_listed : (ps : Templates) → depths ps ≡ deepest (template_list ps)
depths_listed no_templates = refl
depths_listed (template_and p ps) = ap (max (depth p)) (depths_listed ps)

pub depth_by_parts : (p : Template) → depth p ≡ suc (deepest (side_parts p))
depth_by_parts (made k ps) = ap suc (depths_listed ps)
depth_by_parts (hole m) = refl
depth_by_parts (one_of ps) = ap suc (depths_listed ps)
depth_by_parts (some_local m) = refl

pub deeper_below : (limit n : ℕ) → 0 < limit → nat_lt limit (suc n) ≡ nat_lt (limit - 1) n
deeper_below limit n h = grind (arith, nat_tests)

pub deeper_of_two : (limit m n : ℕ) → nat_lt limit (max m n) ≡ (nat_lt limit m || nat_lt limit n)
deeper_of_two limit m n = grind (arith, nat_tests)

pub none_deeper : (limit : ℕ) → nat_lt limit 0 ≡ false
none_deeper limit = grind (arith, nat_tests)

-- counts
product_listed : (ps : Templates) → set_count_of_all ps ≡ product_of_counts (template_list ps)
product_listed no_templates = refl
product_listed (template_and p ps) = ap (λ n. set_count p * n) (product_listed ps)

sum_listed : (ps : Templates) → set_count_of_any ps ≡ sum_of_counts (template_list ps)
sum_listed no_templates = refl
sum_listed (template_and p ps) = ap (λ n. set_count p + n) (sum_listed ps)

pub count_of_set : (p : Template) → is_set p ≡ true → set_count p ≡ sum_of_counts (side_parts p)
count_of_set (made k ps) h = cc
count_of_set (hole m) h = cc
count_of_set (one_of ps) h = sum_listed ps
count_of_set (some_local m) h = cc

pub count_of_node : (p : Template) → is_set p ≡ false
    → set_count p ≡ operators p * product_of_counts (side_parts p)
count_of_node (made k ps) h = ap (λ n. operator_count k * n) (product_listed ps)
count_of_node (hole m) h = refl
count_of_node (one_of ps) h = cc
count_of_node (some_local m) h = refl

-- numbers that stop
stop_by : (m a b : ℕ) (t : Bool) → nat_lt m a ≡ t
    → min m (min m a * suc b) ≡ min m (a * suc b)
stop_by m a b true h =
    let above : m < a = grind (arith, nat_tests) in
    let same : min m a ≡ m = omega arith in
    let x : m * suc b ≡ m * b + m = grind arith in
    let y : a * suc b ≡ a * b + a = grind arith in
    rw (same, x, y) (omega arith)
stop_by m a b false h =
    let below : a ≤ m = grind (arith, nat_tests) in
    let same : min m a ≡ a = omega arith in
    rw same refl

pub stop_product : (m a b : ℕ) → min m (min m a * b) ≡ min m (a * b)
stop_product m a zero =
    let x : min m a * 0 ≡ 0 = grind arith in
    let y : a * 0 ≡ 0 = grind arith in
    rw (x, y) refl
stop_product m a (suc b) = stop_by m a b (nat_lt m a) refl

reordered : (t d s : ℕ) → (t * d) * s ≡ d * (t * s)
reordered t d s = grind arith

reordered_back : (t c s : ℕ) → c * (t * s) ≡ t * (c * s)
reordered_back t c s = grind arith

pub product_next : (m t c s d new : ℕ) → d ≡ min m c → new ≡ min m (t * d)
    → min m (t * (c * s)) ≡ min m (new * s)
product_next m t c s d new hd hn =
    sym (ap (λ n. min m (n * s)) hn
    ∙ stop_product m (t * d) s
    ∙ ap (min m) (reordered t d s)
    ∙ ap (λ n. min m (n * (t * s))) hd
    ∙ stop_product m c (t * s)
    ∙ ap (min m) (reordered_back t c s))

pub product_end : (m t : ℕ) → t ≤ m → t ≡ min m (t * 1)
product_end m t h = let e : t * 1 ≡ t = grind arith in rw e (omega arith)

pub sum_next : (m t c s d new : ℕ) → d ≡ min m c → new ≡ min m (t + d)
    → min m (t + (c + s)) ≡ min m (new + s)
sum_next m t c s d new hd hn = omega arith

pub sum_end : (m t : ℕ) → t ≤ m → t ≡ min m (t + 0)
sum_end m t h = omega arith
