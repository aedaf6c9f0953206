-- The picks of a numbered tree, by the numbers of their members.
use Rattle.std.proofs.Common.{◌≡◌, ℕ, suc, ◌+◌, ◌*◌, Bool, true, false, ◌||◌, ◌&&◌, List, []}
use Rattle.std.proofs.Common.{◌∷◌, ◌++◌, length, refl, sym, ap, ◌∙◌, arith, length-append}
use Rattle.std.proofs.Common.{Some, None}
use Rattle.std.specs.Prelude.{◌==◌, nat_lt, nat_le}
use Rattle.std.proofs.lemmas.Bool.Decides.{nat_tests}
use Rattle.std.proofs.Math.Nat.{mul_assoc}
use Rattle.choice_tree.specs.declared.node.Pick.{Pick}
use Rattle.choice_tree.specs.NodeViews.{own_pick, pick_of}
use Rattle.choice_tree.specs.PickViews.{others_seen}
use Rattle.choice_tree.specs.WeightedViews.{members}
use Rattle.choice_tree.proofs.FittingLaws.{counted}
use Rattle.choice_tree.specs.WeightedTrees.{Weighted, Weighteds, Others, plainly, pick, no_weighted}
use Rattle.choice_tree.specs.WeightedTrees.{weighted_and, no_others, other_and, numbered}
use Rattle.choice_tree.specs.WeightedTrees.{numbered_all, numbered_others, picks, picks_in}
use Rattle.choice_tree.specs.WeightedTrees.{picks_in_others, children, listed, other_trees}
use Rattle.choice_tree.specs.Selections.{count_others, has_member, any_has_member}
use Rattle.choice_tree.specs.Selections.{other_has_member, choices, choices_in, choices_in_others}
use Rattle.selection_numbers.specs.MemberCounts.{member_counts, counts_in, counts_in_others}
use Rattle.selection_numbers.specs.MemberCounts.{counts_of_each}
use Rattle.selection_numbers.proofs.Digits.{product, AllSome, has_digit}

-- as many picks as numbers
mutual
  pub counts_of_picks : (w : Weighted) → length (member_counts w) ≡ picks w
  counts_of_picks (plainly k ws) = counts_of_parts ws
  counts_of_picks (pick number base os) =
      ap suc (length-append (member_counts base) (counts_in_others os)
      ∙ (λ i. counts_of_picks base i + counts_of_members os i))

  counts_of_parts : (ws : Weighteds) → length (counts_in ws) ≡ picks_in ws
  counts_of_parts no_weighted = refl
  counts_of_parts (weighted_and w ws) =
      length-append (member_counts w) (counts_in ws)
      ∙ (λ i. counts_of_picks w i + counts_of_parts ws i)

  counts_of_members : (os : Others) → length (counts_in_others os) ≡ picks_in_others os
  counts_of_members no_others = refl
  counts_of_members (other_and rule cost w os) =
      length-append (member_counts w) (counts_in_others os)
      ∙ (λ i. counts_of_picks w i + counts_of_members os i)

or_nested : (a b c : Bool) → a || (b || c) ≡ (a || b) || c
or_nested true b c = refl
or_nested false b c = refl

has_append : (ns ms : List ℕ) (from p i : ℕ)
    → has_digit (ns ++ ms) from p i ≡ has_digit ns from p i || has_digit ms (from + length ns) p i
has_append [] ms from p i =
    let e : from ≡ from + 0 = omega arith in
    ap (λ k. has_digit ms k p i) e
has_append (n ∷ ns) ms from p i =
    let here = (from == p) && nat_lt i n in
    let e : suc from + length ns ≡ from + suc (length ns) = omega arith in
    ap (λ b. here || b) (has_append ns ms (suc from) p i)
    ∙ or_nested here (has_digit ns (suc from) p i) (has_digit ms (suc from + length ns) p i)
    ∙ ap (λ k. (here || has_digit ns (suc from) p i) || has_digit ms k p i) e

-- in two lists, the first of which has so many picks
has_both : (ns ms : List ℕ) (from k p i : ℕ) → length ns ≡ k
    → has_digit (ns ++ ms) from p i ≡ has_digit ns from p i || has_digit ms (from + k) p i
has_both ns ms from k p i e =
    has_append ns ms from p i
    ∙ ap (λ n. has_digit ns from p i || has_digit ms (from + n) p i) e

pub same_count : (os : Others) (from : ℕ) → count_others (numbered_others os from) ≡ count_others os
same_count no_others from = refl
same_count (other_and rule cost w os) from = ap suc (same_count os (from + picks w))

at_most : (i n : ℕ) → nat_lt i (suc n) ≡ nat_le i n
at_most i n = grind (arith, nat_tests)

mutual
  pub has_by_counts : (w : Weighted) (from p i : ℕ)
      → has_digit (member_counts w) from p i ≡ has_member (numbered w from) p i
  has_by_counts (plainly k ws) from p i = part_by_counts ws from p i
  has_by_counts (pick number base os) from p i =
      let own = (from == p) && nat_le i (count_others os) in
      let os' = numbered_others os (suc from + picks base) in
      (λ k. ((from == p) && at_most i (count_others os) k)
      || has_both (member_counts base) (counts_in_others os) (suc from) (picks base) p i
      (counts_of_picks base) k)
      ∙ (λ k. own || (has_by_counts base (suc from) p i k
      || member_by_counts os (suc from + picks base) p i k))
      ∙ or_nested own (has_member (numbered base (suc from)) p i) (other_has_member os' p i)
      ∙ ap (λ n. (((from == p) && nat_le i n) || has_member (numbered base (suc from)) p i)
      || other_has_member os' p i) (sym (same_count os (suc from + picks base)))

  part_by_counts : (ws : Weighteds) (from p i : ℕ)
      → has_digit (counts_in ws) from p i ≡ any_has_member (numbered_all ws from) p i
  part_by_counts no_weighted from p i = refl
  part_by_counts (weighted_and w ws) from p i =
      has_both (member_counts w) (counts_in ws) from (picks w) p i (counts_of_picks w)
      ∙ (λ k. has_by_counts w from p i k || part_by_counts ws (from + picks w) p i k)

  member_by_counts : (os : Others) (from p i : ℕ)
      → has_digit (counts_in_others os) from p i ≡ other_has_member (numbered_others os from) p i
  member_by_counts no_others from p i = refl
  member_by_counts (other_and rule cost w os) from p i =
      has_both (member_counts w) (counts_in_others os) from (picks w) p i (counts_of_picks w)
      ∙ (λ k. has_by_counts w from p i k || member_by_counts os (from + picks w) p i k)

product_append : (ns ms : List ℕ) → product (ns ++ ms) ≡ product ns * product ms
product_append [] ms = let e : product ms ≡ 1 * product ms = omega arith in e
product_append (n ∷ ns) ms =
    ap (λ k. n * k) (product_append ns ms) ∙ sym (mul_assoc n (product ns) (product ms))

-- the product of the numbers is the number of choices
mutual
  pub product_is : (w : Weighted) → product (member_counts w) ≡ choices w
  product_is (plainly k ws) = product_in ws
  product_is (pick number base os) =
      ap (λ n. suc (count_others os) * n)
      (product_append (member_counts base) (counts_in_others os)
      ∙ (λ i. product_is base i * product_of_others os i))

  product_in : (ws : Weighteds) → product (counts_in ws) ≡ choices_in ws
  product_in no_weighted = refl
  product_in (weighted_and w ws) =
      product_append (member_counts w) (counts_in ws) ∙ (λ i. product_is w i * product_in ws i)

  product_of_others : (os : Others) → product (counts_in_others os) ≡ choices_in_others os
  product_of_others no_others = refl
  product_of_others (other_and rule cost w os) =
      product_append (member_counts w) (counts_in_others os)
      ∙ (λ i. product_is w i * product_of_others os i)

some_append : (ns ms : List ℕ) → AllSome ns → AllSome ms → AllSome (ns ++ ms)
some_append [] ms a b = b
some_append (n ∷ ns) ms a b = (a.0, some_append ns ms a.1 b)

mutual
  pub all_some : (w : Weighted) → AllSome (member_counts w)
  all_some (plainly k ws) = some_in ws
  all_some (pick number base os) = (
    omega arith,
    some_append (member_counts base) (counts_in_others os) (all_some base) (some_in_others os),
  )

  some_in : (ws : Weighteds) → AllSome (counts_in ws)
  some_in no_weighted = tt
  some_in (weighted_and w ws) = some_append (member_counts w) (counts_in ws) (all_some w) (some_in ws)

  some_in_others : (os : Others) → AllSome (counts_in_others os)
  some_in_others no_others = tt
  some_in_others (other_and rule cost w os) =
      some_append (member_counts w) (counts_in_others os) (all_some w) (some_in_others os)

-- a node's numbers, from those of its children
each_counts : (ws : Weighteds) → counts_of_each (listed ws) ≡ counts_in ws
each_counts no_weighted = refl
each_counts (weighted_and w ws) = ap (λ ns. member_counts w ++ ns) (each_counts ws)

other_counts : (os : Others) → counts_of_each (other_trees os) ≡ counts_in_others os
other_counts no_others = refl
other_counts (other_and rule cost w os) = ap (λ ns. member_counts w ++ ns) (other_counts os)

pub parts_counts : (w : Weighted) → None ≡ own_pick w
    → counts_of_each (children w) ≡ member_counts w
parts_counts (plainly k ws) h = each_counts ws
parts_counts (pick number base os) h = cc

pub pick_counts : (w : Weighted) (q : Pick) → Some (pick_of q) ≡ own_pick w
    → suc (length (others_seen q)) ∷ counts_of_each (children w) ≡ member_counts w
pick_counts (plainly k ws) q h = cc
pick_counts (pick number base os) q h =
    let same : pick_of q ≡ record { number = number; base = base; others = os } = cc in
    let a : members (others_seen q) ≡ os = ap (λ r. r.others) same in
    let c : length (others_seen q) ≡ count_others os =
    sym (counted (others_seen q)) ∙ ap count_others a in
    (λ i. suc (c i) ∷ (member_counts base ++ other_counts os i))
