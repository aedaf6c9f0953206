-- The selections that fit a tree whose picks are numbered.
use Rattle.std.proofs.Common.{◌≡◌, ℕ, suc, ◌+◌, Bool, List, [], ◌∷◌, ◌++◌, refl, sym, ap}
use Rattle.std.proofs.Common.{◌∙◌, arith}
use Rattle.choice_tree.specs.declared.selection.Choice.{Choice}
use Rattle.choice_tree.specs.Choices.{NamesBy}
use Rattle.choice_tree.specs.WeightedTrees.{Weighted, Weighteds, Others, plainly, pick, no_weighted}
use Rattle.choice_tree.specs.WeightedTrees.{weighted_and, no_others, other_and, numbered}
use Rattle.choice_tree.specs.WeightedTrees.{numbered_all, numbered_others, picks}
use Rattle.choice_tree.specs.Selections.{has_member}
use Rattle.selection_numbers.specs.MemberCounts.{member_counts, counts_in, counts_in_others}
use Rattle.selection_numbers.specs.Numbers.{selection_of, AreNumbered}
use Rattle.selection_numbers.proofs.Counting.{same_count, has_by_counts, product_is, all_some}
use Rattle.selection_numbers.proofs.Digits.{has_digit, digits_rise, digits_named, numbers_all}
use Rattle.selection_numbers.proofs.Digits.{one_number}

-- numbers have no part in how many members the picks have
mutual
  pub counts_numbered : (w : Weighted) (from : ℕ)
      → member_counts (numbered w from) ≡ member_counts w
  counts_numbered (plainly k ws) from = counts_numbered_in ws from
  counts_numbered (pick number base os) from =
      let later = suc from + picks base in
      λ i. suc (same_count os later i)
      ∷ (counts_numbered base (suc from) i ++ counts_numbered_others os later i)

  counts_numbered_in : (ws : Weighteds) (from : ℕ)
      → counts_in (numbered_all ws from) ≡ counts_in ws
  counts_numbered_in no_weighted from = refl
  counts_numbered_in (weighted_and w ws) from =
      λ i. counts_numbered w from i ++ counts_numbered_in ws (from + picks w) i

  counts_numbered_others : (os : Others) (from : ℕ)
      → counts_in_others (numbered_others os from) ≡ counts_in_others os
  counts_numbered_others no_others from = refl
  counts_numbered_others (other_and rule cost w os) from =
      λ i. counts_numbered w from i ++ counts_numbered_others os (from + picks w) i

names_same : (has has' : ℕ → ℕ → Bool) (s : List Choice) → ((p i : ℕ) → has p i ≡ has' p i)
    → NamesBy has s → NamesBy has' s
names_same has has' [] e h = tt
names_same has has' (x ∷ xs) e h =
    (h.0, sym (e x.pick x.member) ∙ h.1, names_same has has' xs e h.2)

members_named : (u : Weighted) (p i : ℕ)
    → has_digit (member_counts (numbered u 0)) 0 p i ≡ has_member (numbered u 0) p i
members_named u p i =
    ap (λ ns. has_digit ns 0 p i) (counts_numbered u 0) ∙ has_by_counts u 0 p i

pub are_numbered : (u : Weighted) → AreNumbered (numbered u 0)
are_numbered u =
    let w = numbered u 0 in
    let ns = member_counts w in
    record {
      each_fits = λ j. (
        digits_rise ns 0 j,
        names_same (has_digit ns 0) (has_member w) (selection_of w j) (members_named u)
            (digits_named ns 0 j (all_some w)),
      );
      each_has_one = λ s fits.
          let named =
          names_same (has_member w) (has_digit ns 0) s (λ p i. sym (members_named u p i)) fits.1 in
          let r = numbers_all ns 0 s (all_some w) fits.0 named in
          let b = r.below in
          record {
            number = r.number;
            below = rw (product_is w) at b;
            is = r.is;
          };
      one_number = λ i j a b h.
          let all = product_is w in
          one_number ns 0 i j (all_some w) (omega (arith, all, a)) (omega (arith, all, b)) h;
    }
