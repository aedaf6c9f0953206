-- Each selection that fits a numbered tree has truth values, and what truth values spell fits.
use Rattle.std.proofs.Common.{◌≡◌, ◌+◌, ℕ, Bool, List, length, Option, Some, None, refl}
use Rattle.std.proofs.Common.{sym, ap, ◌∙◌, arith, [], subst}
use Rattle.std.specs.Prelude.{option_map, slice_index_or}
use Rattle.choice_tree.specs.declared.selection.Choice.{Choice}
use Rattle.choice_tree.specs.Choices.{member_of}
use Rattle.choice_tree.specs.Selections.{Fits, cost, plain}
use Rattle.choice_tree.specs.WeightedTrees.{Weighted, numbered}
use Rattle.selection_numbers.specs.Live.{live_selection}
use Rattle.selection_numbers.specs.MemberCounts.{member_counts}
use Rattle.selection_numbers.specs.Numbers.{selection_of}
use Rattle.selection_numbers.proofs.Counting.{all_some}
use Rattle.selection_numbers.proofs.Live.{live_stands}
use Rattle.selection_numbers.proofs.LiveFits.{live_fits}
use Rattle.selection_numbers.proofs.Numbered.{are_numbered}
use Rattle.input_space.specs.SelectionBits.{all_member_bits, members_at, selection_at, selection_by}
use Rattle.coding_laws.proofs.Standing.{whole_stands}
use Rattle.coding_laws.proofs.SpelledMembers.{AreMembersOf, are_members_of, are_within}
use Rattle.coding_laws.proofs.SpelledMembers.{length-spelled_members, members_named}
use Rattle.coding_laws.proofs.SpelledMembers.{members_of, members_stand}
use Rattle.coding_laws.proofs.SpelledMembers.{read_members, spelled_members}

-- truth values of a selection that makes the same tree at the same cost
pub record Spelled (w : Weighted) (s : List Choice) : Type 0 where
  pub bits : List Bool
  pub selection : List Choice
  pub many : length bits ≡ all_member_bits (member_counts w)
  pub spells : selection_at w bits 0 ≡ Some selection
  pub fits : Fits w selection
  pub tree : plain (member_of selection) w ≡ plain (member_of s) w
  pub cost_is : cost (member_of selection) w ≡ cost (member_of s) w

-- the selection with a number chooses its members
same_members : (w : Weighted) (j : ℕ) (s : List Choice) → selection_of w j ≡ s
    → (λ p. slice_index_or (members_of (member_counts w) j) p 0) ≡ member_of s
same_members w j s e = λ i. λ p. (one p) i
  where
    one : (p : ℕ) → slice_index_or (members_of (member_counts w) j) p 0 ≡ member_of s p
    one p =
        let at : p ≡ 0 + p = omega arith in
        sym (members_named (member_counts w) 0 j p) ∙ ap (member_of (selection_of w j)) (sym at)
        ∙ ap (λ t. member_of t p) e

pub selection_spelled : (u : Weighted) (s : List Choice) → Fits (numbered u 0) s
    → Spelled (numbered u 0) s
selection_spelled u s fit =
    let w = numbered u 0 in
    let ns = member_counts w in
    let n = (are_numbered u).each_has_one s fit in
    let is = members_of ns n.number in
    let all : AreMembersOf ns is = are_members_of ns n.number (all_some w) in
    let m : ℕ → ℕ = λ p. slice_index_or is p 0 in
    let same : m ≡ member_of s = same_members w n.number s n.is in
    let live = live_fits m u (are_within ns is [] all) in
    let stands = live_stands m w live.0 in
    let bits = spelled_members ns is in
    record {
      bits = bits;
      selection = live_selection m w;
      many = length-spelled_members ns is all;
      spells =
          ap (option_map (selection_by w)) (members_stand ns is bits 0 all (whole_stands bits));
      fits = live.1;
      tree = stands.tree ∙ ap (λ f. plain f w) same;
      cost_is = stands.cost_is ∙ ap (λ f. cost f w) same;
    }

pub spelled_fits : (u : Weighted) (bits : List Bool) (s : List Choice)
    → selection_at (numbered u 0) bits 0 ≡ Some s → Fits (numbered u 0) s
spelled_fits u bits s h = by (members_at (member_counts (numbered u 0)) bits 0) refl h
  where
    by : (o : Option (List ℕ)) → members_at (member_counts (numbered u 0)) bits 0 ≡ o
        → option_map (selection_by (numbered u 0)) o ≡ Some s → Fits (numbered u 0) s
    by None e g = absurd cc
    by (Some is) e g =
        let w = numbered u 0 in
        let ns = member_counts w in
        let same : selection_by w is ≡ s = cc in
        let all = are_within ns is [] (read_members ns bits 0 is e) in
        subst (Fits w) same (live_fits (λ p. slice_index_or is p 0) u all).1
