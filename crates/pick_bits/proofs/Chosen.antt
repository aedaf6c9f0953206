-- The selection of given members, and what is left of it.
use Rattle.std.proofs.Common.{◌≡◌, ◌∙◌, ℕ, zero, suc, ◌+◌, ◌<◌, Bool, false, List, [], ◌∷◌}
use Rattle.std.proofs.Common.{Some, None, refl, ap, arith}
use Rattle.std.specs.Prelude.{Option, option_map, if◌then◌else◌, slice_index_or, ◌==◌}
use Rattle.std.proofs.lemmas.Bool.{eq-eqb, ne_eqb}
use Rattle.std.proofs.lemmas.Option.{same_Some}
use Rattle.choice_tree.specs.declared.edit.Edit.{Edit}
use Rattle.choice_tree.specs.declared.selection.Choice.{Choice}
use Rattle.choice_tree.specs.Choices.{member_of}
use Rattle.choice_tree.specs.WeightedTrees.{Weighted}
use Rattle.selection_numbers.specs.Live.{live_selection}
use Rattle.selection_numbers.specs.MemberCounts.{member_counts}
use Rattle.selection_numbers.specs.Numbers.{and_member}
use Rattle.pick_bits.specs.MemberWords.{chosen_from}
use Rattle.input_space.specs.SelectionBits.{members_at, selection_at, selection_by}

-- what is chosen at the pick of an edit
abbrev pub choice_at : (ℕ → ℕ) → Edit → Choice
choice_at m e = record { pick = e.pick; member = m e.pick }

-- the member of the first pick
first_member : (p i : ℕ) (s : List Choice) → member_of s p ≡ 0 → member_of (and_member p i s) p ≡ i
first_member p zero s h = h
first_member p (suc i) s h = ap (λ b. if b then suc i else member_of s p) (eq-eqb p p refl)

-- and of another
other_member : (p q i : ℕ) (s : List Choice) → (p == q) ≡ false
    → member_of (and_member p i s) q ≡ member_of s q
other_member p q zero s e = refl
other_member p q (suc i) s e = ap (λ b. if b then suc i else member_of s q) e

none_before : (is : List ℕ) (p q : ℕ) → q < p → member_of (chosen_from p is) q ≡ 0
none_before [] p q h = refl
none_before (i ∷ is) p q h =
    other_member p q i (chosen_from (suc p) is) (ne_eqb p q (λ (e : p ≡ q). omega (arith, e, h)))
    ∙ none_before is (suc p) q (omega (arith, h))

member_from : (is : List ℕ) (p k q : ℕ) → q ≡ p + k
    → member_of (chosen_from p is) q ≡ slice_index_or is k 0
member_from [] p k q e = refl
member_from (i ∷ is) p zero q e =
    let same : q ≡ p = omega (arith, e) in
    ap (member_of (chosen_from p (i ∷ is))) same
    ∙ first_member p i (chosen_from (suc p) is) (none_before is (suc p) p (omega arith))
member_from (i ∷ is) p (suc k) q e =
    let apart : (p == q) ≡ false = ne_eqb p q (λ (same : p ≡ q). omega (arith, same, e)) in
    other_member p q i (chosen_from (suc p) is) apart
    ∙ member_from is (suc p) k q (omega (arith, e))

-- what is left of the members
left_of : (w : Weighted) (is : List ℕ)
    → live_selection (member_of (chosen_from 0 is)) w ≡ selection_by w is
left_of w is =
    let whole : (p : ℕ) → member_of (chosen_from 0 is) p ≡ slice_index_or is p 0 =
    λ p. member_from is 0 p p (omega arith) in
    ap (λ (m : ℕ → ℕ). live_selection m w) (λ i p. whole p i)

one_selected : (w : Weighted) (o : Option (List ℕ)) (all s : List Choice)
    → Some all ≡ option_map (chosen_from 0) o
    → s ≡ live_selection (member_of all) w → Some s ≡ option_map (selection_by w) o
one_selected w None all s e live = absurd cc
one_selected w (Some is) all s e live =
    let same : all ≡ chosen_from 0 is = same_Some all (chosen_from 0 is) e in
    ap Some (live ∙ ap (λ c. live_selection (member_of c) w) same ∙ left_of w is)

pub selected : (w : Weighted) (ns : List ℕ) (vs : List Bool) (start : ℕ) (all s : List Choice)
    → ns ≡ member_counts w
    → Some all ≡ option_map (chosen_from 0) (members_at ns vs start)
    → s ≡ live_selection (member_of all) w
    → Some s ≡ selection_at w vs start
selected w ns vs start all s counts e live =
    one_selected w (members_at ns vs start) all s e live
    ∙ ap (λ ms. option_map (selection_by w) (members_at ms vs start)) counts
