-- What is chosen at the picks that count fits the tree.
use Rattle.std.proofs.Common.{◌≡◌, ℕ, zero, suc, ◌+◌, ◌≤◌, ◌==◌, Bool, true, false, ◌||◌, ◌&&◌}
use Rattle.std.proofs.Common.{List, [], ◌∷◌, ◌++◌, length, refl, sym, subst, arith}
use Rattle.std.specs.Prelude.{nat_le, slice_get}
use Rattle.std.specs.Option.{unwrap_or}
use Rattle.std.proofs.lemmas.Bool.{le-leb}
use Rattle.std.proofs.lemmas.Bool.Decides.{Decides-eqb}
use Rattle.choice_tree.specs.Choices.{NamesBy, Rises}
use Rattle.choice_tree.specs.Selections.{Fits, chosen, count_others, edited_picks, has_member}
use Rattle.choice_tree.specs.Selections.{any_has_member, other_has_member, other_picks, picks_in}
use Rattle.choice_tree.specs.WeightedTrees.{Weighted, Weighteds, Others, plainly, pick, no_weighted}
use Rattle.choice_tree.specs.WeightedTrees.{weighted_and, no_others, other_and, numbered}
use Rattle.choice_tree.specs.WeightedTrees.{numbered_all, numbered_others, picks}
use Rattle.choice_tree.specs.WeightedTrees.{picks_in as count_in, picks_in_others}
use Rattle.choice_tree.proofs.PickOrder.{RisesTo, rise}
use Rattle.selection_numbers.specs.Live.{AllMembers, AreMembers, AreWithin, OtherMembers, entries}
use Rattle.selection_numbers.specs.Live.{live_selection}
use Rattle.selection_numbers.specs.MemberCounts.{counts_in, counts_in_others, member_counts}
use Rattle.selection_numbers.proofs.Counting.{counts_of_picks}
use Rattle.selection_numbers.proofs.Live.{Each, each_both, each_more}

-- EACH IS A MEMBER

within_first : (m : ℕ → ℕ) (from : ℕ) (ns ks : List ℕ) → AreWithin m from (ns ++ ks) → AreWithin m from ns
within_first m from [] ks h = tt
within_first m from (n ∷ ns) ks h = (h.0, within_first m (suc from) ns ks h.1)

within_second : (m : ℕ → ℕ) (from : ℕ) (ns ks : List ℕ) → AreWithin m from (ns ++ ks) → AreWithin m (from + length ns) ks
within_second m from [] ks h = let e : from ≡ from + 0 = omega arith in subst (λ n. AreWithin m n ks) e h
within_second m from (n ∷ ns) ks h =
    let e : suc from + length ns ≡ from + suc (length ns) = omega arith in
    subst (λ j. AreWithin m j ks) e (within_second m (suc from) ns ks h.1)

-- behind the picks of a tree
behind : (m : ℕ → ℕ) (w : Weighted) (from at : ℕ) (ks : List ℕ) → AreWithin m at (member_counts (numbered w from) ++ ks) → AreWithin m (at + picks (numbered w from)) ks
behind m w from at ks h =
    subst (λ n. AreWithin m (at + n) ks) (counts_of_picks (numbered w from)) (within_second m at (member_counts (numbered w from)) ks h)

mutual
  pub same_picks : (w : Weighted) (from : ℕ) → picks (numbered w from) ≡ picks w
  same_picks (plainly k ws) from = same_picks_in ws from
  same_picks (pick number base os) from =
      let one = same_picks base (suc from) in
      let two = same_other_picks os (suc from + picks base) in
      cc

  same_picks_in : (ws : Weighteds) (from : ℕ) → count_in (numbered_all ws from) ≡ count_in ws
  same_picks_in no_weighted from = refl
  same_picks_in (weighted_and w ws) from =
      let one = same_picks w from in
      let two = same_picks_in ws (from + picks w) in
      cc

  same_other_picks : (os : Others) (from : ℕ) → picks_in_others (numbered_others os from) ≡ picks_in_others os
  same_other_picks no_others from = refl
  same_other_picks (other_and rule c w os) from =
      let one = same_picks w from in
      let two = same_other_picks os (from + picks w) in
      cc

mutual
  pub are_members : (m : ℕ → ℕ) (w : Weighted) (from : ℕ) → AreWithin m from (member_counts (numbered w from)) → AreMembers m (numbered w from)
  are_members m (plainly k ws) from h = all_members m ws from h
  are_members m (pick number base os) from h =
      let here = h.0 in
      let counts = member_counts (numbered base (suc from)) in
      let others = counts_in_others (numbered_others os (suc from + picks base)) in
      let rest = subst (λ n. AreWithin m (suc from + n) others) (same_picks base (suc from)) (behind m base (suc from) (suc from) others h.1) in
      (omega arith, are_members m base (suc from) (within_first m (suc from) counts others h.1), other_members m os (suc from + picks base) rest)

  all_members : (m : ℕ → ℕ) (ws : Weighteds) (from : ℕ) → AreWithin m from (counts_in (numbered_all ws from)) → AllMembers m (numbered_all ws from)
  all_members m no_weighted from h = tt
  all_members m (weighted_and w ws) from h =
      let counts = member_counts (numbered w from) in
      let others = counts_in (numbered_all ws (from + picks w)) in
      let rest = subst (λ n. AreWithin m (from + n) others) (same_picks w from) (behind m w from from others h) in
      (are_members m w from (within_first m from counts others h), all_members m ws (from + picks w) rest)

  other_members : (m : ℕ → ℕ) (os : Others) (from : ℕ) → AreWithin m from (counts_in_others (numbered_others os from)) → OtherMembers m (numbered_others os from)
  other_members m no_others from h = tt
  other_members m (other_and rule c w os) from h =
      let counts = member_counts (numbered w from) in
      let others = counts_in_others (numbered_others os (from + picks w)) in
      let rest = subst (λ n. AreWithin m (from + n) others) (same_picks w from) (behind m w from from others h) in
      (are_members m w from (within_first m from counts others h), other_members m os (from + picks w) rest)

-- THEY FIT

-- a pick at which another member than the base is chosen, by a test of picks and members
abbrev Holds : (ℕ → ℕ) → (ℕ → ℕ → Bool) → ℕ → Type 0
Holds m has p = (1 ≤ m p) × (has p (m p) ≡ true)

in_first : (a b c : Bool) → a ≡ true → (a || b || c) ≡ true
in_first true b c h = refl
in_first false b c h = absurd cc

in_second : (a b c : Bool) → b ≡ true → (a || b || c) ≡ true
in_second true b c h = refl
in_second false true c h = refl
in_second false false c h = absurd cc

in_third : (a b c : Bool) → c ≡ true → (a || b || c) ≡ true
in_third true b c h = refl
in_third false true c h = refl
in_third false false true h = refl
in_third false false false h = absurd cc

in_left : (a b : Bool) → a ≡ true → (a || b) ≡ true
in_left true b h = refl
in_left false b h = absurd cc

in_right : (a b : Bool) → b ≡ true → (a || b) ≡ true
in_right true b h = refl
in_right false true h = refl
in_right false false h = absurd cc

both_true : (a b : Bool) → a ≡ true → b ≡ true → (a && b) ≡ true
both_true true true h k = refl
both_true false b h k = absurd cc
both_true true false h k = absurd cc

-- what another member of a pick has: the pick, and others that its tree has
abbrev MemberPicks : (ℕ → ℕ) → Others → ℕ → List ℕ → Type 0
MemberPicks m os number ps = (rest : List ℕ) × (ps ≡ number ∷ rest) × Each (Holds m (other_has_member os)) rest

-- those of the member that is chosen at a pick
at_pick : (m : ℕ → ℕ) (number : ℕ) (base : Weighted) (os : Others) → Each (Holds m (has_member base)) (edited_picks m base)
    → ((i : ℕ) (ps : List ℕ) → suc i ≤ count_others os → MemberPicks m os number (unwrap_or (slice_get (other_picks m os number) i) ps))
    → (i : ℕ) → m number ≡ i → i ≤ count_others os
    → Each (Holds m (has_member (pick number base os))) (chosen (m number) (edited_picks m base) (other_picks m os number))
at_pick m number base os b o zero e k =
    let all : ℕ → Type 0 = Holds m (has_member (pick number base os)) in
    let more : (p : ℕ) → Holds m (has_member base) p → all p = λ p h. (h.0, in_second ((number == p) && nat_le (m p) (count_others os)) (has_member base p (m p)) (other_has_member os p (m p)) h.1) in
    subst (λ j. Each all (chosen j (edited_picks m base) (other_picks m os number))) (sym e) (each_more (Holds m (has_member base)) all more (edited_picks m base) b)
at_pick m number base os b o (suc i) e k =
    let all : ℕ → Type 0 = Holds m (has_member (pick number base os)) in
    let within : nat_le (m number) (count_others os) ≡ true = le-leb (m number) (count_others os) (omega (arith, e, k)) in
    let self : all number = (
      omega (arith, e),
      in_first ((number == number) && nat_le (m number) (count_others os)) (has_member base number (m number)) (other_has_member os number (m number))
          (both_true (number == number) (nat_le (m number) (count_others os)) ((Decides-eqb number number).1 refl) within),
    ) in
    let more : (p : ℕ) → Holds m (other_has_member os) p → all p = λ p h. (h.0, in_third ((number == p) && nat_le (m p) (count_others os)) (has_member base p (m p)) (other_has_member os p (m p)) h.1) in
    let r = o i (edited_picks m base) k in
    let whole : Each all (unwrap_or (slice_get (other_picks m os number) i) (edited_picks m base)) =
    subst (Each all) (sym r.1) (self, each_more (Holds m (other_has_member os)) all more r.0 r.2) in
    subst (λ j. Each all (chosen j (edited_picks m base) (other_picks m os number))) (sym e) whole

mutual
  named_in : (m : ℕ → ℕ) (w : Weighted) → AreMembers m w → Each (Holds m (has_member w)) (edited_picks m w)
  named_in m (plainly k ws) h = all_named_in m ws h
  named_in m (pick number base os) h =
      at_pick m number base os (named_in m base h.1) (λ i ps. other_named_in m os h.2 number i ps) (m number) refl h.0

  all_named_in : (m : ℕ → ℕ) (ws : Weighteds) → AllMembers m ws → Each (Holds m (any_has_member ws)) (picks_in m ws)
  all_named_in m no_weighted h = tt
  all_named_in m (weighted_and w ws) h =
      let all : ℕ → Type 0 = Holds m (any_has_member (weighted_and w ws)) in
      each_both all (edited_picks m w) (picks_in m ws)
      (each_more (Holds m (has_member w)) all (λ p f. (f.0, in_left (has_member w p (m p)) (any_has_member ws p (m p)) f.1)) (edited_picks m w) (named_in m w h.0))
      (each_more (Holds m (any_has_member ws)) all (λ p f. (f.0, in_right (has_member w p (m p)) (any_has_member ws p (m p)) f.1)) (picks_in m ws) (all_named_in m ws h.1))

  other_named_in : (m : ℕ → ℕ) (os : Others) → OtherMembers m os → (number i : ℕ) (ps : List ℕ) → suc i ≤ count_others os
      → MemberPicks m os number (unwrap_or (slice_get (other_picks m os number) i) ps)
  other_named_in m no_others h number i ps k = absurd (omega arith)
  other_named_in m (other_and rule c w os) h number zero ps k =
      let all : ℕ → Type 0 = Holds m (other_has_member (other_and rule c w os)) in
      (edited_picks m w, refl, each_more (Holds m (has_member w)) all (λ p f. (f.0, in_left (has_member w p (m p)) (other_has_member os p (m p)) f.1)) (edited_picks m w) (named_in m w h.0))
  other_named_in m (other_and rule c w os) h number (suc i) ps k =
      let all : ℕ → Type 0 = Holds m (other_has_member (other_and rule c w os)) in
      let r = other_named_in m os h.1 number i ps (omega arith) in
      (r.0, r.1, each_more (Holds m (other_has_member os)) all (λ p f. (f.0, in_right (has_member w p (m p)) (other_has_member os p (m p)) f.1)) r.0 r.2)

names_all : (m : ℕ → ℕ) (has : ℕ → ℕ → Bool) (ps : List ℕ) → Each (Holds m has) ps → NamesBy has (entries m ps)
names_all m has [] h = tt
names_all m has (p ∷ ps) h = (h.0.0, h.0.1, names_all m has ps h.1)

rises_all : (m : ℕ → ℕ) (from : ℕ) (ps : List ℕ) (to : ℕ) → RisesTo from ps to → Rises from (entries m ps)
rises_all m from [] to h = tt
rises_all m from (p ∷ ps) to h = (h.0, rises_all m (suc p) ps to h.1)

pub live_fits : (m : ℕ → ℕ) (u : Weighted) → AreWithin m 0 (member_counts (numbered u 0)) → AreMembers m (numbered u 0) × Fits (numbered u 0) (live_selection m (numbered u 0))
live_fits m u h =
    let w = numbered u 0 in
    let all = are_members m u 0 h in
    (all, (rises_all m 0 (edited_picks m w) _ (rise m u 0), names_all m (has_member w) (edited_picks m w) (named_in m w all)))
