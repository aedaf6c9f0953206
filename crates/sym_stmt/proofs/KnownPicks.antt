-- The selection of members that are known, and the plain tree that it makes.
use Rattle.std.proofs.Common.{◌≡◌, ◌≢◌, ◌∙◌, ◌<◌, ◌+◌, ℕ, zero, suc, Bool, List, [], ◌∷◌, ◌++◌, length, map}
use Rattle.std.proofs.Common.{Some, refl, sym, ap, arith, slice_get, inl, inr, subst, true, false}
use Rattle.std.specs.Prelude.{⊤, ◌==◌, if◌then◌else◌}
use Rattle.std.proofs.lemmas.Bool.{cases_lt, eqb-true}
use Rattle.std.proofs.lemmas.Bool.Decides.{nat_tests}
use Rattle.bit_words.specs.Words.{nat_of}
use Rattle.mpy_tree.specs.Trees.{node, tree_and}
use Rattle.choice_tree.specs.declared.selection.Choice.{Choice}
use Rattle.choice_tree.specs.Choices.{member_of}
use Rattle.choice_tree.specs.Selections.{chosen, other_plains, plain, plains}
use Rattle.choice_tree.specs.WeightedTrees.{Weighted, Weighteds, Others, plainly, pick}
use Rattle.choice_tree.specs.WeightedTrees.{no_weighted, weighted_and, no_others, other_and}
use Rattle.sym_nodes.specs.Environments.{AllHavePicks, HasPicks, OthersHavePicks, PicksRead}

-- the picks of choices are below a number
abbrev AreBelow : ℕ → List Choice → Type 0
AreBelow n [] = ⊤
AreBelow n (c ∷ cs) = (c.pick < n) × AreBelow n cs

below_more : (n : ℕ) (cs : List Choice) → AreBelow n cs → AreBelow (n + 1) cs
below_more n [] h = tt
below_more n (c ∷ cs) h = (omega (arith, h.0), below_more n cs h.1)

passed : (d : Choice) (n p : ℕ) → d.pick ≢ p → (if d.pick == p then d.member else n) ≡ n
passed d n p h = grind (arith, nat_tests)

taken : (d : Choice) (n : ℕ) → (if d.pick == d.pick then d.member else n) ≡ d.member
taken d n = grind (arith, nat_tests)

-- what is chosen at a pick that isn't named
not_named : (n : ℕ) (cs : List Choice) → AreBelow n cs → member_of cs n ≡ 0
not_named n [] h = refl
not_named n (c ∷ cs) h =
    passed c (member_of cs n) n (omega (arith, h.0)) ∙ not_named n cs h.1

-- one choice more, of a pick above all others
module _ (c : Choice) where
  below_push : (cs : List Choice) → AreBelow c.pick cs → AreBelow (c.pick + 1) (cs ++ c ∷ [])
  below_push [] h = (omega arith, tt)
  below_push (d ∷ cs) h = (omega (arith, h.0), below_push cs h.1)

  named_last : (cs : List Choice) → AreBelow c.pick cs → member_of (cs ++ c ∷ []) c.pick ≡ c.member
  named_last [] h = taken c 0
  named_last (d ∷ cs) h =
      passed d (member_of (cs ++ c ∷ []) c.pick) c.pick (omega (arith, h.0)) ∙ named_last cs h.1

  named_before : (cs : List Choice) (p : ℕ) → p < c.pick
      → member_of (cs ++ c ∷ []) p ≡ member_of cs p
  named_before [] p h = passed c 0 p (omega (arith, h))
  named_before (d ∷ cs) p h =
      ap (λ (n : ℕ). if d.pick == p then d.member else n) (named_before cs p h)

  abbrev with_choice : Bool → List Choice → List Choice
  with_choice b cs = if b then cs else cs ++ c ∷ []

  below_with : (b : Bool) (cs : List Choice) → AreBelow c.pick cs
      → AreBelow (c.pick + 1) (with_choice b cs)
  below_with true cs h = below_more c.pick cs h
  below_with false cs h = below_push cs h

  named_with : (b : Bool) (cs : List Choice) → (c.member == 0) ≡ b → AreBelow c.pick cs
      → member_of (with_choice b cs) c.pick ≡ c.member
  named_with true cs e h = not_named c.pick cs h ∙ sym (eqb-true c.member 0 e)
  named_with false cs e h = named_last cs h

  before_with : (b : Bool) (cs : List Choice) (p : ℕ) → p < c.pick
      → member_of (with_choice b cs) p ≡ member_of cs p
  before_with true cs p h = refl
  before_with false cs p h = named_before cs p h

-- Picks so far read as the members of choices, which are of these picks; and one pick more.
pub record ReadSoFar {B : Type 0} (reads : List Bool → B → Bool) (picks : List (List B)) (i : ℕ)
    (cs : List Choice) : Type 0 where
  pub below : AreBelow i cs
  pub read : (vs : List Bool) (j : ℕ) (bits : List B) → j < i → slice_get picks j ≡ Some bits
      → nat_of (map (reads vs) bits) ≡ member_of cs j

pub one_more : {B : Type 0} (reads : List Bool → B → Bool) (picks : List (List B)) (i member : ℕ)
    (here : List B) (cs ds : List Choice) → slice_get picks i ≡ Some here
    → ((vs : List Bool) → nat_of (map (reads vs) here) ≡ member) → ReadSoFar reads picks i cs
    → ds ≡ (if member == 0 then cs else cs ++ record { pick = i; member = member } ∷ [])
    → ReadSoFar reads picks (i + 1) ds
one_more reads picks i member here cs ds at known before is =
    let c : Choice = record { pick = i; member = member } in
    let b = member == 0 in
    subst (ReadSoFar reads picks (i + 1)) (sym is) (record {
      below = below_with c b cs before.below;
      read = λ vs j bits less there. elim (cases_lt j i) [
        | inl k ↦ before.read vs j bits k there ∙ sym (before_with c b cs j k)
        | inr k ↦ (
            let same : j ≡ i = omega arith in
            let one : Some bits ≡ Some here = sym there ∙ ap (slice_get picks) same ∙ at in
            let equal : bits ≡ here = cc in
            ap (λ (w : List _). nat_of (map (reads vs) w)) equal ∙ known vs
            ∙ sym (ap (member_of (with_choice c b cs)) same
            ∙ named_with c b cs refl before.below)
            )
      ];
    })

-- members that are the same at all picks of a tree make the same plain tree
module _ {B : Type 0} (picks : List (List B)) (m n : ℕ → ℕ)
    (same : (i : ℕ) → i < length picks → m i ≡ n i) where
  mutual
    pub plain_same : (w : Weighted) → HasPicks picks w → plain m w ≡ plain n w
    plain_same (plainly k ws) h = ap (node k) (plains_same ws h)
    plain_same (pick number base os) h =
        ap (λ i. chosen i (plain m base) (other_plains m os)) (same number h.0)
        ∙ ap (λ t. chosen (n number) t (other_plains m os)) (plain_same base h.1)
        ∙ ap (λ ts. chosen (n number) (plain n base) ts) (others_same os h.2)

    plains_same : (ws : Weighteds) → AllHavePicks picks ws → plains m ws ≡ plains n ws
    plains_same no_weighted h = refl
    plains_same (weighted_and w ws) h =
        ap (λ t. tree_and t (plains m ws)) (plain_same w h.0)
        ∙ ap (λ ts. tree_and (plain n w) ts) (plains_same ws h.1)

    others_same : (os : Others) → OthersHavePicks picks os → other_plains m os ≡ other_plains n os
    others_same no_others h = refl
    others_same (other_and rule cost w os) h =
        ap (λ t. t ∷ other_plains m os) (plain_same w h.0)
        ∙ ap (λ ts. plain n w ∷ ts) (others_same os h.1)

bits_at : {B : Type 0} (picks : List (List B)) (i : ℕ) → i < length picks
    → (bits : List B) × (slice_get picks i ≡ Some bits)
bits_at [] i h = absurd (omega arith)
bits_at (bits ∷ picks) zero h = (bits, refl)
bits_at (bits ∷ picks) (suc i) h = bits_at picks i (omega arith)

-- picks read as one member each
pub members_same : {B : Type 0} (rd : B → Bool) (picks : List (List B)) (m n : ℕ → ℕ)
    → PicksRead rd picks m → PicksRead rd picks n → (i : ℕ) → i < length picks → m i ≡ n i
members_same rd picks m n h k i less =
    let at = bits_at picks i less in sym (h.member i at.0 at.1) ∙ k.member i at.0 at.1
