-- Choices that agree at the picks that count make the same tree at the same cost.
use Rattle.std.proofs.Common.{◌≡◌, ℕ, zero, suc, ◌+◌, ◌≤◌, ◌<◌, ◌==◌, ◌⊎◌, inl, inr, Bool, true, false, ◌||◌, List, [], ◌∷◌, ◌++◌, map, refl, sym, ap, ◌∙◌, subst, arith, cond}
use Rattle.std.specs.Prelude.{slice_get, if◌then◌else◌}
use Rattle.std.specs.Option.{unwrap_or}
use Rattle.std.specs.List.{list_any}
use Rattle.std.proofs.lemmas.Bool.Decides.{Decides-eqb}
use Rattle.mpy_tree.specs.Trees.{Tree, node}
use Rattle.choice_tree.specs.declared.selection.Choice.{Choice}
use Rattle.choice_tree.specs.Choices.{member_of}
use Rattle.choice_tree.specs.Selections.{chosen, cost, costs, count_others, edited_picks, other_costs, other_picks, other_plains, picks_in, plain, plains}
use Rattle.choice_tree.specs.WeightedTrees.{Weighted, Weighteds, Others, plainly, pick, no_weighted, weighted_and, no_others, other_and}
use Rattle.selection_numbers.specs.Live.{AllMembers, AreMembers, LiveStands, OtherMembers, entries}

-- the picks that count: a pick itself, and those in its chosen member
abbrev mutual
  pub live : (ℕ → ℕ) → Weighted → List ℕ
  live m (plainly k ws) = live_in m ws
  live m (pick number base os) = number ∷ chosen (m number) (live m base) (other_live m os)

  pub live_in : (ℕ → ℕ) → Weighteds → List ℕ
  live_in m no_weighted = []
  live_in m (weighted_and w ws) = live m w ++ live_in m ws

  pub other_live : (ℕ → ℕ) → Others → List (List ℕ)
  other_live m no_others = []
  other_live m (other_and rule c w os) = live m w ∷ other_live m os

-- a fact of each pick of a list
abbrev pub Each : (ℕ → Type 0) → List ℕ → Type 0
Each P [] = Unit {0}
Each P (p ∷ ps) = P p × Each P ps

each_first : (P : ℕ → Type 0) (ps qs : List ℕ) → Each P (ps ++ qs) → Each P ps
each_first P [] qs h = tt
each_first P (p ∷ ps) qs h = (h.0, each_first P ps qs h.1)

each_second : (P : ℕ → Type 0) (ps qs : List ℕ) → Each P (ps ++ qs) → Each P qs
each_second P [] qs h = h
each_second P (p ∷ ps) qs h = each_second P ps qs h.1

pub each_both : (P : ℕ → Type 0) (ps qs : List ℕ) → Each P ps → Each P qs → Each P (ps ++ qs)
each_both P [] qs h k = k
each_both P (p ∷ ps) qs h k = (h.0, each_both P ps qs h.1 k)

pub each_more : (P Q : ℕ → Type 0) → ((p : ℕ) → P p → Q p) → (ps : List ℕ) → Each P ps → Each Q ps
each_more P Q f [] h = tt
each_more P Q f (p ∷ ps) h = (f p h.0, each_more P Q f ps h.1)

-- what holds of what a member makes, by what holds of each member
by_member : {A : Type 0} (P : ℕ → Type 0) (base n_base : A) (lives : List ℕ) (others n_others : List A) (other_lives : List (List ℕ))
    → (Each P lives → n_base ≡ base)
    → ((i : ℕ) → Each P (unwrap_or (slice_get other_lives i) lives) → unwrap_or (slice_get n_others i) n_base ≡ unwrap_or (slice_get others i) base)
    → (i : ℕ) → Each P (chosen i lives other_lives) → chosen i n_base n_others ≡ chosen i base others
by_member P base n_base lives others n_others other_lives b o zero h = b h
by_member P base n_base lives others n_others other_lives b o (suc i) h = o i h

abbrev Agrees : (ℕ → ℕ) → (ℕ → ℕ) → ℕ → Type 0
Agrees m n p = n p ≡ m p

mutual
  pub plain_agrees : (m n : ℕ → ℕ) (w : Weighted) → Each (Agrees m n) (live m w) → plain n w ≡ plain m w
  plain_agrees m n (plainly k ws) h = ap (node k) (plains_agree m n ws h)
  plain_agrees m n (pick number base os) h =
      ap (λ i. chosen i (plain n base) (other_plains n os)) h.0
      ∙ by_member (Agrees m n) (plain m base) (plain n base) (live m base) (other_plains m os) (other_plains n os) (other_live m os)
      (plain_agrees m n base) (λ i. other_agrees m n os (live m base) (plain m base) (plain n base) (plain_agrees m n base) i) (m number) h.1

  plains_agree : (m n : ℕ → ℕ) (ws : Weighteds) → Each (Agrees m n) (live_in m ws) → plains n ws ≡ plains m ws
  plains_agree m n no_weighted h = refl
  plains_agree m n (weighted_and w ws) h =
      let one : plain n w ≡ plain m w = plain_agrees m n w (each_first (Agrees m n) (live m w) (live_in m ws) h) in
      let two : plains n ws ≡ plains m ws = plains_agree m n ws (each_second (Agrees m n) (live m w) (live_in m ws) h) in
      cc

  other_agrees : (m n : ℕ → ℕ) (os : Others) (lives : List ℕ) (base n_base : Tree) → (Each (Agrees m n) lives → n_base ≡ base)
      → (i : ℕ) → Each (Agrees m n) (unwrap_or (slice_get (other_live m os) i) lives)
      → unwrap_or (slice_get (other_plains n os) i) n_base ≡ unwrap_or (slice_get (other_plains m os) i) base
  other_agrees m n no_others lives base n_base b i h = b h
  other_agrees m n (other_and rule c w os) lives base n_base b zero h = plain_agrees m n w h
  other_agrees m n (other_and rule c w os) lives base n_base b (suc i) h = other_agrees m n os lives base n_base b i h

mutual
  pub cost_agrees : (m n : ℕ → ℕ) (w : Weighted) → Each (Agrees m n) (live m w) → cost n w ≡ cost m w
  cost_agrees m n (plainly k ws) h = costs_agree m n ws h
  cost_agrees m n (pick number base os) h =
      ap (λ i. chosen i (cost n base) (other_costs n os)) h.0
      ∙ by_member (Agrees m n) (cost m base) (cost n base) (live m base) (other_costs m os) (other_costs n os) (other_live m os)
      (cost_agrees m n base) (λ i. other_cost_agrees m n os (live m base) (cost m base) (cost n base) (cost_agrees m n base) i) (m number) h.1

  costs_agree : (m n : ℕ → ℕ) (ws : Weighteds) → Each (Agrees m n) (live_in m ws) → costs n ws ≡ costs m ws
  costs_agree m n no_weighted h = refl
  costs_agree m n (weighted_and w ws) h =
      let one : cost n w ≡ cost m w = cost_agrees m n w (each_first (Agrees m n) (live m w) (live_in m ws) h) in
      let two : costs n ws ≡ costs m ws = costs_agree m n ws (each_second (Agrees m n) (live m w) (live_in m ws) h) in
      cc

  other_cost_agrees : (m n : ℕ → ℕ) (os : Others) (lives : List ℕ) (base n_base : ℕ) → (Each (Agrees m n) lives → n_base ≡ base)
      → (i : ℕ) → Each (Agrees m n) (unwrap_or (slice_get (other_live m os) i) lives)
      → unwrap_or (slice_get (other_costs n os) i) n_base ≡ unwrap_or (slice_get (other_costs m os) i) base
  other_cost_agrees m n no_others lives base n_base b i h = b h
  other_cost_agrees m n (other_and rule c w os) lives base n_base b zero h = ap (λ k. c + k) (cost_agrees m n w h)
  other_cost_agrees m n (other_and rule c w os) lives base n_base b (suc i) h = other_cost_agrees m n os lives base n_base b i h

-- a pick is among picks
abbrev pub is_in : ℕ → List ℕ → Bool
is_in p qs = list_any (λ q. q == p) qs

in_first : (p : ℕ) (ps qs : List ℕ) → is_in p ps ≡ true → is_in p (ps ++ qs) ≡ true
in_first p [] qs h = cc
in_first p (q ∷ ps) qs h = by (q == p) refl (λ k. in_first p ps qs k)
  where
    by : (b : Bool) → (q == p) ≡ b → (is_in p ps ≡ true → is_in p (ps ++ qs) ≡ true) → is_in p ((q ∷ ps) ++ qs) ≡ true
    by true e f = rw e refl
    by false e f = rw e (f (rw e at h))

in_second : (p : ℕ) (ps qs : List ℕ) → is_in p qs ≡ true → is_in p (ps ++ qs) ≡ true
in_second p [] qs h = h
in_second p (q ∷ ps) qs h = by (q == p) (in_second p ps qs h)
  where
    by : (b : Bool) → is_in p (ps ++ qs) ≡ true → b || is_in p (ps ++ qs) ≡ true
    by true f = refl
    by false f = f

-- a pick that is named has its member, and one that has the base has it in any case
named : (m : ℕ → ℕ) (ps : List ℕ) (p : ℕ) → (m p ≡ 0) ⊎ (is_in p ps ≡ true) → member_of (entries m ps) p ≡ m p
named m [] p (inl z) = sym z
named m [] p (inr h) = cc
named m (q ∷ ps) p h = by (q == p) refl (λ k. named m ps p k)
  where
    rest : (q == p) ≡ false → (m p ≡ 0) ⊎ (is_in p (q ∷ ps) ≡ true) → (m p ≡ 0) ⊎ (is_in p ps ≡ true)
    rest e (inl z) = inl z
    rest e (inr k) = inr (rw e at k)

    by : (b : Bool) → (q == p) ≡ b → ((m p ≡ 0) ⊎ (is_in p ps ≡ true) → member_of (entries m ps) p ≡ m p) → member_of (entries m (q ∷ ps)) p ≡ m p
    by true e f = rw e (ap m ((Decides-eqb q p).0 e))
    by false e f = rw e (f (rest e h))

-- the base is chosen, or the pick is among the edited ones
abbrev Named : (ℕ → ℕ) → List ℕ → ℕ → Type 0
Named m ps p = (m p ≡ 0) ⊎ (is_in p ps ≡ true)

named_first : (m : ℕ → ℕ) (ps qs : List ℕ) (p : ℕ) → Named m ps p → Named m (ps ++ qs) p
named_first m ps qs p (inl z) = inl z
named_first m ps qs p (inr h) = inr (in_first p ps qs h)

named_second : (m : ℕ → ℕ) (ps qs : List ℕ) (p : ℕ) → Named m qs p → Named m (ps ++ qs) p
named_second m ps qs p (inl z) = inl z
named_second m ps qs p (inr h) = inr (in_second p ps qs h)

self_in : (p : ℕ) (ps : List ℕ) → is_in p (p ∷ ps) ≡ true
self_in p ps = rw ((Decides-eqb p p).1 refl) refl

at_member : (m : ℕ → ℕ) (number : ℕ) (base : Weighted) (os : Others) → Each (Named m (edited_picks m base)) (live m base)
    → ((number i : ℕ) (lives ps : List ℕ) → suc i ≤ count_others os
    → Each (Named m (unwrap_or (slice_get (other_picks m os number) i) ps)) (unwrap_or (slice_get (other_live m os) i) lives)
    × (is_in number (unwrap_or (slice_get (other_picks m os number) i) ps) ≡ true))
    → (i : ℕ) → m number ≡ i → i ≤ count_others os
    → Each (Named m (chosen (m number) (edited_picks m base) (other_picks m os number))) (number ∷ chosen (m number) (live m base) (other_live m os))
at_member m number base os b o zero e k =
    subst (λ j. Each (Named m (chosen j (edited_picks m base) (other_picks m os number))) (number ∷ chosen j (live m base) (other_live m os))) (sym e) (inl e, b)
at_member m number base os b o (suc i) e k =
    let r = o number i (live m base) (edited_picks m base) k in
    subst (λ j. Each (Named m (chosen j (edited_picks m base) (other_picks m os number))) (number ∷ chosen j (live m base) (other_live m os))) (sym e) (inr r.1, r.0)

mutual
  live_named : (m : ℕ → ℕ) (w : Weighted) → AreMembers m w → Each (Named m (edited_picks m w)) (live m w)
  live_named m (plainly k ws) h = all_live_named m ws h
  live_named m (pick number base os) h = at_member m number base os (live_named m base h.1) (other_named m os h.2) (m number) refl h.0

  all_live_named : (m : ℕ → ℕ) (ws : Weighteds) → AllMembers m ws → Each (Named m (picks_in m ws)) (live_in m ws)
  all_live_named m no_weighted h = tt
  all_live_named m (weighted_and w ws) h =
      each_both (Named m (edited_picks m w ++ picks_in m ws)) (live m w) (live_in m ws)
      (each_more (Named m (edited_picks m w)) _ (named_first m (edited_picks m w) (picks_in m ws)) (live m w) (live_named m w h.0))
      (each_more (Named m (picks_in m ws)) _ (named_second m (edited_picks m w) (picks_in m ws)) (live_in m ws) (all_live_named m ws h.1))

  other_named : (m : ℕ → ℕ) (os : Others) → OtherMembers m os → (number i : ℕ) (lives ps : List ℕ) → suc i ≤ count_others os
      → Each (Named m (unwrap_or (slice_get (other_picks m os number) i) ps)) (unwrap_or (slice_get (other_live m os) i) lives)
      × (is_in number (unwrap_or (slice_get (other_picks m os number) i) ps) ≡ true)
  other_named m no_others h number i lives ps k = absurd (omega arith)
  other_named m (other_and rule c w os) h number zero lives ps k =
      (each_more (Named m (edited_picks m w)) _ (named_second m (number ∷ []) (edited_picks m w)) (live m w) (live_named m w h.0), self_in number (edited_picks m w))
  other_named m (other_and rule c w os) h number (suc i) lives ps k = other_named m os h.1 number i lives ps (omega arith)

pub live_stands : (m : ℕ → ℕ) (w : Weighted) → AreMembers m w → LiveStands m w
live_stands m w h =
    let ps = edited_picks m w in
    let all : Each (Agrees m (member_of (entries m ps))) (live m w) = each_more (Named m ps) _ (named m ps) (live m w) (live_named m w h) in
    record { tree = plain_agrees m (member_of (entries m ps)) w all; cost_is = cost_agrees m (member_of (entries m ps)) w all }
