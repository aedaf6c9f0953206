-- The live selections of a numbered tree are those that its plan makes of members.
use Rattle.std.proofs.Common.{◌≡◌, inl, inr, ℕ, zero, suc, ◌+◌, ◌<◌, ◌≤◌, true}
use Rattle.std.proofs.Common.{◌||◌, ◌&&◌, List, [], ◌∷◌, refl, sym, ap, subst, arith}
use Rattle.std.specs.Prelude.{◌==◌, nat_le, All}
use Rattle.std.specs.List.{Contains}
use Rattle.std.proofs.lemmas.Bool.{leb-true}
use Rattle.std.proofs.lemmas.List.Elements.{All-cons, All-contains}
use Rattle.std.proofs.lemmas.List.Elements.{Contains-append_cases}
use Rattle.std.proofs.lemmas.List.Elements.{Contains-append_left, Contains-append_right}
use Rattle.choice_tree.specs.declared.selection.Choice.{Choice}
use Rattle.choice_tree.specs.WeightedTrees.{Weighted, Weighteds, Others, plainly, pick, no_weighted}
use Rattle.choice_tree.specs.WeightedTrees.{weighted_and, no_others, other_and, picks, picks_in}
use Rattle.choice_tree.specs.WeightedTrees.{picks_in_others, numbered, numbered_all}
use Rattle.choice_tree.specs.WeightedTrees.{numbered_others}
use Rattle.choice_tree.specs.Selections.{chosen, count_others, has_member, any_has_member}
use Rattle.choice_tree.specs.Selections.{other_has_member}
use Rattle.cost_levels.specs.Live.{reached, reached_in, other_reached}
use Rattle.cost_levels.specs.Plans.{Plan, Ways, done, at_pick, no_ways, way_and, planned}
use Rattle.cost_levels.specs.Plans.{all_planned, ways_by}
use Rattle.cost_levels.proofs.Followed.{follow, follow_ways}
use Rattle.cost_levels.proofs.Ranges.{IsIn, all_within, any_has_within, both, either, has_within}
use Rattle.cost_levels.proofs.Ranges.{not_before, not_behind, other_has_within, reached_within}
use Rattle.cost_levels.proofs.Ranges.{same_number}

-- the picks that a tree's choices name are reached
mutual
  pub names_reached : (m : ℕ → ℕ) (w : Weighted) (p : Plan) (Q : ℕ → Type 0)
      → ((q : ℕ) → Contains (reached m w) q → Q q) → All (λ (c : Choice). Q c.pick) (follow m p)
      → All (λ (c : Choice). Q c.pick) (follow m (planned w p))
  names_reached m (plainly k ws) p Q h rest = all_reached m ws p Q h rest
  names_reached m (pick number base os) p Q h rest =
      member_reached m os p Q number 1 (m number) (follow m (planned base p)) (reached m base)
      (λ g. names_reached m base p Q g rest) rest (h number (0, omega arith, refl))
      (λ q c. h q (Contains-append_right (number ∷ []) _ q c))

  all_reached : (m : ℕ → ℕ) (ws : Weighteds) (p : Plan) (Q : ℕ → Type 0)
      → ((q : ℕ) → Contains (reached_in m ws) q → Q q) → All (λ (c : Choice). Q c.pick) (follow m p)
      → All (λ (c : Choice). Q c.pick) (follow m (all_planned ws p))
  all_reached m no_weighted p Q h rest = rest
  all_reached m (weighted_and w ws) p Q h rest =
      names_reached m w (all_planned ws p) Q
      (λ q c. h q (Contains-append_left (reached m w) (reached_in m ws) q c))
      (all_reached m ws p Q (λ q c. h q (Contains-append_right (reached m w) (reached_in m ws) q c))
      rest)

  member_reached : (m : ℕ → ℕ) (os : Others) (p : Plan) (Q : ℕ → Type 0) (number first k : ℕ)
      (s : List Choice) (qs : List ℕ)
      → (((q : ℕ) → Contains qs q → Q q) → All (λ (c : Choice). Q c.pick) s)
      → All (λ (c : Choice). Q c.pick) (follow m p) → Q number
      → ((q : ℕ) → Contains (chosen k qs (other_reached m os)) q → Q q)
      → All (λ (c : Choice). Q c.pick) (chosen k s (follow_ways m (ways_by os p) number first))
  member_reached m os p Q number first zero s qs base rest here h = base h
  member_reached m no_others p Q number first (suc k) s qs base rest here h = base h
  member_reached m (other_and rule c w os) p Q number first (suc zero) s qs base rest here h =
      All-cons (λ (c : Choice). Q c.pick) _ (follow m (planned w p)) here
      (names_reached m w p Q h rest)
  member_reached m (other_and rule c w os) p Q number first (suc (suc k)) s qs base rest here h =
      member_reached m os p Q number (suc first) (suc k) s qs base rest here h

-- each names the member that is chosen, and none the base
abbrev pub NamesMember : (ℕ → ℕ) → Choice → Type 0
NamesMember m c = (m c.pick ≡ c.member) × (1 ≤ c.member)

mutual
  pub names_members : (m : ℕ → ℕ) (p : Plan) → All (NamesMember m) (follow m p)
  names_members m done = λ k d within. absurd (omega arith)
  names_members m (at_pick number base ws) =
      member_named m ws number 1 (m number) (follow m base) (names_members m base)
      (λ j e. omega (arith, e)) (omega arith)

  member_named : (m : ℕ → ℕ) (ws : Ways) (number first k : ℕ) (s : List Choice)
      → All (NamesMember m) s → ((j : ℕ) → k ≡ suc j → m number ≡ first + j) → 1 ≤ first
      → All (NamesMember m) (chosen k s (follow_ways m ws number first))
  member_named m ws number first zero s base h some = base
  member_named m no_ways number first (suc k) s base h some = base
  member_named m (way_and c next ws) number first (suc zero) s base h some =
      All-cons (NamesMember m) _ (follow m next)
      (let this = h 0 refl in (omega (arith, this), some)) (names_members m next)
  member_named m (way_and c next ws) number first (suc (suc k)) s base h some =
      member_named m ws number (suc first) (suc k) s base
      (λ j e. let this = h (suc j) (ap suc e) in omega (arith, this)) (omega arith)

-- what a plan names, it names behind the choices of a tree too
mutual
  named_later : (m : ℕ → ℕ) (w : Weighted) (p : Plan) (c : Choice) → Contains (follow m p) c
      → Contains (follow m (planned w p)) c
  named_later m (plainly k ws) p c h = named_behind m ws p c h
  named_later m (pick number base os) p c h =
      member_later m os p c number 1 (m number) (follow m (planned base p))
      (named_later m base p c h) h

  named_behind : (m : ℕ → ℕ) (ws : Weighteds) (p : Plan) (c : Choice) → Contains (follow m p) c
      → Contains (follow m (all_planned ws p)) c
  named_behind m no_weighted p c h = h
  named_behind m (weighted_and w ws) p c h =
      named_later m w (all_planned ws p) c (named_behind m ws p c h)

  member_later : (m : ℕ → ℕ) (os : Others) (p : Plan) (c : Choice) (number first k : ℕ)
      (s : List Choice) → Contains s c → Contains (follow m p) c
      → Contains (chosen k s (follow_ways m (ways_by os p) number first)) c
  member_later m os p c number first zero s base h = base
  member_later m no_others p c number first (suc k) s base h = base
  member_later m (other_and rule n w os) p c number first (suc zero) s base h =
      Contains-append_right (record { pick = number; member = first } ∷ []) (follow m (planned w p))
      c (named_later m w p c h)
  member_later m (other_and rule n w os) p c number first (suc (suc k)) s base h =
      member_later m os p c number (suc first) (suc k) s base h

-- the choice of a member that a pick has
member_chosen : (m : ℕ → ℕ) (os : Others) (p : Plan) (number first j : ℕ) (s : List Choice)
    → j < count_others os
    → Contains (chosen (suc j) s (follow_ways m (ways_by os p) number first))
    (record { pick = number; member = first + j })
member_chosen m no_others p number first j s below = absurd (omega (arith, below))
member_chosen m (other_and rule c w os) p number first zero s below =
    let same : first ≡ first + 0 = omega arith in
    (0, omega arith, ap (λ i. record { pick = number; member = i }) same)
member_chosen m (other_and rule c w os) p number first (suc j) s below =
    let same : suc first + j ≡ first + suc j = omega arith in
    subst (λ i. Contains (chosen (suc j) s (follow_ways m (ways_by os p) number (suc first)))
    (record { pick = number; member = i })) same
    (member_chosen m os p number (suc first) j s (omega (arith, below)))

-- a pick that is reached, where the tree has the member that is chosen there
pub record Named (m : ℕ → ℕ) (q : ℕ) (s : List Choice) : Type 0 where
  pub there : Contains s (record { pick = q; member = m q })

by_member : (m : ℕ → ℕ) (os : Others) (p : Plan) (number k : ℕ) (s : List Choice) → 1 ≤ k
    → k ≤ count_others os
    → Contains (chosen k s (follow_ways m (ways_by os p) number 1)) (record { pick = number; member = k })
by_member m os p number zero s some few = absurd (omega (arith, some))
by_member m os p number (suc j) s some few =
    let same : 1 + j ≡ suc j = omega arith in
    subst (λ i. Contains (chosen (suc j) s (follow_ways m (ways_by os p) number 1))
    (record { pick = number; member = i })) same
    (member_chosen m os p number 1 j s (omega (arith, few)))

-- the pick itself has the member
this_has : (base : Weighted) (os : Others) (from number i : ℕ) → number ≤ from
    → ((number == number) && nat_le i (count_others (numbered_others os (suc from + picks base)))
    || has_member (numbered base (suc from)) number i)
    || other_has_member (numbered_others os (suc from + picks base)) number i ≡ true
    → i ≤ count_others (numbered_others os (suc from + picks base))
this_has base os from number i le h =
    let start = suc from + picks base in
    let os' = numbered_others os start in
    let base' = numbered base (suc from) in
    let this = (number == number) && nat_le i (count_others os') in
    elim (either (this || has_member base' number i) (other_has_member os' number i) h) [
      | inl early ↦ elim (either this (has_member base' number i) early) [
        | inl now ↦ leb-true i (count_others os') (both (number == number) (nat_le i (count_others os')) now).1
        | inr in_base ↦
            let first = (has_within base (suc from) number i in_base).0 in
            absurd (omega (arith, first, le))
      ]
      | inr late ↦
          let first = (other_has_within os start number i late).0 in
          absurd (omega (arith, first, le))
    ]

mutual
  pub named : (m : ℕ → ℕ) (w : Weighted) (from : ℕ) (p : Plan) (q : ℕ)
      → Contains (reached m (numbered w from)) q → has_member (numbered w from) q (m q) ≡ true
      → 1 ≤ m q → Named m q (follow m (planned (numbered w from) p))
  named m (plainly k ws) from p q at has some = named_in m ws from p q at has some
  named m (pick number base os) from p q (zero, below, is) has some =
      let w' = numbered (pick number base os) from in
      let has' : has_member w' from (m from) ≡ true =
      subst (λ (r : ℕ). has_member w' r (m r) ≡ true) (sym is) has in
      let some' : 1 ≤ m from = subst (λ (r : ℕ). 1 ≤ m r) (sym is) some in
      subst (λ (r : ℕ). Named m r (follow m (planned w' p))) is (record {
        there =
            by_member m (numbered_others os (suc from + picks base)) p from (m from)
            (follow m (planned (numbered base (suc from)) p)) some'
            (this_has base os from from (m from) (omega arith) has');
      })
  named m (pick number base os) from p q (suc k, below, is) has some =
      let start = suc from + picks base in
      let base' = numbered base (suc from) in
      let os' = numbered_others os start in
      let this = (from == q) && nat_le (m q) (count_others os') in
      named_other m os start p q from 1 (m from) (follow m (planned base' p)) (reached m base')
      (λ at.
      let here = All-contains (IsIn (suc from) (picks base)) (reached m base') q (reached_within m base (suc from)) at in
      let first = here.0 in
      let early : this || has_member base' q (m q) ≡ true =
      not_behind (suc from) (picks base) start (picks_in_others os) q (this || has_member base' q (m q))
      (other_has_member os' q (m q)) (omega arith) here (λ h. other_has_within os start q (m q) h) has in
      let in_base : has_member base' q (m q) ≡ true =
      elim (either this (has_member base' q (m q)) early) [
        | inl now ↦
            let e = same_number from q (both (from == q) (nat_le (m q) (count_others os')) now).0 in
            absurd (omega (arith, e, first))
        | inr later ↦ later
      ] in
      named m base (suc from) p q at in_base some)
      (λ there.
      let first = there.0 in
      elim (either (this || has_member base' q (m q)) (other_has_member os' q (m q)) has) [
        | inl early ↦ elim (either this (has_member base' q (m q)) early) [
          | inl now ↦
              let e = same_number from q (both (from == q) (nat_le (m q) (count_others os')) now).0 in
              absurd (omega (arith, e, first))
          | inr in_base ↦
              let last = (has_within base (suc from) q (m q) in_base).1 in
              absurd (omega (arith, last, first))
        ]
        | inr late ↦ late
      ])
      some (k, omega (arith, below), is)

  named_in : (m : ℕ → ℕ) (ws : Weighteds) (from : ℕ) (p : Plan) (q : ℕ)
      → Contains (reached_in m (numbered_all ws from)) q
      → any_has_member (numbered_all ws from) q (m q) ≡ true
      → 1 ≤ m q → Named m q (follow m (all_planned (numbered_all ws from) p))
  named_in m no_weighted from p q at has some = cc
  named_in m (weighted_and w ws) from p q at has some =
      let mid = from + picks w in
      let w' = numbered w from in
      let ws' = numbered_all ws mid in
      let next = all_planned ws' p in
      elim (Contains-append_cases (reached m w') (reached_in m ws') q at) [
        | inl now ↦
            let here = All-contains (IsIn from (picks w)) (reached m w') q (reached_within m w from) now in
            named m w from next q now
            (not_behind from (picks w) mid (picks_in ws) q (has_member w' q (m q))
            (any_has_member ws' q (m q)) (omega arith) here (λ h. any_has_within ws mid q (m q) h) has) some
        | inr late ↦
            let here = All-contains (IsIn mid (picks_in ws)) (reached_in m ws') q (all_within m ws mid) late in
            let a =
            named_in m ws mid p q late
            (not_before from (picks w) mid (picks_in ws) q (has_member w' q (m q))
            (any_has_member ws' q (m q)) (omega arith) here (λ h. has_within w from q (m q) h) has) some in
            record { there = named_later m w' next (record { pick = q; member = m q }) a.there }
      ]

  named_other : (m : ℕ → ℕ) (os : Others) (start : ℕ) (p : Plan) (q number first k : ℕ)
      (s : List Choice) (qs : List ℕ) → (Contains qs q → Named m q s)
      → (IsIn start (picks_in_others os) q
      → other_has_member (numbered_others os start) q (m q) ≡ true)
      → 1 ≤ m q → Contains (chosen k qs (other_reached m (numbered_others os start))) q
      → Named m q (chosen k s (follow_ways m (ways_by (numbered_others os start) p) number first))
  named_other m os start p q number first zero s qs base has some at = base at
  named_other m no_others start p q number first (suc k) s qs base has some at = base at
  named_other m (other_and rule c w os) start p q number first (suc zero) s qs base has some at =
      let mid = start + picks w in
      let w' = numbered w start in
      let here = All-contains (IsIn start (picks w)) (reached m w') q (reached_within m w start) at in
      let low = here.0 in
      let high = here.1 in
      let a =
      named m w start p q at
      (not_behind start (picks w) mid (picks_in_others os) q (has_member w' q (m q))
      (other_has_member (numbered_others os mid) q (m q)) (omega arith) here
      (λ h. other_has_within os mid q (m q) h) (has (omega (arith, low), omega (arith, high)))) some in
      record {
        there =
            Contains-append_right (record { pick = number; member = first } ∷ [])
            (follow m (planned w' p)) (record { pick = q; member = m q }) a.there;
      }
  named_other m (other_and rule c w os) start p q number first (suc (suc k)) s qs base has some at =
      let mid = start + picks w in
      let w' = numbered w start in
      named_other m os mid p q number (suc first) (suc k) s qs base
      (λ here.
      let low = here.0 in
      let high = here.1 in
      not_before start (picks w) mid (picks_in_others os) q (has_member w' q (m q))
      (other_has_member (numbered_others os mid) q (m q)) (omega arith) here
      (λ h. has_within w start q (m q) h) (has (omega (arith, low), omega (arith, high))))
      some at
