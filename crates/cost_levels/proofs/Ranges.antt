-- The numbers of a numbered tree's picks lie in its range.
use Rattle.std.proofs.Common.{◌≡◌, ◌⊎◌, inl, inr, ℕ, zero, suc, ◌+◌, ◌<◌, ◌≤◌, Bool, true, false}
use Rattle.std.proofs.Common.{◌||◌, ◌&&◌, List, refl, arith}
use Rattle.std.specs.Prelude.{◌==◌, nat_le, All}
use Rattle.std.proofs.lemmas.Bool.Decides.{nat_tests}
use Rattle.std.proofs.lemmas.List.Elements.{All-append, All-cons}
use Rattle.choice_tree.specs.WeightedTrees.{Weighted, Weighteds, Others, plainly, pick, no_weighted}
use Rattle.choice_tree.specs.WeightedTrees.{weighted_and, no_others, other_and, picks, picks_in}
use Rattle.choice_tree.specs.WeightedTrees.{picks_in_others, numbered, numbered_all}
use Rattle.choice_tree.specs.WeightedTrees.{numbered_others}
use Rattle.choice_tree.specs.Selections.{chosen, count_others, has_member, any_has_member}
use Rattle.choice_tree.specs.Selections.{other_has_member}
use Rattle.cost_levels.specs.Live.{reached, reached_in, other_reached}

-- the numbers of a tree's picks are in its range
abbrev pub IsIn : ℕ → ℕ → ℕ → Type 0
IsIn from many q = (from ≤ q) × (q < from + many)

all_wider : (from from' many many' : ℕ) (qs : List ℕ) → from' ≤ from → from + many ≤ from' + many'
    → All (IsIn from many) qs → All (IsIn from' many') qs
all_wider from from' many many' qs le to h = λ k d within.
    let a = h k d within in
    let first = a.0 in
    let last = a.1 in
    (omega (arith, first, le), omega (arith, last, to))

mutual
  pub reached_within : (m : ℕ → ℕ) (w : Weighted) (from : ℕ)
      → All (IsIn from (picks w)) (reached m (numbered w from))
  reached_within m (plainly k ws) from = all_within m ws from
  reached_within m (pick number base os) from =
      let start = suc from + picks base in
      let many = suc (picks base + picks_in_others os) in
      All-cons (IsIn from many) from _ (omega arith, omega arith)
      (member_within m os from many start (m from) (reached m (numbered base (suc from)))
      (omega arith) (omega arith)
      (all_wider (suc from) from (picks base) many (reached m (numbered base (suc from)))
      (omega arith) (omega arith) (reached_within m base (suc from))))

  pub all_within : (m : ℕ → ℕ) (ws : Weighteds) (from : ℕ)
      → All (IsIn from (picks_in ws)) (reached_in m (numbered_all ws from))
  all_within m no_weighted from = λ k d within. absurd (omega arith)
  all_within m (weighted_and w ws) from =
      let mid = from + picks w in
      let many = picks w + picks_in ws in
      All-append (IsIn from many) (reached m (numbered w from)) (reached_in m (numbered_all ws mid))
      (all_wider from from (picks w) many (reached m (numbered w from)) (omega arith) (omega arith)
      (reached_within m w from))
      (all_wider mid from (picks_in ws) many (reached_in m (numbered_all ws mid)) (omega arith)
      (omega arith) (all_within m ws mid))

  member_within : (m : ℕ → ℕ) (os : Others) (from many start k : ℕ) (qs : List ℕ) → from ≤ start
      → start + picks_in_others os ≤ from + many → All (IsIn from many) qs
      → All (IsIn from many) (chosen k qs (other_reached m (numbered_others os start)))
  member_within m os from many start zero qs le to h = h
  member_within m no_others from many start (suc k) qs le to h = h
  member_within m (other_and rule c w os) from many start (suc zero) qs le to h =
      all_wider start from (picks w) many (reached m (numbered w start)) le (omega (arith, to))
      (reached_within m w start)
  member_within m (other_and rule c w os) from many start (suc (suc k)) qs le to h =
      member_within m os from many (start + picks w) (suc k) qs (omega (arith, le))
      (omega (arith, to)) h

-- of two tests one is passed
pub either : (a b : Bool) → a || b ≡ true → (a ≡ true) ⊎ (b ≡ true)
either true b h = inl refl
either false b h = inr h

pub both : (a b : Bool) → a && b ≡ true → (a ≡ true) × (b ≡ true)
both true b h = (refl, h)
both false b h = cc

pub same_number : (a b : ℕ) → (a == b) ≡ true → a ≡ b
same_number a b h = grind (arith, nat_tests)

mutual
  pub has_within : (w : Weighted) (from q i : ℕ) → has_member (numbered w from) q i ≡ true
      → IsIn from (picks w) q
  has_within (plainly k ws) from q i h = any_has_within ws from q i h
  has_within (pick number base os) from q i h =
      let start = suc from + picks base in
      let base' = numbered base (suc from) in
      let os' = numbered_others os start in
      let this = (from == q) && nat_le i (count_others os') in
      elim (either (this || has_member base' q i) (other_has_member os' q i) h) [
        | inl early ↦ elim (either this (has_member base' q i) early) [
          | inl now ↦
              let e = same_number from q (both (from == q) (nat_le i (count_others os')) now).0 in
              (omega (arith, e), omega (arith, e))
          | inr in_base ↦
              let a = has_within base (suc from) q i in_base in
              let first = a.0 in
              let last = a.1 in
              (omega (arith, first), omega (arith, last))
        ]
        | inr late ↦
            let a = other_has_within os start q i late in
            let first = a.0 in
            let last = a.1 in
            (omega (arith, first), omega (arith, last))
      ]

  pub any_has_within : (ws : Weighteds) (from q i : ℕ)
      → any_has_member (numbered_all ws from) q i ≡ true → IsIn from (picks_in ws) q
  any_has_within no_weighted from q i h = cc
  any_has_within (weighted_and w ws) from q i h =
      let mid = from + picks w in
      elim (either (has_member (numbered w from) q i) (any_has_member (numbered_all ws mid) q i) h) [
        | inl now ↦
            let a = has_within w from q i now in
            let first = a.0 in
            let last = a.1 in
            (omega (arith, first), omega (arith, last))
        | inr late ↦
            let a = any_has_within ws mid q i late in
            let first = a.0 in
            let last = a.1 in
            (omega (arith, first), omega (arith, last))
      ]

  pub other_has_within : (os : Others) (from q i : ℕ)
      → other_has_member (numbered_others os from) q i ≡ true → IsIn from (picks_in_others os) q
  other_has_within no_others from q i h = cc
  other_has_within (other_and rule c w os) from q i h =
      let mid = from + picks w in
      elim (either (has_member (numbered w from) q i) (other_has_member (numbered_others os mid) q i) h) [
        | inl now ↦
            let a = has_within w from q i now in
            let first = a.0 in
            let last = a.1 in
            (omega (arith, first), omega (arith, last))
        | inr late ↦
            let a = other_has_within os mid q i late in
            let first = a.0 in
            let last = a.1 in
            (omega (arith, first), omega (arith, last))
      ]

-- a test that another range's number passes says nothing of this one
pub not_behind : (from many start more q : ℕ) (a b : Bool) → from + many ≤ start → IsIn from many q
    → (b ≡ true → IsIn start more q) → a || b ≡ true → a ≡ true
not_behind from many start more q a b le here there h =
    elim (either a b h) [
      | inl now ↦ now
      | inr late ↦ let x = there late in let first = x.0 in let last = here.1 in
          absurd (omega (arith, first, last, le))
    ]

pub not_before : (from many start more q : ℕ) (a b : Bool) → from + many ≤ start → IsIn start more q
    → (a ≡ true → IsIn from many q) → a || b ≡ true → b ≡ true
not_before from many start more q a b le here there h =
    elim (either a b h) [
      | inl early ↦ let x = there early in let last = x.1 in let first = here.0 in
          absurd (omega (arith, first, last, le))
      | inr now ↦ now
    ]
