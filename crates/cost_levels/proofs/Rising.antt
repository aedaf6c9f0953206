-- What a plan lists is in order, where its picks rise.
use Rattle.std.proofs.Common.{◌≡◌, ℕ, zero, suc, ◌+◌, ◌-◌, ◌<◌, ◌≤◌, Bool, true, false}
use Rattle.std.proofs.Common.{if◌then◌else◌, List, [], ◌∷◌, ◌++◌, map, sym, ◌∙◌, arith}
use Rattle.std.specs.Prelude.{◌==◌, nat_le, All, AllPairs}
use Rattle.std.proofs.lemmas.List.Elements.{All-append, All-cons, All-head, All-map, All-tail}
use Rattle.std.proofs.lemmas.List.Kept.{AllPairs-cons}
use Rattle.choice_tree.specs.declared.selection.Choice.{Choice}
use Rattle.choice_tree.specs.Choices.{member_of, Rises}
use Rattle.choice_tree.specs.WeightedTrees.{Weighted, Weighteds, Others, plainly, pick, no_weighted}
use Rattle.choice_tree.specs.WeightedTrees.{weighted_and, no_others, other_and, picks, picks_in}
use Rattle.choice_tree.specs.WeightedTrees.{picks_in_others, numbered, numbered_all}
use Rattle.choice_tree.specs.WeightedTrees.{numbered_others}
use Rattle.choice_tree.proofs.Numbers.{member_before}
use Rattle.cost_levels.specs.Live.{Before, LevelsRise}
use Rattle.cost_levels.specs.Plans.{Plan, Ways, done, at_pick, no_ways, way_and, planned}
use Rattle.cost_levels.specs.Plans.{all_planned, ways_by, listed, listed_by}
use Rattle.cost_levels.proofs.Beginning.{other_pick, rises_earlier, this_pick}

-- the picks of a plan rise from a number on
abbrev mutual
  pub RisesFrom : ℕ → Plan → Type 0
  RisesFrom from done = Unit {0}
  RisesFrom from (at_pick number base ws) =
      (from ≤ number) × RisesFrom (suc number) base × WaysRise (suc number) ws

  pub WaysRise : ℕ → Ways → Type 0
  WaysRise from no_ways = Unit {0}
  WaysRise from (way_and cost next ws) = RisesFrom from next × WaysRise from ws

earlier : (p : Plan) (from mid : ℕ) → from ≤ mid → RisesFrom mid p → RisesFrom from p
earlier done from mid le h = tt
earlier (at_pick number base ws) from mid le h = let first = h.0 in (omega arith, h.1, h.2)

-- the picks of a numbered tree rise before those of a plan that come later
mutual
  pub planned_rises : (w : Weighted) (from : ℕ) (p : Plan) → RisesFrom (from + picks w) p
      → RisesFrom from (planned (numbered w from) p)
  planned_rises (plainly k ws) from p h = all_rise ws from p h
  planned_rises (pick number base os) from p h =
      let start = suc from + picks base in
      let to = from + suc (picks base + picks_in_others os) in (
        omega arith,
        planned_rises base (suc from) p (earlier p start to (omega arith) h),
        ways_rise os start (suc from) p (omega arith)
            (earlier p (start + picks_in_others os) to (omega arith) h),
      )

  all_rise : (ws : Weighteds) (from : ℕ) (p : Plan) → RisesFrom (from + picks_in ws) p
      → RisesFrom from (all_planned (numbered_all ws from) p)
  all_rise no_weighted from p h = earlier p from (from + 0) (omega arith) h
  all_rise (weighted_and w ws) from p h =
      let mid = from + picks w in
      planned_rises w from (all_planned (numbered_all ws mid) p)
      (all_rise ws mid p (earlier p (mid + picks_in ws) (from + (picks w + picks_in ws)) (omega arith) h))

  ways_rise : (os : Others) (from least : ℕ) (p : Plan) → least ≤ from
      → RisesFrom (from + picks_in_others os) p
      → WaysRise least (ways_by (numbered_others os from) p)
  ways_rise no_others from least p le h = tt
  ways_rise (other_and rule c w os) from least p le h =
      let mid = from + picks w in
      let to = from + (picks w + picks_in_others os) in (
        earlier (planned (numbered w from) p) least from le
            (planned_rises w from p (earlier p mid to (omega arith) h)),
        ways_rise os mid least p (omega arith)
            (earlier p (mid + picks_in_others os) to (omega arith) h),
      )

-- choices that begin at a pick, or behind it, and have a member there that is this one or a later
abbrev Begins : ℕ → ℕ → List Choice → Type 0
Begins number i s = Rises number s × (i ≤ member_of s number)

-- a member, where its cost is within
member_begins : (number i : ℕ) (b : Bool) (ss : List (List Choice)) → All (Rises (suc number)) ss
    → All (λ s. Rises number s × (member_of s number ≡ i))
    (if b then map (λ s. record { pick = number; member = i } ∷ s) ss else [])
member_begins number i false ss h = λ k d within. absurd (omega arith)
member_begins number i true ss h =
    All-map (λ s. Rises number s × (member_of s number ≡ i))
    (λ s. record { pick = number; member = i } ∷ s) ss
    (λ k d within. ((omega arith, h k d within), this_pick number i _))

mutual
  pub listed_rise : (p : Plan) (from n : ℕ) → RisesFrom from p → All (Rises from) (listed p n)
  listed_rise done from zero h = All-cons (Rises from) [] [] tt (λ k d within. absurd (omega arith))
  listed_rise done from (suc n) h = λ k d within. absurd (omega arith)
  listed_rise (at_pick number base ws) from n h =
      let first = h.0 in
      All-append (Rises from) (listed base n) (listed_by ws number 1 n)
      (λ k d within. rises_earlier _ from (suc number) (omega arith)
      (listed_rise base (suc number) n h.1 k d within))
      (λ k d within. rises_earlier _ from number h.0 (members_begin ws number 1 n h.2 k d within).0)

  members_begin : (ws : Ways) (number i n : ℕ) → WaysRise (suc number) ws
      → All (Begins number i) (listed_by ws number i n)
  members_begin no_ways number i n h = λ k d within. absurd (omega arith)
  members_begin (way_and cost next ws) number i n h =
      All-append (Begins number i) _ (listed_by ws number (suc i) n)
      (λ k d within.
      let a =
      member_begins number i (nat_le cost n) (listed next (n - cost))
      (listed_rise next (suc number) (n - cost) h.0) k d within in
      let here = a.1 in
      (a.0, omega (arith, here)))
      (λ k d within.
      let a = members_begin ws number (suc i) n h.1 k d within in
      let here = a.1 in
      (a.0, omega (arith, here)))

-- the same order, where the pick comes from a number on
record BeforeFrom (from : ℕ) (s t : List Choice) : Type 0 where
  pub before : Before s t
  pub later : from ≤ before.pick

-- members of one pick
members_before : (from number i : ℕ) (s t : List Choice) → from ≤ number → Rises number s
    → Rises number t → member_of s number < member_of t number → BeforeFrom from s t
members_before from number i s t le r q less = record {
  before = record {
    pick = number;
    less = less;
    same = λ p below. member_before s number p r below ∙ sym (member_before t number p q below);
  };
  later = le;
}

-- behind one member
behind_one : (from : ℕ) (x : Choice) (s t : List Choice) → from ≤ x.pick
    → BeforeFrom (suc x.pick) s t → BeforeFrom from (x ∷ s) (x ∷ t)
behind_one from x s t le h =
    let b = h.before in
    let after = h.later in
    let less = b.less in
    let one = other_pick x s b.pick (omega (arith, after)) in
    let other = other_pick x t b.pick (omega (arith, after)) in
    record {
      before = record {
        pick = b.pick;
        less = omega (arith, less, one, other);
        same = λ q below. same_behind q (b.same q below);
      };
      later = omega (arith, after, le);
    }
  where
    same_behind : (q : ℕ) → member_of s q ≡ member_of t q
        → member_of (x ∷ s) q ≡ member_of (x ∷ t) q
    same_behind q e = λ i. if x.pick == q then x.member else e i

-- pairs of two lists, and of one list and another
pairs_append : {X : Type 0} (R : X → X → Type 0) (xs ys : List X) → AllPairs R xs → AllPairs R ys
    → All (λ x. All (R x) ys) xs → AllPairs R (xs ++ ys)
pairs_append R [] ys a b c = b
pairs_append R (x ∷ xs) ys a b c =
    AllPairs-cons R x (xs ++ ys)
    (All-append (R x) xs ys (λ j d within. a 0 (suc j) d (omega arith) (omega arith))
    (All-head (λ x. All (R x) ys) x xs c))
    (pairs_append R xs ys (λ i j d lt within. a (suc i) (suc j) d (omega arith) (omega arith)) b
    (All-tail (λ x. All (R x) ys) x xs c))

pairs_map : {X : Type 0} (R S : X → X → Type 0) (f : X → X) (xs : List X)
    → ((x y : X) → S x y → R (f x) (f y)) → AllPairs S xs → AllPairs R (map f xs)
pairs_map R S f [] g h = λ i j d lt within. absurd (omega arith)
pairs_map R S f (x ∷ xs) g h =
    AllPairs-cons R (f x) (map f xs)
    (All-map (R (f x)) f xs (λ j d within. g x _ (h 0 (suc j) d (omega arith) (omega arith))))
    (pairs_map R S f xs g (λ i j d lt within. h (suc i) (suc j) d (omega arith) (omega arith)))

-- all of one list before all of another
all_before : {X : Type 0} (R : X → X → Type 0) (P Q : X → Type 0) (xs ys : List X)
    → ((x y : X) → P x → Q y → R x y) → All P xs → All Q ys → All (λ x. All (R x) ys) xs
all_before R P Q xs ys g a b = λ k d within j e inside. g _ _ (a k d within) (b j e inside)

one_member : (from number i : ℕ) (b : Bool) (ss : List (List Choice)) → from ≤ number
    → AllPairs (BeforeFrom (suc number)) ss
    → AllPairs (BeforeFrom from) (if b then map (λ s. record { pick = number; member = i } ∷ s) ss else [])
one_member from number i false ss le h = λ k j d lt within. absurd (omega arith)
one_member from number i true ss le h =
    pairs_map (BeforeFrom from) (BeforeFrom (suc number)) (λ s. record { pick = number; member = i } ∷ s) ss
    (λ s t b. behind_one from (record { pick = number; member = i }) s t le b) h

-- the base before members, and a member before later ones
mutual
  pairs_rise : (p : Plan) (from n : ℕ) → RisesFrom from p → AllPairs (BeforeFrom from) (listed p n)
  pairs_rise done from zero h = λ i j d lt within. absurd (omega arith)
  pairs_rise done from (suc n) h = λ i j d lt within. absurd (omega arith)
  pairs_rise (at_pick number base ws) from n h =
      let first = h.0 in
      pairs_append (BeforeFrom from) (listed base n) (listed_by ws number 1 n)
      (λ i j d lt within.
      let b = pairs_rise base (suc number) n h.1 i j d lt within in
      let later = b.later in
      record { before = b.before; later = omega (arith, later, first) })
      (members_rise ws number from 1 n h.0 h.2)
      (all_before (BeforeFrom from) (Rises (suc number)) (Begins number 1) (listed base n)
      (listed_by ws number 1 n)
      (λ s t r b.
      let none = member_before s (suc number) number r (omega arith) in
      let some = b.1 in
      members_before from number 0 s t h.0 (rises_earlier s number (suc number) (omega arith) r) b.0
      (omega (arith, none, some)))
      (listed_rise base (suc number) n h.1) (members_begin ws number 1 n h.2))

  members_rise : (ws : Ways) (number from i n : ℕ) → from ≤ number → WaysRise (suc number) ws
      → AllPairs (BeforeFrom from) (listed_by ws number i n)
  members_rise no_ways number from i n le h = λ k j d lt within. absurd (omega arith)
  members_rise (way_and cost next ws) number from i n le h =
      pairs_append (BeforeFrom from) _ (listed_by ws number (suc i) n)
      (one_member from number i (nat_le cost n) (listed next (n - cost)) le
      (pairs_rise next (suc number) (n - cost) h.0))
      (members_rise ws number from (suc i) n le h.1)
      (all_before (BeforeFrom from) (λ s. Rises number s × (member_of s number ≡ i))
      (Begins number (suc i)) _ (listed_by ws number (suc i) n)
      (λ s t a b.
      let this = a.1 in
      let more = b.1 in
      members_before from number i s t le a.0 b.0 (omega (arith, this, more)))
      (member_begins number i (nat_le cost n) (listed next (n - cost))
      (listed_rise next (suc number) (n - cost) h.0))
      (members_begin ws number (suc i) n h.1))

pub levels_rise : (u : Weighted) → LevelsRise (numbered u 0)
levels_rise u n i j d lt within =
    (pairs_rise (planned (numbered u 0) done) 0 n (planned_rises u 0 done tt) i j d lt within).before
