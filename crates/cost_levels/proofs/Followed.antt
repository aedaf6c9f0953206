-- The one selection that a plan makes of members, and that what is listed is made so.
use Rattle.std.proofs.Common.{◌≡◌, ℕ, zero, suc, ◌+◌, ◌-◌, ◌<◌, ◌≤◌, Bool, true, false}
use Rattle.std.proofs.Common.{if◌then◌else◌, List, [], ◌∷◌, ◌++◌, map, refl, sym, ap, ◌∙◌, subst, arith}
use Rattle.std.specs.Prelude.{nat_le, All}
use Rattle.std.specs.List.{Contains}
use Rattle.std.proofs.lemmas.Bool.{le-leb, leb-true}
use Rattle.std.proofs.lemmas.List.{get_or-map, length-map}
use Rattle.std.proofs.lemmas.List.Elements.{All-append, All-cons, All-map, Contains-append_left}
use Rattle.std.proofs.lemmas.List.Elements.{Contains-append_right}
use Rattle.choice_tree.specs.declared.selection.Choice.{Choice}
use Rattle.choice_tree.specs.Choices.{member_of, Rises}
use Rattle.choice_tree.specs.WeightedTrees.{Weighted, Weighteds, Others, plainly, pick, no_weighted}
use Rattle.choice_tree.specs.WeightedTrees.{weighted_and, no_others, other_and}
use Rattle.choice_tree.specs.Selections.{chosen, cost, costs, other_costs}
use Rattle.choice_tree.proofs.Numbers.{member_before}
use Rattle.cost_levels.specs.Plans.{Plan, Ways, done, at_pick, no_ways, way_and, planned}
use Rattle.cost_levels.specs.Plans.{all_planned, ways_by, listed, listed_by}
use Rattle.cost_levels.proofs.Beginning.{AgreesFrom, other_pick, this_pick}
use Rattle.cost_levels.proofs.Rising.{RisesFrom, WaysRise, listed_rise}

-- the choices of a plan by members, and what they cost
abbrev mutual
  pub follow : (ℕ → ℕ) → Plan → List Choice
  follow m done = []
  follow m (at_pick number base ws) =
      chosen (m number) (follow m base) (follow_ways m ws number 1)

  pub follow_ways : (ℕ → ℕ) → Ways → ℕ → ℕ → List (List Choice)
  follow_ways m no_ways number i = []
  follow_ways m (way_and cost next ws) number i =
      (record { pick = number; member = i } ∷ follow m next) ∷ follow_ways m ws number (suc i)

abbrev mutual
  pub price : (ℕ → ℕ) → Plan → ℕ
  price m done = 0
  price m (at_pick number base ws) = chosen (m number) (price m base) (way_prices m ws)

  pub way_prices : (ℕ → ℕ) → Ways → List ℕ
  way_prices m no_ways = []
  way_prices m (way_and cost next ws) = (cost + price m next) ∷ way_prices m ws

-- they cost what the tree's members cost, and what comes later
mutual
  pub prices : (m : ℕ → ℕ) (w : Weighted) (p : Plan) → price m (planned w p) ≡ cost m w + price m p
  prices m (plainly k ws) p = all_prices m ws p
  prices m (pick number base os) p =
      prices_at m os p (m number) (price m (planned base p)) (cost m base) (prices m base p)

  all_prices : (m : ℕ → ℕ) (ws : Weighteds) (p : Plan)
      → price m (all_planned ws p) ≡ costs m ws + price m p
  all_prices m no_weighted p = omega arith
  all_prices m (weighted_and w ws) p =
      let first = prices m w (all_planned ws p) in
      let rest = all_prices m ws p in
      omega (arith, first, rest)

  prices_at : (m : ℕ → ℕ) (os : Others) (p : Plan) (k a b : ℕ) → a ≡ b + price m p
      → chosen k a (way_prices m (ways_by os p)) ≡ chosen k b (other_costs m os) + price m p
  prices_at m os p zero a b h = h
  prices_at m no_others p (suc k) a b h = h
  prices_at m (other_and rule c w os) p (suc zero) a b h =
      let inner = prices m w p in omega (arith, inner)
  prices_at m (other_and rule c w os) p (suc (suc k)) a b h = prices_at m os p (suc k) a b h

map_contains : {X Y : Type 0} (f : X → Y) (xs : List X) (x : X) → Contains xs x
    → Contains (map f xs) (f x)
map_contains f xs x c = (
  c.0,
  subst (λ n. c.0 < n) (sym (length-map xs f)) c.1,
  get_or-map f xs c.0 x (f x) c.1 ∙ ap f c.2,
)

between : {X : Type 0} (xs ys zs : List X) (x : X) → Contains (xs ++ zs) x
    → Contains (xs ++ (ys ++ zs)) x
between [] ys zs x c = Contains-append_right ys zs x c
between (y ∷ xs) ys zs x (zero, below, is) = (zero, omega arith, is)
between (y ∷ xs) ys zs x (suc k, below, is) =
    let a = between xs ys zs x (k, omega (arith, below), is) in
    let within = a.1 in
    (suc a.0, omega (arith, within), a.2)

member_listed : (number i c k : ℕ) (next : Plan) (s : List Choice) → Contains (listed next k) s
    → Contains (if nat_le c (c + k)
    then map (λ t. record { pick = number; member = i } ∷ t) (listed next ((c + k) - c)) else [])
    (record { pick = number; member = i } ∷ s)
member_listed number i c k next s at =
    let put : List Choice → List Choice = λ t. record { pick = number; member = i } ∷ t in
    let within : nat_le c (c + k) ≡ true = le-leb c (c + k) (omega arith) in
    let same : (c + k) - c ≡ k = omega arith in
    rw (within, same) (map_contains put (listed next k) s at)

-- and are listed at that cost
mutual
  pub follow_listed : (m : ℕ → ℕ) (p : Plan) → Contains (listed p (price m p)) (follow m p)
  follow_listed m done = (0, omega arith, refl)
  follow_listed m (at_pick number base ws) =
      member_at m ws number 1 (m number) (listed base) (price m base) (follow m base) (follow_listed m base)

  member_at : (m : ℕ → ℕ) (ws : Ways) (number i k : ℕ) (first : ℕ → List (List Choice)) (n : ℕ)
      (s : List Choice) → Contains (first n) s
      → Contains (first (chosen k n (way_prices m ws)) ++ listed_by ws number i (chosen k n (way_prices m ws)))
      (chosen k s (follow_ways m ws number i))
  member_at m ws number i zero first n s h = Contains-append_left (first n) (listed_by ws number i n) s h
  member_at m no_ways number i (suc k) first n s h = Contains-append_left (first n) [] s h
  member_at m (way_and c next ws) number i (suc zero) first n s h =
      let k = price m next in
      let this = record { pick = number; member = i } ∷ follow m next in
      Contains-append_right (first (c + k)) (listed_by (way_and c next ws) number i (c + k)) this
      (Contains-append_left _ (listed_by ws number (suc i) (c + k)) this
      (member_listed number i c k next (follow m next) (follow_listed m next)))
  member_at m (way_and c next ws) number i (suc (suc k)) first n s h =
      between (first (chosen (suc k) n (way_prices m ws))) _
      (listed_by ws number (suc i) (chosen (suc k) n (way_prices m ws))) _
      (member_at m ws number (suc i) (suc k) first n s h)

-- what is listed is what the plan makes of its members, at that cost
pub record IsFollowed (p : Plan) (from n : ℕ) (s : List Choice) : Type 0 where
  pub is : (m : ℕ → ℕ) → AgreesFrom from m s → follow m p ≡ s
  pub costs : (m : ℕ → ℕ) → AgreesFrom from m s → price m p ≡ n

-- by a member of a pick
record FollowsMember (ws : Ways) (number first n : ℕ) (s : List Choice) : Type 0 where
  pub index : ℕ
  pub here : member_of s number ≡ first + index
  pub is : (m : ℕ → ℕ) → AgreesFrom (suc number) m s → (d : List Choice)
      → chosen (suc index) d (follow_ways m ws number first) ≡ s
  pub costs : (m : ℕ → ℕ) → AgreesFrom (suc number) m s → (d : ℕ)
      → chosen (suc index) d (way_prices m ws) ≡ n

base_followed : (number from n : ℕ) (base : Plan) (ws : Ways) (s : List Choice) → from ≤ number
    → Rises (suc number) s → IsFollowed base (suc number) n s
    → IsFollowed (at_pick number base ws) from n s
base_followed number from n base ws s le r a =
    let none : (m : ℕ → ℕ) → AgreesFrom from m s → m number ≡ 0 =
    λ m agrees. agrees number le ∙ member_before s (suc number) number r (omega arith) in
    record {
      is = λ m agrees.
          ap (λ k. chosen k (follow m base) (follow_ways m ws number 1)) (none m agrees)
          ∙ a.is m (λ q on. agrees q (omega (arith, le)));
      costs = λ m agrees.
          ap (λ k. chosen k (price m base) (way_prices m ws)) (none m agrees)
          ∙ a.costs m (λ q on. agrees q (omega (arith, le)));
    }

member_followed : (number from n : ℕ) (base : Plan) (ws : Ways) (s : List Choice) → from ≤ number
    → FollowsMember ws number 1 n s → IsFollowed (at_pick number base ws) from n s
member_followed number from n base ws s le a =
    let here : (m : ℕ → ℕ) → AgreesFrom from m s → m number ≡ suc a.index =
    λ m agrees. let member = agrees number le in let this = a.here in omega (arith, member, this) in
    record {
      is = λ m agrees.
          ap (λ k. chosen k (follow m base) (follow_ways m ws number 1)) (here m agrees)
          ∙ a.is m (λ q on. agrees q (omega (arith, le))) (follow m base);
      costs = λ m agrees.
          ap (λ k. chosen k (price m base) (way_prices m ws)) (here m agrees)
          ∙ a.costs m (λ q on. agrees q (omega (arith, le))) (price m base);
    }

first_followed : (number first c n : ℕ) (next : Plan) (ws : Ways) (s : List Choice) → c ≤ n
    → IsFollowed next (suc number) (n - c) s
    → FollowsMember (way_and c next ws) number first n (record { pick = number; member = first } ∷ s)
first_followed number first c n next ws s le a =
    let x : Choice = record { pick = number; member = first } in
    let behind : (m : ℕ → ℕ) → AgreesFrom (suc number) m (x ∷ s) → AgreesFrom (suc number) m s =
    λ m agrees q on. agrees q on ∙ other_pick x s q (omega (arith, on)) in
    record {
      index = 0;
      here = let this = this_pick number first s in omega (arith, this);
      is = λ m agrees d. ap (λ t. x ∷ t) (a.is m (behind m agrees));
      costs = λ m agrees d. let rest = a.costs m (behind m agrees) in omega (arith, rest, le);
    }

later_followed : (number first c n : ℕ) (next : Plan) (ws : Ways) (s : List Choice)
    → FollowsMember ws number (suc first) n s → FollowsMember (way_and c next ws) number first n s
later_followed number first c n next ws s a = record {
  index = suc a.index;
  here = let this = a.here in omega (arith, this);
  is = λ m agrees d. a.is m agrees d;
  costs = λ m agrees d. a.costs m agrees d;
}

within_followed : (number first c n : ℕ) (next : Plan) (ws : Ways) (b : Bool) → nat_le c n ≡ b
    → All (IsFollowed next (suc number) (n - c)) (listed next (n - c))
    → All (FollowsMember (way_and c next ws) number first n)
    (if b then map (λ s. record { pick = number; member = first } ∷ s) (listed next (n - c)) else [])
within_followed number first c n next ws false le h = λ k d within. absurd (omega arith)
within_followed number first c n next ws true le h =
    All-map (FollowsMember (way_and c next ws) number first n)
    (λ s. record { pick = number; member = first } ∷ s) (listed next (n - c))
    (λ k d within. first_followed number first c n next ws _ (leb-true c n le) (h k d within))

mutual
  pub followed : (p : Plan) (from n : ℕ) → RisesFrom from p → All (IsFollowed p from n) (listed p n)
  followed done from zero h =
      All-cons (IsFollowed done from 0) [] []
      (record { is = λ m agrees. refl; costs = λ m agrees. refl })
      (λ k d within. absurd (omega arith))
  followed done from (suc n) h = λ k d within. absurd (omega arith)
  followed (at_pick number base ws) from n h =
      All-append (IsFollowed (at_pick number base ws) from n) (listed base n)
      (listed_by ws number 1 n)
      (λ k d within. base_followed number from n base ws _ h.0
      (listed_rise base (suc number) n h.1 k d within) (followed base (suc number) n h.1 k d within))
      (λ k d within. member_followed number from n base ws _ h.0
      (members_followed ws number 1 n h.2 k d within))

  members_followed : (ws : Ways) (number first n : ℕ) → WaysRise (suc number) ws
      → All (FollowsMember ws number first n) (listed_by ws number first n)
  members_followed no_ways number first n h = λ k d within. absurd (omega arith)
  members_followed (way_and c next ws) number first n h =
      All-append (FollowsMember (way_and c next ws) number first n) _
      (listed_by ws number (suc first) n)
      (within_followed number first c n next ws (nat_le c n) refl
      (followed next (suc number) (n - c) h.0))
      (λ k d within. later_followed number first c n next ws _
      (members_followed ws number (suc first) n h.1 k d within))
