-- What stands in a level: choices that fit, at its cost.
use Rattle.std.proofs.Common.{◌≡◌, ◌≢◌, ℕ, suc, ◌+◌, ◌-◌, ◌<◌, ◌≤◌, Bool, true, false}
use Rattle.std.proofs.Common.{◌||◌, ◌&&◌, if◌then◌else◌, List, [], ◌∷◌, map, refl, sym, ap}
use Rattle.std.proofs.Common.{◌∙◌, arith, subst}
use Rattle.std.specs.Prelude.{◌==◌, nat_le, All}
use Rattle.std.specs.List.{Contains}
use Rattle.std.proofs.lemmas.Bool.{leb-true}
use Rattle.std.proofs.lemmas.Bool.Decides.{nat_tests}
use Rattle.std.proofs.lemmas.List.Elements.{All-append, All-map, All-contains, All-contains_itself}
use Rattle.mpy_tree.specs.Trees.{Kind}
use Rattle.choice_tree.specs.declared.selection.Choice.{Choice}
use Rattle.choice_tree.specs.Choices.{member_of, Rises, NamesBy}
use Rattle.choice_tree.specs.WeightedTrees.{Weighted, Weighteds, Others, plainly, pick, no_weighted}
use Rattle.choice_tree.specs.WeightedTrees.{weighted_and, no_others, other_and, picks, picks_in}
use Rattle.choice_tree.specs.WeightedTrees.{picks_in_others, numbered, numbered_all}
use Rattle.choice_tree.specs.WeightedTrees.{numbered_others}
use Rattle.choice_tree.specs.Selections.{chosen, cost, costs, other_costs, count_others, has_member}
use Rattle.choice_tree.specs.Selections.{any_has_member, other_has_member}
use Rattle.choice_tree.proofs.Numbers.{member_before}
use Rattle.cost_levels.specs.Plans.{Plan, planned, all_planned, ways_by, listed, listed_by}

-- members from a pick on are those of the choices
abbrev pub AgreesFrom : ℕ → (ℕ → ℕ) → List Choice → Type 0
AgreesFrom from m s = (q : ℕ) → from ≤ q → m q ≡ member_of s q

-- choices at the picks up to a number, before others
pub record Leads (has : ℕ → ℕ → Bool) (from to : ℕ) (s rest : List Choice) : Type 0 where
  pub rises : Rises to rest → Rises from s
  pub later : AgreesFrom to (member_of s) rest
  pub named : (whole : ℕ → ℕ → Bool) → ((q i : ℕ) → has q i ≡ true → whole q i ≡ true)
      → NamesBy whole rest → NamesBy whole s

-- choices of a tree's picks from a number on, and then of a plan, at this cost
pub record Begins (w : Weighted) (from : ℕ) (p : Plan) (n : ℕ) (s : List Choice) : Type 0 where
  pub rest : List Choice
  pub left : ℕ
  pub there : Contains (listed p left) rest
  pub leads : Leads (has_member (numbered w from)) from (from + picks w) s rest
  pub costs_so : Rises (from + picks w) rest → (m : ℕ → ℕ) → AgreesFrom from m s
      → cost m (numbered w from) + left ≡ n

record BeginAll (ws : Weighteds) (from : ℕ) (p : Plan) (n : ℕ) (s : List Choice) : Type 0 where
  pub rest : List Choice
  pub left : ℕ
  pub there : Contains (listed p left) rest
  pub leads : Leads (any_has_member (numbered_all ws from)) from (from + picks_in ws) s rest
  pub costs_so : Rises (from + picks_in ws) rest → (m : ℕ → ℕ) → AgreesFrom from m s
      → costs m (numbered_all ws from) + left ≡ n

-- one of these members, counted from 0, is chosen, where the first of them has a number
record BeginsOther (os : Others) (from : ℕ) (p : Plan) (number first n : ℕ) (s : List Choice)
    : Type 0 where
  pub index : ℕ
  pub below : index < count_others (numbered_others os from)
  pub tail : List Choice
  pub is : s ≡ record { pick = number; member = first + index } ∷ tail
  pub rest : List Choice
  pub left : ℕ
  pub there : Contains (listed p left) rest
  pub leads :
      Leads (other_has_member (numbered_others os from)) from (from + picks_in_others os) tail rest
  pub costs_so : Rises (from + picks_in_others os) rest → (m : ℕ → ℕ) → AgreesFrom from m tail
      → (d : ℕ) → chosen (suc index) d (other_costs m (numbered_others os from)) + left ≡ n

pub rises_earlier : (s : List Choice) (from mid : ℕ) → from ≤ mid → Rises mid s → Rises from s
rises_earlier [] from mid h r = tt
rises_earlier (x ∷ xs) from mid h r = let first = r.0 in (omega arith, r.1)

or_left : (a b : Bool) → a ≡ true → a || b ≡ true
or_left true b h = refl
or_left false b h = cc

or_right : (a b : Bool) → b ≡ true → a || b ≡ true
or_right true b h = refl
or_right false b h = h

-- the member of another pick, and of this one
pub other_pick : (x : Choice) (xs : List Choice) (q : ℕ) → x.pick ≢ q
    → member_of (x ∷ xs) q ≡ member_of xs q
other_pick x xs q h = grind (arith, nat_tests)

pub this_pick : (k i : ℕ) (xs : List Choice)
    → member_of (record { pick = k; member = i } ∷ xs) k ≡ i
this_pick k i xs = grind (arith, nat_tests)

-- no pick
leads_at_once : (has : ℕ → ℕ → Bool) (from to : ℕ) (s : List Choice) → from ≤ to
    → Leads has from to s s
leads_at_once has from to s h = record {
  rises = rises_earlier s from to h;
  later = λ q on. refl;
  named = λ whole more n. n;
}

-- what leads on from there
leads_on : (has has' all : ℕ → ℕ → Bool) (from mid to : ℕ) (s t u : List Choice) → mid ≤ to
    → ((q i : ℕ) → has q i ≡ true → all q i ≡ true)
    → ((q i : ℕ) → has' q i ≡ true → all q i ≡ true)
    → Leads has from mid s t → Leads has' mid to t u → Leads all from to s u
leads_on has has' all from mid to s t u h more more' a b = record {
  rises = λ r. a.rises (b.rises r);
  later = λ q on. a.later q (omega arith) ∙ b.later q on;
  named = λ whole each n.
      a.named whole (λ q i x. each q i (more q i x))
      (b.named whole (λ q i x. each q i (more' q i x)) n);
}

has_this : (k i n : ℕ) → i < n → (k == k) && nat_le (suc i) n ≡ true
has_this k i n h = grind (arith, nat_tests)

-- a node's parts
of_parts : (k : Kind) (ws : Weighteds) (from : ℕ) (p : Plan) (n : ℕ) (s : List Choice)
    → BeginAll ws from p n s → Begins (plainly k ws) from p n s
of_parts k ws from p n s a = record {
  rest = a.rest;
  left = a.left;
  there = a.there;
  leads = a.leads;
  costs_so = a.costs_so;
}

-- the base of a pick
of_base : (number : ℕ) (base : Weighted) (os : Others) (from : ℕ) (p : Plan) (n : ℕ)
    (s : List Choice) → Begins base (suc from) p n s → Begins (pick number base os) from p n s
of_base number base os from p n s a =
    let mid = suc from + picks base in
    let to = from + suc (picks base + picks_in_others os) in
    record {
      rest = a.rest;
      left = a.left;
      there = a.there;
      leads = record {
        rises = λ r. rises_earlier s from (suc from) (omega arith)
            (a.leads.rises (rises_earlier a.rest mid to (omega arith) r));
        later = λ q on. a.leads.later q (omega arith);
        named = λ whole more names.
            a.leads.named whole (λ q i h. more q i (or_left _ _ (or_right _ _ h))) names;
      };
      costs_so = λ r m agrees.
          let rises = rises_earlier a.rest mid to (omega arith) r in
          let none : m from ≡ 0 =
          agrees from (omega arith) ∙ member_before s (suc from) from (a.leads.rises rises)
          (omega arith) in
          let x = a.costs_so rises m (λ q on. agrees q (omega arith)) in
          rw none x;
    }

-- another member of a pick
of_other : (number : ℕ) (base : Weighted) (os : Others) (from : ℕ) (p : Plan) (n : ℕ)
    (s : List Choice) → BeginsOther os (suc from + picks base) p from 1 n s
    → Begins (pick number base os) from p n s
of_other number base os from p n s a =
    let start = suc from + picks base in
    let to = from + suc (picks base + picks_in_others os) in
    let same : to ≡ start + picks_in_others os = omega arith in
    let this : Choice = record { pick = from; member = suc a.index } in
    let one : 1 + a.index ≡ suc a.index = omega arith in
    let is : s ≡ this ∷ a.tail =
    a.is ∙ ap (λ i. record { pick = from; member = i } ∷ a.tail) one in
    record {
      rest = a.rest;
      left = a.left;
      there = a.there;
      leads = record {
        rises = λ r.
            subst (Rises from) (sym is) (
              omega arith,
              rises_earlier a.tail (suc from) start (omega arith)
                  (a.leads.rises (subst (λ t. Rises t a.rest) same r)),
            );
        later = λ q on.
            ap (λ v. member_of v q) is ∙ other_pick this a.tail q (omega arith)
            ∙ a.leads.later q (omega arith);
        named = λ whole more names.
            subst (NamesBy whole) (sym is) (
              omega arith,
              more from (suc a.index) (or_left _ _ (or_left _ _
                  (has_this from a.index (count_others (numbered_others os start)) a.below))),
              a.leads.named whole (λ q i h. more q i (or_right _ _ h)) names,
            );
      };
      costs_so = λ r m agrees.
          let member : m from ≡ suc a.index =
          agrees from (omega arith) ∙ ap (λ v. member_of v from) is
          ∙ this_pick from (suc a.index) a.tail in
          let x =
          a.costs_so (subst (λ t. Rises t a.rest) same r) m
          (λ q on. agrees q (omega arith) ∙ ap (λ v. member_of v q) is
          ∙ other_pick this a.tail q (omega arith))
          (cost m (numbered base (suc from))) in
          rw member x;
    }

-- a part, and then the others
joined : (w : Weighted) (ws : Weighteds) (from : ℕ) (p : Plan) (n : ℕ) (s : List Choice)
    → (a : Begins w from (all_planned (numbered_all ws (from + picks w)) p) n s)
    → BeginAll ws (from + picks w) p a.left a.rest → BeginAll (weighted_and w ws) from p n s
joined w ws from p n s a b =
    let mid = from + picks w in
    let to = from + (picks w + picks_in ws) in
    let same : mid + picks_in ws ≡ to = omega arith in
    let leads : Leads (any_has_member (numbered_all ws mid)) mid to a.rest b.rest =
    subst (λ t. Leads (any_has_member (numbered_all ws mid)) mid t a.rest b.rest) same b.leads in
    record {
      rest = b.rest;
      left = b.left;
      there = b.there;
      leads =
          leads_on (has_member (numbered w from)) (any_has_member (numbered_all ws mid)) _ from mid
          to s a.rest b.rest (omega arith) (λ q i h. or_left _ _ h) (λ q i h. or_right _ _ h)
          a.leads leads;
      costs_so = λ r m agrees.
          let x = a.costs_so (leads.rises r) m agrees in
          let y =
          b.costs_so (subst (λ t. Rises t b.rest) (sym same) r) m
          (λ q on. agrees q (omega arith) ∙ a.leads.later q on) in
          omega (arith, x, y);
    }

of_first : (rule c : ℕ) (w : Weighted) (os : Others) (from : ℕ) (p : Plan) (number first n : ℕ)
    (s : List Choice) → c ≤ n → Begins w from p (n - c) s
    → BeginsOther (other_and rule c w os) from p number first n
    (record { pick = number; member = first } ∷ s)
of_first rule c w os from p number first n s le a =
    let to = from + (picks w + picks_in_others os) in
    let one : first ≡ first + 0 = omega arith in
    record {
      index = 0;
      below = omega arith;
      tail = s;
      is = ap (λ i. record { pick = number; member = i } ∷ s) one;
      rest = a.rest;
      left = a.left;
      there = a.there;
      leads = record {
        rises = λ r. a.leads.rises (rises_earlier a.rest (from + picks w) to (omega arith) r);
        later = λ q on. a.leads.later q (omega arith);
        named = λ whole more names. a.leads.named whole (λ q i h. more q i (or_left _ _ h)) names;
      };
      costs_so = λ r m agrees d.
          let x =
          a.costs_so (rises_earlier a.rest (from + picks w) to (omega arith) r) m agrees in
          omega (arith, x, le);
    }

of_later : (rule c : ℕ) (w : Weighted) (os : Others) (from : ℕ) (p : Plan) (number first n : ℕ)
    (s : List Choice) → BeginsOther os (from + picks w) p number (suc first) n s
    → BeginsOther (other_and rule c w os) from p number first n s
of_later rule c w os from p number first n s a =
    let mid = from + picks w in
    let to = from + (picks w + picks_in_others os) in
    let same : to ≡ mid + picks_in_others os = omega arith in
    let next : suc first + a.index ≡ first + suc a.index = omega arith in
    let below = a.below in
    record {
      index = suc a.index;
      below = omega (arith, below);
      tail = a.tail;
      is = a.is ∙ ap (λ i. record { pick = number; member = i } ∷ a.tail) next;
      rest = a.rest;
      left = a.left;
      there = a.there;
      leads = record {
        rises = λ r. rises_earlier a.tail from mid (omega arith)
            (a.leads.rises (subst (λ t. Rises t a.rest) same r));
        later = λ q on. a.leads.later q (omega arith);
        named = λ whole more names. a.leads.named whole (λ q i h. more q i (or_right _ _ h)) names;
      };
      costs_so = λ r m agrees d.
          a.costs_so (subst (λ t. Rises t a.rest) same r) m (λ q on. agrees q (omega arith)) d;
    }

-- the first member, where its cost is within
by_first : (rule c : ℕ) (w : Weighted) (os : Others) (from : ℕ) (p : Plan) (number first n : ℕ)
    (b : Bool) → nat_le c n ≡ b
    → All (Begins w from p (n - c)) (listed (planned (numbered w from) p) (n - c))
    → All (BeginsOther (other_and rule c w os) from p number first n)
    (if b then map (λ s. record { pick = number; member = first } ∷ s)
    (listed (planned (numbered w from) p) (n - c)) else [])
by_first rule c w os from p number first n true le all =
    All-map (BeginsOther (other_and rule c w os) from p number first n)
    (λ s. record { pick = number; member = first } ∷ s)
    (listed (planned (numbered w from) p) (n - c))
    (λ i d within. of_first rule c w os from p number first n _ (leb-true c n le) (all i d within))
by_first rule c w os from p number first n false le all = λ i d within. absurd (omega arith)

-- all that is listed
mutual
  pub begins : (w : Weighted) (from : ℕ) (p : Plan) (n : ℕ)
      → All (Begins w from p n) (listed (planned (numbered w from) p) n)
  begins (plainly k ws) from p n =
      λ i d within. of_parts k ws from p n _ (begin_all ws from p n i d within)
  begins (pick number base os) from p n =
      let start = suc from + picks base in
      All-append (Begins (pick number base os) from p n)
      (listed (planned (numbered base (suc from)) p) n)
      (listed_by (ways_by (numbered_others os start) p) from 1 n)
      (λ i d within. of_base number base os from p n _ (begins base (suc from) p n i d within))
      (λ i d within. of_other number base os from p n _ (begins_other os start p from 1 n i d within))

  begin_all : (ws : Weighteds) (from : ℕ) (p : Plan) (n : ℕ)
      → All (BeginAll ws from p n) (listed (all_planned (numbered_all ws from) p) n)
  begin_all no_weighted from p n = λ i d within. record {
    rest = _;
    left = n;
    there = All-contains_itself (listed p n) i d within;
    leads = leads_at_once _ from (from + 0) _ (omega arith);
    costs_so = λ r m agrees. omega arith;
  }
  begin_all (weighted_and w ws) from p n = λ i d within.
      let mid = from + picks w in
      let next = all_planned (numbered_all ws mid) p in
      let a = begins w from next n i d within in
      joined w ws from p n _ a
      (All-contains (BeginAll ws mid p a.left) (listed next a.left) a.rest
      (begin_all ws mid p a.left) a.there)

  begins_other : (os : Others) (from : ℕ) (p : Plan) (number first n : ℕ)
      → All (BeginsOther os from p number first n)
      (listed_by (ways_by (numbered_others os from) p) number first n)
  begins_other no_others from p number first n = λ i d within. absurd (omega arith)
  begins_other (other_and rule c w os) from p number first n =
      All-append (BeginsOther (other_and rule c w os) from p number first n) _
      (listed_by (ways_by (numbered_others os (from + picks w)) p) number (suc first) n)
      (by_first rule c w os from p number first n (nat_le c n) refl (begins w from p (n - c)))
      (λ i d within. of_later rule c w os from p number first n _
      (begins_other os (from + picks w) p number (suc first) n i d within))
