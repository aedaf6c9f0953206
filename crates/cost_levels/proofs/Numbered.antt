-- The numbers of selections that a table of counts has.
use Rattle.std.proofs.Common.{◌≡◌, inl, inr, ℕ, zero, suc, ◌+◌, ◌-◌, ◌*◌, ◌/◌, ◌<◌, ◌≤◌, min}
use Rattle.std.proofs.Common.{if◌then◌else◌, List, [], ◌∷◌, ◌++◌, length, map, drop, slice_get, Some, refl}
use Rattle.std.proofs.Common.{sym, ap, ◌∙◌, subst, arith, length-append}
use Rattle.std.specs.Prelude.{nat_le, All, slice_index_or}
use Rattle.std.proofs.Math.Nat.{mul-le-mul_right}
use Rattle.std.proofs.lemmas.Bool.{cases_lt, le-leb}
use Rattle.std.proofs.lemmas.List.{append-nil, drop_all, length-map}
use Rattle.std.proofs.lemmas.Nat.{div-mul-add}
use Rattle.std.proofs.lemmas.Option.{same_Some}
use Rattle.choice_tree.specs.declared.selection.Choice.{Choice}
use Rattle.cost_levels.specs.declared.counting.Counts.{Counts}
use Rattle.cost_levels.specs.declared.rows.Row.{Row}
use Rattle.cost_levels.specs.declared.rows.Way.{Way}
use Rattle.cost_levels.specs.Counts.{AreCounts, CountsSoFar, Reaches, ReachesAll, ReachesRow, counted}
use Rattle.cost_levels.specs.Counts.{count_most, place_in}
use Rattle.cost_levels.specs.Plans.{Plan, Ways, done, at_pick, no_ways, way_and, listed, listed_by}
use Rattle.cost_levels.specs.Rows.{GoesBack, Shows, ShowWays}
use Rattle.cost_levels.proofs.Tables.{at_end, at_more, shows_within}
use Rattle.cost_levels.proofs.Walked.{beyond, ends_so}

-- the numbers of an entry come before those of later ones
pub earlier_place : (a b w k : ℕ) → a ≤ b → k < w → a * w + k < suc b * w
earlier_place a b w k le below =
    let most = mul-le-mul_right w le in
    omega (arith, most, below)

-- an entry and a cost by their place
same_entry : (a b w k c : ℕ) → k < w → c < w → a * w + k ≡ b * w + c → a ≡ b
same_entry a b w k c low high e =
    sym (div-mul-add a w k low) ∙ ap (λ n. n / w) e ∙ div-mul-add b w c high

first_entry : (a w k : ℕ) → k < w → a * w + k < w → a ≡ 0
first_entry zero w k low h = refl
first_entry (suc a) w k low h =
    let more = mul-le-mul_right {m = 1} {n = suc a} w (omega arith) in
    absurd (omega (arith, more, h))

pub reach_more : (a b : Counts) (row : Row) → a.width ≡ b.width
    → length a.numbers.items ≤ length b.numbers.items → ReachesRow a row → ReachesRow b row
reach_more a b row same more h = record {
  base = λ cost within.
      subst (λ w. row.base * w + cost < length b.numbers.items) same
      (let low = h.base cost (omega (arith, within, same)) in omega (arith, low, more));
  others = λ i d inside cost within.
      subst (λ w. (slice_index_or row.others.items i d).next * w + cost < length b.numbers.items) same
      (let low = h.others i d inside cost (omega (arith, within, same)) in omega (arith, low, more));
}

pub way_reaches : (c : Counts) (vs items : List Way) (i : ℕ) (d : Way) → items ≡ vs
    → i < length items → All (λ v. ReachesAll c v.next) vs → ReachesAll c (slice_index_or items i d).next
way_reaches c vs items i d e within h = subst (All (λ v. ReachesAll c v.next)) (sym e) h i d within

-- a row goes on to numbers that stand
pub reach_back : (c : Counts) (place : ℕ) (row : Row) → length c.numbers.items ≡ suc place * c.width
    → GoesBack place row → ReachesRow c row
reach_back c place row many back = record {
  base = λ cost within.
      let low = earlier_place row.base place c.width cost back.base within in omega (arith, low, many);
  others = λ i d inside cost within.
      let low = earlier_place _ place c.width cost (back.others i d inside) within in
      omega (arith, low, many);
}

-- the numbers at the end
pub record AreLast (xs : List ℕ) (n : ℕ) : Type 0 where
  pub many : length xs ≡ n
  pub each : (k : ℕ) → k < n → slice_get xs k ≡ Some (counted (listed done k))

pub last_first : (xs : List ℕ) → xs ≡ 1 ∷ [] → AreLast xs 1
last_first xs e = subst (λ ys. AreLast ys 1) (sym e) (record { many = refl; each = first })
  where
    first : (k : ℕ) → k < 1 → slice_get (1 ∷ []) k ≡ Some (counted (listed done k))
    first zero below = refl
    first (suc k) below = absurd (omega (arith, below))

pub last_more : (xs ys : List ℕ) (n : ℕ) → 1 ≤ n → ys ≡ xs ++ 0 ∷ [] → AreLast xs n
    → AreLast ys (n + 1)
last_more xs ys n some e h =
    let all = ap length e ∙ length-append xs (0 ∷ []) in
    let many = h.many in
    record {
      many = omega (arith, all, many);
      each = λ k below. subst (λ zs. slice_get zs k ≡ Some (counted (listed done k))) (sym e)
          (elim (cases_lt k n) [
            | inl less ↦ at_more xs (0 ∷ []) k (counted (listed done k)) (h.each k less)
            | inr more ↦
                let same : k ≡ length xs = omega (arith, more, below, many) in
                subst (λ j. slice_get (xs ++ 0 ∷ []) j ≡ Some (counted (listed done j))) (sym same)
                (at_end xs 0 ∙ none (length xs) (omega (arith, some, many)))
          ]);
    }
  where
    none : (j : ℕ) → 1 ≤ j → Some 0 ≡ Some (counted (listed done j))
    none zero any = absurd (omega (arith, any))
    none (suc j) any = refl

pub last_right : (rows : List Row) (c : Counts) → AreLast c.numbers.items c.width → CountsSoFar rows c
last_right rows c h entry cost within reaches p shows =
    let many = h.many in
    let none : entry ≡ 0 = first_entry entry c.width cost within (omega (arith, reaches, many)) in
    let place : place_in c entry cost ≡ cost = ap (λ e. e * c.width + cost) none ∙ omega arith in
    ap (slice_get c.numbers.items) place ∙ h.each cost within
    ∙ ap (λ q. Some (counted (listed q cost))) (sym (ends_so rows p entry shows none))

-- one number more
pub push_right : (rows : List Row) (place : ℕ) (row : Row) (old new : Counts) (cost n : ℕ)
    → slice_get rows place ≡ Some row → new.width ≡ old.width
    → new.numbers.items ≡ old.numbers.items ++ n ∷ []
    → length old.numbers.items ≡ suc place * old.width + cost → cost < old.width
    → CountsSoFar rows old
    → ((base : Plan) (ws : Ways) → Shows rows row.base base
    → ((most : ℕ) × ShowWays rows most row.others.items ws)
    → n ≡ counted (listed (at_pick row.number base ws) cost))
    → CountsSoFar rows new
push_right rows place row old new cost n at wide pushed many low so_far number entry k within reaches p shows =
    let all = ap length pushed ∙ length-append old.numbers.items (n ∷ []) in
    let within' : k < old.width = omega (arith, within, wide) in
    let same : place_in new entry k ≡ place_in old entry k = ap (λ w. entry * w + k) wide in
    let below : place_in old entry k < suc (length old.numbers.items) = omega (arith, reaches, all, same) in
    ap (slice_get new.numbers.items) same
    ∙ subst (λ xs. slice_get xs (place_in old entry k) ≡ Some (counted (listed p k))) (sym pushed)
    (elim (cases_lt (place_in old entry k) (length old.numbers.items)) [
      | inl less ↦
          at_more old.numbers.items (n ∷ []) (place_in old entry k) (counted (listed p k))
          (so_far entry k within' less p shows)
      | inr more ↦
          let here : place_in old entry k ≡ length old.numbers.items = omega (arith, more, below) in
          let this : entry ≡ suc place =
          same_entry entry (suc place) old.width k cost within' low (here ∙ many) in
          let sum = ap (λ e. e * old.width) this in
          let at_cost : k ≡ cost = omega (arith, here, many, sum) in
          ap (slice_get (old.numbers.items ++ n ∷ [])) here ∙ at_end old.numbers.items n
          ∙ ap Some (of_row p this at_cost shows)
    ])
  where
    of_row : (q : Plan) → entry ≡ suc place → k ≡ cost → Shows rows entry q
        → n ≡ counted (listed q k)
    of_row done this at_cost h = absurd (omega (arith, h, this))
    of_row (at_pick m base ws) this at_cost h =
        let r = h.0 in
        let is = r.is in
        let there : r.place ≡ place = omega (arith, is, this) in
        let row_same : r.row ≡ row =
        same_Some r.row row (sym r.at ∙ ap (slice_get rows) there ∙ at) in
        let m_same : row.number ≡ m = ap (λ (x : Row). x.number) (sym row_same) ∙ h.1 in
        number base ws (subst (λ (x : Row). Shows rows x.base base) row_same h.3)
        (r.place, subst (λ (x : Row). ShowWays rows r.place x.others.items ws) row_same h.4)
        ∙ (λ i. counted (listed (at_pick (m_same i) base ws) (sym at_cost i)))

-- a number that counts the base and the members before a place, with those that are left
pub record Counting (rows : List Row) (items : List Way) (i cost number : ℕ) (p : Plan) : Type 0
  where
    pub most : ℕ
    pub pick : ℕ
    pub ways : Ways
    pub shows : ShowWays rows most (drop i items) ways
    pub few : number ≤ count_most
    pub whole : min (number + length (listed_by ways pick (suc i) cost)) count_most
        ≡ counted (listed p cost)

pub counting_first : (rows : List Row) (items : List Way) (cost number pick most : ℕ) (base : Plan) (ws : Ways)
    → number ≡ counted (listed base cost) → ShowWays rows most items ws
    → Counting rows items 0 cost number (at_pick pick base ws)
counting_first rows items cost number pick most base ws is shows =
    let all = length-append (listed base cost) (listed_by ws pick 1 cost) in
    record {
      most = most;
      pick = pick;
      ways = ws;
      shows = shows;
      few = omega (arith, is);
      whole = omega (arith, is, all);
    }

-- how many begin with one member
one_length : (c : ℕ) (next : Plan) (ws : Ways) (pick i n : ℕ)
    → length (listed_by (way_and c next ws) pick i n)
    ≡ length (listed_by (way_and c next no_ways) pick i n) + length (listed_by ws pick (suc i) n)
one_length c next ws pick i n =
    length-append (first c next pick i n) (listed_by ws pick (suc i) n)
    ∙ ap (λ m. m + length (listed_by ws pick (suc i) n))
    (ap length (sym (append-nil (first c next pick i n))))
  where
    first : ℕ → Plan → ℕ → ℕ → ℕ → List (List Choice)
    first c next pick i n =
        if nat_le c n
        then map (λ s. record { pick = pick; member = i } ∷ s) (listed next (n - c)) else []

within_length : (c : ℕ) (next : Plan) (pick i n : ℕ) → c ≤ n
    → length (listed_by (way_and c next no_ways) pick i n) ≡ length (listed next (n - c))
within_length c next pick i n le =
    ap (λ b. length ((if b then map (λ s. record { pick = pick; member = i } ∷ s) (listed next (n - c)) else []) ++ []))
    (le-leb c n le)
    ∙ ap length (append-nil (map (λ s. record { pick = pick; member = i } ∷ s) (listed next (n - c))))
    ∙ length-map (listed next (n - c)) (λ s. record { pick = pick; member = i } ∷ s)

beyond_length : (c : ℕ) (next : Plan) (pick i n : ℕ) → n < c
    → length (listed_by (way_and c next no_ways) pick i n) ≡ 0
beyond_length c next pick i n less =
    ap (λ b. length ((if b then map (λ s. record { pick = pick; member = i } ∷ s) (listed next (n - c)) else []) ++ []))
    (beyond c n less)

-- a member within the cost, and one that costs more
pub member_added : (c : ℕ) (next : Plan) (pick i n number more all : ℕ) → c ≤ n
    → more ≡ counted (listed next (n - c)) → all ≡ min (min (number + more) 4294967295) count_most
    → all ≡ min (number + length (listed_by (way_and c next no_ways) pick i n)) count_most
member_added c next pick i n number more all le is sum =
    let many = within_length c next pick i n le in
    omega (arith, is, sum, many)

pub member_beyond : (c : ℕ) (next : Plan) (pick i n number all : ℕ) → n < c
    → all ≡ min number count_most
    → all ≡ min (number + length (listed_by (way_and c next no_ways) pick i n)) count_most
member_beyond c next pick i n number all less is =
    let none = beyond_length c next pick i n less in
    omega (arith, is, none)

-- the number that stands at an entry and a cost
pub number_there : (rows : List Row) (c : Counts) (entry cost n : ℕ) (p : Plan)
    → CountsSoFar rows c → cost < c.width → Reaches c entry cost → Shows rows entry p
    → slice_get c.numbers.items (place_in c entry cost) ≡ Some n → n ≡ counted (listed p cost)
number_there rows c entry cost n p right within reaches shows is =
    same_Some n (counted (listed p cost)) (sym is ∙ right entry cost within reaches p shows)

pub counting_next : (rows : List Row) (items : List Way) (i cost number more : ℕ) (p : Plan) (v : Way)
    → drop i items ≡ v ∷ drop (suc i) items
    → ((next : Plan) (pick : ℕ) → Shows rows v.next next → more
    ≡ min (number + length (listed_by (way_and v.cost next no_ways) pick (suc i) cost)) count_most)
    → Counting rows items i cost number p → Counting rows items (suc i) cost more p
counting_next rows items i cost number more p v next add g =
    by_ways g.ways (subst (λ vs. ShowWays rows g.most vs g.ways) next g.shows) g.whole
  where
    by_ways : (ws : Ways) → ShowWays rows g.most (v ∷ drop (suc i) items) ws
        → min (number + length (listed_by ws g.pick (suc i) cost)) count_most ≡ counted (listed p cost)
        → Counting rows items (suc i) cost more p
    by_ways no_ways h whole = cc
    by_ways (way_and c q ws) h whole =
        let first = h.0 in
        let is = first.is in
        let same : first.way ≡ v = cc in
        let rest : first.rest ≡ drop (suc i) items = cc in
        let c_same : v.cost ≡ c = ap (λ (x : Way). x.cost) (sym same) ∙ h.1 in
        let shown : Shows rows v.next q = subst (λ (x : Way). Shows rows x.next q) same h.3 in
        let sum : more ≡ min (number + length (listed_by (way_and c q no_ways) g.pick (suc i) cost)) count_most =
        add q g.pick shown
        ∙ ap (λ n. min (number + length (listed_by (way_and n q no_ways) g.pick (suc i) cost)) count_most) c_same in
        let one = one_length c q ws g.pick (suc i) cost in
        record {
          most = g.most;
          pick = g.pick;
          ways = ws;
          shows = subst (λ vs. ShowWays rows g.most vs ws) rest h.4;
          few = omega (arith, sum);
          whole = omega (arith, whole, sum, one);
        }

pub counting_last : (rows : List Row) (items : List Way) (i cost number : ℕ) (p : Plan)
    → length items ≤ i → Counting rows items i cost number p → number ≡ counted (listed p cost)
counting_last rows items i cost number p all g =
    by_ways g.ways (subst (λ vs. ShowWays rows g.most vs g.ways) (drop_all i items all) g.shows) g.whole
  where
    by_ways : (ws : Ways) → ShowWays rows g.most [] ws
        → min (number + length (listed_by ws g.pick (suc i) cost)) count_most ≡ counted (listed p cost)
        → number ≡ counted (listed p cost)
    by_ways no_ways h whole = let few = g.few in omega (arith, whole, few)
    by_ways (way_and c q ws) h whole = let is = h.0.is in cc

-- an entry that counts none
pub none_listed : (ss : List (List Choice)) (n : ℕ) → n ≡ counted ss → n ≡ 0 → ss ≡ []
none_listed [] n is none = refl
none_listed (s ∷ ss) n is none = absurd (omega (arith, is, none))

-- the number of an entry stands in a whole table
pub reach_whole : (rows : List Row) (c : Counts) (entry cost : ℕ) (p : Plan) → AreCounts rows c
    → Shows rows entry p → cost < c.width → Reaches c entry cost
reach_whole rows c entry cost p h shows within =
    let low = earlier_place entry (length rows) c.width cost (shows_within p rows entry shows) within in
    let all = h.whole in
    omega (arith, low, all)
