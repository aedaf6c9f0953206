-- What is listed, as far as a walk over the members of a row has come.
use Rattle.std.proofs.Common.{◌≡◌, ℕ, suc, ◌-◌, ◌<◌, ◌≤◌, ◌^◌, false}
use Rattle.std.proofs.Common.{if◌then◌else◌, List, [], ◌∷◌, ◌++◌, length, map, drop, slice_get}
use Rattle.std.proofs.Common.{Some, refl, sym, ap, ◌∙◌, subst, arith, append_assoc}
use Rattle.std.specs.Prelude.{nat_le}
use Rattle.std.proofs.lemmas.Bool.{le-leb}
use Rattle.std.proofs.lemmas.Bool.Decides.{nat_tests}
use Rattle.std.proofs.lemmas.List.{append-nil, drop_all, map-append}
use Rattle.std.proofs.lemmas.Option.{same_Some}
use Rattle.choice_tree.specs.declared.selection.Choice.{Choice}
use Rattle.cost_levels.specs.declared.rows.Row.{Row}
use Rattle.cost_levels.specs.declared.rows.Way.{Way}
use Rattle.cost_levels.specs.Plans.{Plan, Ways, done, at_pick, no_ways, way_and, listed, listed_by}
use Rattle.cost_levels.specs.Rows.{Shows, ShowWays}

-- choices behind those that were made
abbrev pub behind : List Choice → List (List Choice) → List (List Choice)
behind chosen ss = map (λ s. chosen ++ s) ss

-- the members from a place on, and what they have makes the whole
pub record Going (rows : List Row) (number most : ℕ) (items : List Way) (i left : ℕ)
    (chosen : List Choice) (old now : List (List Choice)) (p : Plan) : Type 0 where
  pub ways : Ways
  pub shows : ShowWays rows most (drop i items) ways
  pub whole : old ++ behind chosen (listed p left)
      ≡ now ++ behind chosen (listed_by ways number (suc i) left)

-- one choice more, and others behind it
pub behind_more : (chosen : List Choice) (x : Choice) (ss : List (List Choice))
    → behind (chosen ++ x ∷ []) ss ≡ behind chosen (map (λ s. x ∷ s) ss)
behind_more chosen x [] = refl
behind_more chosen x (s ∷ ss) =
    λ i. append_assoc chosen (x ∷ []) s i ∷ behind_more chosen x ss i

pub behind_none : (ss : List (List Choice)) → behind [] ss ≡ ss
behind_none [] = refl
behind_none (s ∷ ss) = ap (λ us. s ∷ us) (behind_none ss)

behind_both : (chosen : List Choice) (old xs ys : List (List Choice))
    → old ++ behind chosen (xs ++ ys) ≡ (old ++ behind chosen xs) ++ behind chosen ys
behind_both chosen old xs ys =
    ap (λ zs. old ++ zs) (map-append (λ s. chosen ++ s) xs ys)
    ∙ sym (append_assoc old (behind chosen xs) (behind chosen ys))

-- the first member, and then the others
one_and_rest : (cost : ℕ) (q : Plan) (ws : Ways) (number i left : ℕ)
    → listed_by (way_and cost q ws) number i left
    ≡ listed_by (way_and cost q no_ways) number i left ++ listed_by ws number (suc i) left
one_and_rest cost q ws number i left =
    ap (λ xs. xs ++ listed_by ws number (suc i) left)
    (sym (append-nil (listed_by_first cost q number i left)))
  where
    listed_by_first : ℕ → Plan → ℕ → ℕ → ℕ → List (List Choice)
    listed_by_first cost q number i left =
        if nat_le cost left
        then map (λ s. record { pick = number; member = i } ∷ s) (listed q (left - cost)) else []

-- after the base
pub going_first : (rows : List Row) (entry place : ℕ) (row : Row) (left : ℕ)
    (chosen : List Choice) (old now : List (List Choice)) (p : Plan) → entry ≡ suc place
    → slice_get rows place ≡ Some row
    → ((q : Plan) → Shows rows row.base q → now ≡ old ++ behind chosen (listed q left))
    → Shows rows entry p → Going rows row.number place row.others.items 0 left chosen old now p
going_first rows entry place row left chosen old now done e at base h =
    absurd (let none = h in omega (arith, none, e))
going_first rows entry place row left chosen old now (at_pick number q ws) e at base h =
    let r = h.0 in
    let is = r.is in
    let there : r.place ≡ place = omega (arith, is, e) in
    let same : r.row ≡ row =
    same_Some r.row row (sym r.at ∙ ap (slice_get rows) there ∙ at) in
    let n : number ≡ row.number = sym h.1 ∙ ap (λ (x : Row). x.number) same in
    let shows : Shows rows row.base q = subst (λ (x : Row). Shows rows x.base q) same h.3 in
    record {
      ways = ws;
      shows = subst (λ k. ShowWays rows k row.others.items ws) there
          (subst (λ (x : Row). ShowWays rows r.place x.others.items ws) same h.4);
      whole =
          behind_both chosen old (listed q left) (listed_by ws number 1 left)
          ∙ (λ i. sym (base q shows) i ++ behind chosen (listed_by ws (n i) 1 left));
    }

-- after one member more
pub going_next : (rows : List Row) (number most : ℕ) (items : List Way) (i left : ℕ)
    (chosen : List Choice) (old now new : List (List Choice)) (p : Plan) (v : Way)
    → drop i items ≡ v ∷ drop (suc i) items
    → ((q : Plan) → Shows rows v.next q → new ≡ now
    ++ behind chosen (listed_by (way_and v.cost q no_ways) number (suc i) left))
    → Going rows number most items i left chosen old now p
    → Going rows number most items (suc i) left chosen old new p
going_next rows number most items i left chosen old now new p v next add g =
    by_ways g.ways (subst (λ vs. ShowWays rows most vs g.ways) next g.shows) g.whole
  where
    by_ways : (ws : Ways) → ShowWays rows most (v ∷ drop (suc i) items) ws
        → old ++ behind chosen (listed p left)
        ≡ now ++ behind chosen (listed_by ws number (suc i) left)
        → Going rows number most items (suc i) left chosen old new p
    by_ways no_ways h whole = cc
    by_ways (way_and cost q ws) h whole =
        let first = h.0 in
        let is = first.is in
        let same : first.way ≡ v = cc in
        let rest : first.rest ≡ drop (suc i) items = cc in
        let c : v.cost ≡ cost = ap (λ (x : Way). x.cost) (sym same) ∙ h.1 in
        let shows : Shows rows v.next q = subst (λ (x : Way). Shows rows x.next q) same h.3 in
        let more : new ≡ now ++ behind chosen (listed_by (way_and cost q no_ways) number (suc i) left) =
        add q shows
        ∙ ap (λ n. now ++ behind chosen (listed_by (way_and n q no_ways) number (suc i) left)) c in
        record {
          ways = ws;
          shows = subst (λ vs. ShowWays rows most vs ws) rest h.4;
          whole =
              whole
              ∙ ap (λ ss. now ++ behind chosen ss) (one_and_rest cost q ws number (suc i) left)
              ∙ behind_both chosen now (listed_by (way_and cost q no_ways) number (suc i) left)
              (listed_by ws number (suc (suc i)) left)
              ∙ ap (λ xs. xs ++ behind chosen (listed_by ws number (suc (suc i)) left)) (sym more);
        }

-- all members
pub going_last : (rows : List Row) (number most : ℕ) (items : List Way) (i left : ℕ)
    (chosen : List Choice) (old now : List (List Choice)) (p : Plan) → length items ≤ i
    → Going rows number most items i left chosen old now p
    → now ≡ old ++ behind chosen (listed p left)
going_last rows number most items i left chosen old now p all g =
    by_ways g.ways (subst (λ vs. ShowWays rows most vs g.ways) (drop_all i items all) g.shows)
    g.whole
  where
    by_ways : (ws : Ways) → ShowWays rows most [] ws
        → old ++ behind chosen (listed p left)
        ≡ now ++ behind chosen (listed_by ws number (suc i) left)
        → now ≡ old ++ behind chosen (listed p left)
    by_ways no_ways h whole = sym (whole ∙ append-nil now)
    by_ways (way_and cost q ws) h whole = let is = h.0.is in cc

-- what the walk goes on from, and that it is before the row
pub base_before : (rows : List Row) (entry place : ℕ) (row : Row) (p : Plan) → entry ≡ suc place
    → slice_get rows place ≡ Some row → Shows rows entry p
    → (row.base < entry) × ((q : Plan) × Shows rows row.base q)
base_before rows entry place row done e at h = absurd (let none = h in omega (arith, none, e))
base_before rows entry place row (at_pick number q ws) e at h =
    let r = h.0 in
    let is = r.is in
    let there : r.place ≡ place = omega (arith, is, e) in
    let same : r.row ≡ row =
    same_Some r.row row (sym r.at ∙ ap (slice_get rows) there ∙ at) in
    let before = h.2 in
    let base : r.row.base ≡ row.base = ap (λ (x : Row). x.base) same in
    (omega (arith, before, base, is), (q, subst (λ (x : Row). Shows rows x.base q) same h.3))

pub next_before : (rows : List Row) (number most : ℕ) (items : List Way) (i left : ℕ)
    (chosen : List Choice) (old now : List (List Choice)) (p : Plan) (v : Way)
    → drop i items ≡ v ∷ drop (suc i) items
    → Going rows number most items i left chosen old now p
    → (v.next ≤ most) × ((q : Plan) × Shows rows v.next q)
next_before rows number most items i left chosen old now p v next g =
    by_ways g.ways (subst (λ vs. ShowWays rows most vs g.ways) next g.shows)
  where
    by_ways : (ws : Ways) → ShowWays rows most (v ∷ drop (suc i) items) ws
        → (v.next ≤ most) × ((q : Plan) × Shows rows v.next q)
    by_ways no_ways h = cc
    by_ways (way_and cost q ws) h =
        let first = h.0 in
        let is = first.is in
        let same : first.way ≡ v = cc in (
          subst (λ (x : Way). x.next ≤ most) same h.2,
          (q, subst (λ (x : Way). Shows rows x.next q) same h.3),
        )

-- a row's members can be numbered
pub few_members : (rows : List Row) (entry place : ℕ) (row : Row) (p : Plan) → entry ≡ suc place
    → slice_get rows place ≡ Some row → Shows rows entry p → length row.others.items < 2 ^ 32
few_members rows entry place row done e at h = absurd (let none = h in omega (arith, none, e))
few_members rows entry place row (at_pick number q ws) e at h =
    let r = h.0 in
    let is = r.is in
    let there : r.place ≡ place = omega (arith, is, e) in
    let same : r.row ≡ row =
    same_Some r.row row (sym r.at ∙ ap (slice_get rows) there ∙ at) in
    subst (λ (x : Row). length x.others.items < 2 ^ 32) same r.few

-- where the table ends nothing is left to choose
pub ends_so : (rows : List Row) (p : Plan) (entry : ℕ) → Shows rows entry p → entry ≡ 0 → p ≡ done
ends_so rows done entry h none = refl
ends_so rows (at_pick number q ws) entry h none =
    absurd (let is = h.0.is in omega (arith, is, none))

-- a member within what is left, or one that costs more
pub listed_within : (cost : ℕ) (q : Plan) (x : Choice) (left : ℕ) (chosen : List Choice)
    → cost ≤ left → behind (chosen ++ x ∷ []) (listed q (left - cost))
    ≡ behind chosen (listed_by (way_and cost q no_ways) x.pick x.member left)
listed_within cost q x left chosen le =
    behind_more chosen x (listed q (left - cost))
    ∙ ap (behind chosen) (sym (append-nil (map (λ s. x ∷ s) (listed q (left - cost)))))
    ∙ ap (λ b. behind chosen ((if b then map (λ s. x ∷ s) (listed q (left - cost)) else []) ++ []))
    (sym (le-leb cost left le))

pub beyond : (a b : ℕ) → b < a → nat_le a b ≡ false
beyond a b h = grind (arith, nat_tests)

pub listed_beyond : (cost : ℕ) (q : Plan) (x : Choice) (left : ℕ) (chosen : List Choice)
    → left < cost → [] ≡ behind chosen (listed_by (way_and cost q no_ways) x.pick x.member left)
listed_beyond cost q x left chosen more =
    ap (λ b. behind chosen ((if b then map (λ s. x ∷ s) (listed q (left - cost)) else []) ++ []))
    (sym (beyond cost left more))

-- and the row is there
pub row_there : (rows : List Row) (entry : ℕ) (p : Plan) → Shows rows entry p → 1 ≤ entry
    → entry - 1 < length rows
row_there rows entry done h some = absurd (let none = h in omega (arith, none))
row_there rows entry (at_pick number q ws) h some =
    let r = h.0 in
    let is = r.is in
    let below = Rattle.std.proofs.lemmas.Option.slice_get_within rows r.place r.row r.at in
    omega (arith, is, below)
