-- Tables that grow row by row.
use Rattle.std.proofs.Common.{◌≡◌, ℕ, zero, suc, ◌<◌, ◌≤◌, ◌^◌, List, [], ◌∷◌, ◌++◌, length}
use Rattle.std.proofs.Common.{take, slice_get, Option, Some, None, option_map, refl, sym, ap, ◌∙◌, subst, arith}
use Rattle.std.proofs.Common.{append_assoc, length-append}
use Rattle.std.specs.Prelude.{All}
use Rattle.std.proofs.lemmas.List.{append-nil}
use Rattle.std.proofs.lemmas.List.Elements.{All-append, All-cons}
use Rattle.std.proofs.lemmas.Option.{slice_get_within}
use Rattle.choice_tree.specs.declared.node.Pick.{Pick}
use Rattle.choice_tree.specs.NodeViews.{own_pick, pick_of}
use Rattle.choice_tree.specs.WeightedTrees.{Weighted, Weighteds, plainly, pick, no_weighted}
use Rattle.choice_tree.specs.WeightedTrees.{weighted_and, children, listed}
use Rattle.choice_tree.specs.WeightedViews.{Member, members}
use Rattle.cost_levels.specs.declared.rows.Row.{Row}
use Rattle.cost_levels.specs.declared.rows.Way.{Way}
use Rattle.cost_levels.specs.Plans.{Plan, Ways, done, at_pick, no_ways, way_and, planned}
use Rattle.cost_levels.specs.Plans.{all_planned, planned_each, ways_by}
use Rattle.cost_levels.specs.Rows.{Grows, IsTable, IsTableTo, Shows, ShowWays}

pub at_more : {X : Type 0} (xs ys : List X) (i : ℕ) (x : X) → slice_get xs i ≡ Some x
    → slice_get (xs ++ ys) i ≡ Some x
at_more [] ys i x h = cc
at_more (y ∷ xs) ys zero x h = h
at_more (y ∷ xs) ys (suc i) x h = at_more xs ys i x h

pub at_end : {X : Type 0} (xs : List X) (x : X) → slice_get (xs ++ x ∷ []) (length xs) ≡ Some x
at_end [] x = refl
at_end (y ∷ xs) x = at_end xs x

-- what a table shows a longer one shows too
mutual
  pub shows_more : (p : Plan) (rows more : List Row) (entry : ℕ) → Shows rows entry p
      → Shows (rows ++ more) entry p
  shows_more done rows more entry h = h
  shows_more (at_pick number base ws) rows more entry h =
      let r = h.0 in (
        record {
          place = r.place;
          is = r.is;
          row = r.row;
          at = at_more rows more r.place r.row r.at;
          few = r.few;
        },
        h.1,
        h.2,
        shows_more base rows more r.row.base h.3,
        ways_more ws rows more r.place r.place r.row.others.items (omega arith) h.4,
      )

  pub ways_more : (ws : Ways) (rows more : List Row) (most most' : ℕ) (vs : List Way)
      → most ≤ most' → ShowWays rows most vs ws → ShowWays (rows ++ more) most' vs ws
  ways_more no_ways rows more most most' vs le h = h
  ways_more (way_and cost next ws) rows more most most' vs le h =
      let v = h.0 in
      let on = h.2 in (
        v,
        h.1,
        omega (arith, on, le),
        shows_more next rows more v.way.next h.3,
        ways_more ws rows more most most' v.rest le h.4,
      )

-- an entry is one of the table's
pub shows_within : (p : Plan) (rows : List Row) (entry : ℕ) → Shows rows entry p
    → entry ≤ length rows
shows_within done rows entry h = omega (arith, h)
shows_within (at_pick number base ws) rows entry h =
    let r = h.0 in
    let below = slice_get_within rows r.place r.row r.at in
    let is = r.is in
    omega (arith, below, is)

-- a member, by its cost and its tree
pub member_read : (o : Option Member) (c : ℕ) (x : Weighted) → Some c ≡ option_map (λ m. m.cost) o
    → Some x ≡ option_map (λ m. m.tree) o
    → (rule : ℕ) × (Some (record { rule = rule; cost = c; tree = x }) ≡ o)
member_read None c x h k = cc
member_read (Some m) c x h k =
    let cost : c ≡ m.cost = cc in
    let tree : x ≡ m.tree = cc in
    (m.rule, λ i. Some (record { rule = m.rule; cost = cost i; tree = tree i }))

take_next : {X : Type 0} (xs : List X) (i : ℕ) (x : X) → Some x ≡ slice_get xs i
    → take (suc i) xs ≡ take i xs ++ x ∷ []
take_next [] i x h = cc
take_next (y ∷ xs) zero x h = let e : y ≡ x = cc in ap (λ z. z ∷ []) e
take_next (y ∷ xs) (suc i) x h = ap (λ zs. y ∷ zs) (take_next xs i x h)

pub take_more : {X : Type 0} (xs : List X) (i j : ℕ) (x : X) → j ≡ suc i
    → Some x ≡ slice_get xs i → take j xs ≡ take i xs ++ x ∷ []
take_more xs i j x e h = ap (λ n. take n xs) e ∙ take_next xs i x h

-- one member more
pub ways_push : (ms : List Member) (m : Member) (p : Plan) (rows : List Row) (most : ℕ)
    (vs : List Way) (v : Way) → ShowWays rows most vs (ways_by (members ms) p) → v.cost ≡ m.cost
    → v.next ≤ most → Shows rows v.next (planned m.tree p)
    → ShowWays rows most (vs ++ v ∷ []) (ways_by (members (ms ++ m ∷ [])) p)
ways_push [] m p rows most vs v h cost on shows =
    rw h (record { way = v; rest = []; is = refl }, cost, on, shows, refl)
ways_push (x ∷ ms) m p rows most vs v h cost on shows =
    let first = h.0 in (
      record {
        way = first.way;
        rest = first.rest ++ v ∷ [];
        is = ap (λ us. us ++ v ∷ []) first.is;
      },
      h.1,
      h.2,
      h.3,
      ways_push ms m p rows most first.rest v h.4 cost on shows,
    )

-- a row is appended
pub shows_row : (rows : List Row) (r : Row) (base : Plan) (ws : Ways)
    → length r.others.items < 2 ^ 32 → Shows rows r.base base
    → ShowWays rows (length rows) r.others.items ws
    → Shows (rows ++ r ∷ []) (suc (length rows)) (at_pick r.number base ws)
shows_row rows r base ws few b h = (
  record { place = length rows; is = refl; row = r; at = at_end rows r; few = few },
  refl,
  shows_within base rows r.base b,
  shows_more base rows (r ∷ []) r.base b,
  ways_more ws rows (r ∷ []) (length rows) (length rows) r.others.items (omega arith) h,
)

-- a node's plan, from those of its parts
each_planned : (ws : Weighteds) (p : Plan) → planned_each (listed ws) p ≡ all_planned ws p
each_planned no_weighted p = refl
each_planned (weighted_and w ws) p = ap (planned w) (each_planned ws p)

pub parts_planned : (w : Weighted) (p : Plan) → None ≡ own_pick w
    → planned_each (children w) p ≡ planned w p
parts_planned (plainly k ws) p h = each_planned ws p
parts_planned (pick number base os) p h = cc

pub pick_planned : (w : Weighted) (p : Plan) (q : Pick) → Some (pick_of q) ≡ own_pick w
    → at_pick (pick_of q).number (planned (pick_of q).base p) (ways_by (pick_of q).others p)
    ≡ planned w p
pick_planned (plainly k ws) p q h = cc
pick_planned (pick number base os) p q h =
    let same : pick_of q ≡ record { number = number; base = base; others = os } = cc in
    (λ i. at_pick (same i).number (planned (same i).base p) (ways_by (same i).others p))

-- rows that are appended twice
pub grows_on : (a b c : List Row) → Grows a b → Grows b c → Grows a c
grows_on a b c f g =
    (f.0 ++ g.0, g.1 ∙ ap (λ rs. rs ++ g.0) f.1 ∙ append_assoc a f.0 g.0)

pub grows_none : (a : List Row) → Grows a a
grows_none a = ([], sym (append-nil a))

pub shows_grown : (old new : List Row) (entry : ℕ) (p : Plan) → Grows old new → Shows old entry p
    → Shows new entry p
shows_grown old new entry p g h =
    subst (λ rs. Shows rs entry p) (sym g.1) (shows_more p old g.0 entry h)

pub ways_grown : (old new : List Row) (vs : List Way) (ws : Ways) → Grows old new
    → ShowWays old (length old) vs ws → ShowWays new (length new) vs ws
ways_grown old new vs ws g h =
    let all = ap length g.1 ∙ length-append old g.0 in
    subst (λ rs. ShowWays rs (length new) vs ws) (sym g.1)
    (ways_more ws old g.0 (length old) (length new) vs (omega (arith, all)) h)

-- a base and members go on to entries up to a number
pub record GoesBackFrom (most base : ℕ) (vs : List Way) : Type 0 where
  pub base_back : base ≤ most
  pub others_back : All (λ v. v.next ≤ most) vs

length_grown : (old new : List Row) → Grows old new → length old ≤ length new
length_grown old new g =
    let all = ap length g.1 ∙ length-append old g.0 in omega (arith, all)

-- an entry of a table is one of a longer table
pub table_grown : (old new : List Row) (after : ℕ) → Grows old new → IsTable new
    → IsTableTo old after → IsTableTo new after
table_grown old new after g table h =
    let on = h.1 in
    let more = length_grown old new g in
    (table, omega (arith, on, more))

pub no_members_back : (most base : ℕ) (vs : List Way) → base ≤ most → vs ≡ []
    → GoesBackFrom most base vs
no_members_back most base vs le none = record {
  base_back = le;
  others_back =
      subst (All (λ v. v.next ≤ most)) (sym none) (λ k d within. absurd (omega (arith, within)));
}

-- one member more
pub member_back : (rows new : List Row) (base : ℕ) (vs all : List Way) (v : Way) → Grows rows new
    → GoesBackFrom (length rows) base vs → v.next ≤ length new → all ≡ vs ++ v ∷ []
    → GoesBackFrom (length new) base all
member_back rows new base vs all v g h le e =
    let more = length_grown rows new g in
    let back = h.base_back in
    record {
      base_back = omega (arith, back, more);
      others_back =
          subst (All (λ v. v.next ≤ length new)) (sym e)
          (All-append (λ v. v.next ≤ length new) vs (v ∷ [])
          (λ k d within. let on = h.others_back k d within in omega (arith, on, more))
          (All-cons (λ v. v.next ≤ length new) v [] le (λ k d within. absurd (omega (arith, within)))));
    }
