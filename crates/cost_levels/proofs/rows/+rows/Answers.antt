use Rattle.std.proofs.Common.{◌≡◌, ◌∙◌, ℕ, ◌+◌, ◌-◌, suc, List, [], ◌∷◌, ◌++◌, drop, take, length}
use Rattle.std.proofs.Common.{slice_get, refl, sym, ap, subst, arith}
use Rattle.std.proofs.lemmas.List.{take_all}
use Rattle.choice_tree.specs.NodeViews.{node_of, pick_of}
use Rattle.choice_tree.specs.PickViews.{others_seen}
use Rattle.choice_tree.specs.WeightedTrees.{Weighted, children, nodes}
use Rattle.choice_tree.specs.WeightedViews.{Member, members}
use Rattle.choice_tree.proofs.EditLaws.{if_ok, on_ok}
use Rattle.choice_tree.proofs.Walking.{child_smaller, member_smaller, next_of}
use Rattle.cost_levels.specs.declared.rows.Way.{Way}
use Rattle.cost_levels.specs.Plans.{at_pick, planned, planned_each, ways_by}
use Rattle.cost_levels.specs.Rows.{Shows, ShowWays}
use Rattle.cost_levels.proofs.Tables.{grows_on, member_back, member_read, no_members_back, parts_planned, pick_planned}
use Rattle.cost_levels.proofs.Tables.{shows_grown, shows_within, table_grown, take_more, ways_grown, ways_push}
use Rattle.cost_levels.proofs.rows.+rows.Goals as goal

pub push_node-returns-in-None-clause-shown : goal.push_node-returns-in-None-clause-shown
push_node-returns-in-None-clause-shown t c =
    if_ok c.push_parts.result
    (λ e h p shows. subst (Shows c.push_parts.new.rows.items e)
    (parts_planned (node_of c.args.node) p c.in-None.ensures) (h p shows))
    c.push_parts.ensures.shown

pub push_node-returns-in-Some-clause-shown : goal.push_node-returns-in-Some-clause-shown
push_node-returns-in-Some-clause-shown t c =
    if_ok c.push_pick.result
    (λ e h p shows. subst (Shows c.push_pick.new.rows.items e)
    (pick_planned (node_of c.args.node) p c.in-Some.pick c.in-Some.ensures) (h p shows))
    c.push_pick.ensures.shown

pub push_parts-push_node-requires : goal.push_parts-push_node-requires
push_parts-push_node-requires t c =
    let less =
    child_smaller (node_of c.args.node) (node_of c.in-Some.part) (c.parts.left - 1)
    c.in-Some.ensures.tree in
    (omega (arith, less), tt)

pub push_parts-parts-preserved : goal.push_parts-parts-preserved
push_parts-parts-preserved t c =
    let xs = children (node_of c.args.node) in
    let left = c.parts.left in
    let x = node_of c.in-Some.part in
    let some = c.parts-test.true in
    let within = c.parts.invariant.within in
    let same : suc (left - 1) ≡ left = omega (arith, some) in
    let next : drop (left - 1) xs ≡ x ∷ drop left xs =
    next_of xs (left - 1) x c.in-Some.ensures.tree ∙ ap (λ n. x ∷ drop n xs) same in
    let new = c.push_node.new.rows.items in
    record {
      within = omega (arith, within);
      grown =
          grows_on c.args.rows.now.items c.parts.rows.items new c.parts.invariant.grown
          c.in_ok-entry-in-Some.ensures.grown;
      table = λ h. c.in_ok-entry-in-Some.ensures.table (c.parts.invariant.table h);
      shown = λ p shows.
          subst (λ (ws : List Weighted). Shows new c.in_ok-entry-in-Some.entry (planned_each ws p))
          (sym next) (c.in_ok-entry-in-Some.ensures.shown (planned_each (drop left xs) p)
          (c.parts.invariant.shown p shows));
    }

pub push_pick-push_node-requires : goal.push_pick-push_node-requires
push_pick-push_node-requires t c =
    let base = ap nodes c.base.ensures in
    (omega (arith, base), tt)

pub push_pick-push_node-requires-in-loop-i : goal.push_pick-push_node-requires-in-loop-i
push_pick-push_node-requires-in-loop-i t c =
    let less =
    member_smaller (others_seen c.args.pick) c.loop-i.i (node_of c.tree.result) c.tree.ensures in
    (omega (arith, less), tt)

pub push_pick-loop-i-init : goal.push_pick-loop-i-init
push_pick-loop-i-init t c = record {
  grown = c.in_ok-base.ensures.grown;
  table = λ h.
      let a = c.in_ok-base.ensures.table h in (
        a.0,
        no_members_back (length c.push_node.new.rows.items) c.in_ok-base.base _ a.1
            c.new-others.ensures.items,
      );
  base = λ p shows.
      subst (λ (w : Weighted). Shows c.push_node.new.rows.items c.in_ok-base.base (planned w p))
      c.base.ensures (c.in_ok-base.ensures.shown p shows);
  ways = λ p shows. c.new-others.ensures.items;
}

pub push_pick-loop-i-preserved : goal.push_pick-loop-i-preserved
push_pick-loop-i-preserved t c =
    let ms = others_seen c.args.pick in
    let i = c.loop-i.i in
    let was = c.args.rows.now.items in
    let rows = c.loop-i.rows.items in
    let new = c.push_node-in-loop-i.new.rows.items in
    let vs = c.loop-i.others.items in
    let tree = node_of c.tree.result in
    let v : Way = record { cost = c.cost.result; next = c.in_ok-next.next } in
    let grew = c.in_ok-next.ensures.grown in
    let before = c.loop-i.invariant in
    let pushed : c.push.new.self.items ≡ vs ++ v ∷ [] = c.in_ok-push.ensures.items in
    let read = member_read (slice_get ms i) c.cost.result tree c.cost.ensures c.tree.ensures in
    let m : Member = record { rule = read.0; cost = c.cost.result; tree = tree } in
    let more : take (i + 1) ms ≡ take i ms ++ m ∷ [] =
    take_more ms i (i + 1) m (omega arith) read.1 in
    record {
      grown = grows_on was rows new before.grown grew;
      table = λ h.
          let a = before.table h in
          let next =
          c.in_ok-next.ensures.table (table_grown was rows c.args.after before.grown a.0 h) in
          (next.0, member_back rows new c.in_ok-base.base vs _ v grew a.1 next.1 pushed);
      base = λ p shows.
          shows_grown rows new c.in_ok-base.base (planned (pick_of c.args.pick).base p) grew
          (before.base p shows);
      ways = λ p shows.
          let inside =
          c.in_ok-next.ensures.shown p
          (shows_grown was rows c.args.after p before.grown shows) in
          let all =
          ways_push (take i ms) m p new (length new) vs v
          (ways_grown rows new vs (ways_by (members (take i ms)) p) grew (before.ways p shows))
          refl (shows_within (planned tree p) new v.next inside) inside in
          subst (λ (us : List Way). ShowWays new (length new) us
          (ways_by (members (take (i + 1) ms)) p)) (sym pushed)
          (subst (λ (ns : List Member). ShowWays new (length new) (vs ++ v ∷ [])
          (ways_by (members ns) p)) (sym more) all);
    }

pub push_pick-returns-clause-grown : goal.push_pick-returns-clause-grown
push_pick-returns-clause-grown t c =
    on_ok c.push_row.result
    (λ g. grows_on c.args.rows.now.items c.loop-i.rows.items c.push_row.new.rows.items
    c.loop-i.invariant.grown g)
    c.push_row.ensures.grown

pub push_pick-returns-clause-table : goal.push_pick-returns-clause-table
push_pick-returns-clause-table t c =
    if_ok c.push_row.result
    (λ e h table.
    let a = c.loop-i.invariant.table table in
    h a.0 (record { base = a.1.base_back; others = a.1.others_back }))
    c.push_row.ensures.table

pub push_pick-returns-clause-shown : goal.push_pick-returns-clause-shown
push_pick-returns-clause-shown t c =
    let pick = pick_of c.args.pick in
    let ms = others_seen c.args.pick in
    let rows = c.loop-i.rows.items in
    let new = c.push_row.new.rows.items in
    let all : take c.loop-i.i ms ≡ ms = take_all c.loop-i.i ms (omega arith) in
    if_ok c.push_row.result
    (λ e h p shows. subst (λ (n : ℕ). Shows new e (at_pick n (planned pick.base p)
    (ways_by pick.others p))) c.number.ensures
    (h (planned pick.base p) (ways_by pick.others p) (c.loop-i.invariant.base p shows)
    (subst (λ (ns : List Member). ShowWays rows (length rows) c.loop-i.others.items
    (ways_by (members ns) p)) all (c.loop-i.invariant.ways p shows))))
    c.push_row.ensures.shown
