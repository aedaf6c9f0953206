use Rattle.std.proofs.Common.{◌≡◌, ◌+◌, ◌++◌, arith, ap, ◌∙◌, map, slice_get}
use Rattle.std.proofs.Common.{Some, None, sym}
use Rattle.std.proofs.lemmas.Option.{same_Some}
use Rattle.choice_tree.specs.Choices.{member_of}
use Rattle.choice_tree.specs.EditViews.{edit_of, pick_number, edits_of_each, picks_of_each}
use Rattle.choice_tree.specs.declared.edit.Edit.{Edit}
use Rattle.choice_tree.specs.Selections.{plain, edits, edited_picks, other_at}
use Rattle.choice_tree.specs.Rewriting.{edit_by}
use Rattle.choice_tree.specs.WeightedTrees.{base_of, children}
use Rattle.choice_tree.specs.NodeViews.{expr_of, node_of, pick_of}
use Rattle.choice_tree.specs.PickViews.{others_seen}
use Rattle.choice_tree.proofs.EditLaws.{on_ok, pushed_next, pushed_all, parts_edits, parts_picks}
use Rattle.choice_tree.proofs.EditLaws.{edits_read, pick_edits, pick_picks, picks_read, pushed_one}
use Rattle.choice_tree.proofs.Walking.{base_smaller, child_smaller, other_smaller, is_place}
use Rattle.choice_tree.proofs.editing.+edits.Goals as goal

pub push_edits-push_edits-requires : goal.push_edits-push_edits-requires
push_edits-push_edits-requires t c =
    let less =
    base_smaller (node_of c.args.node) (node_of c.base.result) c.in-Some.pick c.in-Some.ensures
    c.base.ensures in
    (omega (arith, less), tt)

pub push_edits-push_edits-requires-in-Some-chosen :
    goal.push_edits-push_edits-requires-in-Some-chosen
push_edits-push_edits-requires-in-Some-chosen t c =
    let less =
    other_smaller (node_of c.args.node) (node_of c.tree.result) c.in-Some.pick c.in-Some-chosen.i
    c.in-Some.ensures c.tree.ensures in
    (omega (arith, less), tt)

pub push_edits-returns-in-None-clause-replaced : goal.push_edits-returns-in-None-clause-replaced
push_edits-returns-in-None-clause-replaced t c =
    on_ok c.push_parts.result
    (λ h. h ∙ ap (λ es. map edit_of c.args.out.now.items ++ es)
    (ap (λ n. edits_of_each (member_of c.args.s.now) n (children (node_of c.args.node)))
    c.line_below.ensures
    ∙ parts_edits (member_of c.args.s.now) c.args.line (node_of c.args.node) c.in-None.ensures))
    c.push_parts.ensures.replaced

pub push_edits-returns-in-None-clause-picks : goal.push_edits-returns-in-None-clause-picks
push_edits-returns-in-None-clause-picks t c =
    on_ok c.push_parts.result
    (λ h. h ∙ ap (λ ps. map pick_number c.args.out.now.items ++ ps)
    (parts_picks (member_of c.args.s.now) (node_of c.args.node) c.in-None.ensures))
    c.push_parts.ensures.picks

pub push_edits-returns-in-None-chosen-clause-replaced :
    goal.push_edits-returns-in-None-chosen-clause-replaced
push_edits-returns-in-None-chosen-clause-replaced t c =
    let m = member_of c.args.s.now in
    on_ok c.push_edits.result
    (λ h. h ∙ ap (λ es. map edit_of c.args.out.now.items ++ es)
    (ap (λ w. edits m w c.args.line) c.base.ensures
    ∙ pick_edits m c.args.line (node_of c.args.node) c.in-Some.pick None
    c.in-Some.ensures c.in-None-chosen.ensures.none))
    c.push_edits.ensures.replaced

pub push_edits-returns-in-None-chosen-clause-picks :
    goal.push_edits-returns-in-None-chosen-clause-picks
push_edits-returns-in-None-chosen-clause-picks t c =
    let m = member_of c.args.s.now in
    on_ok c.push_edits.result
    (λ h. h ∙ ap (λ ps. map pick_number c.args.out.now.items ++ ps)
    (ap (edited_picks m) c.base.ensures
    ∙ pick_picks m (node_of c.args.node) c.in-Some.pick None
    c.in-Some.ensures c.in-None-chosen.ensures.none))
    c.push_edits.ensures.picks

pub push_edits-returns-in_ok-push-in-Some-chosen-clause-replaced :
    goal.push_edits-returns-in_ok-push-in-Some-chosen-clause-replaced
push_edits-returns-in_ok-push-in-Some-chosen-clause-replaced t c =
    let m = member_of c.args.s.now in
    let pick = c.in-Some.pick in
    let line = c.args.line in
    let rule = c.rule.result in
    let tree = node_of c.tree.result in
    let made : Edit =
    record {
      pick = c.number.result;
      line = line;
      rule = rule;
      old = c.in_ok-old-in-Some-chosen.old;
      new = c.in_ok-new-in-Some-chosen.new;
    } in
    let old = c.in_ok-old-in-Some-chosen.ensures ∙ ap base_of c.base_as_expr.ensures in
    let same =
    same_Some (expr_of c.tree_as_expr.result) tree (c.tree_as_expr.ensures ∙ sym c.tree.ensures) in
    let new = c.in_ok-new-in-Some-chosen.ensures ∙ ap (plain m) same in
    let seen : edit_of made ≡ edit_by line rule (base_of (pick_of pick).base) (plain m tree) =
    (λ i. edit_by line rule (old i) (new i)) in
    let o = slice_get (others_seen pick) c.in-Some-chosen.i in
    let at = ap (λ k. other_at k (others_seen pick)) (sym c.in-Some-chosen.ensures.is) in
    on_ok c.push_edits-in-Some-chosen.result
    (λ h. h
    ∙ pushed_one edit_of c.args.out.now.items c.push.new.self.items made
    (edit_by line rule (base_of (pick_of pick).base) (plain m tree)) (edits m tree line)
    c.in_ok-push-in-Some-chosen.ensures.items seen
    ∙ ap (λ es. map edit_of c.args.out.now.items ++ es)
    (sym (edits_read m line (pick_of pick).base o rule tree c.rule.ensures c.tree.ensures)
    ∙ pick_edits m line (node_of c.args.node) pick o c.in-Some.ensures at))
    c.push_edits-in-Some-chosen.ensures.replaced

pub push_edits-returns-in_ok-push-in-Some-chosen-clause-picks :
    goal.push_edits-returns-in_ok-push-in-Some-chosen-clause-picks
push_edits-returns-in_ok-push-in-Some-chosen-clause-picks t c =
    let m = member_of c.args.s.now in
    let pick = c.in-Some.pick in
    let tree = node_of c.tree.result in
    let made : Edit =
    record {
      pick = c.number.result;
      line = c.args.line;
      rule = c.rule.result;
      old = c.in_ok-old-in-Some-chosen.old;
      new = c.in_ok-new-in-Some-chosen.new;
    } in
    let o = slice_get (others_seen pick) c.in-Some-chosen.i in
    let at = ap (λ k. other_at k (others_seen pick)) (sym c.in-Some-chosen.ensures.is) in
    on_ok c.push_edits-in-Some-chosen.result
    (λ h. h
    ∙ pushed_one pick_number c.args.out.now.items c.push.new.self.items made
    (pick_of pick).number (edited_picks m tree) c.in_ok-push-in-Some-chosen.ensures.items
    c.number.ensures
    ∙ ap (λ ps. map pick_number c.args.out.now.items ++ ps)
    (sym (picks_read m (pick_of pick).number (pick_of pick).base o tree c.tree.ensures)
    ∙ pick_picks m (node_of c.args.node) pick o c.in-Some.ensures at))
    c.push_edits-in-Some-chosen.ensures.picks

pub push_parts-returns-in-None-clause-replaced : goal.push_parts-returns-in-None-clause-replaced
push_parts-returns-in-None-clause-replaced t c =
    pushed_all (λ w. edits (member_of c.args.s.now) w c.args.line) (children (node_of c.args.node))
    c.parts.i (map edit_of c.args.out.now.items
    ++ edits_of_each (member_of c.args.s.now) c.args.line (children (node_of c.args.node)))
    (map edit_of c.parts.out.items) c.in-None.ensures.tree c.parts.invariant.replaced

pub push_parts-returns-in-None-clause-picks : goal.push_parts-returns-in-None-clause-picks
push_parts-returns-in-None-clause-picks t c =
    pushed_all (edited_picks (member_of c.args.s.now)) (children (node_of c.args.node))
    c.parts.i (map pick_number c.args.out.now.items
    ++ picks_of_each (member_of c.args.s.now) (children (node_of c.args.node)))
    (map pick_number c.parts.out.items) c.in-None.ensures.tree c.parts.invariant.picks

pub push_parts-push_edits-requires : goal.push_parts-push_edits-requires
push_parts-push_edits-requires t c =
    let less =
    child_smaller (node_of c.args.node) (node_of c.in-Some.part) c.parts.i
    c.in-Some.ensures.tree in
    (omega (arith, less), tt)

pub push_parts-parts-smaller : goal.push_parts-parts-smaller
push_parts-parts-smaller t c =
    let below =
    is_place (children (node_of c.args.node)) c.parts.i (node_of c.in-Some.part)
    c.in-Some.ensures.tree in
    omega (arith, below)

pub push_parts-parts-preserved : goal.push_parts-parts-preserved
push_parts-parts-preserved t c = record {
  replaced =
      pushed_next (λ w. edits (member_of c.args.s.now) w c.args.line)
      (children (node_of c.args.node)) c.parts.i (c.parts.i + 1) (node_of c.in-Some.part)
      (map edit_of c.args.out.now.items
      ++ edits_of_each (member_of c.args.s.now) c.args.line (children (node_of c.args.node)))
      (map edit_of c.parts.out.items) (map edit_of c.push_edits.new.out.items) (omega arith)
      c.in-Some.ensures.tree c.in_ok-push_edits-in-Some.ensures.replaced
      c.parts.invariant.replaced;
  picks =
      pushed_next (edited_picks (member_of c.args.s.now))
      (children (node_of c.args.node)) c.parts.i (c.parts.i + 1) (node_of c.in-Some.part)
      (map pick_number c.args.out.now.items
      ++ picks_of_each (member_of c.args.s.now) (children (node_of c.args.node)))
      (map pick_number c.parts.out.items) (map pick_number c.push_edits.new.out.items)
      (omega arith) c.in-Some.ensures.tree c.in_ok-push_edits-in-Some.ensures.picks
      c.parts.invariant.picks;
}
