use Rattle.std.proofs.Common.{◌≡◌, ◌∙◌, ◌+◌, ◌-◌, [], ◌∷◌, Some, map, drop, ap, sym, subst, arith, is_some}
use Rattle.std.proofs.lemmas.List.{drop_all}
use Rattle.bit_words.specs.Logic.{extends_keeps, extends_refl, extends_trans}
use Rattle.mpy_tree.specs.Statements.{Next, run_block, while_turns, value_at}
use Rattle.mpy_tree.specs.Syntax.{Block}
use Rattle.mpy_tree.specs.Trees as kind
use Rattle.mpy_tree.specs.Values.{State}
use Rattle.choice_tree.specs.declared.tree.WAct.{WAct}
use Rattle.choice_tree.specs.declared.tree.WArm.{out-WArm}
use Rattle.choice_tree.specs.declared.tree.WStmt.{out-WStmt}
use Rattle.choice_tree.specs.Selections.{plain, plains}
use Rattle.choice_tree.specs.StatementViews.{arms_before, maybe_weighted, weighted_act, weighted_arm, weighted_arms, weighted_body, weighted_else, weighted_stmt}
use Rattle.choice_tree.specs.WeightedTrees.{nodes, nodes_in, plainly}
use Rattle.choice_tree.specs.WeightedViews.{weighted_of, weighteds}
use Rattle.sym_nodes.specs.Environments.{AllHavePicks, HasPicks}
use Rattle.sym_paths.specs.Endings.{Seen, and_seen, or_other, see, seen_from}
use Rattle.sym_paths.specs.Later.{out_later, path_later, paths_later, see_later}
use Rattle.sym_paths.specs.Paths.{gone_way, way}
use Rattle.sym_paths.specs.Sides.{misses, passes}
use Rattle.sym_paths.specs.Sights.{again, again_is, next_is, nothing_from, nothing_more, onward}
use Rattle.typed_trees.specs.TypedStatements.{AreTyped, IsTyped}
use Rattle.sym_blocks.specs.Bodies.{scope_in}
use Rattle.sym_blocks.specs.Runs.{run_if, run_statement, run_while}
use Rattle.sym_blocks.proofs.Blocks.{arms_end, arms_more, block_end, block_more, body_parts, drop_at}
use Rattle.sym_blocks.proofs.Going.{arm_goes, arm_parts, else_none, else_some, last_goes, last_turn_goes, one_arm, statement_goes, turn_goes}
use Rattle.sym_blocks.proofs.Laters.{all_lead_later, body_later, chosen_later, leads_later}
use Rattle.sym_blocks.proofs.Parts.{append_parts, assign_parts, augment_at_parts, augment_parts, break_parts, continue_parts, for_parts, if_parts, pass_parts, print_parts, put_parts, return_parts, while_parts}
use Rattle.mpy_tree.specs.Rules.{member_of}
use Rattle.mpy_tree.specs.declared.value.Value.{Value}
use Rattle.mpy_tree.specs.Statements.{for_turns}
use Rattle.sym_values.specs.Later.{outcome_in_later, value_in_later}
use Rattle.sym_values.specs.Reading.{read, sure}
use Rattle.sym_nodes.specs.Operands.{IsTypedIn}
use Rattle.sym_blocks.proofs.Returning.{may_return}
use Rattle.sym_nodes.proofs.Giving.{item_form_is, sequence_in, sequence_room}
use Rattle.sym_nodes.proofs.Typed.{type_is, typed_as}
use Rattle.sym_paths.specs.Items.{entering, items, items_show, leaving}
use Rattle.sym_paths.specs.Paths.{reached}
use Rattle.sym_paths.specs.Sides.{fine, leads_fine}
use Rattle.sym_blocks.proofs.Items.{item_goes, last_item_goes, no_turn, none_goes}
use Rattle.sym_blocks.proofs.Reading.{fault_is, few_items, given_items, has_members, items_again, items_first, items_later}
use Rattle.sym_blocks.proofs.Settings.{local_type_is}
use Rattle.sym_blocks.proofs.TypedParts.{gone_over}
use Rattle.sym_blocks.proofs.Sizes.{arm_smaller, body_smaller, else_smaller, stmt_smaller}
use Rattle.sym_blocks.proofs.Views.{append_is, arm_is, arms_are, assign_is, augment_at_is, augment_is, body_is, break_is, continue_is, for_is, if_is, pass_is, print_is, put_is, return_is, stmt_is, while_is}
use Rattle.sym_blocks.proofs.exec.+exec.Goals as goal

-- a body
pub exec_side-exec_live-requires : goal.exec_side-exec_live-requires
exec_side-exec_live-requires g t c κs h =
    (omega arith, (h.0, (h.1.0, (h.1.1, (c.requires.run, ((rw c.in-Some.is at c.requires.path).each.0, (c.requires.typed, c.requires.picks)))))))

pub exec_side-returns-in-None-clause-value : goal.exec_side-returns-in-None-clause-value
exec_side-returns-in-None-clause-value g t c vs m calls o b chosen at plain =
    let slots = c.args.run.now.slots.now in
    let none = rw c.in-None.is at at in
    c.no_way_out.ensures.value vs ∙ nothing_from o (run_block slots.limits calls b) (sym none)

pub exec_side-returns-in_ok-out-in-Some-clause-value : goal.exec_side-returns-in_ok-out-in-Some-clause-value
exec_side-returns-in_ok-out-in-Some-clause-value g t c vs m calls o b chosen at plain =
    c.in_ok-out-in-Some.ensures.value vs m calls o b chosen (rw c.in-Some.is at at) plain

-- the statements one after another
pub exec_live-loop-s-init : goal.exec_live-loop-s-init
exec_live-loop-s-init g t c =
    let run = c.args.run.now in
    let slots = run.slots.now in
    let view = body_is c.args.body.now ∙ ap (λ l. plainly kind.Block (weighteds (map weighted_stmt l))) (sym c.deref-s-items.ensures.value) in
    record {
      extends = extends_refl;
      here = c.requires.path;
      out = c.no_way_out-out.ensures.held;
      typed = subst (IsTyped (scope_in (g.C.Functions.signatures run.functions.now) run)) view c.requires.typed;
      picks = subst (HasPicks run.picks.now) view c.requires.picks;
      value = λ vs m calls o b chosen at is. (o, b, at, body_parts m b _ (is ∙ ap (plain m) view), ap (λ (x : Seen). and_seen x (seen_from o (run_block slots.limits calls b))) (c.no_way_out-out.ensures.value vs));
    }

pub exec_live-exec_stmt-requires : goal.exec_live-exec_stmt-requires
exec_live-exec_stmt-requires g t c κs h =
    let run = c.args.run.now in
    let items = c.deref-s-items.result.now in
    let s = c.s-item.result in
    let more = drop_at items c.loop-s.s-index s c.loop-s-test.true c.s-item.is in
    let less = stmt_smaller c.args.body.now items c.loop-s.s-index s c.deref-s-items.ensures.value c.loop-s-test.true c.s-item.is in
    let typed = subst (λ l. AreTyped (scope_in (g.C.Functions.signatures run.functions.now) run) (weighteds (map weighted_stmt l))) more c.loop-s.invariant.typed in
    let picks = subst (λ l. AllHavePicks run.picks.now (weighteds (map weighted_stmt l))) more c.loop-s.invariant.picks in
    (omega (arith, less), (h.0, (h.1.0, (h.1.1, (body_later (extends_keeps c.loop-s.invariant.extends) c.requires.run, (c.loop-s.invariant.here, (typed.0, picks.0)))))))

pub exec_live-take_step-requires-clause-so_far : goal.exec_live-take_step-requires-clause-so_far
exec_live-take_step-requires-clause-so_far g t c = out_later (extends_keeps c.exec_stmt.ensures.extends) c.loop-s.invariant.out

pub exec_live-returns-in-None-clause-extends : goal.exec_live-returns-in-None-clause-extends
exec_live-returns-in-None-clause-extends g t c = extends_trans c.loop-s.invariant.extends (extends_trans c.exec_stmt.ensures.extends c.take_step.ensures.extends)

pub exec_live-returns-in-None-clause-value : goal.exec_live-returns-in-None-clause-value
exec_live-returns-in-None-clause-value g t c vs m calls o b chosen at is =
    let reads = g.L.Logic.reads in
    let run = c.args.run.now in
    let slots = run.slots.now in
    let l = slots.limits in
    let before = c.loop-s.invariant in
    let all = before.value vs m calls o b chosen at is in
    let n = all.0 in
    let items = c.deref-s-items.result.now in
    let s = c.s-item.result in
    let rest = drop (c.loop-s.s-index + 1) items in
    let more = drop_at items c.loop-s.s-index s c.loop-s-test.true c.s-item.is in
    let first = block_more m all.1 (weighted_stmt s) (weighteds (map weighted_stmt rest)) (all.3 ∙ ap (λ l. plains m (weighteds (map weighted_stmt l))) more) in
    let this = run_statement l calls first.first in
    let now = chosen_later (extends_keeps before.extends) c.requires.run chosen in
    let step = c.in_ok-step.ensures.value vs m calls n first.first now all.2 first.plain_first in
    let kept = see_later (extends_keeps c.exec_stmt.ensures.extends) before.out vs in
    let after = see (reads c.take_step.new.g vs) slots c.take_step.new.out in
    let goes = statement_goes l calls m (see (reads c.loop-s.g vs) slots c.loop-s.out) after _ _ _ n all.1 (weighted_stmt s) (weighteds (map weighted_stmt rest)) first
    (c.in_ok-take_step.ensures.value vs) kept step all.4 in
    let next = c.in_ok-take_step.ensures.next vs ∙ ap (λ (x : Seen). x.next) step ∙ next_is n this in
    let none = rw c.in-None.is at next in
    sym (nothing_more after (onward n this) (run_block l calls first.rest) (sym none)) ∙ goes

pub exec_live-loop-s-preserved : goal.exec_live-loop-s-preserved
exec_live-loop-s-preserved g t c =
    let run = c.args.run.now in
    let items = c.deref-s-items.result.now in
    let s = c.s-item.result in
    let more = drop_at items c.loop-s.s-index s c.loop-s-test.true c.s-item.is in
    record {
      extends = extends_trans c.loop-s.invariant.extends (extends_trans c.exec_stmt.ensures.extends c.take_step.ensures.extends);
      here = (rw c.in-Some.is at c.in_ok-take_step.ensures.on).each.0;
      out = c.in_ok-take_step.ensures.held;
      typed = (subst (λ l. AreTyped (scope_in (g.C.Functions.signatures run.functions.now) run) (weighteds (map weighted_stmt l))) more c.loop-s.invariant.typed).1;
      picks = (subst (λ l. AllHavePicks run.picks.now (weighteds (map weighted_stmt l))) more c.loop-s.invariant.picks).1;
      value = λ vs m calls o b chosen at is.
          let reads = g.L.Logic.reads in
          let run = c.args.run.now in
          let slots = run.slots.now in
          let l = slots.limits in
          let before = c.loop-s.invariant in
          let all = before.value vs m calls o b chosen at is in
          let n = all.0 in
          let items = c.deref-s-items.result.now in
          let s = c.s-item.result in
          let rest = drop (c.loop-s.s-index + 1) items in
          let more = drop_at items c.loop-s.s-index s c.loop-s-test.true c.s-item.is in
          let first = block_more m all.1 (weighted_stmt s) (weighteds (map weighted_stmt rest)) (all.3 ∙ ap (λ l. plains m (weighteds (map weighted_stmt l))) more) in
          let this = run_statement l calls first.first in
          let now = chosen_later (extends_keeps before.extends) c.requires.run chosen in
          let step = c.in_ok-step.ensures.value vs m calls n first.first now all.2 first.plain_first in
          let kept = see_later (extends_keeps c.exec_stmt.ensures.extends) before.out vs in
          let after = see (reads c.take_step.new.g vs) slots c.take_step.new.out in
          let goes = statement_goes l calls m (see (reads c.loop-s.g vs) slots c.loop-s.out) after _ _ _ n all.1 (weighted_stmt s) (weighteds (map weighted_stmt rest)) first
          (c.in_ok-take_step.ensures.value vs) kept step all.4 in
          let next = c.in_ok-take_step.ensures.next vs ∙ ap (λ (x : Seen). x.next) step ∙ next_is n this in
          (onward n this, first.rest, rw c.in-Some.is at next, first.plain_rest, goes);
    }

pub exec_live-returns-clause-value : goal.exec_live-returns-clause-value
exec_live-returns-clause-value g t c vs m calls o b chosen at is =
    let slots = c.args.run.now.slots.now in
    let start = see (g.L.Logic.reads c.loop-s.g vs) slots c.loop-s.out in
    let all = c.loop-s.invariant.value vs m calls o b chosen at is in
    let items = c.deref-s-items.result.now in
    let none = block_end m all.1 (all.3 ∙ ap (λ l. plains m (weighteds (map weighted_stmt l))) (drop_all c.loop-s.s-index items c.loop-s-test.false)) in
    c.in_ok-add_next.ensures.value vs all.0 all.2 ∙ ap (λ (r : Block). and_seen start (seen_from all.0 (run_block slots.limits calls r))) (sym none) ∙ all.4

pub exec_arm-returns-clause-extends : goal.exec_arm-returns-clause-extends
exec_arm-returns-clause-extends g t c = extends_trans c.tested.ensures.extends c.exec_side.ensures.extends

pub exec_if-returns-in_err-add_part-clause-extends : goal.exec_if-returns-in_err-add_part-clause-extends
exec_if-returns-in_err-add_part-clause-extends g t c = extends_trans c.loop-arm.invariant.extends c.exec_arm.ensures.extends

pub exec_if-returns-in_err-add_part-2-clause-extends : goal.exec_if-returns-in_err-add_part-2-clause-extends
exec_if-returns-in_err-add_part-2-clause-extends g t c = extends_trans c.loop-arm.invariant.extends c.exec_else.ensures.extends

pub exec_while-returns-in_err-add_side-clause-extends : goal.exec_while-returns-in_err-add_side-clause-extends
exec_while-returns-in_err-add_side-clause-extends g t c = extends_trans c.turns.invariant.extends c.tested.ensures.extends

pub exec_while-returns-in_err-turn-clause-extends : goal.exec_while-returns-in_err-turn-clause-extends
exec_while-returns-in_err-turn-clause-extends g t c = extends_trans (extends_trans c.turns.invariant.extends c.tested.ensures.extends) c.exec_side.ensures.extends

pub exec_items-returns-in_err-add_side-clause-extends : goal.exec_items-returns-in_err-add_side-clause-extends
exec_items-returns-in_err-add_side-clause-extends g t c = extends_trans c.items.invariant.extends c.more_items.ensures.extends

pub exec_items-returns-in_err-round-clause-extends : goal.exec_items-returns-in_err-round-clause-extends
exec_items-returns-in_err-round-clause-extends g t c = extends_trans (extends_trans c.items.invariant.extends c.more_items.ensures.extends) c.exec_item.ensures.extends

pub exec_while-returns-in_err-take_turn-clause-extends : goal.exec_while-returns-in_err-take_turn-clause-extends
exec_while-returns-in_err-take_turn-clause-extends g t c = extends_trans (extends_trans (extends_trans c.turns.invariant.extends c.tested.ensures.extends) c.exec_side.ensures.extends) c.take_turn.ensures.extends

pub exec_items-returns-in_err-take_turn-clause-extends : goal.exec_items-returns-in_err-take_turn-clause-extends
exec_items-returns-in_err-take_turn-clause-extends g t c = extends_trans (extends_trans (extends_trans c.items.invariant.extends c.more_items.ensures.extends) c.exec_item.ensures.extends) c.take_turn.ensures.extends

-- each kind of statement

pub exec_stmt-exec_assign-requires-clause-typed : goal.exec_stmt-exec_assign-requires-clause-typed
exec_stmt-exec_assign-requires-clause-typed g t c =
    let run = c.args.run.now in
    let line = (out-WStmt c.args.s.now).line in
    let view = stmt_is c.args.s.now ∙ ap (λ (a : WAct). weighted_act a line) c.in-Assign.is ∙ assign_is c.in-Assign.x c.in-Assign.e line in
    subst (IsTyped (scope_in (g.C.Functions.signatures run.functions.now) run)) view c.requires.typed

pub exec_stmt-exec_assign-requires-clause-picks : goal.exec_stmt-exec_assign-requires-clause-picks
exec_stmt-exec_assign-requires-clause-picks g t c =
    let run = c.args.run.now in
    let line = (out-WStmt c.args.s.now).line in
    let view = stmt_is c.args.s.now ∙ ap (λ (a : WAct). weighted_act a line) c.in-Assign.is ∙ assign_is c.in-Assign.x c.in-Assign.e line in
    (subst (HasPicks run.picks.now) view c.requires.picks).0

pub exec_stmt-returns-in_ok-out-in-Assign-clause-value : goal.exec_stmt-returns-in_ok-out-in-Assign-clause-value
exec_stmt-returns-in_ok-out-in-Assign-clause-value g t c vs m calls o a chosen at is =
    let run = c.args.run.now in
    let line = (out-WStmt c.args.s.now).line in
    let view = stmt_is c.args.s.now ∙ ap (λ (a : WAct). weighted_act a line) c.in-Assign.is ∙ assign_is c.in-Assign.x c.in-Assign.e line in
    let parts = assign_parts run.slots.now.limits calls m a line c.in-Assign.x (weighted_of c.in-Assign.e) (is ∙ ap (plain m) view) in
    c.in_ok-out-in-Assign.ensures.value parts.line vs m calls o parts.part chosen at parts.plain ∙ ap (seen_from o) (sym parts.same)

pub exec_stmt-exec_augment-requires-clause-typed : goal.exec_stmt-exec_augment-requires-clause-typed
exec_stmt-exec_augment-requires-clause-typed g t c =
    let run = c.args.run.now in
    let line = (out-WStmt c.args.s.now).line in
    let view = stmt_is c.args.s.now ∙ ap (λ (a : WAct). weighted_act a line) c.in-Augment.is ∙ augment_is c.in-Augment.x c.in-Augment.op c.in-Augment.e line in
    subst (IsTyped (scope_in (g.C.Functions.signatures run.functions.now) run)) view c.requires.typed

pub exec_stmt-exec_augment-requires-clause-picks : goal.exec_stmt-exec_augment-requires-clause-picks
exec_stmt-exec_augment-requires-clause-picks g t c =
    let run = c.args.run.now in
    let line = (out-WStmt c.args.s.now).line in
    let view = stmt_is c.args.s.now ∙ ap (λ (a : WAct). weighted_act a line) c.in-Augment.is ∙ augment_is c.in-Augment.x c.in-Augment.op c.in-Augment.e line in
    (subst (HasPicks run.picks.now) view c.requires.picks).0

pub exec_stmt-returns-in_ok-out-in-Augment-clause-value : goal.exec_stmt-returns-in_ok-out-in-Augment-clause-value
exec_stmt-returns-in_ok-out-in-Augment-clause-value g t c vs m calls o a chosen at is =
    let run = c.args.run.now in
    let line = (out-WStmt c.args.s.now).line in
    let view = stmt_is c.args.s.now ∙ ap (λ (a : WAct). weighted_act a line) c.in-Augment.is ∙ augment_is c.in-Augment.x c.in-Augment.op c.in-Augment.e line in
    let parts = augment_parts run.slots.now.limits calls m a line c.in-Augment.x c.in-Augment.op (weighted_of c.in-Augment.e) (is ∙ ap (plain m) view) in
    c.in_ok-out-in-Augment.ensures.value parts.line vs m calls o parts.part chosen at parts.plain ∙ ap (seen_from o) (sym parts.same)

pub exec_stmt-exec_put-requires-clause-typed : goal.exec_stmt-exec_put-requires-clause-typed
exec_stmt-exec_put-requires-clause-typed g t c =
    let run = c.args.run.now in
    let line = (out-WStmt c.args.s.now).line in
    let view = stmt_is c.args.s.now ∙ ap (λ (a : WAct). weighted_act a line) c.in-Put.is ∙ put_is c.in-Put.x c.in-Put.i c.in-Put.e line in
    subst (IsTyped (scope_in (g.C.Functions.signatures run.functions.now) run)) view c.requires.typed

pub exec_stmt-exec_put-requires-clause-picks : goal.exec_stmt-exec_put-requires-clause-picks
exec_stmt-exec_put-requires-clause-picks g t c =
    let run = c.args.run.now in
    let line = (out-WStmt c.args.s.now).line in
    let view = stmt_is c.args.s.now ∙ ap (λ (a : WAct). weighted_act a line) c.in-Put.is ∙ put_is c.in-Put.x c.in-Put.i c.in-Put.e line in
    (subst (HasPicks run.picks.now) view c.requires.picks).0

pub exec_stmt-exec_put-requires-clause-picks_2 : goal.exec_stmt-exec_put-requires-clause-picks_2
exec_stmt-exec_put-requires-clause-picks_2 g t c =
    let run = c.args.run.now in
    let line = (out-WStmt c.args.s.now).line in
    let view = stmt_is c.args.s.now ∙ ap (λ (a : WAct). weighted_act a line) c.in-Put.is ∙ put_is c.in-Put.x c.in-Put.i c.in-Put.e line in
    (subst (HasPicks run.picks.now) view c.requires.picks).1.0

pub exec_stmt-returns-in_ok-out-in-Put-clause-value : goal.exec_stmt-returns-in_ok-out-in-Put-clause-value
exec_stmt-returns-in_ok-out-in-Put-clause-value g t c vs m calls o a chosen at is =
    let run = c.args.run.now in
    let line = (out-WStmt c.args.s.now).line in
    let view = stmt_is c.args.s.now ∙ ap (λ (a : WAct). weighted_act a line) c.in-Put.is ∙ put_is c.in-Put.x c.in-Put.i c.in-Put.e line in
    let parts = put_parts run.slots.now.limits calls m a line c.in-Put.x (weighted_of c.in-Put.i) (weighted_of c.in-Put.e) (is ∙ ap (plain m) view) in
    c.in_ok-out-in-Put.ensures.value parts.line vs m calls o parts.part chosen at parts.plain ∙ ap (seen_from o) (sym parts.same)

pub exec_stmt-exec_augment_at-requires-clause-typed : goal.exec_stmt-exec_augment_at-requires-clause-typed
exec_stmt-exec_augment_at-requires-clause-typed g t c =
    let run = c.args.run.now in
    let line = (out-WStmt c.args.s.now).line in
    let view = stmt_is c.args.s.now ∙ ap (λ (a : WAct). weighted_act a line) c.in-AugmentAt.is ∙ augment_at_is c.in-AugmentAt.x c.in-AugmentAt.i c.in-AugmentAt.op c.in-AugmentAt.e line in
    subst (IsTyped (scope_in (g.C.Functions.signatures run.functions.now) run)) view c.requires.typed

pub exec_stmt-exec_augment_at-requires-clause-picks : goal.exec_stmt-exec_augment_at-requires-clause-picks
exec_stmt-exec_augment_at-requires-clause-picks g t c =
    let run = c.args.run.now in
    let line = (out-WStmt c.args.s.now).line in
    let view = stmt_is c.args.s.now ∙ ap (λ (a : WAct). weighted_act a line) c.in-AugmentAt.is ∙ augment_at_is c.in-AugmentAt.x c.in-AugmentAt.i c.in-AugmentAt.op c.in-AugmentAt.e line in
    (subst (HasPicks run.picks.now) view c.requires.picks).0

pub exec_stmt-exec_augment_at-requires-clause-picks_2 : goal.exec_stmt-exec_augment_at-requires-clause-picks_2
exec_stmt-exec_augment_at-requires-clause-picks_2 g t c =
    let run = c.args.run.now in
    let line = (out-WStmt c.args.s.now).line in
    let view = stmt_is c.args.s.now ∙ ap (λ (a : WAct). weighted_act a line) c.in-AugmentAt.is ∙ augment_at_is c.in-AugmentAt.x c.in-AugmentAt.i c.in-AugmentAt.op c.in-AugmentAt.e line in
    (subst (HasPicks run.picks.now) view c.requires.picks).1.0

pub exec_stmt-returns-in_ok-out-in-AugmentAt-clause-value : goal.exec_stmt-returns-in_ok-out-in-AugmentAt-clause-value
exec_stmt-returns-in_ok-out-in-AugmentAt-clause-value g t c vs m calls o a chosen at is =
    let run = c.args.run.now in
    let line = (out-WStmt c.args.s.now).line in
    let view = stmt_is c.args.s.now ∙ ap (λ (a : WAct). weighted_act a line) c.in-AugmentAt.is ∙ augment_at_is c.in-AugmentAt.x c.in-AugmentAt.i c.in-AugmentAt.op c.in-AugmentAt.e line in
    let parts = augment_at_parts run.slots.now.limits calls m a line c.in-AugmentAt.x c.in-AugmentAt.op (weighted_of c.in-AugmentAt.i) (weighted_of c.in-AugmentAt.e) (is ∙ ap (plain m) view) in
    c.in_ok-out-in-AugmentAt.ensures.value parts.line vs m calls o parts.part chosen at parts.plain ∙ ap (seen_from o) (sym parts.same)

pub exec_stmt-exec_append-requires-clause-typed : goal.exec_stmt-exec_append-requires-clause-typed
exec_stmt-exec_append-requires-clause-typed g t c =
    let run = c.args.run.now in
    let line = (out-WStmt c.args.s.now).line in
    let view = stmt_is c.args.s.now ∙ ap (λ (a : WAct). weighted_act a line) c.in-Append.is ∙ append_is c.in-Append.x c.in-Append.e line in
    subst (IsTyped (scope_in (g.C.Functions.signatures run.functions.now) run)) view c.requires.typed

pub exec_stmt-exec_append-requires-clause-picks : goal.exec_stmt-exec_append-requires-clause-picks
exec_stmt-exec_append-requires-clause-picks g t c =
    let run = c.args.run.now in
    let line = (out-WStmt c.args.s.now).line in
    let view = stmt_is c.args.s.now ∙ ap (λ (a : WAct). weighted_act a line) c.in-Append.is ∙ append_is c.in-Append.x c.in-Append.e line in
    (subst (HasPicks run.picks.now) view c.requires.picks).0

pub exec_stmt-returns-in_ok-out-in-Append-clause-value : goal.exec_stmt-returns-in_ok-out-in-Append-clause-value
exec_stmt-returns-in_ok-out-in-Append-clause-value g t c vs m calls o a chosen at is =
    let run = c.args.run.now in
    let line = (out-WStmt c.args.s.now).line in
    let view = stmt_is c.args.s.now ∙ ap (λ (a : WAct). weighted_act a line) c.in-Append.is ∙ append_is c.in-Append.x c.in-Append.e line in
    let parts = append_parts run.slots.now.limits calls m a line c.in-Append.x (weighted_of c.in-Append.e) (is ∙ ap (plain m) view) in
    c.in_ok-out-in-Append.ensures.value parts.line vs m calls o parts.part chosen at parts.plain ∙ ap (seen_from o) (sym parts.same)

pub exec_stmt-exec_print-requires-clause-typed : goal.exec_stmt-exec_print-requires-clause-typed
exec_stmt-exec_print-requires-clause-typed g t c =
    let run = c.args.run.now in
    let line = (out-WStmt c.args.s.now).line in
    let view = stmt_is c.args.s.now ∙ ap (λ (a : WAct). weighted_act a line) c.in-Print.is ∙ print_is c.in-Print.e line in
    subst (IsTyped (scope_in (g.C.Functions.signatures run.functions.now) run)) view c.requires.typed

pub exec_stmt-exec_print-requires-clause-picks : goal.exec_stmt-exec_print-requires-clause-picks
exec_stmt-exec_print-requires-clause-picks g t c =
    let run = c.args.run.now in
    let line = (out-WStmt c.args.s.now).line in
    let view = stmt_is c.args.s.now ∙ ap (λ (a : WAct). weighted_act a line) c.in-Print.is ∙ print_is c.in-Print.e line in
    (subst (HasPicks run.picks.now) view c.requires.picks).0

pub exec_stmt-returns-in_ok-out-in-Print-clause-value : goal.exec_stmt-returns-in_ok-out-in-Print-clause-value
exec_stmt-returns-in_ok-out-in-Print-clause-value g t c vs m calls o a chosen at is =
    let run = c.args.run.now in
    let line = (out-WStmt c.args.s.now).line in
    let view = stmt_is c.args.s.now ∙ ap (λ (a : WAct). weighted_act a line) c.in-Print.is ∙ print_is c.in-Print.e line in
    let parts = print_parts run.slots.now.limits calls m a line (weighted_of c.in-Print.e) (is ∙ ap (plain m) view) in
    c.in_ok-out-in-Print.ensures.value parts.line vs m calls o parts.part chosen at parts.plain ∙ ap (seen_from o) (sym parts.same)

pub exec_stmt-exec_return-requires-clause-typed : goal.exec_stmt-exec_return-requires-clause-typed
exec_stmt-exec_return-requires-clause-typed g t c =
    let run = c.args.run.now in
    let line = (out-WStmt c.args.s.now).line in
    let view = stmt_is c.args.s.now ∙ ap (λ (a : WAct). weighted_act a line) c.in-Return.is ∙ return_is c.in-Return.e line in
    may_return (scope_in (g.C.Functions.signatures run.functions.now) run) line c.in-Return.e (subst (IsTyped (scope_in (g.C.Functions.signatures run.functions.now) run)) view c.requires.typed)

pub exec_stmt-exec_return-requires-clause-picks : goal.exec_stmt-exec_return-requires-clause-picks
exec_stmt-exec_return-requires-clause-picks g t c =
    let run = c.args.run.now in
    let line = (out-WStmt c.args.s.now).line in
    let view = stmt_is c.args.s.now ∙ ap (λ (a : WAct). weighted_act a line) c.in-Return.is ∙ return_is c.in-Return.e line in
    subst (HasPicks run.picks.now) view c.requires.picks

pub exec_stmt-returns-in_ok-out-in-Return-clause-value : goal.exec_stmt-returns-in_ok-out-in-Return-clause-value
exec_stmt-returns-in_ok-out-in-Return-clause-value g t c vs m calls o a chosen at is =
    let run = c.args.run.now in
    let line = (out-WStmt c.args.s.now).line in
    let view = stmt_is c.args.s.now ∙ ap (λ (a : WAct). weighted_act a line) c.in-Return.is ∙ return_is c.in-Return.e line in
    let parts = return_parts run.slots.now.limits calls m a line (maybe_weighted c.in-Return.e) (is ∙ ap (plain m) view) in
    c.in_ok-out-in-Return.ensures.value parts.line vs m calls o parts.part chosen at parts.plain ∙ ap (seen_from o) (sym parts.same)

pub exec_stmt-exec_if-requires : goal.exec_stmt-exec_if-requires
exec_stmt-exec_if-requires g t c κs h =
    let run = c.args.run.now in
    let line = (out-WStmt c.args.s.now).line in
    let view = stmt_is c.args.s.now ∙ ap (λ (a : WAct). weighted_act a line) c.in-If.is ∙ if_is c.in-If.arms c.in-If.last line in
    let less = ap nodes view in
    let typed = subst (IsTyped (scope_in (g.C.Functions.signatures run.functions.now) run)) view c.requires.typed in
    let picks = subst (HasPicks run.picks.now) view c.requires.picks in
    (omega (arith, less), (h.0, (h.1.0, (h.1.1, (c.requires.run, (c.requires.path, (typed, picks)))))))

pub exec_stmt-returns-in_ok-out-in-If-clause-value : goal.exec_stmt-returns-in_ok-out-in-If-clause-value
exec_stmt-returns-in_ok-out-in-If-clause-value g t c vs m calls o a chosen at is =
    let run = c.args.run.now in
    let line = (out-WStmt c.args.s.now).line in
    let view = stmt_is c.args.s.now ∙ ap (λ (a : WAct). weighted_act a line) c.in-If.is ∙ if_is c.in-If.arms c.in-If.last line in
    let parts = if_parts run.slots.now.limits calls m a line (weighted_arms c.in-If.arms) (weighted_else c.in-If.last) (is ∙ ap (plain m) view) in
    c.in_ok-out-in-If.ensures.value vs m calls o parts.part chosen at parts.plain ∙ ap (seen_from o) (sym parts.same)

pub exec_stmt-exec_while-requires : goal.exec_stmt-exec_while-requires
exec_stmt-exec_while-requires g t c κs h =
    let run = c.args.run.now in
    let line = (out-WStmt c.args.s.now).line in
    let view = stmt_is c.args.s.now ∙ ap (λ (a : WAct). weighted_act a line) c.in-While.is ∙ while_is c.in-While.e c.in-While.body line in
    let less = ap nodes view in
    let typed = subst (IsTyped (scope_in (g.C.Functions.signatures run.functions.now) run)) view c.requires.typed in
    let picks = subst (HasPicks run.picks.now) view c.requires.picks in
    (omega (arith, less), (h.0, (h.1.0, (h.1.1, (c.requires.run, (c.requires.path, (typed, picks)))))))

pub exec_stmt-returns-in_ok-out-in-While-clause-value : goal.exec_stmt-returns-in_ok-out-in-While-clause-value
exec_stmt-returns-in_ok-out-in-While-clause-value g t c vs m calls o a chosen at is =
    let run = c.args.run.now in
    let line = (out-WStmt c.args.s.now).line in
    let view = stmt_is c.args.s.now ∙ ap (λ (a : WAct). weighted_act a line) c.in-While.is ∙ while_is c.in-While.e c.in-While.body line in
    let parts = while_parts run.slots.now.limits calls m a line (weighted_of c.in-While.e) (weighted_body c.in-While.body) (is ∙ ap (plain m) view) in
    c.in_ok-out-in-While.ensures.value parts.line vs m calls o parts.part chosen at parts.plain ∙ ap (seen_from o) (sym parts.same)

pub exec_stmt-exec_for-requires : goal.exec_stmt-exec_for-requires
exec_stmt-exec_for-requires g t c κs h =
    let run = c.args.run.now in
    let line = (out-WStmt c.args.s.now).line in
    let view = stmt_is c.args.s.now ∙ ap (λ (a : WAct). weighted_act a line) c.in-For.is ∙ for_is c.in-For.x c.in-For.e c.in-For.body line in
    let less = ap nodes view in
    let typed = subst (IsTyped (scope_in (g.C.Functions.signatures run.functions.now) run)) view c.requires.typed in
    let picks = subst (HasPicks run.picks.now) view c.requires.picks in
    (omega (arith, less), (h.0, (h.1.0, (h.1.1, (c.requires.run, (c.requires.path, (typed, picks)))))))

pub exec_stmt-returns-in_ok-out-in-For-clause-value : goal.exec_stmt-returns-in_ok-out-in-For-clause-value
exec_stmt-returns-in_ok-out-in-For-clause-value g t c vs m calls o a chosen at is =
    let run = c.args.run.now in
    let line = (out-WStmt c.args.s.now).line in
    let view = stmt_is c.args.s.now ∙ ap (λ (a : WAct). weighted_act a line) c.in-For.is ∙ for_is c.in-For.x c.in-For.e c.in-For.body line in
    let parts = for_parts run.slots.now.limits calls m a line c.in-For.x (weighted_of c.in-For.e) (weighted_body c.in-For.body) (is ∙ ap (plain m) view) in
    c.in_ok-out-in-For.ensures.value parts.line vs m calls o parts.part chosen at parts.plain ∙ ap (seen_from o) (sym parts.same)

pub exec_stmt-returns-in_ok-out-in-Pass-clause-value : goal.exec_stmt-returns-in_ok-out-in-Pass-clause-value
exec_stmt-returns-in_ok-out-in-Pass-clause-value g t c vs m calls o a chosen at is =
    let run = c.args.run.now in
    let line = (out-WStmt c.args.s.now).line in
    let view = stmt_is c.args.s.now ∙ ap (λ (a : WAct). weighted_act a line) c.in-Pass.is ∙ pass_is line in
    c.in_ok-out-in-Pass.ensures.value vs o at ∙ ap (seen_from o) (sym (pass_parts run.slots.now.limits calls m a line (is ∙ ap (plain m) view)))

pub exec_stmt-returns-in_ok-out-in-Break-clause-value : goal.exec_stmt-returns-in_ok-out-in-Break-clause-value
exec_stmt-returns-in_ok-out-in-Break-clause-value g t c vs m calls o a chosen at is =
    let run = c.args.run.now in
    let line = (out-WStmt c.args.s.now).line in
    let view = stmt_is c.args.s.now ∙ ap (λ (a : WAct). weighted_act a line) c.in-Break.is ∙ break_is line in
    c.in_ok-out-in-Break.ensures.value vs o at ∙ ap (seen_from o) (sym (break_parts run.slots.now.limits calls m a line (is ∙ ap (plain m) view)))

pub exec_stmt-returns-in_ok-out-in-Continue-clause-value : goal.exec_stmt-returns-in_ok-out-in-Continue-clause-value
exec_stmt-returns-in_ok-out-in-Continue-clause-value g t c vs m calls o a chosen at is =
    let run = c.args.run.now in
    let line = (out-WStmt c.args.s.now).line in
    let view = stmt_is c.args.s.now ∙ ap (λ (a : WAct). weighted_act a line) c.in-Continue.is ∙ continue_is line in
    c.in_ok-out-in-Continue.ensures.value vs o at ∙ ap (seen_from o) (sym (continue_parts run.slots.now.limits calls m a line (is ∙ ap (plain m) view)))

-- an `if`
pub exec_if-loop-arm-init : goal.exec_if-loop-arm-init
exec_if-loop-arm-init g t c =
    let run = c.args.run.now in
    let slots = run.slots.now in
    let last = weighted_else c.args.last.now in
    let view = ap (λ ws. arms_before ws last) (arms_are c.args.arms.now ∙ ap (map weighted_arm) (sym c.deref-arm-items.ensures.value)) in
    record {
      extends = extends_refl;
      here = c.requires.path;
      out = c.no_way_out-out.ensures.held;
      typed = subst (AreTyped (scope_in (g.C.Functions.signatures run.functions.now) run)) view c.requires.typed;
      picks = subst (AllHavePicks run.picks.now) view c.requires.picks;
      value = λ vs m calls o p chosen at is. (o, p.0, at, is ∙ ap (plains m) view, ap (λ (x : Seen). and_seen x (seen_from o (run_if slots.limits calls p))) (c.no_way_out-out.ensures.value vs));
    }

pub exec_if-exec_arm-requires : goal.exec_if-exec_arm-requires
exec_if-exec_arm-requires g t c κs h =
    let run = c.args.run.now in
    let items = c.deref-arm-items.result.now in
    let a = c.arm-item.result in
    let last = weighted_else c.args.last.now in
    let more = drop_at items c.loop-arm.arm-index a c.loop-arm-test.true c.arm-item.is in
    let less = arm_smaller c.args.arms.now items last c.loop-arm.arm-index a c.deref-arm-items.ensures.value c.loop-arm-test.true c.arm-item.is in
    let typed = subst (λ l. AreTyped (scope_in (g.C.Functions.signatures run.functions.now) run) (arms_before (map weighted_arm l) last)) more c.loop-arm.invariant.typed in
    let picks = subst (λ l. AllHavePicks run.picks.now (arms_before (map weighted_arm l) last)) more c.loop-arm.invariant.picks in
    (omega (arith, less), (h.0, (h.1.0, (h.1.1, (body_later (extends_keeps c.loop-arm.invariant.extends) c.requires.run, (c.loop-arm.invariant.here, (typed.0, picks.0)))))))

pub exec_if-add_part-requires-clause-so_far : goal.exec_if-add_part-requires-clause-so_far
exec_if-add_part-requires-clause-so_far g t c = out_later (extends_keeps c.exec_arm.ensures.extends) c.loop-arm.invariant.out

pub exec_if-returns-in-None-clause-extends : goal.exec_if-returns-in-None-clause-extends
exec_if-returns-in-None-clause-extends g t c = extends_trans c.loop-arm.invariant.extends c.exec_arm.ensures.extends

pub exec_if-returns-in-None-clause-value : goal.exec_if-returns-in-None-clause-value
exec_if-returns-in-None-clause-value g t c vs m calls o p chosen at is =
    let reads = g.L.Logic.reads in
    let run = c.args.run.now in
    let slots = run.slots.now in
    let l = slots.limits in
    let last = weighted_else c.args.last.now in
    let before = c.loop-arm.invariant in
    let all = before.value vs m calls o p chosen at is in
    let n = all.0 in
    let items = c.deref-arm-items.result.now in
    let a = c.arm-item.result in
    let rest = arms_before (map weighted_arm (drop (c.loop-arm.arm-index + 1) items)) last in
    let more = drop_at items c.loop-arm.arm-index a c.loop-arm-test.true c.arm-item.is in
    let arm = out-WArm a in
    let first = arms_more m all.1 p.1 arm.line (weighted_arm a) (weighted_of arm.test) (weighted_body arm.body) rest (arm_is a) (all.3 ∙ ap (λ l. plains m (arms_before (map weighted_arm l) last)) more) in
    let now = chosen_later (extends_keeps before.extends) c.requires.run chosen in
    let tried = c.in_ok-tried.ensures.value vs m calls n first.first now all.2 first.plain_first in
    let kept = see_later (extends_keeps c.exec_arm.ensures.extends) before.out vs in
    let after = see (reads c.exec_arm.new.g vs) slots c.add_part.new.out in
    let goes = arm_goes l calls m (see (reads c.loop-arm.g vs) slots c.loop-arm.out) after _ _ _ n tried.0 all.1 p.1 (weighted_arm a) rest first
    (c.in_ok-add_part.ensures.value vs) kept tried.2 all.4 in
    let none = rw c.in-None.is at tried.1 in
    sym (nothing_more after tried.0 (run_if l calls (first.rest, p.1)) (sym none)) ∙ goes

pub exec_if-loop-arm-preserved : goal.exec_if-loop-arm-preserved
exec_if-loop-arm-preserved g t c =
    let run = c.args.run.now in
    let items = c.deref-arm-items.result.now in
    let a = c.arm-item.result in
    let last = weighted_else c.args.last.now in
    let more = drop_at items c.loop-arm.arm-index a c.loop-arm-test.true c.arm-item.is in
    record {
      extends = extends_trans c.loop-arm.invariant.extends c.exec_arm.ensures.extends;
      here = (rw c.in-Some.is at c.in_ok-tried.ensures.other).each.0;
      out = c.in_ok-add_part.ensures.held;
      typed = (subst (λ l. AreTyped (scope_in (g.C.Functions.signatures run.functions.now) run) (arms_before (map weighted_arm l) last)) more c.loop-arm.invariant.typed).1;
      picks = (subst (λ l. AllHavePicks run.picks.now (arms_before (map weighted_arm l) last)) more c.loop-arm.invariant.picks).1;
      value = λ vs m calls o p chosen at is.
          let reads = g.L.Logic.reads in
          let run = c.args.run.now in
          let slots = run.slots.now in
          let l = slots.limits in
          let last = weighted_else c.args.last.now in
          let before = c.loop-arm.invariant in
          let all = before.value vs m calls o p chosen at is in
          let n = all.0 in
          let items = c.deref-arm-items.result.now in
          let a = c.arm-item.result in
          let rest = arms_before (map weighted_arm (drop (c.loop-arm.arm-index + 1) items)) last in
          let more = drop_at items c.loop-arm.arm-index a c.loop-arm-test.true c.arm-item.is in
          let arm = out-WArm a in
          let first = arms_more m all.1 p.1 arm.line (weighted_arm a) (weighted_of arm.test) (weighted_body arm.body) rest (arm_is a) (all.3 ∙ ap (λ l. plains m (arms_before (map weighted_arm l) last)) more) in
          let now = chosen_later (extends_keeps before.extends) c.requires.run chosen in
          let tried = c.in_ok-tried.ensures.value vs m calls n first.first now all.2 first.plain_first in
          let kept = see_later (extends_keeps c.exec_arm.ensures.extends) before.out vs in
          let after = see (reads c.exec_arm.new.g vs) slots c.add_part.new.out in
          let goes = arm_goes l calls m (see (reads c.loop-arm.g vs) slots c.loop-arm.out) after _ _ _ n tried.0 all.1 p.1 (weighted_arm a) rest first
          (c.in_ok-add_part.ensures.value vs) kept tried.2 all.4 in
          (tried.0, first.rest, rw c.in-Some.is at tried.1, first.plain_rest, goes);
    }

pub exec_if-exec_else-requires : goal.exec_if-exec_else-requires
exec_if-exec_else-requires g t c κs h =
    let run = c.args.run.now in
    let items = c.deref-arm-items.result.now in
    let last = weighted_else c.args.last.now in
    let none = drop_all c.loop-arm.arm-index items c.loop-arm-test.false in
    let less = else_smaller (weighted_arms c.args.arms.now) last in
    let typed = subst (λ l. AreTyped (scope_in (g.C.Functions.signatures run.functions.now) run) (arms_before (map weighted_arm l) last)) none c.loop-arm.invariant.typed in
    let picks = subst (λ l. AllHavePicks run.picks.now (arms_before (map weighted_arm l) last)) none c.loop-arm.invariant.picks in
    (omega (arith, less), (h.0, (h.1.0, (h.1.1, (body_later (extends_keeps c.loop-arm.invariant.extends) c.requires.run, (c.loop-arm.invariant.here, (typed, picks)))))))

pub exec_if-add_part-requires-2-clause-so_far : goal.exec_if-add_part-requires-2-clause-so_far
exec_if-add_part-requires-2-clause-so_far g t c = out_later (extends_keeps c.exec_else.ensures.extends) c.loop-arm.invariant.out

pub exec_if-returns-clause-extends : goal.exec_if-returns-clause-extends
exec_if-returns-clause-extends g t c = extends_trans c.loop-arm.invariant.extends c.exec_else.ensures.extends

pub exec_if-returns-clause-value : goal.exec_if-returns-clause-value
exec_if-returns-clause-value g t c vs m calls o p chosen at is =
    let reads = g.L.Logic.reads in
    let run = c.args.run.now in
    let slots = run.slots.now in
    let last = weighted_else c.args.last.now in
    let before = c.loop-arm.invariant in
    let all = before.value vs m calls o p chosen at is in
    let items = c.deref-arm-items.result.now in
    let none = arms_end m all.1 p.1 c.args.last.now (all.3 ∙ ap (λ l. plains m (arms_before (map weighted_arm l) last)) (drop_all c.loop-arm.arm-index items c.loop-arm-test.false)) in
    let now = chosen_later (extends_keeps before.extends) c.requires.run chosen in
    let part = c.in_ok-part.ensures.value vs m calls all.0 p.1 now all.2 none.1 in
    let kept = see_later (extends_keeps c.exec_else.ensures.extends) before.out vs in
    last_goes slots.limits calls m (see (reads c.loop-arm.g vs) slots c.loop-arm.out) _ _ _ _ all.0 all.1 p.1 none.0 (c.in_ok-add_part-2.ensures.value vs) kept part all.4

-- one arm
pub exec_arm-tested-requires-clause-typed : goal.exec_arm-tested-requires-clause-typed
exec_arm-tested-requires-clause-typed g t c =
    let run = c.args.run.now in
    (subst (IsTyped (scope_in (g.C.Functions.signatures run.functions.now) run)) (arm_is c.args.arm.now) c.requires.typed).0

pub exec_arm-tested-requires-clause-picks : goal.exec_arm-tested-requires-clause-picks
exec_arm-tested-requires-clause-picks g t c = (subst (HasPicks c.args.run.now.picks.now) (arm_is c.args.arm.now) c.requires.picks).0

pub exec_arm-exec_side-requires : goal.exec_arm-exec_side-requires
exec_arm-exec_side-requires g t c κs h =
    let run = c.args.run.now in
    let less = body_smaller c.args.arm.now in
    let typed = subst (IsTyped (scope_in (g.C.Functions.signatures run.functions.now) run)) (arm_is c.args.arm.now) c.requires.typed in
    let picks = subst (HasPicks run.picks.now) (arm_is c.args.arm.now) c.requires.picks in
    (omega (arith, less), (h.0, (h.1.0, (h.1.1, (body_later (extends_keeps c.tested.ensures.extends) c.requires.run, (c.in_ok-sides.ensures.held_yes, (typed.1, picks.1.0)))))))

pub exec_arm-returns-clause-other : goal.exec_arm-returns-clause-other
exec_arm-returns-clause-other g t c = paths_later (extends_keeps c.exec_side.ensures.extends) c.in_ok-sides.ensures.held_no

pub exec_arm-returns-clause-value : goal.exec_arm-returns-clause-value
exec_arm-returns-clause-value g t c vs m calls o a chosen at is =
    let slots = c.args.run.now.slots.now in
    let l = slots.limits in
    let arm = out-WArm c.args.arm.now in
    let parts = arm_parts l calls m a arm.line (weighted_of arm.test) (weighted_body arm.body) (is ∙ ap (plain m) (arm_is c.args.arm.now)) in
    let test = λ (s : State). value_at l calls s parts.0 parts.1 in
    let yes = c.in_ok-sides.ensures.yes vs m calls o parts.0 parts.1 chosen at parts.3 in
    let no = c.in_ok-sides.ensures.no vs m calls o parts.0 parts.1 chosen at parts.3 in
    let off = all_lead_later slots vs (extends_keeps c.exec_side.ensures.extends) c.in_ok-sides.ensures.held_no no in
    let now = chosen_later (extends_keeps c.tested.ensures.extends) c.requires.run chosen in
    let part = c.in_ok-part.ensures.value vs m calls (passes o test) parts.2 now yes parts.4 in
    (misses o test, off, λ rest. one_arm l calls m a parts.0 parts.1 parts.2 _ o rest parts.5 part)

-- the last body
pub exec_else-returns-in_ok-out-in-None-clause-value : goal.exec_else-returns-in_ok-out-in-None-clause-value
exec_else-returns-in_ok-out-in-None-clause-value g t c vs m calls o b chosen at is =
    c.in_ok-out-in-None.ensures.value vs o at ∙ ap (seen_from o) (sym (else_none c.args.run.now.slots.now.limits calls m c.args.last.now b c.in-None.is is))

pub exec_else-exec_live-requires : goal.exec_else-exec_live-requires
exec_else-exec_live-requires g t c κs h =
    let run = c.args.run.now in
    let view = ap weighted_else c.in-Some.is in
    let less = ap nodes_in view in
    let typed = subst (AreTyped (scope_in (g.C.Functions.signatures run.functions.now) run)) view c.requires.typed in
    let picks = subst (AllHavePicks run.picks.now) view c.requires.picks in
    (omega (arith, less), (h.0, (h.1.0, (h.1.1, (c.requires.run, (c.requires.path, (typed.0, picks.0)))))))

pub exec_else-returns-in_ok-out-in-Some-clause-value : goal.exec_else-returns-in_ok-out-in-Some-clause-value
exec_else-returns-in_ok-out-in-Some-clause-value g t c vs m calls o b chosen at is =
    let body = else_some c.args.run.now.slots.now.limits calls m c.args.last.now c.in-Some.body b c.in-Some.is is in
    c.in_ok-out-in-Some.ensures.value vs m calls o body.0 chosen at body.1 ∙ ap (seen_from o) (sym body.2)

-- a `while`
pub exec_while-turns-init : goal.exec_while-turns-init
exec_while-turns-init g t c =
    let slots = c.args.run.now.slots.now in
    record {
      extends = extends_refl;
      here = c.requires.path;
      out = c.no_way_out-out.ensures.held;
      value = λ vs m calls o line p chosen at is. (o, at, ap (λ (x : Seen). and_seen x (seen_from o (run_while line slots.limits calls p))) (c.no_way_out-out.ensures.value vs));
    }

pub exec_while-tested-requires : goal.exec_while-tested-requires
exec_while-tested-requires g t c = record {
  run = body_later (extends_keeps c.turns.invariant.extends) c.requires.run;
  path = c.turns.invariant.here;
  typed = c.requires.typed.0;
  picks = c.requires.picks.0;
}

pub exec_while-add_side-requires-clause-so_far : goal.exec_while-add_side-requires-clause-so_far
exec_while-add_side-requires-clause-so_far g t c = out_later (extends_keeps c.tested.ensures.extends) c.turns.invariant.out

pub exec_while-returns-then-left-eq0-clause-extends : goal.exec_while-returns-then-left-eq0-clause-extends
exec_while-returns-then-left-eq0-clause-extends g t c = extends_trans c.turns.invariant.extends c.tested.ensures.extends

pub exec_while-returns-then-left-eq0-clause-value : goal.exec_while-returns-then-left-eq0-clause-value
exec_while-returns-then-left-eq0-clause-value g t c line vs m calls o p chosen at is =
    let reads = g.L.Logic.reads in
    let slots = c.args.run.now.slots.now in
    let l = slots.limits in
    let before = c.turns.invariant in
    let all = before.value vs m calls o line p chosen at is in
    let n = all.0 in
    let test = λ (s : State). value_at l calls s line p.0 in
    let now = chosen_later (extends_keeps before.extends) c.requires.run chosen in
    let no = c.in_ok-sides.ensures.no vs m calls n line p.0 now all.1 is.0 in
    let start = see (reads c.turns.g vs) slots c.turns.out in
    let kept = see_later (extends_keeps c.tested.ensures.extends) before.out vs in
    let left = c.in_ok-add_side.ensures.value vs (misses n test) no ∙ ap (λ (x : Seen). and_seen x (seen_from (misses n test) Next)) kept in
    last_turn_goes start _ _ n test (run_block l calls p.1) c.turns.left line c.if-left-eq0.true left all.2

pub exec_while-exec_side-requires : goal.exec_while-exec_side-requires
exec_while-exec_side-requires g t c κs h =
    let both = extends_keeps (extends_trans c.turns.invariant.extends c.tested.ensures.extends) in
    (omega arith, (h.0, (h.1.0, (h.1.1, (body_later both c.requires.run, (c.in_ok-sides.ensures.held_yes, (c.requires.typed.1, c.requires.picks.1.0)))))))

pub exec_while-take_turn-requires-clause-so_far : goal.exec_while-take_turn-requires-clause-so_far
exec_while-take_turn-requires-clause-so_far g t c = out_later (extends_keeps c.exec_side.ensures.extends) c.in_ok-add_side.ensures.held

pub exec_while-returns-in-None-clause-extends : goal.exec_while-returns-in-None-clause-extends
exec_while-returns-in-None-clause-extends g t c = extends_trans (extends_trans (extends_trans c.turns.invariant.extends c.tested.ensures.extends) c.exec_side.ensures.extends) c.take_turn.ensures.extends

pub exec_while-returns-in-None-clause-value : goal.exec_while-returns-in-None-clause-value
exec_while-returns-in-None-clause-value g t c line vs m calls o p chosen at is =
    let reads = g.L.Logic.reads in
    let slots = c.args.run.now.slots.now in
    let l = slots.limits in
    let before = c.turns.invariant in
    let all = before.value vs m calls o line p chosen at is in
    let n = all.0 in
    let test = λ (s : State). value_at l calls s line p.0 in
    let now = chosen_later (extends_keeps before.extends) c.requires.run chosen in
    let no = c.in_ok-sides.ensures.no vs m calls n line p.0 now all.1 is.0 in
    let start = see (reads c.turns.g vs) slots c.turns.out in
    let kept = see_later (extends_keeps c.tested.ensures.extends) before.out vs in
    let left = c.in_ok-add_side.ensures.value vs (misses n test) no ∙ ap (λ (x : Seen). and_seen x (seen_from (misses n test) Next)) kept in
    let body = run_block l calls p.1 in
    let yes = c.in_ok-sides.ensures.yes vs m calls n line p.0 now all.1 is.0 in
    let then = chosen_later (extends_keeps (extends_trans before.extends c.tested.ensures.extends)) c.requires.run chosen in
    let turn = c.in_ok-turn.ensures.value vs m calls (passes n test) p.1 then yes is.1 in
    let out = see_later (extends_keeps c.exec_side.ensures.extends) c.in_ok-add_side.ensures.held vs in
    let after = see (reads c.take_turn.new.g vs) slots c.take_turn.new.out in
    let goes = turn_goes start _ after _ _ _ n test body c.turns.left line (omega arith) left (c.in_ok-take_turn.ensures.value vs) out turn all.2 in
    let next = c.in_ok-take_turn.ensures.next vs ∙ ap (λ (x : Seen). or_other x.next x.continued) turn ∙ again_is (passes n test) body in
    let none = rw c.in-None.is at next in
    sym (nothing_more after (again (passes n test) body) (while_turns (c.turns.left - 1) test body line) (sym none)) ∙ goes

pub exec_while-turns-preserved : goal.exec_while-turns-preserved
exec_while-turns-preserved g t c = record {
  extends = extends_trans (extends_trans (extends_trans c.turns.invariant.extends c.tested.ensures.extends) c.exec_side.ensures.extends) c.take_turn.ensures.extends;
  here = (rw c.in-Some.is at c.in_ok-take_turn.ensures.on).each.0;
  out = c.in_ok-take_turn.ensures.held;
  value = λ vs m calls o line p chosen at is.
      let reads = g.L.Logic.reads in
      let slots = c.args.run.now.slots.now in
      let l = slots.limits in
      let before = c.turns.invariant in
      let all = before.value vs m calls o line p chosen at is in
      let n = all.0 in
      let test = λ (s : State). value_at l calls s line p.0 in
      let now = chosen_later (extends_keeps before.extends) c.requires.run chosen in
      let no = c.in_ok-sides.ensures.no vs m calls n line p.0 now all.1 is.0 in
      let start = see (reads c.turns.g vs) slots c.turns.out in
      let kept = see_later (extends_keeps c.tested.ensures.extends) before.out vs in
      let left = c.in_ok-add_side.ensures.value vs (misses n test) no ∙ ap (λ (x : Seen). and_seen x (seen_from (misses n test) Next)) kept in
      let body = run_block l calls p.1 in
      let yes = c.in_ok-sides.ensures.yes vs m calls n line p.0 now all.1 is.0 in
      let then = chosen_later (extends_keeps (extends_trans before.extends c.tested.ensures.extends)) c.requires.run chosen in
      let turn = c.in_ok-turn.ensures.value vs m calls (passes n test) p.1 then yes is.1 in
      let out = see_later (extends_keeps c.exec_side.ensures.extends) c.in_ok-add_side.ensures.held vs in
      let after = see (reads c.take_turn.new.g vs) slots c.take_turn.new.out in
      let goes = turn_goes start _ after _ _ _ n test body c.turns.left line (omega arith) left (c.in_ok-take_turn.ensures.value vs) out turn all.2 in
      let next = c.in_ok-take_turn.ensures.next vs ∙ ap (λ (x : Seen). or_other x.next x.continued) turn ∙ again_is (passes n test) body in
      (again (passes n test) body, rw c.in-Some.is at next, goes);
}

-- a `for`
pub exec_for-eval_on-requires-clause-typed : goal.exec_for-eval_on-requires-clause-typed
exec_for-eval_on-requires-clause-typed g t c =
    let run = c.args.run.now in
    let typed = gone_over (scope_in (g.C.Functions.signatures run.functions.now) run) c.args.each.name.now (weighted_of c.args.each.place.now) c.requires.typed.0 in
    ap is_some typed.2

pub exec_for-eval_on-requires-clause-picks : goal.exec_for-eval_on-requires-clause-picks
exec_for-eval_on-requires-clause-picks g t c = c.requires.picks.0

pub exec_for-narrow-requires-clause-held : goal.exec_for-narrow-requires-clause-held
exec_for-narrow-requires-clause-held g t c = path_later (extends_keeps c.eval_on.ensures.extends) c.requires.path

pub exec_for-not-fine-requires : goal.exec_for-not-fine-requires
exec_for-not-fine-requires g t c =
    let run = c.args.run.now in
    let sigs = g.C.Functions.signatures run.functions.now in
    let slots = run.slots.now in
    let l = slots.limits in
    let x = c.in_ok-list.list.value in
    let typed = gone_over (scope_in sigs run) c.args.each.name.now (weighted_of c.args.each.place.now) c.requires.typed.0 in
    let made = c.in_ok-list.ensures.made typed.1 typed.2 in
    let type = type_is l typed.1 x made.form in
    let some = ap member_of type ∙ typed.3 in
    made.owned_fault

pub exec_for-exec_items-requires : goal.exec_for-exec_items-requires
exec_for-exec_items-requires g t c κs h =
    let run = c.args.run.now in
    let sigs = g.C.Functions.signatures run.functions.now in
    let slots = run.slots.now in
    let l = slots.limits in
    let x = c.in_ok-list.list.value in
    let typed = gone_over (scope_in sigs run) c.args.each.name.now (weighted_of c.args.each.place.now) c.requires.typed.0 in
    let made = c.in_ok-list.ensures.made typed.1 typed.2 in
    let type = type_is l typed.1 x made.form in
    let some = ap member_of type ∙ typed.3 in
    let narrowed = extends_keeps c.narrow.ensures.extends in
    let both = extends_keeps (extends_trans c.eval_on.ensures.extends c.narrow.ensures.extends) in
    let part = typed_as l typed.1 c.in_ok-list.list (outcome_in_later narrowed made) in
    let local = sym (local_type_is sigs slots c.args.each.name.now) ∙ typed.4 in
    let value : IsTypedIn g.L.Logic.owns c.narrow.new.g l x = record { owned = part.owned; form = part.form } in
    (omega arith, (h.0, (h.1.0, (h.1.1, (body_later both c.requires.run, (c.in_ok-here.ensures.held, (value, ((typed.0, local, some), (c.requires.typed.1, c.requires.picks.1.0)))))))))

pub exec_for-returns-clause-extends : goal.exec_for-returns-clause-extends
exec_for-returns-clause-extends g t c = extends_trans (extends_trans c.eval_on.ensures.extends c.narrow.ensures.extends) c.exec_items.ensures.extends

pub exec_for-returns-clause-value : goal.exec_for-returns-clause-value
exec_for-returns-clause-value g t c line vs m calls o p chosen at is =
    let run = c.args.run.now in
    let sigs = g.C.Functions.signatures run.functions.now in
    let slots = run.slots.now in
    let l = slots.limits in
    let x = c.in_ok-list.list.value in
    let typed = gone_over (scope_in sigs run) c.args.each.name.now (weighted_of c.args.each.place.now) c.requires.typed.0 in
    let made = c.in_ok-list.ensures.made typed.1 typed.2 in
    let type = type_is l typed.1 x made.form in
    let some = ap member_of type ∙ typed.3 in
    let reads = g.L.Logic.reads in
    let mid = reads c.eval_on.new.g vs in
    let fault = c.in_ok-list.list.fault in
    let value = λ (s : State). value_at l calls s line p.0 in
    let k = λ (s : State). given_items line (value s) in
    let has = λ (v : Value) (e : read mid x ≡ sure v). has_members mid x v (ap is_some some) e in
    let gives = λ (s : State) (e : o ≡ Some s). c.in_ok-list.ensures.value vs m calls s line p.0 chosen (at ∙ ap reached e) is.0 in
    let here = leads_later slots vs (extends_keeps c.eval_on.ensures.extends) c.requires.path at in
    let fine_bit = c.not-fine.ensures.value vs in
    let on = rw fine_bit at (c.in_ok-here.ensures.value vs) in
    let lead = leads_fine _ (gone_way slots (way mid c.args.path ∷ [])) o (mid fault) k here (λ s e. fault_is line (mid fault) (read mid x) (value s) has (gives s e)) on in
    let both = extends_keeps (extends_trans c.eval_on.ensures.extends c.narrow.ensures.extends) in
    let have = items_later vs x (fine o k) (items o k) (extends_keeps c.narrow.ensures.extends) made.owned (items_first line mid x has (mid fault) o value gives) in
    let now = chosen_later both c.requires.run chosen in
    c.in_ok-out.ensures.value vs m calls (fine o k) p.1 (items o k) line now lead have is.1
    ∙ items_show o k l.turns c.args.each.name.now (run_block l calls p.1) line

pub exec_items-items-init : goal.exec_items-items-init
exec_items-items-init g t c =
    let slots = c.args.run.now.slots.now in
    let l = slots.limits in
    record {
      extends = extends_refl;
      here = c.requires.path;
      out = c.no_way_out-out.ensures.held;
      place = omega arith;
      value = λ vs m calls o b ms line chosen at has is. (o, at, has, ap (λ (y : Seen). and_seen y (seen_from o (for_turns ms l.turns c.args.over.name.now (run_block l calls b) line))) (c.no_way_out-out.ensures.value vs));
    }

pub exec_items-more_items-requires : goal.exec_items-more_items-requires
exec_items-more_items-requires g t c =
    let l = c.args.run.now.slots.now.limits in
    let list = c.args.over.list.now in
    let some = ap is_some c.requires.item.2 in
    let later = value_in_later (extends_keeps c.items.invariant.extends) c.requires.list in
    let room = sequence_room l list c.requires.list.form some in
    let within = c.items.invariant.place in
    record { path = c.items.invariant.here; list = sequence_in l list later some; place = omega (arith, room, within) }

pub exec_items-add_side-requires-clause-so_far : goal.exec_items-add_side-requires-clause-so_far
exec_items-add_side-requires-clause-so_far g t c = out_later (extends_keeps c.more_items.ensures.extends) c.items.invariant.out

pub exec_items-exec_item-requires : goal.exec_items-exec_item-requires
exec_items-exec_item-requires g t c κs h =
    let l = c.args.run.now.slots.now.limits in
    let list = c.args.over.list.now in
    let some = ap is_some c.requires.item.2 in
    let both = extends_keeps (extends_trans c.items.invariant.extends c.more_items.ensures.extends) in
    let room = sequence_room l list c.requires.list.form some in
    let within = c.items.invariant.place in
    (omega arith, (h.0, (h.1.0, (h.1.1, (body_later both c.requires.run, (c.in_ok-sides.ensures.held_yes, (value_in_later both c.requires.list, (c.requires.item, (omega (arith, room, within), (c.requires.typed, c.requires.picks))))))))))

pub exec_items-take_turn-requires-clause-so_far : goal.exec_items-take_turn-requires-clause-so_far
exec_items-take_turn-requires-clause-so_far g t c = out_later (extends_keeps c.exec_item.ensures.extends) c.in_ok-add_side.ensures.held

pub exec_items-returns-then-place-run-clause-value : goal.exec_items-returns-then-place-run-clause-value
exec_items-returns-then-place-run-clause-value g t c vs m calls o b ms line chosen at has is =
    let reads = g.L.Logic.reads in
    let slots = c.args.run.now.slots.now in
    let l = slots.limits in
    let list = c.args.over.list.now in
    let x = c.args.over.name.now in
    let body = run_block l calls b in
    let before = c.items.invariant in
    let all = before.value vs m calls o b ms line chosen at has is in
    let n = all.0 in
    let i = c.items.place in
    let start = see (reads c.items.g vs) slots c.items.out in
    let some = ap is_some c.requires.item.2 in
    let room = sequence_room l list c.requires.list.form some in
    let none = λ (s : State) (e : n ≡ Some s). few_items (reads c.args.g.now vs) list ms i (all.2 s e) (omega (arith, room)) in
    none_goes start _ _ n (drop i ms) x body c.items.turns line none (c.in_ok-add_next.ensures.value vs n all.1) all.3

pub exec_items-returns-then-turns-eq0-clause-extends : goal.exec_items-returns-then-turns-eq0-clause-extends
exec_items-returns-then-turns-eq0-clause-extends g t c = extends_trans c.items.invariant.extends c.more_items.ensures.extends

pub exec_items-returns-then-turns-eq0-clause-value : goal.exec_items-returns-then-turns-eq0-clause-value
exec_items-returns-then-turns-eq0-clause-value g t c vs m calls o b ms line chosen at has is =
    let reads = g.L.Logic.reads in
    let slots = c.args.run.now.slots.now in
    let l = slots.limits in
    let list = c.args.over.list.now in
    let x = c.args.over.name.now in
    let body = run_block l calls b in
    let before = c.items.invariant in
    let all = before.value vs m calls o b ms line chosen at has is in
    let n = all.0 in
    let i = c.items.place in
    let start = see (reads c.items.g vs) slots c.items.out in
    let have = items_later vs list n ms (extends_keeps before.extends) c.requires.list.owned all.2 in
    let leave = leaving n (drop i ms) in
    let no = c.in_ok-sides.ensures.no vs n ms all.1 have in
    let kept = see_later (extends_keeps c.more_items.ensures.extends) before.out vs in
    let left = c.in_ok-add_side.ensures.value vs leave no ∙ ap (λ (y : Seen). and_seen y (seen_from leave Next)) kept in
    last_item_goes start _ _ n (drop i ms) x body c.items.turns line c.if-turns-eq0.true left all.3

pub exec_items-returns-in-None-clause-extends : goal.exec_items-returns-in-None-clause-extends
exec_items-returns-in-None-clause-extends g t c = extends_trans (extends_trans (extends_trans c.items.invariant.extends c.more_items.ensures.extends) c.exec_item.ensures.extends) c.take_turn.ensures.extends

pub exec_items-returns-in-None-clause-value : goal.exec_items-returns-in-None-clause-value
exec_items-returns-in-None-clause-value g t c vs m calls o b ms line chosen at has is =
    let reads = g.L.Logic.reads in
    let slots = c.args.run.now.slots.now in
    let l = slots.limits in
    let list = c.args.over.list.now in
    let x = c.args.over.name.now in
    let body = run_block l calls b in
    let before = c.items.invariant in
    let all = before.value vs m calls o b ms line chosen at has is in
    let n = all.0 in
    let i = c.items.place in
    let start = see (reads c.items.g vs) slots c.items.out in
    let have = items_later vs list n ms (extends_keeps before.extends) c.requires.list.owned all.2 in
    let leave = leaving n (drop i ms) in
    let no = c.in_ok-sides.ensures.no vs n ms all.1 have in
    let kept = see_later (extends_keeps c.more_items.ensures.extends) before.out vs in
    let left = c.in_ok-add_side.ensures.value vs leave no ∙ ap (λ (y : Seen). and_seen y (seen_from leave Next)) kept in
    let enter = entering n x (drop i ms) in
    let yes = c.in_ok-sides.ensures.yes vs n ms all.1 have in
    let then = extends_keeps (extends_trans before.extends c.more_items.ensures.extends) in
    let now = chosen_later then c.requires.run chosen in
    let late = items_later vs list n ms then c.requires.list.owned all.2 in
    let turn = c.in_ok-round.ensures.value vs m calls n b ms now yes late is in
    let out = see_later (extends_keeps c.exec_item.ensures.extends) c.in_ok-add_side.ensures.held vs in
    let after = see (reads c.take_turn.new.g vs) slots c.take_turn.new.out in
    let goes = item_goes start _ after _ _ _ n ms x body i c.items.turns line (omega arith) left (c.in_ok-take_turn.ensures.value vs) out turn all.3 in
    let next = c.in_ok-take_turn.ensures.next vs ∙ ap (λ (y : Seen). or_other y.next y.continued) turn ∙ again_is enter body in
    let none = rw c.in-None.is at next in
    sym (nothing_more after (again enter body) (for_turns (drop (i + 1) ms) (c.items.turns - 1) x body line) (sym none)) ∙ goes

pub exec_items-items-preserved : goal.exec_items-items-preserved
exec_items-items-preserved g t c = record {
  extends = extends_trans (extends_trans (extends_trans c.items.invariant.extends c.more_items.ensures.extends) c.exec_item.ensures.extends) c.take_turn.ensures.extends;
  here = (rw c.in-Some.is at c.in_ok-take_turn.ensures.on).each.0;
  out = c.in_ok-take_turn.ensures.held;
  place = omega arith;
  value = λ vs m calls o b ms line chosen at has is.
      let reads = g.L.Logic.reads in
      let slots = c.args.run.now.slots.now in
      let l = slots.limits in
      let list = c.args.over.list.now in
      let x = c.args.over.name.now in
      let body = run_block l calls b in
      let before = c.items.invariant in
      let all = before.value vs m calls o b ms line chosen at has is in
      let n = all.0 in
      let i = c.items.place in
      let start = see (reads c.items.g vs) slots c.items.out in
      let have = items_later vs list n ms (extends_keeps before.extends) c.requires.list.owned all.2 in
      let leave = leaving n (drop i ms) in
      let no = c.in_ok-sides.ensures.no vs n ms all.1 have in
      let kept = see_later (extends_keeps c.more_items.ensures.extends) before.out vs in
      let left = c.in_ok-add_side.ensures.value vs leave no ∙ ap (λ (y : Seen). and_seen y (seen_from leave Next)) kept in
      let enter = entering n x (drop i ms) in
      let yes = c.in_ok-sides.ensures.yes vs n ms all.1 have in
      let then = extends_keeps (extends_trans before.extends c.more_items.ensures.extends) in
      let now = chosen_later then c.requires.run chosen in
      let late = items_later vs list n ms then c.requires.list.owned all.2 in
      let turn = c.in_ok-round.ensures.value vs m calls n b ms now yes late is in
      let out = see_later (extends_keeps c.exec_item.ensures.extends) c.in_ok-add_side.ensures.held vs in
      let after = see (reads c.take_turn.new.g vs) slots c.take_turn.new.out in
      let goes = item_goes start _ after _ _ _ n ms x body i c.items.turns line (omega arith) left (c.in_ok-take_turn.ensures.value vs) out turn all.3 in
      let next = c.in_ok-take_turn.ensures.next vs ∙ ap (λ (y : Seen). or_other y.next y.continued) turn ∙ again_is enter body in
      (again enter body, rw c.in-Some.is at next, items_again (reads c.args.g.now vs) list n x (drop i ms) ms body all.2, goes);
}

-- one turn of a `for`
pub exec_item-next_item-requires : goal.exec_item-next_item-requires
exec_item-next_item-requires g t c =
    let l = c.args.run.now.slots.now.limits in
    let list = c.args.item.list.now in
    let item = c.requires.item in
    let some = ap is_some item.2 in
    record {
      path = (rw c.in-Some.is at c.requires.path).each.0;
      list = sequence_in l list c.requires.list some;
      place = c.requires.place;
      typed = (item.0, item.1, item_form_is l list item.0 c.requires.list.form item.2);
    }

pub exec_item-exec_live-requires : goal.exec_item-exec_live-requires
exec_item-exec_live-requires g t c κs h =
    (omega arith, (h.0, (h.1.0, (h.1.1, (c.requires.run, (c.in_ok-there-in-Some.ensures.held, (c.requires.typed, c.requires.picks)))))))

pub exec_item-returns-in-None-clause-value : goal.exec_item-returns-in-None-clause-value
exec_item-returns-in-None-clause-value g t c vs m calls o b ms chosen at has is =
    let none = rw c.in-None.is at at in
    c.no_way_out.ensures.value vs ∙ no_turn o c.args.item.name.now (drop c.args.item.place ms) (run_block c.args.run.now.slots.now.limits calls b) (sym none)

pub exec_item-returns-in_ok-out-in-Some-clause-value : goal.exec_item-returns-in_ok-out-in-Some-clause-value
exec_item-returns-in_ok-out-in-Some-clause-value g t c vs m calls o b ms chosen at has is =
    let there = c.in_ok-there-in-Some.ensures.value vs o ms (rw c.in-Some.is at at) has in
    c.in_ok-out-in-Some.ensures.value vs m calls (entering o c.args.item.name.now (drop c.args.item.place ms)) b chosen there is
