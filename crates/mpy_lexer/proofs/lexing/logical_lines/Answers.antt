use Rattle.std.proofs.Common.{◌≡◌, ◌<◌, ◌≤◌, [], length, sym, ap, ◌∙◌, arith}
use Rattle.std.proofs.lemmas.List.{nil_from_length}
use Rattle.std.specs.Vec.Iter.{into_iter_items}
use Rattle.mpy_lexer.specs.Brackets.{open_after}
use Rattle.mpy_lexer.specs.Lexing.{logical_lines}
use Rattle.mpy_lexer.proofs.Joining.{joined, step_more, step_empty, step_begins, joined_start, joined_end}
use Rattle.mpy_lexer.proofs.lexing.logical_lines.Goals as goal

pub loop-row-init : goal.loop-row-init
loop-row-init c = rw (c.new-lines.ensures.items, c.new-opened.ensures, c.into_iter-row-iterator.ensures.into_iter_gives.0) (joined_start c.args.rows.items)

pub loop-row-preserved-in-Continue-branch-2 : goal.loop-row-preserved-in-Continue-branch-2
loop-row-preserved-in-Continue-branch-2 c =
    let next : c.pass.new.self ≡ open_after c.in-Some.row.number c.loop-row.opened c.in-Some.row.tokens = rw c.items.ensures at c.in_ok-pass.ensures.opened in
    rw c.in_ok-extend_last.ensures
    (step_more c.loop-row.lines.items c.loop-row.opened c.pass.new.self c.in-Some.row (into_iter_items c.next.new.self) (into_iter_items c.loop-row.row-iterator) (logical_lines [] c.args.rows.items) c.in-Some.ensures.steps.0 (sym c.is_empty-is_new.ensures ∙ c.if-not-is_new.true) next c.loop-row.invariant)

pub loop-row-preserved-in-Continue-branch-3 : goal.loop-row-preserved-in-Continue-branch-3
loop-row-preserved-in-Continue-branch-3 c =
    let next : c.pass.new.self ≡ open_after c.in-Some.row.number c.loop-row.opened c.in-Some.row.tokens = rw c.items.ensures at c.in_ok-pass.ensures.opened in
    let some : 0 < length c.in-Some.row.tokens = omega arith in
    rw c.in_ok-push.ensures.items
    (step_begins c.loop-row.lines.items c.loop-row.opened c.pass.new.self c.in-Some.row (into_iter_items c.next.new.self) (into_iter_items c.loop-row.row-iterator) (logical_lines [] c.args.rows.items) c.in-Some.ensures.steps.0 (sym c.is_empty-is_new.ensures ∙ c.if-not-is_new.false) some next c.loop-row.invariant)

pub loop-row-preserved : goal.loop-row-preserved
loop-row-preserved c =
    let next : c.pass.new.self ≡ open_after c.in-Some.row.number c.loop-row.opened c.in-Some.row.tokens = rw c.items.ensures at c.in_ok-pass.ensures.opened in
    let none : length c.in-Some.row.tokens ≤ 0 = omega arith in
    step_empty c.loop-row.lines.items c.loop-row.opened c.pass.new.self c.in-Some.row (into_iter_items c.next.new.self) (into_iter_items c.loop-row.row-iterator) (logical_lines [] c.args.rows.items) c.in-Some.ensures.steps.0 (sym c.is_empty-is_new.ensures ∙ c.if-not-is_new.false) none next c.loop-row.invariant

pub returns : goal.returns
returns c =
    let none : into_iter_items c.loop-row.row-iterator ≡ [] = nil_from_length (into_iter_items c.loop-row.row-iterator) (omega (arith, c.in-None.ensures.steps, c.loop-row.row-iterator.rest.ok.0)) in
    sym (joined_end c.loop-row.lines.items c.loop-row.opened) ∙ ap (joined c.loop-row.lines.items c.loop-row.opened) (sym none) ∙ c.loop-row.invariant
