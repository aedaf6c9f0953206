use Rattle.std.proofs.Common.{◌≡◌, ◌∙◌, ap, not, true}
use Rattle.std.specs.Option.{is_some}
use Rattle.sat_plain.proofs.Undoing.{popped_more, popped_none, popped_start, undone}
use Rattle.sat_plain.proofs.search.undo.Goals as goal

pub loop-entry-init : goal.loop-entry-init
loop-entry-init c = popped_start c.args.trail.now

pub loop-entry-preserved : goal.loop-entry-preserved
loop-entry-preserved c =
    let some : is_some c.in-Some.entry.reason ≡ true = c.is_none.ensures ∙ ap not c.if-is_none.false in
    popped_more c.args.trail.now c.loop-entry.trail c.pop.new.self c.in-Some.entry c.loop-entry.invariant c.in-Some.ensures.vars c.in-Some.ensures.entry some

pub returns-then-is_none : goal.returns-then-is_none
returns-then-is_none c = undone c.args.trail.now c.loop-entry.trail c.pop.new.self c.in-Some.entry c.loop-entry.invariant c.in-Some.ensures.vars c.in-Some.ensures.entry (c.is_none.ensures ∙ ap not c.if-is_none.true) c.in-Some.ensures.range c.in-Some.ensures.unset

pub returns : goal.returns
returns c = popped_none c.args.trail.now c.loop-entry.trail c.loop-entry.invariant c.in_default.ensures.entry
