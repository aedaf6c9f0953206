use Rattle.std.proofs.Common.{sym, ap, ◌∙◌, option_map}
use Rattle.bounds_reader.specs.Views.{item_view}
use Rattle.bounds_reader.proofs.ItemLaws.{item_takes}
use Rattle.bounds_reader.proofs.FileLaws.{nothing_taken, item_taken, none_expected}
use Rattle.bounds_reader.proofs.file.File.take.Goals as goal

pub returns-then-carries_nothing : goal.returns-then-carries_nothing
returns-then-carries_nothing c =
    nothing_taken c.args.self.now c.args.number c.args.line.now (sym c.carries_nothing.ensures ∙ c.if-carries_nothing.true) c.requires

pub returns-in_default : goal.returns-in_default
returns-in_default c =
    none_expected c.args.self.now.due c.args.line.now (sym c.carries_nothing.ensures ∙ c.if-carries_nothing.false)
    (sym c.in_ok-item.ensures ∙ ap (option_map item_view) c.in_default.is)

pub add-requires-clause-due : goal.add-requires-clause-due
add-requires-clause-due c =
    (item_takes c.args.self.now.due c.args.line.now (item_view c.in-Some.item)
    (sym c.in_ok-item.ensures ∙ ap (option_map item_view) c.in-Some.is)).place

pub returns : goal.returns
returns c =
    item_taken c.args.self.now c.add.new.self c.args.number c.args.line.now (item_view c.in-Some.item)
    (sym c.in_ok-item.ensures ∙ ap (option_map item_view) c.in-Some.is)
    c.in_ok-add.ensures.due c.in_ok-add.ensures.seen c.in_ok-add.ensures.order
