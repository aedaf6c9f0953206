use Rattle.std.proofs.Common.{option_map, refl, ap, sym, ◌∙◌}
use Rattle.mpy_expressions.specs.Terminals.{terminals}
use Rattle.mpy_parser.specs.ItemReading.{item_at}
use Rattle.mpy_parser.specs.Views.{item_of}
use Rattle.mpy_parser.proofs.LinesSpelled.{spelled_by, not_spelled_by}
use Rattle.mpy_parser.proofs.entries.make_entry.Goals as goal

pub returns-in-None-clause-none : goal.returns-in-None-clause-none
returns-in-None-clause-none c =
    let seen = c.deref.ensures.value ∙ c.in_ok-seen.ensures ∙ ap terminals c.items.ensures in
    not_spelled_by (terminals c.args.line.now.tokens) (ap item_at (sym seen) ∙ sym c.in_ok-line_item.ensures ∙ ap (option_map item_of) c.in-None.is)

pub returns-clause-some : goal.returns-clause-some
returns-clause-some c =
    let seen = c.deref.ensures.value ∙ c.in_ok-seen.ensures ∙ ap terminals c.items.ensures in
    record {
      line = refl;
      column = refl;
      item = spelled_by (terminals c.args.line.now.tokens) (item_of c.in-Some.item) (ap item_at (sym seen) ∙ sym c.in_ok-line_item.ensures ∙ ap (option_map item_of) c.in-Some.is);
    }
