use Rattle.std.proofs.Common.{sym, subst}
use Rattle.sym_cost.specs.Notations.{HasWidth}
use Rattle.sym_cost.proofs.Spelled.{spells_nothing}
use Rattle.sym_cost.proofs.notation.nothing.Goals as goal

pub returns-clause-made : goal.returns-clause-made
returns-clause-made g c =
    let made = c.in_ok-word.ensures.made in
    record {
      owned = made.owned;
      width = subst (HasWidth c.args.notation) (sym made.width) c.least_width.ensures;
    }

pub returns-clause-value : goal.returns-clause-value
returns-clause-value g c vs =
    spells_nothing c.args.notation _ c.least_width.result c.least_width.ensures
    (c.in_ok-word.ensures.value vs)
