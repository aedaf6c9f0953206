use Rattle.std.proofs.Common.{◌≡◌, drop}
use Rattle.choice_tree.specs.Selections.{fits_from}
use Rattle.choice_tree.specs.StatementViews.{weighted_prog}
use Rattle.choice_tree.proofs.fitting.all_fit.Given as goal

-- the choices that are left decide
abbrev pub invariant-loop-choice : goal.invariant-loop-choice
invariant-loop-choice l =
    fits_from (weighted_prog l.fn.w) 0 l.fn.s
    ≡ fits_from (weighted_prog l.fn.w) l.from (drop l.choice-index l.fn.s)
