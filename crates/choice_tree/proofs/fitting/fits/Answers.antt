use Rattle.std.proofs.Common.{sym, ◌∙◌}
use Rattle.choice_tree.specs.StatementViews.{weighted_prog}
use Rattle.choice_tree.proofs.FittingLaws.{fitting, fits_so}
use Rattle.choice_tree.proofs.fitting.fits.Goals as goal

pub returns : goal.returns
returns c = (
  (λ so. fitting (weighted_prog c.args.w.now) 0 c.args.s.now (sym c.all_fit.ensures ∙ so)),
  (λ fits. c.all_fit.ensures
      ∙ fits_so (weighted_prog c.args.w.now) 0 c.args.s.now fits.0 fits.1),
)
