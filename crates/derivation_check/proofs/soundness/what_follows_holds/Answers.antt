use Rattle.derivation_check.proofs.Derivations.{following_holds, refuted_has_no_values}
use Rattle.derivation_check.proofs.soundness.what_follows_holds.Goals as goal

pub returns-clause-holds : goal.returns-clause-holds
returns-clause-holds c = following_holds

pub returns-clause-refuted : goal.returns-clause-refuted
returns-clause-refuted c = refuted_has_no_values
