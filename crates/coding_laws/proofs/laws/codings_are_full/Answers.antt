use Rattle.coding_laws.proofs.FullCodings.{is_full}
use Rattle.coding_laws.proofs.laws.codings_are_full.Goals as goal

pub returns : goal.returns
returns c = λ k budget h. is_full k budget h
