use Rattle.typed_programs.proofs.Statements.{body_well}
use Rattle.typed_programs.proofs.laws.typed_statements.Goals as goal

pub returns : goal.returns
returns c = λ l F p i calls s b keep a h. body_well l F p i calls keep b h s a
