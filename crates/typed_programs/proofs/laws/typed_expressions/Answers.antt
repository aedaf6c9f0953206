use Rattle.typed_programs.proofs.Expressions.{gives}
use Rattle.typed_programs.proofs.laws.typed_expressions.Goals as goal

pub returns : goal.returns
returns c = λ l S p i calls s line e t keep a h. gives l S p calls keep line i s a e t h
