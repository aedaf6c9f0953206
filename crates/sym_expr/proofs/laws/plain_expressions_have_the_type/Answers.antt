use Rattle.sym_expr.proofs.PlainTypes.{plain_type}
use Rattle.sym_expr.proofs.laws.plain_expressions_have_the_type.Goals as goal

pub returns : goal.returns
returns c = plain_type
