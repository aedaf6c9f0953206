use Rattle.cert_text.specs.LineForms.{clause_line}
use Rattle.cert_text.proofs.Growing.{written_more}
use Rattle.cert_text.proofs.writing.write_clauses.Goals as goal

pub loop-i-preserved : goal.loop-i-preserved
loop-i-preserved c =
    written_more clause_line c.args.clauses.now c.loop-i.i c.at.result.now c.args.out.now.items c.loop-i.out.items c.write_clause.new.out.items c.at.ensures c.loop-i.invariant c.in_ok-write_clause.ensures
