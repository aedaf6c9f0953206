-- The words of the commands, as the program keeps them.
use Rattle.formula_commands.specs.Words.{SatWords, UnsatWords}
use Rattle.formula_commands.specs.declared.words.SatWords as code_sat
use Rattle.formula_commands.specs.declared.words.UnsatWords as code_unsat

abbrev pub sat_of : code_sat.SatWords → SatWords
sat_of w = record { cnf = w.cnf.now; log = w.log.now; budget = w.budget }

abbrev pub unsat_of : code_unsat.UnsatWords → UnsatWords
unsat_of w = record { cnf = w.cnf.now; log = w.log.now }
