use Rattle.sym_stmt.specs.Levels.{AreCallsAt}
use Rattle.sym_stmt.specs.Programs.{signatures_of}
use Rattle.sym_stmt.proofs.run.sym_run.Given as goal

-- the program's own functions, levels and picks are fixed
abbrev pub ghosts-remembering : goal.ghosts-remembering
ghosts-remembering g a =
    let w = a.program.now.tree.now in
    record {
      fixed = record {
        signatures = signatures_of w a.program.now.types.now.facts;
        are_calls = AreCallsAt w;
        picks = a.view.now.picks.now;
      };
    }
