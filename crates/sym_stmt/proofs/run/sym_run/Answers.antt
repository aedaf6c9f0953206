use Rattle.std.proofs.Common.{map, subst, sym}
use Rattle.sym_nodes.specs.Operands.{ty_of}
use Rattle.sym_calls.proofs.Owning.{arguments_owned}
use Rattle.sym_stmt.specs.Programs.{TypesProgram, entry_within}
use Rattle.sym_stmt.proofs.run.sym_run.Goals as goal

pub known_run-requires-clause-args : goal.known_run-requires-clause-args
known_run-requires-clause-args g c =
    rw c.deref.ensures.value (arguments_owned c.args.l.now c.args.args.now.items c.requires.args.each)

pub remembering-requires-clause-typed : goal.remembering-requires-clause-typed
remembering-requires-clause-typed g c =
    subst (λ xs. TypesProgram c.args.t.now.facts c.args.w.now
    (entry_within c.args.l.now c.args.entry.now (map (λ x. ty_of x) xs)))
    (sym c.in_ok-given.ensures) c.requires.typed
