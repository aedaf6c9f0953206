-- what is read for the signature is read for the bounds
use Rattle.std.proofs.Common.{subst}
use Rattle.mpy_tree.specs.Entries.{entry_of}
use Rattle.input_space.specs.Tasks.{entry_at}
use Rattle.task_read.proofs.Answers.{IsRight, given_by, refused_by, right, same_entry}
use Rattle.task_read.proofs.program.read_program.Goals as goal

pub returns-clause-program : goal.returns-clause-program
returns-clause-program c =
    given_by c.args.bytes.now (entry_at c.args.bounds.now) c.args.source c.read_typed.result
    (subst (λ e. IsRight c.args.bytes.now e c.args.source c.read_typed.result)
    (same_entry (entry_of c.in_ok-signature.signature) (entry_at c.args.bounds.now) c.in_ok-signature.ensures.entry c.in_ok-signature.ensures.params c.in_ok-signature.ensures.free_result)
    (right c.args.bytes.now (entry_of c.in_ok-signature.signature) c.args.source c.read_typed.result c.read_typed.ensures.read c.read_typed.ensures.refused))

pub returns-clause-refusal : goal.returns-clause-refusal
returns-clause-refusal c =
    refused_by c.args.bytes.now (entry_at c.args.bounds.now) c.args.source c.read_typed.result
    (subst (λ e. IsRight c.args.bytes.now e c.args.source c.read_typed.result)
    (same_entry (entry_of c.in_ok-signature.signature) (entry_at c.args.bounds.now) c.in_ok-signature.ensures.entry c.in_ok-signature.ensures.params c.in_ok-signature.ensures.free_result)
    (right c.args.bytes.now (entry_of c.in_ok-signature.signature) c.args.source c.read_typed.result c.read_typed.ensures.read c.read_typed.ensures.refused))
