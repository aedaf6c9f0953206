-- the rules have no fault, and the tree is that of the task
use Rattle.std.proofs.Common.{Ok, Err, arith, inl, refl}
use Rattle.std.proofs.lemmas.List.{length-map}
use Rattle.choice_tree.specs.RuleViews.{correction_of}
use Rattle.eml_rewrite.specs.declared.error.RewriteError.TheVariants as stop
use Rattle.input_space.specs.TaskParts.{task_with}
use Rattle.input_space.specs.Tasks.{tree_of}
use Rattle.task_read.proofs.Ready.{few_rules, primes_are_kept}
use Rattle.task_read.proofs.Trees.{of_size, rewritten}
use Rattle.task_read.proofs.parts.tree.Goals as goal

pub rewrite-requires-clause-few_rules : goal.rewrite-requires-clause-few_rules
rewrite-requires-clause-few_rules c =
    omega (arith, few_rules (task_with c.args.parts.now) c.requires, length-map c.args.parts.now.rules.items.items correction_of)

pub rewrite-requires-clause-keep_primes : goal.rewrite-requires-clause-keep_primes
rewrite-requires-clause-keep_primes c = primes_are_kept (task_with c.args.parts.now) c.requires

pub returns-in-Ok-clause-tree : goal.returns-in-Ok-clause-tree
returns-in-Ok-clause-tree c = (rewritten c.args.parts.now c.items.result.now (Ok c.in-Ok.tree) c.items.ensures c.in-Ok.ensures).0

pub returns-in-Ok-clause-size : goal.returns-in-Ok-clause-size
returns-in-Ok-clause-size c =
    let built = rewritten c.args.parts.now c.items.result.now (Ok c.in-Ok.tree) c.items.ensures c.in-Ok.ensures in
    of_size c.in-Ok.tree (tree_of (task_with c.args.parts.now)) built.0 built.1

pub returns-in-Err-Large-clause-refused : goal.returns-in-Err-Large-clause-refused
returns-in-Err-Large-clause-refused c =
    let large = rewritten c.args.parts.now c.items.result.now (Err stop.Large) c.items.ensures (rw c.in-Err-Large.field-0-is at c.in-Err-Large.ensures) in
    rw c.at_entry.ensures (inl (record { many = large }), refl)
