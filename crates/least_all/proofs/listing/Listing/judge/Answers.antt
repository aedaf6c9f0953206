-- a selection that fails where others failed isn't asked about
use Rattle.std.proofs.Common.{◌≡◌, refl, true}
use Rattle.mpy_tree.specs.View.{routines_of}
use Rattle.least_all.specs.Listings.{task_of}
use Rattle.least_all.proofs.Asked.{asks_nothing}
use Rattle.least_all.proofs.Verdicts.{tried_so}
use Rattle.least_all.proofs.listing.Listing.judge.Goals as goal

pub returns-else-branch-clause-verdict : goal.returns-else-branch-clause-verdict
returns-else-branch-clause-verdict c =
    tried_so (task_of c.args.self.now) c.args.selection.now (routines_of c.args.program.now) c.args.self.now.tried.items c.requires.made c.requires.listing.tried
    (λ all. let t : c.in_ok-passes.field-0 ≡ true = c.in_ok-passes.ensures.1 all in let f = c.if-branch.false in cc)

pub returns-else-branch-clause-asked : goal.returns-else-branch-clause-asked
returns-else-branch-clause-asked c =
    let xs = c.args.self.now.questions.sessions in
    asks_nothing c.args.selection.now xs xs refl
