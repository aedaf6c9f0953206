-- what the answer to the question says of the selection
use Rattle.std.proofs.Common.{refl, subst, sym}
use Rattle.choice_tree.specs.Selections.{Fits}
use Rattle.cegis_loop.specs.State.{Fail, Open, Refuted}
use Rattle.input_space.specs.Tasks.{Task, tree_of}
use Rattle.solver_questions.specs.Asking.{Asking, topic_of}
use Rattle.least_all.specs.Listings.{AsksMore, task_of}
use Rattle.least_all.proofs.Asked.{asks_one}
use Rattle.least_all.proofs.Verdicts.{agrees_so, fails_so}
use Rattle.least_all.proofs.listing.Listing.ask.Goals as goal

pub refute-requires : goal.refute-requires
refute-requires c =
    subst (λ (k : Task). Fits (tree_of k) c.args.selection.now) (sym c.requires.listing.about) c.requires.fits

pub returns-in_ok-keep-in-Found-clause-verdict : goal.returns-in_ok-keep-in-Found-clause-verdict
returns-in_ok-keep-in-Found-clause-verdict c =
    fails_so (topic_of c.args.self.now.questions) (task_of c.args.self.now) c.args.selection.now c.in-Found.case c.requires.listing.about c.in-Found.ensures.found

pub returns-in_ok-keep-in-Found-clause-asked : goal.returns-in_ok-keep-in-Found-clause-asked
returns-in_ok-keep-in-Found-clause-asked c =
    let s = c.args.selection.now in
    let old = c.args.self.now.questions.sessions in
    subst (λ (q : Asking). AsksMore s old q.sessions) (sym c.in_ok-keep-in-Found.ensures.questions)
    (asks_one s old c.refute.new.self.sessions (Open (Fail s)) refl c.in-Found.ensures.asked.told)

pub returns-in-Nothing-clause-verdict : goal.returns-in-Nothing-clause-verdict
returns-in-Nothing-clause-verdict c =
    agrees_so (topic_of c.args.self.now.questions) (task_of c.args.self.now) c.args.selection.now c.requires.listing.about c.in-Nothing.ensures.nothing

pub returns-in-Nothing-clause-asked : goal.returns-in-Nothing-clause-asked
returns-in-Nothing-clause-asked c =
    let s = c.args.selection.now in
    asks_one s c.args.self.now.questions.sessions c.refute.new.self.sessions (Refuted (Fail s)) refl c.in-Nothing.ensures.asked.told

pub returns-in-Spent-clause-asked : goal.returns-in-Spent-clause-asked
returns-in-Spent-clause-asked c =
    let s = c.args.selection.now in
    asks_one s c.args.self.now.questions.sessions c.refute.new.self.sessions (Open (Fail s)) refl c.in-Spent.ensures.asked.told
