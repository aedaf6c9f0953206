use Rattle.std.proofs.Common.{◌∙◌, ap}
use Rattle.std.proofs.lemmas.List.{append-nil}
use Rattle.cegis_loop.specs.State.{Fail}
use Rattle.cegis_loop.specs.Order.{fail_left}
use Rattle.cegis_loop.proofs.Steps.{failed, found_least, lacked, spent}
use Rattle.cegis_loop.proofs.search.try_choice.Goals as goal

pub returns-in-Found-clause-attempt : goal.returns-in-Found-clause-attempt
returns-in-Found-clause-attempt g c =
    let f = c.in-Found.ensures in
    failed _ _ _ _ c.args.choice c.in-Found.field-0 c.requires.trying f.found f.kept f.asked

pub returns-in-Nothing-clause-attempt : goal.returns-in-Nothing-clause-attempt
returns-in-Nothing-clause-attempt g c =
    let f = c.in-Nothing.ensures in
    found_least _ _ _ _ _ c.args.choice c.requires.trying f.nothing (c.cost_of-cost.ensures ∙ ap (λ t. (g.Q.Questions.space t).cost c.args.choice) f.same) (f.kept ∙ append-nil _) f.asked

pub returns-in-Spent-clause-attempt : goal.returns-in-Spent-clause-attempt
returns-in-Spent-clause-attempt g c =
    let f = c.in-Spent.ensures in
    spent _ _ _ _ _ (Fail c.args.choice) c.requires.trying.going (λ ruled. fail_left) (f.kept ∙ append-nil _) f.asked

pub returns-in-NoMemory-clause-attempt : goal.returns-in-NoMemory-clause-attempt
returns-in-NoMemory-clause-attempt g c = lacked _ _ _ _ _ (Fail c.args.choice) c.requires.trying.going (λ ruled. fail_left) c.in-NoMemory.ensures.asked
