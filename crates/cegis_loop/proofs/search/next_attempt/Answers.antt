use Rattle.std.specs.Prelude.{◌≡◌, ◌<◌, Some, None}
use Rattle.std.proofs.Common.{◌∙◌, subst, sym, ap, arith}
use Rattle.cegis_loop.specs.Order.{bound_at}
use Rattle.cegis_loop.specs.Searching.{IsTrying}
use Rattle.cegis_loop.proofs.Steps.{proposed, none_within, nothing, spent_low, lacked_low, bound_some, bound_none, less_of_other}
use Rattle.cegis_loop.proofs.search.next_attempt.Goals as goal

pub try_choice-requires-clause-trying : goal.try_choice-requires-clause-trying
try_choice-requires-clause-trying g c =
    let f = c.in-Found.ensures in
    let is = c.bound.ensures ∙ ap (λ m. bound_at m c.args.at_least) c.requires.most in
    subst (λ t. IsTrying (g.Q.Questions.space t) (g.Q.Questions.seen c.propose.new.self) c.args.at_least c.in-Found.choice) (sym f.same)
    (proposed _ _ _ _ _ c.in-Found.choice is c.requires.proposing f.found f.kept f.asked)

pub returns-in-Nothing-clause-attempt : goal.returns-in-Nothing-clause-attempt
returns-in-Nothing-clause-attempt g c =
    let f = c.in-Nothing.ensures in
    let same : c.args.at_least ≡ c.args.most = c.if-at_least-most.true in
    let is : c.bound.result ≡ None = c.bound.ensures ∙ bound_none c.args.most c.args.at_least (omega (arith, same)) in
    nothing _ _ _ c.args.at_least _ is c.requires.proposing (omega (arith, c.requires.most, same)) f.nothing f.kept f.asked

pub returns-in-Nothing-2-clause-attempt : goal.returns-in-Nothing-2-clause-attempt
returns-in-Nothing-2-clause-attempt g c =
    let f = c.in-Nothing-2.ensures in
    let less : c.args.at_least < c.args.most = less_of_other c.args.at_least c.args.most c.requires.within c.if-at_least-most.false in
    let is : c.bound.result ≡ Some c.args.at_least = c.bound.ensures ∙ bound_some c.args.most c.args.at_least less in
    none_within _ _ _ c.args.at_least _ is c.requires.proposing (omega (arith, c.requires.most, less)) f.nothing f.kept f.asked

pub returns-in-Spent-clause-attempt : goal.returns-in-Spent-clause-attempt
returns-in-Spent-clause-attempt g c =
    let f = c.in-Spent.ensures in
    let is = c.bound.ensures ∙ ap (λ m. bound_at m c.args.at_least) c.requires.most in
    spent_low _ _ _ c.args.at_least _ is c.requires.proposing f.kept f.asked

pub returns-in-NoMemory-clause-attempt : goal.returns-in-NoMemory-clause-attempt
returns-in-NoMemory-clause-attempt g c =
    let is = c.bound.ensures ∙ ap (λ m. bound_at m c.args.at_least) c.requires.most in
    lacked_low _ _ _ c.args.at_least _ is c.requires.proposing c.in-NoMemory.ensures.asked
