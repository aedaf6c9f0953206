-- the sessions ask of different selections, and spent the budget
use Rattle.least_all.specs.Listings.{task_of}
use Rattle.least_all.proofs.Spending.{spent_is}
use Rattle.least_all.proofs.listing.Listing.into_sessions.Goals as goal

pub returns : goal.returns
returns c = λ ss has.
    let of = c.sessions-sessions.ensures in
    spent_is c.args.self.questions (task_of c.args.self) ss c.into_told.result.sessions c.requires.listing.about c.into_told.ensures.sessions
    of.backed of.honest of.numbered c.requires.spent has
