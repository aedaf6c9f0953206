use Rattle.std.specs.Prelude.{◌≡◌, ◌-◌}
use Rattle.least_all.specs.Listings.{IsListing}
use Rattle.least_all.proofs.listing.Listing.spread.Given as goal

-- inputs are kept, and nothing else changes
abbrev pub invariant-loop-place : goal.invariant-loop-place
invariant-loop-place l = record {
  listing : IsListing l.self;
  runs : l.self.runs ≡ l.initial.self.runs;
  questions : l.self.questions ≡ l.initial.self.questions;
  found : l.self.found ≡ l.initial.self.found;
}

abbrev pub decreases-loop-place : goal.decreases-loop-place
decreases-loop-place l = l.count - l.place
