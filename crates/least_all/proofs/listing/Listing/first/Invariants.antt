use Rattle.std.specs.Prelude.{◌≡◌, take}
use Rattle.least_all.specs.Listings.{selections_in}
use Rattle.least_all.proofs.listing.Listing.first.Given as goal

abbrev pub invariant-loop-found : goal.invariant-loop-found
invariant-loop-found l = l.picks ≡ selections_in (take l.found-index l.first)
