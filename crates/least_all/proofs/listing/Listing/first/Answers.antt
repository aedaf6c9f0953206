-- as many as are asked for, or all
use Rattle.std.proofs.Common.{◌∙◌, List, ap, arith, take}
use Rattle.std.proofs.lemmas.List.{take_all}
use Rattle.least_all.specs.declared.listing.Found.{Found}
use Rattle.least_all.specs.Listings.{selections_in}
use Rattle.least_all.proofs.Stepping.{take_least, take_selections}
use Rattle.least_all.proofs.listing.Listing.first.Goals as goal

pub returns : goal.returns
returns c =
    let xs = c.args.self.now.found.items in
    let ys = c.as_slice.result.now in
    let n = c.min-count.result in
    let i = c.loop-found.found-index in
    c.loop-found.invariant ∙ ap selections_in (take_all i (take n ys) (omega arith))
    ∙ ap (λ (zs : List Found). selections_in (take n zs)) c.as_slice.ensures.value
    ∙ ap selections_in (take_least xs n c.args.most (omega arith)) ∙ take_selections c.args.most xs
