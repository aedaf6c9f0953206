-- one input more was tried
use Rattle.std.proofs.Common.{List, subst, sym}
use Rattle.std.specs.Prelude.{All}
use Rattle.std.proofs.lemmas.List.Elements.{All-push}
use Rattle.least_all.specs.declared.listing.Tried.{Tried}
use Rattle.least_all.specs.Listings.{IsTried, task_of}
use Rattle.least_all.proofs.listing.Listing.keep.Goals as goal

pub returns-clause-listing : goal.returns-clause-listing
returns-clause-listing c =
    let k = task_of c.args.self.now in
    let e : Tried = record { case = c.args.case; end = c.in_ok-end.end } in
    record {
      tried = subst (λ (es : List Tried). All (IsTried k) es) (sym c.in_ok-push.ensures.items)
          (All-push (IsTried k) c.args.self.now.tried.items e c.requires.listing.tried
          (record { input = c.requires.input; end_is = sym c.in_ok-end.ensures }));
      found = c.requires.listing.found;
      about = c.requires.listing.about;
    }
