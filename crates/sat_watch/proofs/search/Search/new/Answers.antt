use Rattle.std.proofs.Common.{◌≡◌, ◌+◌, ◌≤◌, List, ap, arith, length, refl, subst, sym, take}
use Rattle.std.proofs.lemmas.List.{length-take-le}
use Rattle.clause_base.specs.declared.clause.Clause.{Clause}
use Rattle.clause_base.specs.Literals.{IsCovered}
use Rattle.sat_watch.specs.Listing.{IsListing}
use Rattle.sat_watch.specs.Watching.{Sizes}
use Rattle.sat_watch.proofs.Covered.{covered_at}
use Rattle.sat_watch.proofs.Growing.{sizes_more}
use Rattle.sat_watch.proofs.Members.{take_push}
use Rattle.sat_watch.proofs.search.Search.new.Goals as goal

pub list-requires : goal.list-requires
list-requires c =
    let f = c.args.f.now in
    let clause = c.at-clause.result.now in
    subst (λ n. IsCovered n clause.lits) (sym c.loop-place.invariant.listing.many) (covered_at f.vars f.clauses c.loop-place.place clause c.at-clause.ensures f.in_range)

pub watch-requires : goal.watch-requires
watch-requires c =
    let f = c.args.f.now in
    let clause = c.at-clause.result.now in
    subst (λ n. IsCovered n clause.lits) (sym (ap (λ (z : Sizes). z.vars) c.loop-place.invariant.watches)) (covered_at f.vars f.clauses c.loop-place.place clause c.at-clause.ensures f.in_range)

pub loop-place-preserved : goal.loop-place-preserved
loop-place-preserved c =
    let f = c.args.f.now in
    let inv = c.loop-place.invariant in
    let place = c.loop-place.place in
    let clause = c.at-clause.result.now in
    let within : place ≤ length f.clauses = omega (arith, c.loop-place-test.true, c.len-many.ensures) in
    let long : length (take place f.clauses) ≡ place = length-take-le place f.clauses within in
    let number : place + 1 ≡ length (take place f.clauses) + 1 = ap (λ n. n + 1) (sym long) in
    let listing = c.in_ok-list.ensures f.vars (take place f.clauses) inv.listing number in
    record {
      watches = sizes_more c.loop-place.watches c.watch.new.watches f.vars place (place + 1) inv.watches c.watch.ensures.vars c.in_ok-watch.ensures.clauses refl;
      listing = subst (λ (cs : List Clause). IsListing f.vars cs c.list.new.listing) (sym (take_push f.clauses place clause c.at-clause.ensures)) listing;
    }
