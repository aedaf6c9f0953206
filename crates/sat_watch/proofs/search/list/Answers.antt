use Rattle.std.proofs.Common.{◌≡◌, ◌<◌, ◌≤◌, [], ◌∷◌, ◌++◌, arith, length, subst, sym}
use Rattle.std.proofs.lemmas.Result.{on_ok_weaker}
use Rattle.clause_base.specs.Literals.{IsGreatest}
use Rattle.sat_watch.specs.Listing.{IsListing, listed, unlisted}
use Rattle.sat_watch.proofs.Chains.{listing_none, listing_push}
use Rattle.sat_watch.proofs.Members.{greatest_within}
use Rattle.sat_watch.proofs.search.list.Goals as goal

pub returns-then-var-eq0 : goal.returns-then-var-eq0
returns-then-var-eq0 c = λ vars clauses listing is.
    let lists = c.args.listing.now in
    let clause = c.args.clause.now in
    let empty = subst (λ v. IsGreatest v clause.lits) c.if-var-eq0.true c.greatest-var.ensures in
    on_ok_weaker c.push_none.result (λ (same : c.push_none.new.self ≡ unlisted lists). subst (IsListing vars (clauses ++ clause ∷ [])) (sym same) (listing_none vars clauses lists clause listing empty)) c.push_none.ensures.ok

pub push-requires-clause-within : goal.push-requires-clause-within
push-requires-clause-within c = greatest_within (length c.args.listing.now.heads) c.greatest-var.result c.args.clause.now.lits c.requires c.greatest-var.ensures

pub returns : goal.returns
returns c = λ vars clauses listing is.
    let lists = c.args.listing.now in
    let clause = c.args.clause.now in
    let v = c.greatest-var.result in
    let some : 0 < v = omega (arith, c.if-var-eq0.false) in
    let within : v ≤ length lists.heads = greatest_within (length lists.heads) v clause.lits c.requires c.greatest-var.ensures in
    let many : length lists.heads ≡ vars = listing.many in
    let most : v ≤ vars = omega arith in
    on_ok_weaker c.push.result (λ (same : c.push.new.self ≡ listed lists v c.args.number). subst (IsListing vars (clauses ++ clause ∷ [])) (sym same)
    (listing_push vars clauses lists clause v c.args.number listing some most c.greatest-var.ensures is)) c.push.ensures.ok
