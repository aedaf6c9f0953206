use Rattle.std.proofs.Common.{◌≡◌, ◌∙◌, ◌+◌, [], ◌∷◌, ◌++◌, List, ap, length, subst, sym}
use Rattle.std.proofs.lemmas.List.{length_push}
use Rattle.clause_base.specs.declared.clause.Clause.{Clause}
use Rattle.clause_base.specs.declared.log.Step.{Step}
use Rattle.clause_base.specs.Literals.{IsCovered}
use Rattle.sat_watch.specs.Listing.{IsListing}
use Rattle.sat_watch.specs.Searching.{Base, MayFollow, Spares, State, all_of}
use Rattle.sat_watch.specs.Watching.{Sizes}
use Rattle.sat_watch.proofs.Covered.{covered}
use Rattle.sat_watch.proofs.Growing.{search_more, sizes_more}
use Rattle.sat_watch.proofs.search.Search.add.Goals as goal

pub list-requires : goal.list-requires
list-requires c =
    let inside = c.self.inside in
    let lits = c.args.step.clause.lits in
    let may = subst (λ (s : State). MayFollow s.base c.args.step) (sym c.self.view_is) c.requires.may in
    subst (λ n. IsCovered n lits) (sym c.self.invariant.2.many) (covered inside.known.vars lits may.follows.within)

pub watch-requires : goal.watch-requires
watch-requires c =
    let inside = c.self.inside in
    let lits = c.args.step.clause.lits in
    let may = subst (λ (s : State). MayFollow s.base c.args.step) (sym c.self.view_is) c.requires.may in
    subst (λ n. IsCovered n lits) (sym (ap (λ (z : Sizes). z.vars) c.self.invariant.1)) (covered inside.known.vars lits may.follows.within)

pub add-requires : goal.add-requires
add-requires c = subst (λ (s : State). MayFollow s.base c.args.step) (sym c.self.view_is) c.requires.may

pub invariant_of-result : goal.invariant_of-result
invariant_of-result c =
    let inside = c.self.inside in
    let inv = c.self.invariant in
    let base : Base = inside.known in
    let new : Base = c.add.new.self in
    let step : Step = c.args.step in
    let known = c.what_is_known.ensures.pushed in
    let vars : base.vars ≡ new.vars = sym (ap (λ (b : Base). b.vars) c.in_ok-add.ensures) in
    let all : all_of new ≡ all_of base ++ step.clause ∷ [] = ap all_of c.in_ok-add.ensures ∙ known base.clauses base.steps step in
    let number : c.len-number.result + 1 ≡ length (all_of base) + 1 = ap (λ n. n + 1) c.len-number.ensures.count in
    let grown : length (all_of base) + 1 ≡ length (all_of new) = sym (ap length all ∙ length_push (all_of base) step.clause) in
    let listing = c.in_ok-list.ensures base.vars (all_of base) inv.2 number in
    let spares = subst (λ (s : State). Spares s.entries step.clause.lits) (sym c.self.view_is) c.requires.spares in (
      inv.0 ∙ vars,
      subst (λ v. c.watch.new.watches ≡ record { vars = v; clauses = length (all_of new) }) vars
          (sizes_more inside.watches c.watch.new.watches base.vars (length (all_of base)) (length (all_of new)) inv.1 c.watch.ensures.vars c.in_ok-watch.ensures.clauses grown),
      subst (λ v. IsListing v (all_of new) c.list.new.listing) vars (subst (λ (cs : List Clause). IsListing base.vars cs c.list.new.listing) (sym all) listing),
      search_more known base new inside.trail.entries step inv.3 spares c.in_ok-add.ensures,
    )
