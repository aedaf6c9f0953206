use Rattle.std.proofs.Common.{subst, arith}
use Rattle.mpy_tree.specs.View.{term_of}
use Rattle.mpy_tree.specs.Shapes.{shape}
use Rattle.choice_tree.specs.Growing.{grown}
use Rattle.choice_tree.specs.WeightedViews.{weighted_of}
use Rattle.eml_match.specs.MatchedRules.{site_of}
use Rattle.eml_rewrite.specs.Building.{Built}
use Rattle.eml_rewrite.specs.Spots.{setting_at, context_at}
use Rattle.eml_rewrite.specs.Statements.{whole_at}
use Rattle.eml_rewrite.proofs.FullyGrown.{as_many}
use Rattle.eml_rewrite.proofs.Sizes.{shape_is_term}
use Rattle.eml_rewrite.proofs.statements.grow_whole.Goals as goal

pub returns : goal.returns
returns g c =
    let σ = setting_at c.args.spot.now in
    let here = context_at c.args.spot.now in
    let site = site_of c.args.site in
    let e = shape (term_of c.args.e.now) in
    let few = c.args.counter.now.fits in
    as_many weighted_of c.grow.result σ c.requires 2000001 site (whole_at here site) e
    c.args.counter.now c.grow.new.counter (shape_is_term (term_of c.args.e.now)) (omega arith)
    (omega arith)
    (subst (λ s. Built weighted_of c.grow.result
    (grown σ 2000001 site (record { scope = here.scope; sharing = s }) e) c.args.counter.now
    c.grow.new.counter) c.sharing_at.ensures c.grow.ensures)
