use Rattle.std.proofs.Common.{◌≡◌, ◌∙◌, true, codes, sym}
use Rattle.eml_sides.specs.Singles.{is_mark}
use Rattle.eml_sides.proofs.MoreOperators.{ariths_more}
use Rattle.eml_sides.proofs.operator_sets.ariths_at.Goals as goal

pub loop-rest-preserved : goal.loop-rest-preserved
loop-rest-preserved c =
    let comma : is_mark (codes ",") c.second-item.result ≡ true = sym c.is_mark-in-len2-up.ensures
    ∙ c.if-not-is_mark.false in
    c.loop-rest.invariant
    ∙ ariths_more c.loop-rest.rest.now c.first-item.result c.second-item.result c.in-Some.op
    c.loop-rest.found.items c.push.new.self.items c.in-len2-up.len_at_least c.first-item.is
    c.second-item.is (sym c.arith_of.ensures ∙ c.in-Some.is)
    (sym c.is_mark.ensures ∙ c.if-is_mark.false) comma c.in_ok-push.ensures.items
