use Rattle.std.proofs.Common.{◌∙◌, ap, Some, None, cond}
use Rattle.bit_words.specs.Logic.{extends_trans, extends_keeps}
use Rattle.sym_paths.specs.Later.{path_bit, path_later, way_later}
use Rattle.sym_paths.specs.Paths.{Way, arrival, way}
use Rattle.sym_paths.proofs.Joins.{yes_side, no_side}
use Rattle.sym_paths.proofs.split.divide_by.Goals as goal

pub and-requires-clause-left : goal.and-requires-clause-left
and-requires-clause-left g c = path_bit c.requires.held

pub and-requires-2-clause-left : goal.and-requires-2-clause-left
and-requires-2-clause-left g c = c.and.ensures.extends.kept _ (path_bit c.requires.held)

pub and-requires-2-clause-right : goal.and-requires-2-clause-right
and-requires-2-clause-right g c = c.and.ensures.extends.kept _ c.not-other.ensures.owned

pub both_sides-requires-clause-held : goal.both_sides-requires-clause-held
both_sides-requires-clause-held g c =
    let both = extends_trans c.and.ensures.extends c.and-2.ensures.extends in
    path_later (extends_keeps both) c.requires.held

pub both_sides-requires-clause-owned_yes : goal.both_sides-requires-clause-owned_yes
both_sides-requires-clause-owned_yes g c = c.and-2.ensures.extends.kept _ c.in_ok-yes.ensures.owned

pub returns-clause-extends : goal.returns-clause-extends
returns-clause-extends g c = extends_trans c.and.ensures.extends c.and-2.ensures.extends

pub returns-clause-yes : goal.returns-clause-yes
returns-clause-yes g c vs =
    let reads = g.L.Logic.reads in
    let start = reads c.args.g.now vs in
    let new = reads c.and-2.new.self vs in
    let slots = c.args.slots.now in
    let path = c.args.path in
    let two = c.and-2.ensures.extends in
    let both = extends_trans c.and.ensures.extends two in
    let kept = way_later (extends_keeps both) c.requires.held vs in
    let there = ap (λ (w : Way). cond (new c.in_ok-yes.yes) (Some (arrival slots w)) None) kept in
    let bit = two.same _ c.in_ok-yes.ensures.owned vs ∙ c.in_ok-yes.ensures.value vs in
    yes_side _ (new c.in_ok-yes.yes) (start path.bit) (start c.args.test)
    (Some (arrival slots (way start path))) (c.in_ok-sides.ensures.yes vs ∙ there) bit

pub returns-clause-no : goal.returns-clause-no
returns-clause-no g c vs =
    let reads = g.L.Logic.reads in
    let start = reads c.args.g.now vs in
    let middle = reads c.and.new.self vs in
    let new = reads c.and-2.new.self vs in
    let slots = c.args.slots.now in
    let path = c.args.path in
    let one = c.and.ensures.extends in
    let both = extends_trans one c.and-2.ensures.extends in
    let kept = way_later (extends_keeps both) c.requires.held vs in
    let there = ap (λ (w : Way). cond (new c.in_ok-no.no) (Some (arrival slots w)) None) kept in
    let taken = one.same _ (path_bit c.requires.held) vs in
    let bit = rw taken at (c.in_ok-no.ensures.value vs) in
    let other = one.same _ c.not-other.ensures.owned vs ∙ c.not-other.ensures.value vs in
    no_side _ (new c.in_ok-no.no) (start path.bit) (start c.args.test) (middle c.not-other.result)
    (Some (arrival slots (way start path))) (c.in_ok-sides.ensures.no vs ∙ there) bit other
