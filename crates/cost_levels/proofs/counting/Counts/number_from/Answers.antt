use Rattle.std.proofs.Common.{◌≡◌, ◌+◌, suc, List, ◌∷◌, drop, ap, subst, sym, ◌∙◌, arith}
use Rattle.std.specs.Prelude.{slice_index_or}
use Rattle.std.proofs.lemmas.List.{drop_more}
use Rattle.cost_levels.specs.declared.rows.Way.{Way}
use Rattle.cost_levels.specs.Plans.{at_pick}
use Rattle.cost_levels.specs.Rows.{ShowWays}
use Rattle.cost_levels.proofs.Numbered.{Counting, counting_first, counting_last, counting_next}
use Rattle.cost_levels.proofs.Numbered.{number_there, way_reaches}
use Rattle.cost_levels.proofs.counting.Counts.number_from.Goals as goal

pub loop-way-init : goal.loop-way-init
loop-way-init c = λ rows base ws right shows ways.
    let row = c.args.row.now in
    let first =
    number_there rows c.args.self.now row.base c.args.cost c.at-number.result base right
    c.requires.within (c.requires.reach.base c.args.cost c.requires.within) shows
    c.at-number.ensures in
    counting_first rows c.deref-way-items.result.now c.args.cost c.at-number.result row.number
    ways.0 base ws first
    (subst (λ (vs : List Way). ShowWays rows ways.0 vs ws) (sym c.deref-way-items.ensures.value)
    ways.1)

pub with_member-number-requires : goal.with_member-number-requires
with_member-number-requires c = record {
  reach =
      way_reaches c.args.self.now c.args.row.now.others.items c.deref-way-items.result.now
      c.loop-way.way-index (record { cost = 0; next = 0 }) c.deref-way-items.ensures.value
      c.loop-way-test.true c.requires.reach.others;
  within = c.requires.within;
}

pub loop-way-preserved : goal.loop-way-preserved
loop-way-preserved c = λ rows base ws right shows ways.
    let items = c.deref-way-items.result.now in
    let i = c.loop-way.way-index in
    let v = slice_index_or items i (record { cost = 0; next = 0 }) in
    let same : i + 1 ≡ suc i = omega arith in
    let next : drop i items ≡ v ∷ drop (suc i) items =
    drop_more items i (record { cost = 0; next = 0 }) c.loop-way-test.true
    ∙ ap (λ n. v ∷ drop n items) same in
    let number = c.with_member-number.result in
    let plan = at_pick c.args.row.now.number base ws in
    subst (λ n. Counting rows items n c.args.cost number plan) (sym same)
    (counting_next rows items i c.args.cost c.loop-way.number number plan v next
    (λ q pick there. c.with_member-number.ensures rows q pick (suc i) right there)
    (c.loop-way.invariant rows base ws right shows ways))

pub returns : goal.returns
returns c = λ rows base ws right shows ways.
    counting_last rows c.deref-way-items.result.now c.loop-way.way-index c.args.cost
    c.loop-way.number (at_pick c.args.row.now.number base ws) c.loop-way-test.false
    (c.loop-way.invariant rows base ws right shows ways)
