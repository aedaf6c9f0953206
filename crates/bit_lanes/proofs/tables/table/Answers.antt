use Rattle.std.proofs.Common.{◌∙◌, ◌+◌, ap, arith, map}
use Rattle.std.proofs.lemmas.List.{take_all}
use Rattle.bit_words.specs.Words.{nat_of}
use Rattle.bit_lanes.specs.Lane.{lane_bit}
use Rattle.bit_lanes.proofs.DigitLists.{added, table_bit, table_fits, table_more}
use Rattle.bit_lanes.proofs.tables.table.Goals as goal

pub overflow_add-table : goal.overflow_add-table
overflow_add-table c =
    let fits = table_fits c.args.column.now c.args.digit c.loop-lane.lane c.loop-lane-test.true c.requires.lanes in
    omega (arith, fits, c.loop-lane.invariant)

pub loop-lane-preserved : goal.loop-lane-preserved
loop-lane-preserved c =
    ap (λ t. t + added c.args.column.now c.args.digit c.loop-lane.lane) c.loop-lane.invariant
    ∙ table_more c.args.column.now c.args.digit c.loop-lane.lane c.loop-lane-test.true c.requires.lanes

pub returns : goal.returns
returns c lane number e =
    let all = take_all c.loop-lane.lane c.args.column.now c.loop-lane-test.false in
    ap (λ t. lane_bit t lane) (c.loop-lane.invariant ∙ ap (λ w. nat_of (map (λ n. lane_bit n c.args.digit) w)) all)
    ∙ table_bit c.args.column.now c.args.digit lane number e
