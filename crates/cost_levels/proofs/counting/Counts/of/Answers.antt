use Rattle.std.proofs.Common.{◌≡◌, ◌*◌, suc, length, slice_get, Some, refl, ap, ◌∙◌, arith}
use Rattle.std.proofs.lemmas.Option.{slice_get_read}
use Rattle.cost_levels.proofs.Numbered.{reach_back}
use Rattle.cost_levels.proofs.counting.Counts.of.Goals as goal

pub loop-row-init : goal.loop-row-init
loop-row-init c =
    let width = c.in_ok-push_end.ensures.width in
    let many = c.in_ok-push_end.ensures.many in
    record {
      width = omega (arith, width);
      many = omega (arith, many);
      right = c.in_ok-push_end.ensures.right c.args.rows.now;
    }

pub push_row-requires : goal.push_row-requires
push_row-requires c =
    let rows = c.args.rows.now in
    let row = c.row-item.result in
    let i = c.loop-row.row-index in
    let at : slice_get rows i ≡ Some row =
    slice_get_read rows (length rows) i row refl c.loop-row-test.true c.row-item.is in
    reach_back c.loop-row.counts i row c.loop-row.invariant.many (c.requires i row at)

pub loop-row-preserved : goal.loop-row-preserved
loop-row-preserved c =
    let rows = c.args.rows.now in
    let row = c.row-item.result in
    let i = c.loop-row.row-index in
    let at : slice_get rows i ≡ Some row =
    slice_get_read rows (length rows) i row refl c.loop-row-test.true c.row-item.is in
    let width = c.in_ok-push_row.ensures.width in
    let more = c.in_ok-push_row.ensures.many in
    let many = c.loop-row.invariant.many in
    let wide = ap (λ w. suc i * w) width in
    record {
      width = width ∙ c.loop-row.invariant.width;
      many = omega (arith, more, many, wide);
      right = c.in_ok-push_row.ensures.right rows i at many c.loop-row.invariant.right;
    }

pub returns-clause-right : goal.returns-clause-right
returns-clause-right c =
    let last = c.loop-row-test.false in
    let within = c.loop-row.auto.row-index-end in
    let all : c.loop-row.row-index ≡ length c.args.rows.now = omega (arith, last, within) in
    record {
      so_far = c.loop-row.invariant.right;
      whole = c.loop-row.invariant.many ∙ ap (λ n. suc n * c.loop-row.counts.width) all;
    }
