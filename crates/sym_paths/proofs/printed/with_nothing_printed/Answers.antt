use Rattle.std.proofs.Common.{◌≡◌, ◌++◌}
use Rattle.sym_paths.proofs.printed.with_nothing_printed.Goals as goal

pub returns : goal.returns
returns g c =
    let kept = c.in_ok-kept.kept in
    let one = c.into_vec-values.ensures in
    let two = c.into_vec.ensures in
    let three = c.in_ok-append.ensures.items in
    let four = c.from_vec.ensures in
    let whole : c.from_vec.result ≡ c.args.locals ++ kept = cc in
    record {
      kept = kept;
      behind = whole;
      held = c.in_ok-kept.ensures.held;
      reads_as = c.in_ok-kept.ensures.value;
      proper = c.in_ok-kept.ensures.proper;
    }
