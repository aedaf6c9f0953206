-- The words that were taken, and those to come, are all behind the first.
use Rattle.std.proofs.Common.{◌≡◌, ◌++◌, drop}
use Rattle.std.specs.Vec.Iter.{into_iter_items, into_iter_len}
use Rattle.grade_io.proofs.words.behind_first.Given as goal

abbrev pub invariant-collect : goal.invariant-collect
invariant-collect l = l.words.items ++ into_iter_items l.rest ≡ drop 1 (into_iter_items l.fn.all)

abbrev pub decreases-collect : goal.decreases-collect
decreases-collect l = into_iter_len l.rest
