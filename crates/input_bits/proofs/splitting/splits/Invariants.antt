use Rattle.std.proofs.Common.{◌≡◌, ◌≤◌, take}
use Rattle.std.specs.List.{AllZip}
use Rattle.input_bits.specs.Cases.{Covers, cases}
use Rattle.input_bits.proofs.splitting.splits.Given as goal

abbrev pub invariant-loop-param : goal.invariant-loop-param
invariant-loop-param l = record {
  covers : AllZip Covers l.found.items (take l.param-index l.fn.bounds.params);
  count : l.count ≡ cases l.found.items;
  some : 1 ≤ l.count;
  few : l.count ≤ 64;
}
