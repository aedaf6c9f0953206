use Rattle.std.proofs.Common.{FitsSigned, w32, get_or, pos, rules}
use Rattle.std.proofs.lemmas.Int.{to_z-of_z}
use Rattle.mpy_tree.proofs.Progressions.{range_of_three}
use Rattle.value_operations.proofs.builtins.range_over.Goals as goal

pub returns-in-len3 : goal.returns-in-len3
returns-in-len3 c =
    let zs = c.args.numbers.now in
    let first : FitsSigned w32 (get_or zs 0 (pos 0)) = search rules in
    let second : FitsSigned w32 (get_or zs 1 (pos 0)) = search rules in
    let third : FitsSigned w32 (get_or zs 2 (pos 0)) = search rules in
    let gives = simp to_z-of_z at c.range-in-len3.ensures in
    rw (range_of_three c.args.l.now zs c.in-len3.len_at_least c.in-len3.len_below) gives
