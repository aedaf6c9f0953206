use Rattle.std.proofs.Common.{FitsSigned, rules, w32, arith}
use Rattle.std.proofs.lemmas.Int.{to_z-of_z}
use Rattle.input_space.proofs.Totals.{length_int, length_list, length_text}
use Rattle.input_space.proofs.counting.values_count.Goals as goal

pub returns-in-Int : goal.returns-in-Int
returns-in-Int c =
    let f : FitsSigned w32 c.in-Int.low = search rules in
    let g : FitsSigned w32 c.in-Int.high = search rules in
    let n = length_int _ c.in-Int.low c.in-Int.high c.in-Int.is in
    let s = simp to_z-of_z at c.span.ensures.same in
    omega (arith, n, s)

pub returns-in-List : goal.returns-in-List
returns-in-List c =
    let f : FitsSigned w32 c.in-List.low = search rules in
    let g : FitsSigned w32 c.in-List.high = search rules in
    let n = length_list _ c.in-List.least c.in-List.most c.in-List.low c.in-List.high _ c.in-List.is (simp to_z-of_z at c.span-in-List.ensures.same) in
    rw n c.lists_count.ensures

pub returns-in-Text : goal.returns-in-Text
returns-in-Text c =
    rw (length_text _ c.in-Text.least c.in-Text.most c.in-Text.alphabet _ c.in-Text.is c.len.ensures) c.lists_count-in-Text.ensures
