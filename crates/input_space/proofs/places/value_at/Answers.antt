use Rattle.std.proofs.Common.{◌+◌, ◌-◌, suc, FitsSigned, rules, w32, arith, ap}
use Rattle.std.proofs.lemmas.Int.{to_z-of_z}
use Rattle.input_space.proofs.Orders.{length_few, text_printable, value_int, value_list, value_text}
use Rattle.input_space.proofs.Totals.{length_int, length_list, length_text}
use Rattle.input_space.proofs.places.value_at.Goals as goal

pub number_at-requires : goal.number_at-requires
number_at-requires c =
    let f : FitsSigned w32 c.in-Int.low = search rules in
    let g : FitsSigned w32 c.in-Int.high = search rules in
    let n = length_int _ c.in-Int.low c.in-Int.high c.in-Int.is in
    simp to_z-of_z (omega (arith, n, c.requires.within))

pub returns-in-Int : goal.returns-in-Int
returns-in-Int c =
    let f : FitsSigned w32 c.in-Int.low = search rules in
    let g : FitsSigned w32 c.in-Int.high = search rules in
    let r : FitsSigned w32 c.number_at.result = search rules in
    let at = simp to_z-of_z at c.number_at.ensures in
    simp to_z-of_z (value_int _ c.in-Int.low c.in-Int.high _ _ c.in-Int.is at)

pub place_of-place-requires : goal.place_of-place-requires
place_of-place-requires c =
    let f : FitsSigned w32 c.in-List.low = search rules in
    let g : FitsSigned w32 c.in-List.high = search rules in
    let n = length_list _ c.in-List.least c.in-List.most c.in-List.low c.in-List.high _ c.in-List.is (simp to_z-of_z at c.span.ensures.same) in
    record { within = omega (arith, n, c.requires.within); counted = omega (arith, n, c.requires.counted) }

pub numbers_at-requires : goal.numbers_at-requires
numbers_at-requires c =
    let f : FitsSigned w32 c.in-List.low = search rules in
    let g : FitsSigned w32 c.in-List.high = search rules in
    let s = simp to_z-of_z at c.span.ensures.same in
    let n = length_list _ c.in-List.least c.in-List.most c.in-List.low c.in-List.high _ c.in-List.is s in
    let place = c.place_of-place.ensures in
    let few = length_few 1000000000000 c.span.result c.in-List.least c.place_of-place.result.more (suc c.in-List.most - c.in-List.least) place.length (omega (arith, n, c.requires.counted)) in
    simp (to_z-of_z, ← s, c.from.ensures) (record { within = place.rest; counted = few })

pub returns-in_ok-numbers-in-List : goal.returns-in_ok-numbers-in-List
returns-in_ok-numbers-in-List c =
    let f : FitsSigned w32 c.in-List.low = search rules in
    let g : FitsSigned w32 c.in-List.high = search rules in
    let s = simp to_z-of_z at c.span.ensures.same in
    let at = simp to_z-of_z at c.in_ok-numbers-in-List.ensures in
    let place = c.place_of-place.ensures in
    rw c.from_vec.ensures
    (value_list _ c.in-List.least c.in-List.most c.in-List.low c.in-List.high _ _ _ _ _ _ c.in-List.is s (ap (λ k. k + c.place_of-place.result.more) c.from.ensures) place.length place.place place.rest at)

pub place_of-place-requires-in-Text : goal.place_of-place-requires-in-Text
place_of-place-requires-in-Text c =
    let n = length_text _ c.in-Text.least c.in-Text.most c.in-Text.alphabet _ c.in-Text.is c.len.ensures in
    record { within = omega (arith, n, c.requires.within); counted = omega (arith, n, c.requires.counted) }

pub characters_at-requires : goal.characters_at-requires
characters_at-requires c =
    let n = length_text _ c.in-Text.least c.in-Text.most c.in-Text.alphabet _ c.in-Text.is c.len.ensures in
    let place = c.place_of-place-in-Text.ensures in
    let few = length_few 1000000000000 _ c.in-Text.least _ _ place.length (omega (arith, n, c.requires.counted)) in
    rw (c.bytes.ensures.same, c.from-in-Text.ensures, ← c.len.ensures) (record { within = place.rest; counted = few })

pub returns-in_ok-characters-in-Text : goal.returns-in_ok-characters-in-Text
returns-in_ok-characters-in-Text c =
    let place = c.place_of-place-in-Text.ensures in
    let at = rw c.bytes.ensures.same at c.in_ok-characters-in-Text.ensures in
    rw c.from_vec-in-Text.ensures
    (value_text _ c.in-Text.least c.in-Text.most c.in-Text.alphabet _ _ _ _ _ _ c.in-Text.is c.len.ensures (ap (λ k. k + c.place_of-place-in-Text.result.more) c.from-in-Text.ensures) place.length place.place place.rest at)

pub from_vec-requires-in-Text : goal.from_vec-requires-in-Text
from_vec-requires-in-Text c =
    let at = rw c.bytes.ensures.same at c.in_ok-characters-in-Text.ensures in
    text_printable _ _ c.in-Text.alphabet _ c.bytes.ensures.printable at
