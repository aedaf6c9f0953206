use Rattle.std.proofs.Common.{◌≡◌, Bool, List, length, map}
use Rattle.bit_words.specs.Logic.{OwnsAll}
use Rattle.bit_words.specs.Later.{AddsVariables, values_from}
use Rattle.bit_words.proofs.inputs.fresh_bits.Given as goal

abbrev pub invariant-loop : goal.invariant-loop
invariant-loop g l =
    let v = g.V.Logic in
    record {
      adds : AddsVariables v.owns v.reads v.count l.counter l.fn.g l.g;
      owned : OwnsAll v.owns l.g l.bits;
      many : length l.bits ≡ l.counter;
      value : (vs : List Bool) → map (v.reads l.g vs) l.bits ≡ values_from vs (v.count l.fn.g) l.counter;
    }
