use Rattle.std.proofs.Common.{◌≡◌, ◌*◌, Bool, List, map}
use Rattle.std.specs.Prelude.{replicate}
use Rattle.bit_words.specs.Logic.{OwnsAll}
use Rattle.bit_words.specs.Later.{AddsVariables}
use Rattle.sym_values.specs.Forms.{joined, lengths}
use Rattle.input_space.specs.ValueBits.{words_from}
use Rattle.input_bits.proofs.fresh.fresh_words.Given as goal

abbrev pub invariant-loop : goal.invariant-loop
invariant-loop g l =
    let v = g.V.Logic in
    record {
      adds : AddsVariables v.owns v.reads v.count (l.counter * l.width) l.fn.g l.g;
      owned : OwnsAll v.owns l.g (joined l.words);
      widths : lengths l.words ≡ replicate l.counter l.width;
      value : (vs : List Bool) → map (map (v.reads l.g vs)) l.words ≡ words_from vs (v.count l.fn.g) l.width l.counter;
    }
