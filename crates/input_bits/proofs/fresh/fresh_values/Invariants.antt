use Rattle.std.proofs.Common.{◌≡◌, Bool, List, map, take}
use Rattle.bit_words.specs.Logic.{OwnsAll}
use Rattle.bit_words.specs.Later.{AddsVariables}
use Rattle.sym_values.specs.Forms.{form_for, forms_of, values_bits}
use Rattle.sym_values.specs.Reading.{map_bits}
use Rattle.input_space.specs.ValueBits.{all_bits_for}
use Rattle.input_bits.specs.Layout.{all_laid_out}
use Rattle.input_bits.proofs.fresh.fresh_values.Given as goal

abbrev pub invariant-loop-ty : goal.invariant-loop-ty
invariant-loop-ty g l =
    let v = g.V.Logic in
    let made = take l.ty-index l.fn.types in
    record {
      adds : AddsVariables v.owns v.reads v.count (all_bits_for l.fn.limits made) l.fn.g l.g;
      owned : OwnsAll v.owns l.g (values_bits l.values);
      forms : forms_of l.values ≡ map (form_for l.fn.limits) made;
      value : (vs : List Bool) → map (map_bits (v.reads l.g vs)) l.values ≡ all_laid_out l.fn.limits made vs (v.count l.fn.g);
    }
