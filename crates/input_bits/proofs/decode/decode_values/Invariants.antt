use Rattle.std.proofs.Common.{◌≡◌, ◌+◌, ◌++◌, drop}
use Rattle.std.specs.Prelude.{option_map}
use Rattle.input_space.specs.ValueBits.{all_bits_for, values_at}
use Rattle.input_bits.proofs.decode.decode_values.Given as goal

-- what is spelled is what was decoded and what is left
abbrev pub invariant-loop-ty : goal.invariant-loop-ty
invariant-loop-ty l =
    let left = drop l.ty-index l.fn.types in
    record {
      place : l.place + all_bits_for l.fn.limits left ≡ l.fn.start + all_bits_for l.fn.limits l.fn.types;
      whole : values_at l.fn.limits l.fn.types l.fn.truths l.fn.start
          ≡ option_map (λ rest. l.values.items ++ rest) (values_at l.fn.limits left l.fn.truths l.place);
    }
