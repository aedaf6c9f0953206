use Rattle.std.proofs.Common.{◌∙◌, ◌≡◌, ◌+◌, ◌++◌, ◌∷◌, Some, ap, sym, arith, drop, get_or}
use Rattle.std.specs.Prelude.{option_map}
use Rattle.std.proofs.lemmas.List.{drop_more}
use Rattle.std.proofs.Math.ListN.{drop_of_length-le}
use Rattle.mpy_tree.specs.declared.typing.Ty.TheVariants.{Int}
use Rattle.input_space.specs.ValueBits.{all_bits_for}
use Rattle.input_bits.proofs.Decoding.{none_left, none_more, one_less}
use Rattle.input_bits.proofs.decode.decode_values.Goals as goal

pub decode_value-requires : goal.decode_value-requires
decode_value-requires c =
    let ts = c.args.types.now in
    let i = c.loop-ty.ty-index in
    let l = c.args.limits.now in
    let next : drop i ts ≡ get_or ts i Int ∷ drop (i + 1) ts = drop_more ts i Int (omega arith) in
    let many = ap (all_bits_for l) next in
    let before = c.loop-ty.invariant.place in
    let within = c.requires.within in
    record { within = omega arith; few = c.requires.few }

pub returns-in-None : goal.returns-in-None
returns-in-None c =
    let ts = c.args.types.now in
    let i = c.loop-ty.ty-index in
    let next = drop_more ts i Int (omega arith) in
    sym (c.loop-ty.invariant.whole
    ∙ ap (option_map (λ rest. c.loop-ty.values.items ++ rest)) (none_left c.args.limits.now c.args.truths.now _ _ _ c.loop-ty.place next (rw c.in-None.is at c.in_ok-decode_value.ensures)))

pub loop-ty-preserved : goal.loop-ty-preserved
loop-ty-preserved c =
    let ts = c.args.types.now in
    let i = c.loop-ty.ty-index in
    let l = c.args.limits.now in
    let next : drop i ts ≡ get_or ts i Int ∷ drop (i + 1) ts = drop_more ts i Int (omega arith) in
    let many = ap (all_bits_for l) next in
    let before = c.loop-ty.invariant in
    record {
      place = omega arith;
      whole = before.whole ∙ one_less l c.args.truths.now _ _ _ c.loop-ty.place _ c.in-Some.value c.loop-ty.values.items c.push.new.self.items next (rw c.in-Some.is at c.in_ok-decode_value.ensures)
          (omega arith) c.in_ok-push-in-Some.ensures.items;
    }

pub returns : goal.returns
returns c =
    let ts = c.args.types.now in
    let ended = drop_of_length-le ts {i = c.loop-ty.ty-index} (omega arith) in
    ap Some c.from_vec.ensures ∙ none_more c.args.limits.now c.args.truths.now c.loop-ty.values.items _ c.loop-ty.place ended ∙ sym c.loop-ty.invariant.whole
