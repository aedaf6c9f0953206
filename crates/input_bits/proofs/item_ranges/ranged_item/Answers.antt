use Rattle.std.proofs.Common.{◌∙◌, ap, length, map, subst, sym, w32, rules}
use Rattle.std.specs.Prelude.{FitsSigned}
use Rattle.std.proofs.lemmas.Int.{to_z-of_z}
use Rattle.input_bits.specs.Known.{HoldsItems, is_item}
use Rattle.input_bits.proofs.item_ranges.ranged_item.Goals as goal

pub ranged_number-requires : goal.ranged_number-requires
ranged_number-requires g c =
    let h = subst (λ p. HoldsItems p (length c.args.item.now)) c.in-List.is c.requires.range in
    let low : FitsSigned w32 c.in-List.low = search rules in
    let high : FitsSigned w32 c.in-List.high = search rules in
    record {
      some = h.0;
      low = rw (to_z-of_z w32 c.in-List.low low) h.1;
      high = rw (to_z-of_z w32 c.in-List.high high) h.2;
      owned = c.requires.owned;
    }

pub ranged_character-requires : goal.ranged_character-requires
ranged_character-requires g c =
    let h = subst (λ p. HoldsItems p (length c.args.item.now)) c.in-Text.is c.requires.range in
    record { short = rw c.as_slice.ensures h; owned = rw c.as_slice.ensures c.requires.owned }

pub returns-in_ok-known-in-List-clause-within : goal.returns-in_ok-known-in-List-clause-within
returns-in_ok-known-in-List-clause-within g c vs =
    let f = g.L.Logic.reads c.args.g.now vs in
    let low : FitsSigned w32 c.in-List.low = search rules in
    let high : FitsSigned w32 c.in-List.high = search rules in
    (rw (to_z-of_z w32 c.in-List.low low, to_z-of_z w32 c.in-List.high high) at (c.in_ok-known-in-List.ensures.within vs))
    ∙ sym (ap (λ p. is_item p (map f c.args.item.now)) c.in-List.is)
