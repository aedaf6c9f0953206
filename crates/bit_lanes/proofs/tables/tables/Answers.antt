use Rattle.std.proofs.Common.{rules, ◌≡◌, ◌∙◌, ◌+◌, ◌<◌, ◌++◌, ◌∷◌, [], All, length, length-append, map, suc, ap, sym, arith, subst}
use Rattle.std.proofs.lemmas.List.{map_push}
use Rattle.std.proofs.lemmas.List.Elements.{All-push}
use Rattle.bit_lanes.specs.Digits.{digits_of}
use Rattle.bit_lanes.specs.Lane.{IsTable, lane_of, reads_table}
use Rattle.bit_lanes.proofs.DigitNumbers.{digits_more}
use Rattle.bit_lanes.proofs.tables.tables.Goals as goal

pub loop-digit-preserved : goal.loop-digit-preserved
loop-digit-preserved c =
    let before = c.loop-digit.invariant in
    let w = c.loop-digit.all.items in
    let t = c.table.result in
    let k = c.loop-digit.digit in
    let small : t < 18446744073709551616 = search rules in
    let next : k + 1 ≡ suc k = omega arith in
    record {
      owned = subst (All IsTable) (sym c.in_ok-push.ensures.items) (All-push IsTable w t before.owned small);
      width = ap length c.in_ok-push.ensures.items ∙ simp length-append (omega (arith, before.width));
      value = λ vs number e.
          ap (λ v. map (reads_table vs) v) c.in_ok-push.ensures.items ∙ map_push (reads_table vs) w t
          ∙ ap (λ v. v ++ reads_table vs t ∷ []) (before.value vs number e)
          ∙ ap (λ d. digits_of k number ++ d ∷ []) (c.table.ensures (lane_of 6 vs) number e)
          ∙ sym (ap (λ i. digits_of i number) next ∙ digits_more k number);
    }
