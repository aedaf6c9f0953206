use Rattle.std.proofs.Common.{◌∙◌, ◌≤◌, ◌^◌, ◌+◌, Bool, List, refl, arith}
use Rattle.std.proofs.Math.Pow.{pow_mono}
use Rattle.std.proofs.lemmas.Option.{slice_get_read}
use Rattle.known_values.proofs.Digits.{digit_more, double}
use Rattle.known_values.proofs.numbers.known_number.Goals as goal
use Rattle.known_values.proofs.numbers.known_number.Goals.{then-branch, else-branch}

pub loop-i-preserved : goal.loop-i-preserved
loop-i-preserved g c =
    let i = c.loop-i.i in
    let bits = c.args.bits.now in
    let before = c.loop-i.invariant in
    let at = slice_get_read bits _ i c.index-bits-i.result refl (omega arith) c.index-bits-i.is in
    let twice = double i in
    let most : 2 ^ (i + 1) ≤ 2 ^ 16 = pow_mono {j = 16} (omega arith) in
    let more = λ (vs : List Bool). digit_more (g.L.Logic.reads c.args.g.now vs) bits i
    c.loop-i.number c.index-bits-i.result c.in_ok-known.field-0 at (c.in_ok-known.ensures vs)
    (before.value vs) in
    elim c.if-branch.branch [
      | then-branch w ↦ record {
        weight = omega arith;
        below = omega arith;
        most = omega arith;
        value = λ vs. more vs ∙ rw w.if-branch.true (omega arith);
      }
      | else-branch w ↦ record {
        weight = omega arith;
        below = omega arith;
        most = omega arith;
        value = λ vs. more vs ∙ rw w.if-branch.false (omega arith);
      }
    ]
