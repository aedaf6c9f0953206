use Rattle.std.proofs.Common.{◌∙◌, ◌<◌, ◌-◌, ◌^◌, ap, arith, map, not, length, length-append, ◌∷◌, [], sym, w32}
use Rattle.std.proofs.lemmas.Int.{to_z-of_z}
use Rattle.bit_words.specs.Operations.{folded}
use Rattle.std.proofs.lemmas.List.{length-map}
use Rattle.bit_words.specs.Words.{int_of, is_negative, nat_of}
use Rattle.bit_words.proofs.Constants.{complement_is, constant_is, digits_left, with_zero}
use Rattle.bit_words.proofs.Integers.{int_not, nat_read_below}
use Rattle.bit_words.proofs.Kept.{owns_push}
use Rattle.bit_words.proofs.number.number_word.Goals as goal

pub returns-clause-over : goal.returns-clause-over
returns-clause-over g c vs =
    let f = g.L.Logic.reads c.args.g.now vs in
    let written = to_z-of_z w32 c.args.number c.ranges.number in
    let n = c.args.width - 1 in
    c.constant-over.ensures.value vs
    ∙ digits_left (2 ^ n) c.args.number (nat_of (map f c.in_ok-word.word)) c.in_ok-word.rest (nat_read_below f c.in_ok-word.word n c.in_ok-word.ensures.width)
    (c.in_ok-word.ensures.value vs ∙ c.folded_size-size.ensures ∙ ap folded written)

pub returns-then-is_below_zero-clause-over : goal.returns-then-is_below_zero-clause-over
returns-then-is_below_zero-clause-over g c vs =
    let f = g.L.Logic.reads c.args.g.now vs in
    let written = to_z-of_z w32 c.args.number c.ranges.number in
    let n = c.args.width - 1 in
    c.constant-over.ensures.value vs
    ∙ digits_left (2 ^ n) c.args.number (nat_of (map f c.in_ok-word.word)) c.in_ok-word.rest (nat_read_below f c.in_ok-word.word n c.in_ok-word.ensures.width)
    (c.in_ok-word.ensures.value vs ∙ c.folded_size-size.ensures ∙ ap folded written)

pub returns-clause-value : goal.returns-clause-value
returns-clause-value g c vs fit =
    let f = g.L.Logic.reads c.args.g.now vs in
    let written = to_z-of_z w32 c.args.number c.ranges.number in
    with_zero f c.in_ok-word.word c.push.new.self c.constant-sign.result (c.constant-sign.ensures.value vs) c.in_ok-push.ensures.ok
    ∙ constant_is (2 ^ (c.args.width - 1)) c.args.number (nat_of (map f c.in_ok-word.word)) c.in_ok-word.rest (sym (c.if-is_below_zero.ensures ∙ ap is_negative written)) (c.in_ok-word.ensures.value vs ∙ c.folded_size-size.ensures ∙ ap folded written) fit

pub returns-then-is_below_zero-clause-value : goal.returns-then-is_below_zero-clause-value
returns-then-is_below_zero-clause-value g c vs fit =
    let f = g.L.Logic.reads c.args.g.now vs in
    let written = to_z-of_z w32 c.args.number c.ranges.number in
    let some : 0 < length (map f c.push.new.self) = simp length-map (omega (arith, ap length c.in_ok-push.ensures.ok, length-append c.in_ok-word.word (c.constant-sign.result ∷ []))) in
    let plain = with_zero f c.in_ok-word.word c.push.new.self c.constant-sign.result (c.constant-sign.ensures.value vs) c.in_ok-push.ensures.ok in
    let turned = int_not (map f c.push.new.self) some in
    let sum = rw plain at turned in
    ap int_of (c.in_ok-word-2.ensures.value vs)
    ∙ complement_is (2 ^ (c.args.width - 1)) c.args.number (int_of (map not (map f c.push.new.self))) (nat_of (map f c.in_ok-word.word)) c.in_ok-word.rest (sym (c.if-is_below_zero.ensures ∙ ap is_negative written)) (c.in_ok-word.ensures.value vs ∙ c.folded_size-size.ensures ∙ ap folded written) fit sum

pub returns-clause-made : goal.returns-clause-made
returns-clause-made g c = record {
  owned = owns_push c.in_ok-word.ensures.owned c.constant-sign.ensures.owned c.in_ok-push.ensures.ok;
  owned_over = c.constant-over.ensures.owned;
  width = omega (arith, simp length-append at (ap length c.in_ok-push.ensures.ok), c.in_ok-word.ensures.width, c.requires.some);
}
