use Rattle.std.proofs.Common.{◌≡◌, ◌∙◌, ◌-◌, ap, length, map, arith, ◌++◌, ◌∷◌, [], length-append}
use Rattle.std.proofs.lemmas.List.{length-map, map_push}
use Rattle.bit_words.specs.Words.{nat_of, int_of}
use Rattle.bit_words.proofs.Kept.{owns_push}
use Rattle.bit_words.proofs.Signs.{unsigned_int, signed_fits, cond_signed}
use Rattle.bit_words.proofs.magnitude.with_sign.Goals as goal

pub turn_where-requires : goal.turn_where-requires
turn_where-requires g c = record {
  some = omega (arith, simp length-append at (ap length c.in_ok-push.ensures.ok));
  test = c.requires.sign;
  word = owns_push c.requires.word c.constant-no.ensures.owned (c.in_ok-push.ensures.ok ∙ ap (λ w. w ++ c.constant-no.result ∷ []) c.in_ok-wide.ensures);
}

pub returns-in_err-number-clause-extends : goal.returns-in_err-number-clause-extends
returns-in_err-number-clause-extends g c = c.turn_where.ensures.extends

pub returns-clause-extends : goal.returns-clause-extends
returns-clause-extends g c = c.turn_where.ensures.extends

pub returns-clause-value : goal.returns-clause-value
returns-clause-value g c vs =
    let first = g.L.Logic.reads c.args.g.now vs in
    let bits = map first c.args.size.now in
    let sign = first c.args.sign in
    let wide = ap (map first) (c.in_ok-push.ensures.ok ∙ ap (λ w. w ++ c.constant-no.result ∷ []) c.in_ok-wide.ensures) ∙ map_push first c.args.size.now c.constant-no.result ∙ ap (λ b. bits ++ b ∷ []) (c.constant-no.ensures.value vs) in
    let same = ap int_of wide ∙ unsigned_int bits in
    let width : length c.push.new.self - 1 ≡ length bits = simp length-map (omega (arith, ap length c.in_ok-push.ensures.ok, ap length c.in_ok-wide.ensures, length-append c.in_ok-wide.wide (c.constant-no.result ∷ []))) in
    let turned = rw (same, cond_signed sign (nat_of bits), width) at (c.in_ok-number.ensures.value vs) in
    turned (signed_fits bits sign)

pub returns-clause-made : goal.returns-clause-made
returns-clause-made g c = record {
  owned = c.in_ok-number.ensures.made.owned;
  width = c.in_ok-number.ensures.made.width ∙ ap length (c.in_ok-push.ensures.ok ∙ ap (λ w. w ++ c.constant-no.result ∷ []) c.in_ok-wide.ensures) ∙ length-append c.args.size.now (c.constant-no.result ∷ []);
}
