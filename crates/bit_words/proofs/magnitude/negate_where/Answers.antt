use Rattle.std.proofs.Common.{◌≡◌, ◌<◌, ◌∙◌, ◌-◌, ap, length, map, arith, ◌++◌, ◌∷◌, [], length-append}
use Rattle.std.proofs.lemmas.List.{length-map, map_push}
use Rattle.bit_words.specs.Words.{int_of}
use Rattle.bit_words.proofs.Kept.{owns_push}
use Rattle.bit_words.proofs.Signs.{repeat_sign, negated_fits}
use Rattle.bit_words.proofs.magnitude.negate_where.Goals as goal

pub turn_where-requires : goal.turn_where-requires
turn_where-requires g c = record {
  some = omega (arith, simp length-append at (ap length c.in_ok-push.ensures.ok));
  test = c.requires.test;
  word = owns_push c.requires.word c.sign_of-sign.ensures.owned (c.in_ok-push.ensures.ok ∙ ap (λ w. w ++ c.sign_of-sign.result ∷ []) c.in_ok-wide.ensures);
}

pub returns-in_err-negated-clause-extends : goal.returns-in_err-negated-clause-extends
returns-in_err-negated-clause-extends g c = c.turn_where.ensures.extends

pub returns-clause-extends : goal.returns-clause-extends
returns-clause-extends g c = c.turn_where.ensures.extends

pub returns-clause-value : goal.returns-clause-value
returns-clause-value g c vs =
    let first = g.L.Logic.reads c.args.g.now vs in
    let bits = map first c.args.a.now in
    let test = first c.args.test in
    let some : 0 < length bits = simp length-map (omega arith) in
    let wide = ap (map first) (c.in_ok-push.ensures.ok ∙ ap (λ w. w ++ c.sign_of-sign.result ∷ []) c.in_ok-wide.ensures) ∙ map_push first c.args.a.now c.sign_of-sign.result in
    let same = ap int_of wide ∙ repeat_sign bits (first c.sign_of-sign.result) some (c.sign_of-sign.ensures.value vs) in
    let width : length c.push.new.self - 1 ≡ length bits = simp length-map (omega (arith, ap length c.in_ok-push.ensures.ok, ap length c.in_ok-wide.ensures, length-append c.in_ok-wide.wide (c.sign_of-sign.result ∷ []))) in
    let turned = rw (same, width) at (c.in_ok-negated.ensures.value vs) in
    turned (negated_fits bits test some)

pub returns-clause-made : goal.returns-clause-made
returns-clause-made g c = record {
  owned = c.in_ok-negated.ensures.made.owned;
  width = c.in_ok-negated.ensures.made.width ∙ ap length (c.in_ok-push.ensures.ok ∙ ap (λ w. w ++ c.sign_of-sign.result ∷ []) c.in_ok-wide.ensures) ∙ length-append c.args.a.now (c.sign_of-sign.result ∷ []);
}
