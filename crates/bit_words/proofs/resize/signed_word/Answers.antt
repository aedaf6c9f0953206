use Rattle.std.proofs.Common.{◌≡◌, ◌∙◌, ◌++◌, ◌∷◌, [], ap}
use Rattle.bit_words.proofs.Constants.{with_zero}
use Rattle.bit_words.proofs.resize.signed_word.Goals as goal

pub returns-clause-over : goal.returns-clause-over
returns-clause-over g c vs =
    let f = g.L.Logic.reads c.args.g.now vs in
    let whole : c.push.new.self ≡ c.args.bits.now ++ c.constant-sign.result ∷ [] =
    c.in_ok-push.ensures.ok ∙ ap (λ w. w ++ c.constant-sign.result ∷ []) (c.from_vec-word.ensures ∙ c.in_ok-from_slice.ensures.items) in
    let number = with_zero f c.args.bits.now c.push.new.self c.constant-sign.result (c.constant-sign.ensures.value vs) whole in
    rw number at (c.in_ok-number.ensures.over vs)

pub returns-clause-value : goal.returns-clause-value
returns-clause-value g c vs =
    let f = g.L.Logic.reads c.args.g.now vs in
    let whole : c.push.new.self ≡ c.args.bits.now ++ c.constant-sign.result ∷ [] =
    c.in_ok-push.ensures.ok ∙ ap (λ w. w ++ c.constant-sign.result ∷ []) (c.from_vec-word.ensures ∙ c.in_ok-from_slice.ensures.items) in
    let number = with_zero f c.args.bits.now c.push.new.self c.constant-sign.result (c.constant-sign.ensures.value vs) whole in
    rw number at (c.in_ok-number.ensures.value vs)
