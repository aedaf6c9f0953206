use Rattle.std.proofs.Common.{◌∙◌, ◌++◌, ◌∷◌, [], ap, Bool, map, length, length-append}
use Rattle.std.proofs.lemmas.List.{map_push}
use Rattle.bit_words.specs.Bits.{differ}
use Rattle.bit_words.specs.Words.{int_of}
use Rattle.bit_words.proofs.Floors.{unfolded_int}
use Rattle.bit_words.proofs.Kept.{owns_push}
use Rattle.bit_words.proofs.floor.unfold.Goals as goal

pub returns-clause-value : goal.returns-clause-value
returns-clause-value g c vs =
    let first = g.L.Logic.reads c.args.g.now vs in
    let bits = map first c.args.size.now in
    let wide = ap (map first) (c.in_ok-push.ensures.ok ∙ ap (λ w. w ++ c.constant-no.result ∷ []) c.in_ok-wide.ensures) ∙ map_push first c.args.size.now c.constant-no.result ∙ ap (λ (b : Bool). bits ++ b ∷ []) (c.constant-no.ensures.value vs) in
    ap int_of (c.in_ok-number.ensures.value vs ∙ ap (map (differ (first c.args.sign))) wide) ∙ unfolded_int (first c.args.sign) bits

pub flip_where-requires : goal.flip_where-requires
flip_where-requires g c = record { test = c.requires.sign; word = owns_push c.requires.word c.constant-no.ensures.owned (c.in_ok-push.ensures.ok ∙ ap (λ w. w ++ c.constant-no.result ∷ []) c.in_ok-wide.ensures) }

pub returns-in_err-number-clause-extends : goal.returns-in_err-number-clause-extends
returns-in_err-number-clause-extends g c = c.flip_where.ensures.extends

pub returns-clause-extends : goal.returns-clause-extends
returns-clause-extends g c = c.flip_where.ensures.extends

pub returns-clause-made : goal.returns-clause-made
returns-clause-made g c = record {
  owned = c.in_ok-number.ensures.made.owned;
  width = c.in_ok-number.ensures.made.width ∙ ap length (c.in_ok-push.ensures.ok ∙ ap (λ w. w ++ c.constant-no.result ∷ []) c.in_ok-wide.ensures) ∙ length-append c.args.size.now (c.constant-no.result ∷ []);
}
