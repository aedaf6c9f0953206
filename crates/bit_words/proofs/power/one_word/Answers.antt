use Rattle.std.proofs.Common.{◌∙◌, ◌+◌, ◌-◌, ℕ, ap, Bool, map}
use Rattle.bit_words.specs.Words.{bit_value, nat_of}
use Rattle.bit_words.proofs.Signs.{nat_zeros}
use Rattle.bit_words.proofs.power.one_word.Goals as goal

pub returns-clause-value : goal.returns-clause-value
returns-clause-value g c vs =
    let f = g.L.Logic.reads c.args.g.now vs in
    let rest = ap nat_of (c.in_ok-word.ensures.value vs) ∙ nat_zeros (c.args.width - 1) in
    ap (λ w. nat_of (map f w)) c.in_ok-push_low.ensures.ok ∙ ap (λ (b : Bool). bit_value b + (nat_of (map f c.in_ok-word.word) + nat_of (map f c.in_ok-word.word))) (c.constant-yes.ensures.value vs)
    ∙ ap (λ (n : ℕ). 1 + (n + n)) rest
