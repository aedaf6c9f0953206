use Rattle.std.proofs.Common.{◌≡◌, ◌∙◌, ℕ, ap, sym, true, false}
use Rattle.std.specs.Prelude.{nat_eq}
use Rattle.bit_words.specs.Logic.{extends_keeps, extends_trans}
use Rattle.bit_words.specs.Later.{nat_later}
use Rattle.bit_words.specs.Words.{nat_read}
use Rattle.sym_nodes.proofs.Choosing.{place_is, place_other}
use Rattle.sym_nodes.proofs.decided.known_member.Goals as goal

pub returns-in-Some-true-clause-value : goal.returns-in-Some-true-clause-value
returns-in-Some-true-clause-value g c vs =
    let i = c.loop-i.i in
    let n = nat_read g.L.Logic.reads c.args.g.now vs c.args.member.now in
    let number = nat_later (extends_keeps c.loop-i.invariant.extends) c.requires.member vs in
    let test : nat_eq n i ≡ true =
    sym (c.in_ok-named.ensures.value vs ∙ ap (λ (k : ℕ). nat_eq k i) number) ∙ c.in-Some-true.ensures vs ∙ c.in-Some-true.field-0-test in
    place_is n i c.args.count test c.loop-i-test.true

pub loop-i-preserved : goal.loop-i-preserved
loop-i-preserved g c =
    let i = c.loop-i.i in
    let before = c.loop-i.invariant in
    record {
      extends = extends_trans before.extends c.is_place.ensures.extends;
      value = λ vs.
          let n = nat_read g.L.Logic.reads c.args.g.now vs c.args.member.now in
          let number = nat_later (extends_keeps before.extends) c.requires.member vs in
          let test : nat_eq n i ≡ false =
          sym (c.in_ok-named.ensures.value vs ∙ ap (λ (k : ℕ). nat_eq k i) number) ∙ c.in-Some-false.ensures vs ∙ c.in-Some-false.field-0-test in
          place_other n i test ∙ before.value vs;
    }
