use Rattle.std.proofs.Common.{◌≡◌, ◌∙◌, ◌+◌, ◌-◌, ◌^◌, ap, List, Bool, true, not, map, take, arith, length, ◌++◌, ◌∷◌, [], length-take, subst, sym}
use Rattle.bit_words.specs.Words.{int_read, is_within, nat_of}
use Rattle.bit_words.proofs.Kept.{reads_kept, take_read, owns_read, owns_taken, owns_kept}
use Rattle.bit_words.proofs.Naturals.{power_double, nat_more}
use Rattle.bit_words.proofs.Integers.{int_split, int_pushed, nat_taken_below}
use Rattle.bit_words.proofs.Signs.{narrow_cases}
use Rattle.bit_words.proofs.narrow.narrow.Given as given
use Rattle.bit_words.specs.Logic.{OwnsAll}
use Rattle.bit_words.proofs.narrow.narrow.Goals as goal

both : (g : given.Over) (c : goal.In_ok-over g) (vs : List Bool) →
    let z = int_read g.L.Logic.reads c.args.g.now vs c.args.wide.now in
    (g.L.Logic.reads c.xor.new.self vs c.in_ok-over.over ≡ not (is_within (2 ^ (c.args.width - 1)) z))
    × (is_within (2 ^ (c.args.width - 1)) z ≡ true → int_read g.L.Logic.reads c.xor.new.self vs c.in_ok-low.low ≡ z)
both g c vs =
    let first = g.L.Logic.reads c.args.g.now vs in
    let last = g.L.Logic.reads c.xor.new.self vs in
    let wide = c.args.wide.now in
    let n = c.args.width - 1 in
    let width : c.args.width ≡ n + 1 = omega arith in
    let whole : 2 ^ c.args.width ≡ 2 ^ n + 2 ^ n = ap (λ k. 2 ^ k) (omega arith) ∙ power_double n in
    let sign = int_split first wide c.args.width c.at-sign.result c.at-sign.ensures c.requires.wider in
    let top = ap (λ k. nat_of (map first (take k wide))) width ∙ nat_more first wide n c.at-top.result c.at-top.ensures in
    let kept = reads_kept c.xor.ensures.extends (owns_taken n c.requires.owned) vs in
    let low : c.in_ok-low.low ≡ take n wide ++ c.at-top.result ∷ [] = c.in_ok-low.ensures ∙ ap (λ k. take k wide) width ∙ take_read wide n c.at-top.result c.at-top.ensures in
    let narrow = int_pushed first last (take n wide) c.in_ok-low.low c.at-top.result n (simp length-take (omega arith)) kept low in
    let bit = c.xor.ensures.extends.same _ (owns_read _ c.requires.owned c.at-top.ensures) vs in
    rw (c.in_ok-over.ensures.value vs) (narrow_cases (2 ^ n) (first c.at-top.result) (first c.at-sign.result) _ _ _ (nat_taken_below first wide n (omega arith)) (rw (whole, top) at sign) (rw bit at narrow))

pub returns-clause-over : goal.returns-clause-over
returns-clause-over g c vs = (both g c vs).0

pub returns-clause-value : goal.returns-clause-value
returns-clause-value g c vs = (both g c vs).1

pub xor-requires : goal.xor-requires
xor-requires g c = record { left = owns_read _ c.requires.owned c.at-top.ensures; right = owns_read _ c.requires.owned c.at-sign.ensures }

pub returns-in_err-over-clause-extends : goal.returns-in_err-over-clause-extends
returns-in_err-over-clause-extends g c = c.xor.ensures.extends

pub returns-clause-extends : goal.returns-clause-extends
returns-clause-extends g c = c.xor.ensures.extends

pub returns-clause-made : goal.returns-clause-made
returns-clause-made g c = record {
  owned = owns_kept c.xor.ensures.extends (subst (OwnsAll g.L.Logic.owns c.args.g.now) (sym c.in_ok-low.ensures) (owns_taken c.args.width c.requires.owned));
  owned_over = c.in_ok-over.ensures.owned;
  width = ap length c.in_ok-low.ensures ∙ simp length-take (omega (arith, c.requires.wider));
}
