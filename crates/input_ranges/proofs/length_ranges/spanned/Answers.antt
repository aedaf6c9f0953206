use Rattle.std.proofs.Common.{◌≡◌, ◌<◌, ◌≤◌, ◌∙◌, ◌^◌, ◌&&◌, ap, arith, sym, true}
use Rattle.std.specs.Prelude.{nat_le}
use Rattle.std.proofs.lemmas.Bool.{and_parts, leb-true}
use Rattle.bit_words.specs.Logic.{extends_trans}
use Rattle.bit_words.specs.Words.{nat_of, nat_read}
use Rattle.bit_words.proofs.Kept.{reads_kept}
use Rattle.input_ranges.proofs.HighBits.{length_high}
use Rattle.input_ranges.proofs.Between.{and_same, both_tested}
use Rattle.input_ranges.proofs.length_ranges.spanned.Goals as goal

pub returns-clause-within : goal.returns-clause-within
returns-clause-within g c vs =
    let reads = g.L.Logic.reads in
    let f = reads c.args.g.now vs in
    let len = c.args.len.now in
    let n = nat_read reads c.args.g.now vs len in
    let known = c.in_ok-known.known in
    let least = c.args.least in
    let most = c.args.most in
    let same = c.in_ok-known.ensures.same vs in
    let still = c.between.ensures.extends.same known.within c.in_ok-known.ensures.owned vs in
    let inside = rw c.as_slice.ensures at (c.in_ok-inside.ensures.value vs) in
    let high = λ (e : (nat_le least n && nat_le n most) ≡ true).
    let le : n ≤ most = leb-true n most (and_parts (nat_le least n) (nat_le n most) e).1 in
    let room : most < 2 ^ c.digits_of.result = c.digits_of.ensures in
    length_high f len c.digits_of.result c.min-digits.result _ c.min-digits.ensures (c.constant-zero.ensures.value vs) (omega arith) in
    c.in_ok-within.ensures.value vs
    ∙ and_same _ _ _ _ still inside
    ∙ both_tested (reads c.with_high.new.g vs known.within) _ (nat_le least n && nat_le n most)
    (λ e. ap (λ w. nat_le least (nat_of w) && nat_le (nat_of w) most) (same e)) (λ e. c.in_ok-known.ensures.within vs ∙ high e)

pub returns-clause-same : goal.returns-clause-same
returns-clause-same g c vs h =
    let known = c.in_ok-known.known in
    let still = c.between.ensures.extends.same known.within c.in_ok-known.ensures.owned vs in
    let fine = sym still ∙ (and_parts _ _ (sym (c.in_ok-within.ensures.value vs) ∙ h)).0 in
    reads_kept (extends_trans c.between.ensures.extends c.and.ensures.extends) c.in_ok-known.ensures.made.owned vs
    ∙ c.in_ok-known.ensures.same vs fine
