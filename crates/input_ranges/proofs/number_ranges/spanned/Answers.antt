use Rattle.std.proofs.Common.{◌∙◌, ap, map, sym, w32}
use Rattle.std.proofs.lemmas.Bool.{and_parts}
use Rattle.std.proofs.lemmas.Int.{to_z-of_z}
use Rattle.bit_words.specs.Logic.{extends_trans}
use Rattle.bit_words.specs.Words.{int_of, int_read}
use Rattle.bit_words.proofs.Kept.{reads_kept}
use Rattle.input_space.specs.Inputs.{is_between}
use Rattle.input_ranges.proofs.Between.{and_same, both_tested}
use Rattle.input_ranges.proofs.number_ranges.spanned.Goals as goal

pub returns-clause-within : goal.returns-clause-within
returns-clause-within g c vs =
    let reads = g.L.Logic.reads in
    let z = int_read reads c.args.g.now vs c.args.word.now in
    let known = c.in_ok-known.known in
    let low = to_z-of_z w32 c.args.low c.ranges.low in
    let high = to_z-of_z w32 c.args.high c.ranges.high in
    let all = c.as_slice-all.ensures in
    let whole = c.from_vec-number.ensures ∙ c.into_vec.ensures in
    let fixed = rw all at (c.in_ok-known.ensures.within vs) in
    let same = rw all at (c.in_ok-known.ensures.same vs) in
    let right = rw (all, low, high) at (c.high_bit-top.ensures.right vs) in
    let still = c.between.ensures.extends.same known.within c.in_ok-known.ensures.owned vs in
    let inside = rw (low, high, whole) at (c.in_ok-inside.ensures.value vs) in
    c.in_ok-within.ensures.value vs
    ∙ and_same _ _ _ _ still inside
    ∙ both_tested (reads c.with_high.new.g vs known.within) _ (is_between c.args.low c.args.high z)
    (λ e. ap (λ w. is_between c.args.low c.args.high (int_of w)) (same e)) (λ e. fixed ∙ right e)

pub returns-clause-same : goal.returns-clause-same
returns-clause-same g c vs h =
    let reads = g.L.Logic.reads in
    let known = c.in_ok-known.known in
    let all = c.as_slice-all.ensures in
    let whole = c.from_vec-number.ensures ∙ c.into_vec.ensures in
    let same = rw all at (c.in_ok-known.ensures.same vs) in
    let still = c.between.ensures.extends.same known.within c.in_ok-known.ensures.owned vs in
    let fine = sym still ∙ (and_parts _ _ (sym (c.in_ok-within.ensures.value vs) ∙ h)).0 in
    ap (map (reads c.and.new.self vs)) (c.from_vec-bits.ensures ∙ c.into_vec-2.ensures ∙ whole)
    ∙ reads_kept (extends_trans c.between.ensures.extends c.and.ensures.extends) c.in_ok-known.ensures.made.owned vs
    ∙ same fine
