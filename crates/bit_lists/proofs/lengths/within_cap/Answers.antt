use Rattle.std.proofs.Common.{◌≡◌, ◌∙◌, ap, sym, not, map, List, false, true, ltb, ◌+◌}
use Rattle.bit_words.specs.Words.{nat_of}
use Rattle.bit_words.specs.Logic.{extends_trans}
use Rattle.bit_words.proofs.Kept.{reads_kept}
use Rattle.bit_lists.proofs.Held.{word_is}
use Rattle.bit_lists.proofs.Sums.{all_kept, none_kept}
use Rattle.bit_lists.proofs.lengths.within_cap.Goals as goal

pub returns-clause-fault : goal.returns-clause-fault
returns-clause-fault g c vs =
    let reads = g.L.Logic.reads in
    let left = c.less_number.ensures.extends.same _ c.requires.left vs in
    let large = c.not-large.ensures.value vs ∙ ap not (c.in_ok-small.ensures.value vs ∙ ap (λ (w : List _). ltb (nat_of (map (reads c.args.g.now vs) w)) (c.args.cap + 1)) c.as_slice.ensures) in
    c.mask.ensures.extends.same _ c.in_ok-fault.ensures.owned vs ∙ rw (left, large) at (c.in_ok-fault.ensures.value vs)

pub returns-clause-value : goal.returns-clause-value
returns-clause-value g c vs h =
    let reads = g.L.Logic.reads in
    let before : reads c.or.new.g vs c.in_ok-fault.fault ≡ false = sym (c.mask.ensures.extends.same _ c.in_ok-fault.ensures.owned vs) ∙ h in
    let kept = reads_kept (extends_trans c.less_number.ensures.extends c.or.ensures.extends) c.requires.number vs in
    ap (λ (w : List _). nat_of (map (reads c.mask.new.g vs) w)) (c.from_vec-len.ensures ∙ c.into_vec.ensures)
    ∙ ap nat_of (c.in_ok-masked.ensures.value vs)
    ∙ all_kept _ _ (c.not-good.ensures.value vs ∙ ap not before)
    ∙ ap nat_of kept

pub returns-clause-none : goal.returns-clause-none
returns-clause-none g c vs h =
    let reads = g.L.Logic.reads in
    let before : reads c.or.new.g vs c.in_ok-fault.fault ≡ true = sym (c.mask.ensures.extends.same _ c.in_ok-fault.ensures.owned vs) ∙ h in
    ap (λ (w : List _). nat_of (map (reads c.mask.new.g vs) w)) (c.from_vec-len.ensures ∙ c.into_vec.ensures)
    ∙ ap nat_of (c.in_ok-masked.ensures.value vs)
    ∙ none_kept _ _ (c.not-good.ensures.value vs ∙ ap not before)

pub returns-clause-made : goal.returns-clause-made
returns-clause-made g c = word_is (c.from_vec-len.ensures ∙ c.into_vec.ensures) c.in_ok-masked.ensures.made
