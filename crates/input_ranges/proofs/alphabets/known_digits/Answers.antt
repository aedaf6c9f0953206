use Rattle.std.proofs.Common.{◌∙◌, ◌+◌, ◌++◌, ◌∷◌, [], ◌&&◌, ap, arith, length, length-append, map, not, refl, sym, take}
use Rattle.std.proofs.lemmas.List.{length-map, map_push, take-map, take_all}
use Rattle.std.proofs.lemmas.Option.{slice_get_read}
use Rattle.bit_words.specs.Logic.{extends_trans}
use Rattle.bit_words.specs.Words.{nat_of}
use Rattle.bit_words.proofs.Kept.{owns_kept, owns_push, owns_read, reads_kept, take_read, value_read}
use Rattle.input_ranges.proofs.CharacterDigits.{digit_same, lower_digits, read_digit, same_digit}
use Rattle.input_ranges.proofs.alphabets.known_digits.Goals as goal

pub loop-place-preserved : goal.loop-place-preserved
loop-place-preserved g c =
    let reads = g.L.Logic.reads in
    let before = c.loop-place.invariant in
    let place = c.loop-place.place in
    let word = c.args.word.now in
    let bit = c.index-word-place.result in
    let known = c.known_digit-known.result in
    let at = slice_get_read word _ place bit refl (omega arith) c.index-word-place.is in
    let first = c.xor.ensures.extends in
    let last = c.and.ensures.extends in
    let both = extends_trans first last in
    let pushed = c.in_ok-push.ensures.ok in
    record {
      extends = extends_trans before.extends both;
      owned = owns_push (owns_kept both before.owned) (both.kept known c.known_digit-known.ensures.owned) pushed;
      owned_within = c.in_ok-within.ensures.owned;
      width = ap length pushed ∙ length-append c.loop-place.bits (known ∷ []) ∙ ap (λ k. k + 1) before.width;
      same = λ vs h.
          let f = reads c.args.g.now vs in
          let e = reads c.loop-place.g vs in
          let within = first.same c.loop-place.within before.owned_within vs in
          let tested = c.in_ok-within.ensures.value vs in
          let other = c.not-same.ensures.value vs ∙ ap not (c.in_ok-other.ensures.value vs) in
          let digits = same_digit (e bit) (e known) (e c.loop-place.within) (sym (ap (λ b. e c.loop-place.within && b) other) ∙ sym (ap (λ b. b && reads c.xor.new.self vs c.not-same.result) within) ∙ sym tested ∙ h) in
          let old = before.extends.same bit (owns_read place c.requires.owned at) vs in
          ap (map (reads c.and.new.self vs)) pushed ∙ map_push (reads c.and.new.self vs) c.loop-place.bits known
          ∙ ap (λ w. w ++ reads c.and.new.self vs known ∷ []) (reads_kept both before.owned vs ∙ before.same vs digits.0)
          ∙ ap (λ b. take place (map f word) ++ b ∷ []) (both.same known c.known_digit-known.ensures.owned vs ∙ digits.1 ∙ old)
          ∙ sym (take-map f (place + 1) word ∙ ap (map f) (take_read word place bit at) ∙ map_push f (take place word) bit ∙ ap (λ w. w ++ f bit ∷ []) (sym (take-map f place word)));
      right = λ vs among.
          let f = reads c.args.g.now vs in
          let e = reads c.loop-place.g vs in
          let n = nat_of (map f word) in
          let within = first.same c.loop-place.within before.owned_within vs in
          let fine = before.right vs among in
          let old = before.extends.same bit (owns_read place c.requires.owned at) vs in
          let long = length-map word f in
          let here = old ∙ sym (value_read f word place bit at) ∙ read_digit (map f word) place (omega arith) in
          let size = before.width in
          let spelled = c.as_slice.ensures in
          let said = (rw (spelled, size) at (c.known_digit-known.ensures.value vs n among)) (λ k l. lower_digits (map f word) (map e c.loop-place.bits) place k (before.same vs fine) (let m = length-map c.loop-place.bits e in omega arith) (let m = length-map c.loop-place.bits e in omega arith)) here in
          let other = c.not-same.ensures.value vs ∙ ap not (c.in_ok-other.ensures.value vs) in
          c.in_ok-within.ensures.value vs ∙ ap (λ b. b && reads c.xor.new.self vs c.not-same.result) within
          ∙ ap (λ b. e c.loop-place.within && b) other
          ∙ digit_same (e bit) (e known) (e c.loop-place.within) fine (said ∙ sym here);
    }

pub returns-clause-same : goal.returns-clause-same
returns-clause-same g c vs h =
    let f = g.L.Logic.reads c.args.g.now vs in
    let all = take_all c.loop-place.place (map f c.args.word.now) (let e = length-map c.args.word.now f in omega arith) in
    c.loop-place.invariant.same vs h ∙ all
