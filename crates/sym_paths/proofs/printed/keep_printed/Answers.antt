use Rattle.std.proofs.Common.{◌<◌, ◌∙◌, ℕ, [], ◌∷◌, None, ap, cond, length, ltb}
use Rattle.std.proofs.Common.{map, subst, sym}
use Rattle.bit_words.specs.Logic.{extends_keeps, extends_trans}
use Rattle.bit_words.specs.Later.{owned_later}
use Rattle.sym_values.specs.Forms.{IntForm}
use Rattle.sym_values.specs.Later.{value_later, values_later}
use Rattle.sym_values.specs.Reading.{map_bits, spelled}
use Rattle.sym_paths.specs.Later.{path_later, way_later}
use Rattle.sym_paths.specs.Paths.{gone_way, kept_proper, printed_in, way, words_kept, HoldsKept}
use Rattle.sym_paths.specs.Storing.{kept_there, proper_there}
use Rattle.sym_paths.proofs.Keeping.{kept_read}
use Rattle.sym_paths.proofs.Kept.{fits_there, kept_behind_path, kept_later, nowhere, print_kept}
use Rattle.sym_paths.proofs.Kept.{printed_some}
use Rattle.sym_paths.proofs.printed.keep_printed.Goals as goal

pub fits_more-requires : goal.fits_more-requires
fits_more-requires g c =
    let slots = c.args.slots.now in
    record {
      some = c.requires.some;
      kept = subst (HoldsKept g.L.Logic.owns c.args.g.now slots) (sym c.in_ok-kept.ensures)
          (kept_behind_path slots c.args.path c.requires.held);
    }

pub narrow-requires : goal.narrow-requires
narrow-requires g c = record {
  held = path_later (extends_keeps c.fits_more.ensures.extends) c.requires.held;
  test = c.in_ok-fits.ensures.owned;
}

pub printed_word-requires : goal.printed_word-requires
printed_word-requires g c =
    let two = extends_keeps (extends_trans c.fits_more.ensures.extends c.narrow.ensures.extends) in
    record {
      owned = owned_later two c.requires.value.1.owned;
      typed = (c.requires.value.0, c.requires.value.1.form);
    }

pub with_word-requires : goal.with_word-requires
with_word-requires g c =
    let slots = c.args.slots.now in
    let two = extends_keeps (extends_trans c.fits_more.ensures.extends c.narrow.ensures.extends) in
    let made = c.in_ok-bits.ensures.made in
    record {
      keeps = c.requires.keeps;
      some = c.requires.some;
      kept = kept_later two
          (subst (HoldsKept g.L.Logic.owns c.args.g.now slots) (sym c.in_ok-kept.ensures)
          (kept_behind_path slots c.args.path c.requires.held));
      word = record { owned = made.owned; form = ap IntForm made.width };
    }

pub with_kept-requires : goal.with_kept-requires
with_kept-requires g c = record {
  held = path_later (extends_keeps c.with_word.ensures.extends) c.in_ok-here.ensures.held;
  each = c.requires.each;
  kept = c.in_ok-more.ensures.held;
}

pub returns-clause-extends : goal.returns-clause-extends
returns-clause-extends g c =
    extends_trans (extends_trans c.fits_more.ensures.extends c.narrow.ensures.extends)
    c.with_word.ensures.extends

pub returns-clause-held : goal.returns-clause-held
returns-clause-held g c = c.in_ok-there.ensures.held

pub returns-clause-value : goal.returns-clause-value
returns-clause-value g c vs s v line at is =
    let reads = g.L.Logic.reads in
    let start = reads c.args.g.now vs in
    let second = reads c.narrow.new.g vs in
    let new = reads c.with_word.new.g vs in
    let slots = c.args.slots.now in
    let l = slots.limits in
    let path = c.args.path in
    let kept = c.in_ok-kept.kept in
    let more = c.in_ok-more.more in
    let value = c.args.value.now in
    let one = extends_keeps c.fits_more.ensures.extends in
    let two = extends_keeps (extends_trans c.fits_more.ensures.extends c.narrow.ensures.extends) in
    let three = extends_keeps c.with_word.ensures.extends in
    let held = subst (HoldsKept g.L.Logic.owns c.args.g.now slots) (sym c.in_ok-kept.ensures)
    (kept_behind_path slots path c.requires.held) in
    let before = map (map_bits start) kept in
    let after = map (map_bits new) more in
    let behind = ap (map (map_bits start)) c.in_ok-kept.ensures ∙ kept_read slots start path in
    let proper = ap (kept_proper l) behind ∙ proper_there slots (way start path) s at in
    let printed = sym (kept_there slots (way start path) s at) ∙ ap (printed_in l) (sym behind)
    ∙ printed_some l slots.prints c.requires.some kept held.forms_are l start in
    let fits = c.in_ok-fits.ensures.value vs (fits_there l before proper)
    ∙ ap (λ (n : ℕ). ltb (length (words_kept before)) n) c.requires.keeps in
    let here = ap (λ w. gone_way slots (w ∷ [])) (way_later three c.in_ok-here.ensures.held vs)
    ∙ c.in_ok-here.ensures.value vs
    ∙ ap (λ w. cond (reads c.fits_more.new.g vs c.in_ok-fits.fits) (gone_way slots (w ∷ [])) None)
    (way_later one c.requires.held vs) in
    let kept_now = values_later two kept held.owned vs in
    let word = rw kept_now at (c.in_ok-more.ensures.value vs) in
    let less = λ (h : length (words_kept before) < l.prints).
    subst (λ (n : ℕ). length (words_kept before) < n) (sym c.requires.keeps) h in
    let spelled_as = c.in_ok-bits.ensures.value vs
    ∙ ap spelled (value_later two value c.requires.value.1.owned vs) ∙ is in
    print_kept l l.prints s v line before after (reads c.fits_more.new.g vs c.in_ok-fits.fits)
    _ _ _ (map second c.in_ok-bits.bits) fits at here printed proper
    (λ h. word (less h)) spelled_as
    (printed_some l slots.prints c.requires.some more c.in_ok-more.ensures.held.forms_are l new)
    (c.in_ok-there.ensures.value vs) (c.in_ok-there.ensures.none vs)

pub returns-clause-none : goal.returns-clause-none
returns-clause-none g c vs at =
    let reads = g.L.Logic.reads in
    let slots = c.args.slots.now in
    let one = extends_keeps c.fits_more.ensures.extends in
    let three = extends_keeps c.with_word.ensures.extends in
    let fit = reads c.fits_more.new.g vs c.in_ok-fits.fits in
    let here = ap (λ w. gone_way slots (w ∷ [])) (way_later three c.in_ok-here.ensures.held vs)
    ∙ c.in_ok-here.ensures.value vs
    ∙ ap (λ w. cond fit (gone_way slots (w ∷ [])) None) (way_later one c.requires.held vs) in
    c.in_ok-there.ensures.none vs (here ∙ ap (λ o. cond fit o None) at ∙ nowhere fit)
