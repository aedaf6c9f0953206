use Rattle.std.proofs.Common.{◌≡◌, ◌∙◌, ◌≤◌, ◌&&◌, ap, arith, length, map, sym, take}
use Rattle.std.specs.Prelude.{nat_le}
use Rattle.std.specs.List.{list_all}
use Rattle.std.proofs.lemmas.Bool.{and_parts, leb-true}
use Rattle.std.proofs.lemmas.List.{length-map}
use Rattle.bit_words.specs.Logic.{extends_keeps, extends_trans}
use Rattle.bit_words.specs.Words.{nat_of, nat_read}
use Rattle.bit_words.proofs.Kept.{reads_kept}
use Rattle.sym_values.specs.Forms.{lengths}
use Rattle.sym_values.specs.Later.{words_later}
use Rattle.input_bits.specs.Known.{is_item}
use Rattle.input_bits.proofs.Items.{and_when, counted, first_words, take_within}
use Rattle.input_bits.proofs.item_ranges.ranged_sequence.Goals as goal

pub returns-clause-within : goal.returns-clause-within
returns-clause-within g c vs =
    let reads = g.L.Logic.reads in
    let f = reads c.args.g.now vs in
    let n = nat_read reads c.args.g.now vs c.args.len.now in
    let least = c.args.ends.least in
    let most = c.args.ends.most in
    let items = c.args.items.now in
    let xs = map (map f) items in
    let p = is_item c.args.param.now in
    let length = c.in_ok-length.length in
    let slice = c.as_slice.ensures in
    let bits = c.as_slice-2.ensures in
    let still = c.ranged_items.ensures.extends.same length.within c.in_ok-length.ensures.owned vs in
    let fits = rw slice at (c.in_ok-length.ensures.within vs) in
    let same = rw slice at (c.in_ok-length.ensures.same vs) in
    let right = rw bits at (c.in_ok-known.ensures.within vs) in
    let kept = words_later (extends_keeps c.ranged_length.ensures.extends) items c.requires.owned vs in
    c.in_ok-within.ensures.value vs
    ∙ and_when _ _ (nat_le least n && nat_le n most) (list_all p (take n xs)) (still ∙ fits)
    (λ e.
    let le : n ≤ most = leb-true n most (and_parts (nat_le least n) (nat_le n most) e).1 in
    right ∙ ap (λ w. list_all p (take (nat_of w) (take most (map (map (reads c.ranged_length.new.g vs)) items)))) (same (fits ∙ e))
    ∙ ap (λ ws. list_all p (take n (take most ws))) kept
    ∙ ap (list_all p) (take_within n most xs le))

pub returns-clause-same : goal.returns-clause-same
returns-clause-same g c vs h =
    let reads = g.L.Logic.reads in
    let f = reads c.args.g.now vs in
    let n = nat_read reads c.args.g.now vs c.args.len.now in
    let least = c.args.ends.least in
    let most = c.args.ends.most in
    let items = c.args.items.now in
    let xs = map (map f) items in
    let known = c.in_ok-known.known in
    let whole = c.in_ok-whole.whole in
    let last = reads c.and.new.self vs in
    let length_known = c.in_ok-length.length in
    let slice = c.as_slice.ensures in
    let bits = c.as_slice-2.ensures in
    let still = c.ranged_items.ensures.extends.same length_known.within c.in_ok-length.ensures.owned vs in
    let fits = rw slice at (c.in_ok-length.ensures.within vs) in
    let same = rw slice at (c.in_ok-length.ensures.same vs) in
    let parts = and_parts _ _ (sym (c.in_ok-within.ensures.value vs) ∙ h) in
    let fine = sym still ∙ parts.0 in
    let le : n ≤ most = leb-true n most (and_parts (nat_le least n) (nat_le n most) (sym fits ∙ fine)).1 in
    let read_items = rw bits at (c.in_ok-known.ensures.same vs) in
    let kept = words_later (extends_keeps c.ranged_length.ensures.extends) items c.requires.owned vs in
    let many = length-map items length in
    let count : length known.words ≡ most = counted known.words (lengths items) most c.in_ok-known.ensures.made.widths (omega arith) in (
      reads_kept (extends_trans c.ranged_items.ensures.extends c.and.ensures.extends) c.in_ok-length.ensures.made.owned vs ∙ same fine,
      first_words (map last) n (length known.words) known.words whole (omega arith) c.in_ok-whole.ensures.first
          ∙ ap (take n) (words_later (extends_keeps c.and.ensures.extends) known.words c.in_ok-known.ensures.made.owned vs)
          ∙ ap (λ w. take (nat_of w) (map (map (reads c.ranged_items.new.g vs)) known.words)) (sym (same fine))
          ∙ read_items parts.1
          ∙ ap (λ w. take (nat_of w) (take most (map (map (reads c.ranged_length.new.g vs)) items))) (same fine)
          ∙ ap (λ ws. take n (take most ws)) kept
          ∙ take_within n most xs le,
    )
