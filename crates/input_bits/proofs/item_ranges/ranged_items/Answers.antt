use Rattle.std.proofs.Common.{◌≡◌, ◌∙◌, ◌+◌, ◌<◌, ◌++◌, ◌∷◌, [], ◌&&◌, ◌||◌, Bool, List, ap, arith, get_or, length, ltb, map, subst, sym, take}
use Rattle.std.proofs.lemmas.List.{get_or-map, length-map, map_push}
use Rattle.std.proofs.lemmas.Option.{get_or_from_slice_get, slice_get_within}
use Rattle.bit_words.specs.Logic.{OwnsAll, extends_keeps, extends_trans}
use Rattle.bit_words.specs.Words.{nat_of, nat_read}
use Rattle.bit_words.proofs.Kept.{owns_kept, reads_kept}
use Rattle.sym_values.specs.Forms.{lengths}
use Rattle.sym_values.specs.Later.{words_later}
use Rattle.sym_values.specs.Owned.{owns_one, owns_one_more}
use Rattle.input_ranges.proofs.Between.{and_same}
use Rattle.input_ranges.proofs.CharacterDigits.{or_same}
use Rattle.input_bits.specs.Known.{HoldsItems, is_item}
use Rattle.input_bits.proofs.Items.{counted, held, items_same, items_tested, mapped_more}
use Rattle.input_bits.proofs.item_ranges.ranged_items.Goals as goal

pub ranged_item-requires : goal.ranged_item-requires
ranged_item-requires g c =
    let j = c.loop-j.j in
    let items = c.args.items.now in
    let item = c.at-item.result.now in
    let at = c.at-item.ensures in
    let within : j < length items = slice_get_within items j item at in
    let many = length-map items length in
    let wide : get_or (lengths items) j 0 ≡ length item = get_or-map length items j item 0 within ∙ ap length (get_or_from_slice_get items j item item at) in
    record {
      range = subst (HoldsItems c.args.param.now) wide (c.requires.range j 0 (omega arith));
      owned = owns_kept c.loop-j.invariant.extends (owns_one (λ w. w) items j item c.requires.owned at);
    }

pub loop-j-preserved : goal.loop-j-preserved
loop-j-preserved g c =
    let reads = g.L.Logic.reads in
    let before = c.loop-j.invariant in
    let j = c.loop-j.j in
    let items = c.args.items.now in
    let item = c.at-item.result.now in
    let at = c.at-item.ensures in
    let known = c.in_ok-known.known in
    let word = c.from_vec-word.result in
    let is = c.from_vec-word.ensures ∙ c.into_vec.ensures in
    let pushed = c.in_ok-push.ensures.ok in
    let e1 = c.ranged_item.ensures.extends in
    let e3 = extends_trans c.less_number.ensures.extends c.or.ensures.extends in
    let e4 = extends_trans e3 c.and.ensures.extends in
    let all = extends_trans e1 e4 in
    let made = c.in_ok-known.ensures.made in
    let owned_item = owns_one (λ w. w) items j item c.requires.owned at in
    let right = λ (vs : List Bool).
    c.in_ok-known.ensures.within vs ∙ ap (is_item c.args.param.now) (reads_kept before.extends owned_item vs) in
    let tested = λ (vs : List Bool).
    let length_kept = ap nat_of (reads_kept (extends_trans before.extends e1) c.requires.owned_len vs) in
    let past = c.in_ok-past.ensures.value vs ∙ ap (λ k. ltb k (j + 1)) length_kept in
    let still = c.less_number.ensures.extends.same known.within c.in_ok-known.ensures.owned vs in
    let fine = c.in_ok-fine.ensures.value vs ∙ or_same _ _ _ _ past still in
    let within = (extends_trans e1 e3).same c.loop-j.within before.owned_within vs in
    c.in_ok-within.ensures.value vs ∙ and_same _ _ _ _ within fine in
    let made_word = subst (OwnsAll g.L.Logic.owns c.and.new.self) (sym is) (owns_kept e4 made.owned) in
    record {
      extends = extends_trans before.extends all;
      owned = owns_one_more (λ w. w) c.loop-j.words _ word (owns_kept all before.owned) made_word pushed;
      owned_within = c.in_ok-within.ensures.owned;
      widths = ap lengths pushed ∙ map_push length c.loop-j.words word ∙ ap (λ w. w ++ length word ∷ []) before.widths
          ∙ ap (λ k. take j (lengths items) ++ k ∷ []) (ap length is ∙ made.width) ∙ sym (mapped_more length items j item at);
      within = λ vs.
          let f = reads c.args.g.now vs in
          let n = nat_read reads c.args.g.now vs c.args.len.now in
          let xs = map (map f) items in
          let x = map f item in
          tested vs ∙ ap (λ b. reads c.loop-j.g vs c.loop-j.within && (ltb n (j + 1) || b)) (right vs)
          ∙ ap (λ a. a && (ltb n (j + 1) || is_item c.args.param.now x)) (before.within vs)
          ∙ sym (items_tested (is_item c.args.param.now) xs n j x (mapped_more (map f) items j item at));
      same = λ vs h.
          let f = reads c.args.g.now vs in
          let n = nat_read reads c.args.g.now vs c.args.len.now in
          let xs = map (map f) items in
          let x = map f item in
          let last = reads c.and.new.self vs in
          let y = map last word in
          let ys = map (map (reads c.loop-j.g vs)) c.loop-j.words in
          let true_so_far = held (reads c.loop-j.g vs c.loop-j.within) (ltb n (j + 1)) (reads c.ranged_item.new.g vs known.within) (sym (tested vs) ∙ h) in
          let long = length-map c.loop-j.words (map (reads c.loop-j.g vs)) ∙ counted c.loop-j.words (lengths items) j before.widths (let many = length-map items length in omega arith) in
          items_same xs ys _ n j x y long (before.same vs true_so_far.0)
          (ap (map (map last)) pushed ∙ map_push (map last) c.loop-j.words word ∙ ap (λ w. w ++ y ∷ []) (words_later (extends_keeps all) c.loop-j.words before.owned vs))
          (mapped_more (map f) items j item at)
          (λ t. ap (map last) is ∙ reads_kept e4 made.owned vs ∙ c.in_ok-known.ensures.same vs (true_so_far.1 t) ∙ reads_kept before.extends owned_item vs);
    }
