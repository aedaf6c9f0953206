use Rattle.std.proofs.Common.{◌≡◌, ◌<◌, ◌^◌, ◌∙◌, ℕ, suc, ◌∷◌, Some, ap, arith, length, map}
use Rattle.std.proofs.Common.{subst, sym}
use Rattle.std.proofs.lemmas.List.{length-map}
use Rattle.std.proofs.lemmas.Option.{slice_get-map}
use Rattle.std.specs.Prelude.{option_map}
use Rattle.bit_words.specs.Logic.{extends_keeps, extends_trans}
use Rattle.bit_words.specs.Later.{nat_later, owned_later, owns_both}
use Rattle.bit_words.specs.Words.{nat_read}
use Rattle.sym_values.specs.declared.value.SymValue.TheVariants as sym
use Rattle.sym_values.specs.Forms.{IntForm, form_of, forms_of}
use Rattle.sym_values.specs.Later.{values_later}
use Rattle.sym_values.specs.Reading.{map_bits}
use Rattle.sym_paths.specs.Kept.{KeepsOneMore}
use Rattle.sym_paths.specs.Paths.{word_in, HoldsKept}
use Rattle.sym_paths.proofs.Kept.{at_form, few_in, head_is, kept_long, number_form, number_owned}
use Rattle.sym_paths.proofs.Kept.{one_word_more, rest_long}
use Rattle.sym_paths.proofs.printed.with_word.Goals as goal

pub word_of-number-requires : goal.word_of-number-requires
word_of-number-requires g c =
    let slots = c.args.slots.now in (
      5,
      number_form slots.limits slots.prints c.requires.some c.args.kept.now
          c.requires.kept.forms_are c.at.result.now c.at.ensures,
    )

pub put_word-requires : goal.put_word-requires
put_word-requires g c = record {
  some = c.requires.some;
  kept = c.requires.kept;
  number = number_owned c.args.kept.now c.at.result.now c.word_of-number.result.now
      c.requires.kept.owned c.at.ensures c.word_of-number.ensures;
  word = c.requires.word;
}

pub one_more-requires : goal.one_more-requires
one_more-requires g c =
    owned_later (extends_keeps c.put_word.ensures.extends)
    (number_owned c.args.kept.now c.at.result.now c.word_of-number.result.now
    c.requires.kept.owned c.at.ensures c.word_of-number.ensures)

pub returns-clause-extends : goal.returns-clause-extends
returns-clause-extends g c = extends_trans c.put_word.ensures.extends c.one_more.ensures.extends

pub returns-clause-held : goal.returns-clause-held
returns-clause-held g c =
    let slots = c.args.slots.now in
    let kept = c.args.kept.now in
    let first = c.at.result.now in
    let more = c.in_ok-more.more in
    let words = c.in_ok-words.words in
    let made = c.in_ok-more.ensures.made in
    let forms = c.requires.kept.forms_are in
    let last = extends_keeps c.one_more.ensures.extends in
    let whole : c.from_vec.result ≡ sym.Int more ∷ words =
    c.from_vec.ensures ∙ c.in_ok-insert.ensures.items
    ∙ ap (λ w. sym.Int more ∷ w) c.into_vec-all.ensures in
    let form = number_form slots.limits slots.prints c.requires.some kept forms first
    c.at.ensures in
    let behind = head_is (forms_of kept) (IntForm 5)
    (at_form kept 0 first c.at.ensures ∙ ap Some form) in
    subst (HoldsKept g.L.Logic.owns c.one_more.new.g slots) (sym whole) (record {
      owned = owns_both made.owned (owned_later last c.in_ok-words.ensures.owned);
      forms_are = ap (λ n. IntForm n ∷ forms_of words) made.width
          ∙ ap (λ f. f ∷ forms_of words) (ap form_of (sym c.word_of-number.ensures) ∙ form)
          ∙ ap (λ fs. IntForm 5 ∷ fs) c.in_ok-words.ensures.forms
          ∙ sym behind ∙ forms;
    })

pub returns-clause-value : goal.returns-clause-value
returns-clause-value g c vs few =
    let reads = g.L.Logic.reads in
    let start = reads c.args.g.now vs in
    let new = reads c.one_more.new.g vs in
    let slots = c.args.slots.now in
    let l = slots.limits in
    let some = c.requires.some in
    let kept = c.args.kept.now in
    let forms = c.requires.kept.forms_are in
    let word = c.args.word.now in
    let first = c.at.result.now in
    let number = c.word_of-number.result.now in
    let is = c.word_of-number.ensures in
    let more = c.in_ok-more.more in
    let words = c.in_ok-words.words in
    let f = map_bits start in
    let n = sym.Int (map start number) in
    let one = extends_keeps c.put_word.ensures.extends in
    let two = extends_keeps c.one_more.ensures.extends in
    let owned = number_owned kept first number c.requires.kept.owned c.at.ensures is in
    let whole : c.from_vec.result ≡ sym.Int more ∷ words =
    c.from_vec.ensures ∙ c.in_ok-insert.ensures.items
    ∙ ap (λ w. sym.Int more ∷ w) c.into_vec-all.ensures in
    let behind = head_is (map f kept) n
    (slice_get-map f kept 0 ∙ ap (option_map f) (c.at.ensures ∙ ap Some is)) in
    let many = rest_long (map f kept) slots.prints
    (length-map kept f ∙ kept_long l slots.prints some kept forms) in
    let less = few_in (map f kept) n slots.prints behind many few in
    let five_form : IntForm (length number) ≡ IntForm 5 =
    ap form_of (sym is) ∙ number_form l slots.prints some kept forms first c.at.ensures in
    let five : length number ≡ 5 = cc in
    let before = nat_later one owned vs in
    let most = l.prints_range in
    let keeps = c.requires.keeps in
    let small : suc (nat_read reads c.put_word.new.g vs number) < 2 ^ 5 = omega arith in
    let fits : suc (nat_read reads c.put_word.new.g vs number) < 2 ^ length number =
    subst (λ (i : ℕ). suc (nat_read reads c.put_word.new.g vs number) < 2 ^ i) (sym five) small in
    let counted = c.in_ok-more.ensures.value vs fits ∙ ap suc before in
    let put = values_later two words c.in_ok-words.ensures.owned vs
    ∙ c.in_ok-words.ensures.value vs in
    subst (λ ps. KeepsOneMore (map f kept) ps (word_in (f word)))
    (sym (ap (map (map_bits new)) whole ∙ ap (λ ws. sym.Int (map new more) ∷ ws) put))
    (one_word_more (map f kept) n slots.prints behind many few (sym.Int (map new more)) (f word)
    counted)
