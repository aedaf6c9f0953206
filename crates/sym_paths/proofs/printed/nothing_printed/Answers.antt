use Rattle.std.proofs.Common.{◌≡◌, ◌<◌, ◌∙◌, [], ◌∷◌, ◌++◌, ap, arith, map}
use Rattle.std.proofs.Common.{leb, length, refl, replicate, subst, sym, true}
use Rattle.std.proofs.lemmas.Bool.{and_from, le-leb}
use Rattle.std.proofs.lemmas.List.{map_push, replicate-append-replicate}
use Rattle.bit_words.specs.Later.{owns_both}
use Rattle.bit_words.specs.Logic.{OwnsAll}
use Rattle.bit_words.proofs.Kept.{owns_none}
use Rattle.sym_values.specs.declared.value.SymValue.TheVariants as sym
use Rattle.sym_values.specs.Forms.{IntForm, bits_of, form_of, forms_of, values_bits}
use Rattle.sym_values.specs.Owned.{owns_one_more}
use Rattle.sym_values.specs.Reading.{map_bits}
use Rattle.sym_paths.specs.Paths.{kept_proper, printed_in}
use Rattle.sym_paths.proofs.Kept.{forms_some, kept_some, only_number}
use Rattle.sym_paths.proofs.printed.nothing_printed.Goals as goal

pub loop-init : goal.loop-init
loop-init g c =
    let none = c.in_ok-none.none in
    let made = c.in_ok-none.ensures.made in
    let whole : c.push.new.self ≡ sym.Int none ∷ [] =
    c.in_ok-push.ensures.ok ∙ ap (λ w. w ++ sym.Int none ∷ []) c.new-kept.ensures in
    record {
      owned = subst (λ w. OwnsAll g.L.Logic.owns c.args.g.now (values_bits w)) (sym whole)
          (owns_both made.owned owns_none);
      forms = ap forms_of whole ∙ ap (λ n. IntForm n ∷ []) made.width;
      value = λ vs. ([], only_number _ _ none _ whole (c.in_ok-none.ensures.value vs));
    }

pub loop-preserved : goal.loop-preserved
loop-preserved g c =
    let before = c.loop.invariant in
    let kept = c.loop.kept in
    let n = c.loop.counter in
    let word = sym.Int c.in_ok-word.word in
    let made = c.in_ok-word.ensures.made in
    let pushed = c.in_ok-push-2.ensures.ok in
    let form = IntForm c.print_width-width.result in
    record {
      owned = owns_one_more bits_of kept _ word before.owned made.owned pushed;
      forms = ap forms_of pushed ∙ map_push form_of kept word
          ∙ ap (λ w. w ++ form_of word ∷ []) before.forms
          ∙ ap (λ i. IntForm 5 ∷ (replicate n form ++ IntForm i ∷ [])) made.width
          ∙ ap (λ w. IntForm 5 ∷ w) (replicate-append-replicate n 1 form);
      value = λ vs.
          let f = map_bits (g.L.Logic.reads c.args.g.now vs) in
          let rest = before.value vs in (
            rest.0 ++ f word ∷ [],
            ap (map f) pushed ∙ map_push f kept word ∙ ap (λ w. w ++ f word ∷ []) rest.1,
          );
    }

pub returns-clause-held : goal.returns-clause-held
returns-clause-held g c =
    let slots = c.args.slots.now in
    let width = c.print_width-width.result in
    let all : c.loop.counter ≡ slots.prints = omega arith in
    let some : 0 < slots.prints = omega arith in
    record {
      owned = c.loop.invariant.owned;
      forms_are = c.loop.invariant.forms
          ∙ ap (λ n. IntForm 5 ∷ replicate n (IntForm width)) all
          ∙ ap (λ w. IntForm 5 ∷ replicate slots.prints (IntForm w)) c.print_width-width.ensures
          ∙ sym (forms_some slots.limits slots.prints some);
    }

pub returns-clause-value : goal.returns-clause-value
returns-clause-value g c vs =
    let slots = c.args.slots.now in
    let some : 0 < slots.prints = omega arith in
    ap (printed_in slots.limits) (c.loop.invariant.value vs).1 ∙ sym (kept_some slots some)

pub returns-clause-proper : goal.returns-clause-proper
returns-clause-proper g c vs =
    let rest = c.loop.invariant.value vs in
    ap (kept_proper c.args.slots.now.limits) rest.1
    ∙ and_from (leb 0 (length rest.0)) true (le-leb 0 (length rest.0) (omega arith)) refl
