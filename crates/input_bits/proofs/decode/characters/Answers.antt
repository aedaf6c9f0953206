use Rattle.std.proofs.Common.{◌∙◌, map, ap, sym, arith, subst, ◌≡◌}
use Rattle.bit_words.specs.Words.{nat_of}
use Rattle.known_values.proofs.Items.{printable_more}
use Rattle.mpy_tree.specs.Printable.{ArePrintable}
use Rattle.input_space.specs.ValueBits.{words_from}
use Rattle.input_bits.proofs.Decoding.{all_printable, character_is, not_printable, word_more}
use Rattle.input_bits.proofs.decode.characters.Goals as goal

pub returns-in-None : goal.returns-in-None
returns-in-None c =
    not_printable c.args.truths.now c.args.start c.args.count c.loop.counter c.loop.place (omega (arith, c.loop-test.true)) c.loop.invariant.place c.in-None.ensures

pub loop-preserved : goal.loop-preserved
loop-preserved c =
    let before = c.loop.invariant in
    let code = character_is _ c.in-Some.code c.in-Some.ensures in
    let pushed = c.in_ok-push-in-Some.ensures.items in
    record {
      place = omega arith;
      made = word_more nat_of c.args.truths.now c.args.start 7 c.loop.counter c.loop.place c.loop.text.items c.push.new.self.items
          c.in-Some.code before.place before.made code.0 pushed;
      printable = printable_more c.loop.text.items c.push.new.self.items c.in-Some.code pushed before.printable (code.1, code.2);
    }

pub returns : goal.returns
returns c =
    let all : c.loop.counter ≡ c.args.count = omega arith in
    let whole = ap (λ n. words_from c.args.truths.now c.args.start 7 n) all in
    all_printable _ _ (c.from_vec.ensures ∙ c.loop.invariant.made ∙ ap (λ ws. map nat_of ws) whole) (subst ArePrintable (sym c.from_vec.ensures) c.loop.invariant.printable)
