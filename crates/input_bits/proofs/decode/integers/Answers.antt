use Rattle.std.proofs.Common.{rules, arith}
use Rattle.bit_words.specs.Words.{int_of}
use Rattle.known_values.proofs.Items.{number_more}
use Rattle.input_bits.proofs.Decoding.{word_more}
use Rattle.input_bits.proofs.decode.integers.Goals as goal

pub loop-preserved : goal.loop-preserved
loop-preserved c =
    let before = c.loop.invariant in
    let pushed = number_more c.loop.numbers.items c.push.new.self.items c.integer.result c.in_ok-push.ensures.items (search rules) in
    record {
      place = omega arith;
      made = word_more int_of c.args.truths.now c.args.start c.args.width c.loop.counter c.loop.place c.loop.numbers.items c.push.new.self.items
          c.integer.result before.place before.made c.integer.ensures pushed;
    }
