use Rattle.bit_words.specs.Words.{nat_read}
use Rattle.sym_values.specs.Owned.{owns_one}
use Rattle.known_values.proofs.Items.{item_known, printable_more}
use Rattle.known_values.proofs.values.known_characters.Goals as goal

pub known_character-requires : goal.known_character-requires
known_character-requires g c =
    rw c.as_slice.ensures
    (owns_one (λ w. w) c.args.items.now c.loop-i.i c.at.result.now c.requires.owned c.at.ensures)

pub loop-i-preserved : goal.loop-i-preserved
loop-i-preserved g c =
    let so_far = c.loop-i.characters.items in
    let more = c.push.new.self.items in
    let pushed = c.in_ok-push-in-Some.ensures.items in
    record {
      value = λ vs.
          let known = rw c.as_slice.ensures at (c.in-Some.ensures.value vs) in
          item_known (nat_read g.L.Logic.reads c.args.g.now vs) c.args.items.now c.loop-i.i
          c.at.result.now so_far more _ c.at.ensures (c.loop-i.invariant.value vs) known pushed;
      printable = printable_more so_far more c.in-Some.character pushed
          c.loop-i.invariant.printable c.in-Some.ensures.printable;
    }
