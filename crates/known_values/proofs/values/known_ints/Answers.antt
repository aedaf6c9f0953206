use Rattle.std.proofs.Common.{rules}
use Rattle.bit_words.specs.Words.{int_read}
use Rattle.sym_values.specs.Owned.{owns_one}
use Rattle.known_values.proofs.Items.{item_known, number_more}
use Rattle.known_values.proofs.values.known_ints.Goals as goal

pub known_int-requires : goal.known_int-requires
known_int-requires g c =
    rw c.as_slice.ensures
    (owns_one (λ w. w) c.args.items.now c.loop-i.i c.at.result.now c.requires.owned c.at.ensures)

pub loop-i-preserved : goal.loop-i-preserved
loop-i-preserved g c vs =
    let so_far = c.loop-i.numbers.items in
    let more = c.push.new.self.items in
    let number = c.in-Some.number in
    let known = rw c.as_slice.ensures at (c.in-Some.ensures vs) in
    let pushed = number_more so_far more number c.in_ok-push-in-Some.ensures.items (search rules) in
    item_known (int_read g.L.Logic.reads c.args.g.now vs) c.args.items.now c.loop-i.i
    c.at.result.now so_far more number c.at.ensures (c.loop-i.invariant vs) known pushed
