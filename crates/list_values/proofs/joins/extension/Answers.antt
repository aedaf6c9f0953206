use Rattle.std.proofs.Common.{ap, arith, length}
use Rattle.list_values.proofs.Gives.{append_gives}
use Rattle.list_values.proofs.OfKind.{like_made, parts_are, word_width}
use Rattle.list_values.proofs.joins.extension.Goals as goal

pub append-requires : goal.append-requires
append-requires g c =
    let list = c.parts_of-list.ensures in
    let width = word_width c.args.a.now c.args.number.now c.requires.alike in
    let many = ap length list.items in
    record { few = omega (arith, many, c.requires.list.few); list = parts_are width many list.len list.items c.requires.list.parts; word = c.requires.number }

pub returns-clause-made : goal.returns-clause-made
returns-clause-made g c =
    let longer = c.in_ok-longer.ensures in
    like_made c.requires.list (word_width c.args.a.now c.args.number.now c.requires.alike) (ap length c.parts_of-list.ensures.items) longer.made longer.owned c.like-value.ensures

pub returns-clause-value : goal.returns-clause-value
returns-clause-value g c vs l v cap e =
    let reads = g.L.Logic.reads in
    let list = c.parts_of-list in
    let longer = c.in_ok-longer in
    append_gives (reads c.args.g.now vs) (reads c.append.new.g vs) c.args.a.now _ l v longer.longer.len list.result.len.now longer.longer.items list.result.items.now _
    c.requires.list.sized list.ensures.len list.ensures.items cap e
    c.args.number.now _ c.requires.alike c.like-value.ensures (longer.ensures.proper vs) (longer.ensures.value vs)
