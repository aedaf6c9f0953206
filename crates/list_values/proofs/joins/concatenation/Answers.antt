use Rattle.std.proofs.Common.{ap, arith, length}
use Rattle.list_values.specs.Sequences.{item_width}
use Rattle.list_values.proofs.Gives.{sum_gives}
use Rattle.list_values.proofs.OfKind.{like_made, parts_alike, parts_are}
use Rattle.list_values.proofs.joins.concatenation.Goals as goal

pub concat-requires : goal.concat-requires
concat-requires g c κs h =
    let left = c.parts_of-left.ensures in
    let right = c.parts_of-right.ensures in
    let width = ap item_width left.items in
    let many = ap length left.items in (
      h.0,
      (
        h.1,
        (
          omega (arith, many, c.requires.left.few),
          (
            parts_are width many left.len left.items c.requires.left.parts,
            parts_are width many right.len right.items (parts_alike c.args.a.now c.args.b.now c.requires.right c.requires.alike),
          ),
        ),
      ),
    )

pub returns-clause-made : goal.returns-clause-made
returns-clause-made g c =
    let left = c.parts_of-left.ensures in
    let joined = c.in_ok-joined.ensures in
    like_made c.requires.left (ap item_width left.items) (ap length left.items) joined.made joined.owned c.like-value.ensures

pub returns-clause-value : goal.returns-clause-value
returns-clause-value g c vs l v w cap e k =
    let reads = g.L.Logic.reads in
    let left = c.parts_of-left in
    let right = c.parts_of-right in
    let joined = c.in_ok-joined in
    sum_gives (reads c.args.g.now vs) (reads c.concat.new.g vs) c.args.a.now _ l v joined.joined.len left.result.len.now joined.joined.items left.result.items.now _
    c.requires.left.sized left.ensures.len left.ensures.items cap e
    c.args.b.now w right.result.len.now right.result.items.now c.requires.right.sized c.requires.alike right.ensures.len right.ensures.items k
    c.like-value.ensures (joined.ensures.proper vs) (joined.ensures.value vs)
