use Rattle.std.proofs.Common.{ap, arith, length}
use Rattle.list_values.specs.Sequences.{item_width}
use Rattle.list_values.proofs.Gives.{slice_gives}
use Rattle.list_values.proofs.OfKind.{like_made, parts_are}
use Rattle.list_values.proofs.slices.part.Goals as goal

pub slice-requires : goal.slice-requires
slice-requires g c κs h =
    let list = c.parts_of-list.ensures in
    let needs = c.requires in
    let many = ap length list.items in (
      h.0,
      (
        h.1,
        (
          omega (arith, many, needs.list.few),
          (
            parts_are (ap item_width list.items) many list.len list.items needs.list.parts,
            (needs.wide_from, (needs.short_from, (needs.from, (needs.wide_to, (needs.short_to, needs.to))))),
          ),
        ),
      ),
    )

pub returns-clause-made : goal.returns-clause-made
returns-clause-made g c =
    let list = c.parts_of-list.ensures in
    like_made c.requires.list (ap item_width list.items) (ap length list.items) c.in_ok-items.ensures.made c.constant-fault.ensures.owned c.like-value.ensures

pub returns-clause-value : goal.returns-clause-value
returns-clause-value g c vs l v cap e =
    let reads = g.L.Logic.reads in
    let list = c.parts_of-list in
    let items = c.in_ok-items in
    slice_gives (reads c.args.g.now vs) (reads c.slice.new.g vs) c.args.a.now _ v list.result.len.now list.result.items.now _
    c.requires.list.sized list.ensures.len list.ensures.items e
    items.items.len items.items.items _ _ (c.constant-fault.ensures.value vs) c.like-value.ensures (items.ensures.proper vs) (items.ensures.value vs)
