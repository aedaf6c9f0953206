use Rattle.choice_tree.specs.StatementViews.{weighted_prog}
use Rattle.pick_bits.proofs.Chosen.{selected}
use Rattle.pick_bits.proofs.decode.decode_selection.Goals as goal

pub returns : goal.returns
returns c =
    selected (weighted_prog c.args.tree.now) c.in_ok-counts.counts c.args.truths.now c.args.start
    c.in-Some.all c.in_ok-live-in-Some.live
    c.in_ok-counts.ensures (rw c.in-Some.is at c.in_ok-chosen_members.ensures)
    c.in_ok-live-in-Some.ensures
