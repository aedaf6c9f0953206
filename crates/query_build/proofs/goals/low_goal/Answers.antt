use Rattle.std.proofs.Common.{◌≡◌, ◌∙◌, ◌&&◌, ℕ, List, Some, ap, length, subst, sym}
use Rattle.std.specs.Prelude.{is_some}
use Rattle.bit_words.specs.Logic.{extends_keeps}
use Rattle.input_space.specs.SelectionBits.{members_at}
use Rattle.input_space.specs.TaskParts.{task_with}
use Rattle.input_space.specs.Tasks.{tree_of}
use Rattle.selection_numbers.specs.MemberCounts.{member_counts}
use Rattle.selection_numbers.proofs.Counting.{counts_of_picks}
use Rattle.sym_nodes.specs.Environments.{PicksRead}
use Rattle.task_bits.specs.Tasks.{ArePicksOf}
use Rattle.task_bits.proofs.Later.{picks_later, picks_read_later}
use Rattle.query_build.proofs.LowGoals.{chosen, low_goal}
use Rattle.query_build.proofs.ReadPicks.{picks_read}
use Rattle.query_build.proofs.goals.low_goal.Goals as goal

pub cost_within-requires : goal.cost_within-requires
cost_within-requires g c =
    let v = g.V.Logic in
    let k = task_with c.args.task.now in
    let counts = c.in_ok-counts.ensures ∙ ap member_counts c.tree.ensures in
    record {
      picks = subst (λ ps. ArePicksOf v.owns c.fresh_members.new.g k ps) (sym c.from_vec-picks.ensures) (record {
        owned = c.in_ok-ranged.ensures.owned;
        many = c.in_ok-ranged.ensures.many ∙ ap length counts ∙ counts_of_picks (tree_of k);
      });
    }

pub meets_all-requires-clause-picks : goal.meets_all-requires-clause-picks
meets_all-requires-clause-picks g c =
    let v = g.V.Logic in
    let k = task_with c.args.task.now in
    let counts = c.in_ok-counts.ensures ∙ ap member_counts c.tree.ensures in
    let made : ArePicksOf v.owns c.fresh_members.new.g k c.from_vec-picks.result =
    subst (λ ps. ArePicksOf v.owns c.fresh_members.new.g k ps) (sym c.from_vec-picks.ensures) (record {
      owned = c.in_ok-ranged.ensures.owned;
      many = c.in_ok-ranged.ensures.many ∙ ap length counts ∙ counts_of_picks (tree_of k);
    }) in
    picks_later (extends_keeps c.and.ensures.extends)
    (picks_later (extends_keeps c.cost_within.ensures.extends) made)

pub returns-clause-value : goal.returns-clause-value
returns-clause-value g c budget vs =
    let v = g.V.Logic in
    let k = task_with c.args.task.now in
    let tree = tree_of k in
    let start = v.count c.args.g.now in
    let counts = c.in_ok-counts.ensures ∙ ap member_counts c.tree.ensures in
    let ranged = c.in_ok-ranged.ensures in
    let first = c.cost_within.ensures.extends in
    let second = c.and.ensures.extends in
    let third = c.meets_all.ensures.extends in
    let made : ArePicksOf v.owns c.fresh_members.new.g k c.from_vec-picks.result =
    subst (λ ps. ArePicksOf v.owns c.fresh_members.new.g k ps) (sym c.from_vec-picks.ensures) (record {
      owned = ranged.owned;
      many = ranged.many ∙ ap length counts ∙ counts_of_picks tree;
    }) in
    let place : members_at c.in_ok-counts.counts vs start ≡ members_at (member_counts tree) vs 0 =
    ap (λ ns. members_at ns vs start) counts ∙ ap (members_at (member_counts tree) vs) c.requires.first in
    let read = λ (is : List ℕ) (e : members_at (member_counts tree) vs 0 ≡ Some is).
    subst (λ ps. PicksRead (v.reads c.fresh_members.new.g vs) ps (chosen is)) (sym c.from_vec-picks.ensures)
    (picks_read (v.reads c.fresh_members.new.g vs) _ is (ranged.members vs is (place ∙ e))) in
    let within = first.same _ ranged.owned_within vs ∙ ranged.within vs ∙ ap is_some place in
    let right = third.same _ c.in_ok-right.ensures.owned vs ∙ c.in_ok-right.ensures.value vs in
    low_goal k budget vs c.args.most c.args.cases.now c.rules_make_programs.ensures c.requires.wanted
    (v.reads c.cost_within.new.g vs c.in_ok-ranged.ranged.within)
    (v.reads c.cost_within.new.g vs c.in_ok-cheap.cheap)
    (v.reads c.meets_all.new.g vs c.in_ok-meeting.meeting) _ within
    (λ is e. c.in_ok-cheap.ensures.value vs (chosen is) (read is e))
    (λ is e.
    let p = c.rules_make_programs.ensures (chosen is) in
    c.in_ok-meeting.ensures.value vs p.0 (record {
      members = chosen is;
      read = picks_read_later (extends_keeps second) (picks_later (extends_keeps first) made) vs (chosen is)
          (picks_read_later (extends_keeps first) made vs (chosen is) (read is e));
      made = p.1;
    }))
    (c.in_ok-goal.ensures.value vs ∙ ap (λ b. b && v.reads c.meets_all.new.g vs c.in_ok-meeting.meeting) right)
