use Rattle.std.proofs.Common.{◌≡◌, ◌∙◌, ◌+◌, ◌-◌, ◌++◌, ℕ, false, List, map, max, take, length}
use Rattle.std.proofs.Common.{replicate, eqb, cond, Some, slice_get, refl, sym, ap, subst, arith}
use Rattle.std.proofs.Math.Nat.{le-max_left, le-max_right}
use Rattle.bit_words.specs.Logic.{OwnsAll, extends_keeps, extends_refl, extends_trans}
use Rattle.bit_words.specs.Later.{nat_later, owned_later}
use Rattle.bit_words.specs.Words.{nat_read}
use Rattle.choice_tree.specs.Costs.{sum_of}
use Rattle.choice_tree.specs.NodeViews.{node_of, pick_of}
use Rattle.choice_tree.specs.PickViews.{others_seen}
use Rattle.choice_tree.specs.Selections.{chosen, cost}
use Rattle.choice_tree.specs.WeightedTrees.{children, nodes}
use Rattle.choice_tree.proofs.Walking.{child_smaller, is_place, member_smaller, no_next}
use Rattle.choice_tree.proofs.Walking.{parts_cost, sum_next}
use Rattle.sym_values.specs.Owned.{owns_one}
use Rattle.sym_nodes.specs.Environments.{HasPicks}
use Rattle.sym_nodes.proofs.TreeTypes.{child_picks}
use Rattle.sym_cost.specs.Notations.{HasRoom, HasWidth, Spells, Writes}
use Rattle.sym_cost.proofs.Choosing.{all_taken, child_free, chosen_more, chosen_spelled, cost_at}
use Rattle.sym_cost.proofs.Choosing.{length_costs, member_costs, none_chosen, other_picks}
use Rattle.sym_cost.proofs.Choosing.{pick_free, pick_is, pick_nodes}
use Rattle.sym_cost.proofs.Kept.{cost_kept, picks_kept, spelled_kept, written_kept}
use Rattle.sym_cost.proofs.Spelled.{padded_spelled, room_below, width_of_both}
use Rattle.sym_cost.proofs.costs.+costs.Goals as goal

pub node_cost-parts_cost-requires : goal.node_cost-parts_cost-requires
node_cost-parts_cost-requires g t c κs h = (
  omega arith,
  (
    h.0,
    (
      h.1,
      (
        c.requires.owned,
        c.requires.numbered,
      ),
    ),
  ),
)

pub node_cost-pick_cost-requires : goal.node_cost-pick_cost-requires
node_cost-pick_cost-requires g t c κs h =
    let is = pick_is (node_of c.args.node) c.in-Some.pick c.in-Some.ensures in
    let many = ap nodes is in
    let all = subst (HasPicks c.args.picks.now) is c.requires.numbered in
    (omega (arith, many), (h.0, (h.1, (c.requires.owned, (all.0, (all.1, all.2))))))

pub node_cost-returns-in_ok-cost-in-None-clause-value :
    goal.node_cost-returns-in_ok-cost-in-None-clause-value
node_cost-returns-in_ok-cost-in-None-clause-value g t c vs m p room =
    let e = parts_cost m (node_of c.args.node) c.in-None.ensures in
    let form = c.args.notation in
    subst (Writes (g.L.Logic.reads c.parts_cost.new.g vs) form c.in_ok-cost-in-None.cost) (sym e)
    (c.in_ok-cost-in-None.ensures.value vs m p (subst (HasRoom form) e room))

pub node_cost-returns-in_ok-cost-in-Some-clause-value :
    goal.node_cost-returns-in_ok-cost-in-Some-clause-value
node_cost-returns-in_ok-cost-in-Some-clause-value g t c vs m p room =
    let e = ap (cost m) (pick_is (node_of c.args.node) c.in-Some.pick c.in-Some.ensures) in
    let form = c.args.notation in
    subst (Spells form (map (g.L.Logic.reads c.pick_cost.new.g vs) c.in_ok-cost-in-Some.cost)) (sym
    e) (c.in_ok-cost-in-Some.ensures.value vs m p (subst (HasRoom form) e room))

pub parts_cost-node_cost-requires : goal.parts_cost-node_cost-requires
parts_cost-node_cost-requires g t c κs h =
    let w = node_of c.args.node in
    let kid = node_of c.in-Some.part in
    let i = c.parts.i in
    let at : slice_get (children w) i ≡ Some kid = sym c.in-Some.ensures.tree in
    let less = child_smaller w kid i c.in-Some.ensures.tree in (
      omega (arith, less),
      (
        h.0,
        (
          h.1,
          (
            owned_later (extends_keeps c.parts.invariant.extends)
                c.requires.owned,
            child_picks c.args.picks.now w kid i c.requires.numbered at,
          ),
        ),
      ),
    )

pub parts_cost-sum_of_both-requires : goal.parts_cost-sum_of_both-requires
parts_cost-sum_of_both-requires g t c = record {
  left = cost_kept c.args.notation c.parts.total c.node_cost.ensures.extends c.parts.invariant.made;
  right = c.in_ok-cost-in-Some.ensures.made;
}

pub parts_cost-parts-preserved : goal.parts_cost-parts-preserved
parts_cost-parts-preserved g t c =
    let kids = children (node_of c.args.node) in
    let kid = node_of c.in-Some.part in
    let i = c.parts.i in
    let form = c.args.notation in
    let before = c.parts.invariant in
    let one = c.node_cost.ensures.extends in
    record {
      extends = extends_trans before.extends (extends_trans one c.sum_of_both.ensures.extends);
      untouched = λ h.
          let free = child_free (node_of c.args.node) kid i h c.in-Some.ensures.tree in
          c.in_ok-total-in-Some.ensures.untouched (c.in_ok-cost-in-Some.ensures.none free)
          ∙ c.node_cost.ensures.untouched free ∙ before.untouched h;
      none = λ h.
          let free = child_free (node_of c.args.node) kid i h c.in-Some.ensures.tree in
          c.in_ok-total-in-Some.ensures.same (c.in_ok-cost-in-Some.ensures.none free)
          ∙ before.none h;
      made = c.in_ok-total-in-Some.ensures.made;
      value = λ vs m p room.
          let f = cost m in
          let so_far = before.value vs m p room in
          let n = so_far.0 in
          let whole = so_far.2 in
          let next = sum_next f kids i (i + 1) kid (omega arith) c.in-Some.ensures.tree in
          let both = room_below form (n + f kid) (sum_of f kids) (omega (arith, whole, next)) room
          in
          let alone = room_below form (f kid) (n + f kid) (omega arith) both in
          let old = written_kept form c.parts.total n one before.made vs so_far.1 in
          let now = c.in_ok-cost-in-Some.ensures.value vs m (picks_kept c.args.picks.now m
          before.extends c.requires.owned vs p) alone in (
            n + f kid,
            c.in_ok-total-in-Some.ensures.value vs n (f kid) both old now,
            omega (
              arith,
              whole,
              next,
            ),
          );
    }

pub parts_cost-parts-init : goal.parts_cost-parts-init
parts_cost-parts-init g t c = record {
  extends = extends_refl;
  untouched = λ h. refl;
  none = λ h. refl;
  made = tt;
  value = λ vs m p room. (0, refl, omega arith);
}

pub parts_cost-parts-smaller : goal.parts_cost-parts-smaller
parts_cost-parts-smaller g t c =
    let below = is_place (children (node_of c.args.node)) c.parts.i (node_of c.in-Some.part)
    c.in-Some.ensures.tree in
    omega (arith, below)

pub parts_cost-returns-in-None-clause-value : goal.parts_cost-returns-in-None-clause-value
parts_cost-returns-in-None-clause-value g t c vs m p room =
    let kids = children (node_of c.args.node) in
    let done = c.parts.invariant.value vs m p room in
    let none = no_next kids c.parts.i c.in-None.ensures.tree in
    let left = ap (sum_of (cost m)) none in
    let whole = done.2 in
    let same : done.0 ≡ sum_of (cost m) kids = omega (arith, left, whole) in
    subst (Writes (g.L.Logic.reads c.parts.g vs) c.args.notation c.parts.total) same done.1

pub parts_cost-returns-in_err-cost-in-Some-clause-untouched :
    goal.parts_cost-returns-in_err-cost-in-Some-clause-untouched
parts_cost-returns-in_err-cost-in-Some-clause-untouched g t c h =
    let free = child_free (node_of c.args.node) (node_of c.in-Some.part) c.parts.i h
    c.in-Some.ensures.tree in
    c.node_cost.ensures.untouched free ∙ c.parts.invariant.untouched h

pub parts_cost-returns-in_err-total-in-Some-clause-untouched :
    goal.parts_cost-returns-in_err-total-in-Some-clause-untouched
parts_cost-returns-in_err-total-in-Some-clause-untouched g t c h =
    let free = child_free (node_of c.args.node) (node_of c.in-Some.part) c.parts.i h
    c.in-Some.ensures.tree in
    c.sum_of_both.ensures.untouched (c.in_ok-cost-in-Some.ensures.none free)
    ∙ c.node_cost.ensures.untouched free ∙ c.parts.invariant.untouched h

pub node_cost-returns-in_ok-cost-in-Some-clause-untouched :
    goal.node_cost-returns-in_ok-cost-in-Some-clause-untouched
node_cost-returns-in_ok-cost-in-Some-clause-untouched g t c h = absurd (pick_free (node_of
    c.args.node) c.in-Some.pick c.in-Some.ensures h)

pub node_cost-returns-in_ok-cost-in-Some-clause-none :
    goal.node_cost-returns-in_ok-cost-in-Some-clause-none
node_cost-returns-in_ok-cost-in-Some-clause-none g t c h = absurd (pick_free (node_of c.args.node)
    c.in-Some.pick c.in-Some.ensures h)

pub node_cost-returns-in_err-cost-in-Some-clause-untouched :
    goal.node_cost-returns-in_err-cost-in-Some-clause-untouched
node_cost-returns-in_err-cost-in-Some-clause-untouched g t c h = absurd (pick_free (node_of
    c.args.node) c.in-Some.pick c.in-Some.ensures h)

pub pick_cost-node_cost-requires : goal.pick_cost-node_cost-requires
pick_cost-node_cost-requires g t c κs h =
    let many = pick_nodes c.args.pick in
    let base = ap nodes c.base.ensures in
    let picked = subst (HasPicks c.args.picks.now) (sym c.base.ensures) c.requires.base in
    (omega (arith, many, base), (h.0, (h.1, (c.requires.owned, picked))))

pub pick_cost-written-requires : goal.pick_cost-written-requires
pick_cost-written-requires g t c = c.in_ok-base.ensures.made

pub pick_cost-loop-i-init : goal.pick_cost-loop-i-init
pick_cost-loop-i-init g t c =
    let form = c.args.notation in
    let pick = pick_of c.args.pick in
    let base = node_of c.base.result in
    record {
      extends = c.node_cost.ensures.extends;
      made = c.in_ok-chosen.ensures.made;
      value = λ vs m p room.
          let e = none_chosen (m pick.number) (cost m pick.base) (member_costs m (others_seen
          c.args.pick)) ∙ sym (ap (cost m) c.base.ensures) in
          let read = c.in_ok-base.ensures.value vs m p (subst (HasRoom form) e room) in
          subst (Spells form (map (g.L.Logic.reads c.node_cost.new.g vs) c.in_ok-chosen.chosen))
          (sym e) (c.in_ok-chosen.ensures.value vs (cost m base) read);
    }

pub pick_cost-other_cost-requires : goal.pick_cost-other_cost-requires
pick_cost-other_cost-requires g t c κs h =
    let os = others_seen c.args.pick in
    let i = c.loop-i.i in
    let tree = node_of c.tree.result in
    let many = pick_nodes c.args.pick in
    let less = member_smaller os i tree c.tree.ensures in (
      omega (arith, less, many),
      (
        h.0,
        (
          h.1,
          (
            owned_later (extends_keeps c.loop-i.invariant.extends)
                c.requires.owned,
            other_picks c.args.picks.now os i tree c.requires.others c.tree.ensures,
          ),
        ),
      ),
    )

pub pick_cost-member_or-requires : goal.pick_cost-member_or-requires
pick_cost-member_or-requires g t c =
    let before = c.loop-i.invariant in
    let one = c.other_cost.ensures.extends in
    let until = extends_keeps (extends_trans before.extends one) in
    let made = c.in_ok-member.ensures.made in
    let named = owns_one (λ w. w) c.args.picks.now c.number.result c.at-bits.result.now
    c.requires.owned c.at-bits.ensures in
    record {
      named = subst (OwnsAll g.L.Logic.owns c.other_cost.new.g) (sym c.as_slice-named.ensures)
          (owned_later until named);
      member = made.owned;
      other = owned_later (extends_keeps one) before.made.owned;
    }

pub pick_cost-loop-i-preserved : goal.pick_cost-loop-i-preserved
pick_cost-loop-i-preserved g t c =
    let reads = g.L.Logic.reads in
    let form = c.args.notation in
    let os = others_seen c.args.pick in
    let number = (pick_of c.args.pick).number in
    let base = (pick_of c.args.pick).base in
    let i = c.loop-i.i in
    let tree = node_of c.tree.result in
    let before = c.loop-i.invariant in
    let one = c.other_cost.ensures.extends in
    let until = extends_trans before.extends one in
    let made = c.in_ok-chosen-2.ensures.made in
    let member = c.in_ok-member.member in
    let other = c.loop-i.chosen in
    let wide = c.in_ok-member.ensures.made.width in
    let widest = max (length member) (length other) in
    let both = width_of_both form (length member) (length other) wide before.made.width in
    record {
      extends = extends_trans until c.member_or.ensures.extends;
      made = record { owned = made.owned; width = subst (HasWidth form) (sym made.width) both };
      value = λ vs m p room.
          let rd = reads c.other_cost.new.g vs in
          let costs = member_costs m os in
          let named = owns_one (λ w. w) c.args.picks.now c.number.result c.at-bits.result.now
          c.requires.owned c.at-bits.ensures in
          let read = ap (λ (w : List _). nat_read reads c.other_cost.new.g vs w)
          c.as_slice-named.ensures ∙ nat_later (extends_keeps until) named vs
          ∙ p.member c.number.result c.at-bits.result.now c.at-bits.ensures
          ∙ ap m c.number.ensures in
          let whole = chosen_more costs i (i + 1) (m number) (c.cost.result + cost m tree)
          (cost m base) (omega arith)
          (cost_at m os i c.cost.result tree c.cost.ensures c.tree.ensures) in
          let bits = c.in_ok-chosen-2.ensures.value vs
          ∙ ap (λ (n : ℕ). cond (eqb n (i + 1))
          (map rd member ++ replicate (widest - length member) false)
          (map rd other ++ replicate (widest - length other) false)) read in
          chosen_spelled form (eqb (m number) (i + 1)) _ _ _ _ _ _ whole room bits
          (λ h. padded_spelled rd form member widest _ wide both
          (le-max_left (length member) (length other))
          (c.in_ok-member.ensures.value vs m (picks_kept c.args.picks.now m before.extends
          c.requires.owned vs p) h))
          (λ h. padded_spelled rd form other widest _ before.made.width both
          (le-max_right (length member) (length other))
          (spelled_kept form other _ one before.made.owned vs (before.value vs m p h)));
    }

pub pick_cost-returns-clause-value : goal.pick_cost-returns-clause-value
pick_cost-returns-clause-value g t c vs m p room =
    let form = c.args.notation in
    let os = others_seen c.args.pick in
    let number = (pick_of c.args.pick).number in
    let base = (pick_of c.args.pick).base in
    let costs = member_costs m os in
    let all : take c.loop-i.i costs ≡ costs = all_taken costs c.loop-i.i (omega (
      arith,
      length_costs m os,
    )) in
    let e = ap (chosen (m number) (cost m base)) all in
    subst (Spells form (map (g.L.Logic.reads c.loop-i.g vs) c.loop-i.chosen)) e
    (c.loop-i.invariant.value vs m p (subst (HasRoom form) (sym e) room))

pub other_cost-node_cost-requires : goal.other_cost-node_cost-requires
other_cost-node_cost-requires g t c κs h = (
  omega arith,
  (
    h.0,
    (
      h.1,
      (
        c.requires.owned,
        c.requires.numbered,
      ),
    ),
  ),
)

pub other_cost-written-requires : goal.other_cost-written-requires
other_cost-written-requires g t c = c.in_ok-tree.ensures.made

pub other_cost-raised-requires : goal.other_cost-raised-requires
other_cost-raised-requires g t c = c.in_ok-inner.ensures.made

pub other_cost-returns-clause-value : goal.other_cost-returns-clause-value
other_cost-returns-clause-value g t c vs m p room =
    let form = c.args.notation in
    let n = cost m (node_of c.args.node) in
    let read = c.in_ok-tree.ensures.value vs m p (room_below form n (c.args.own + n) (omega arith)
    room) in
    c.in_ok-cost.ensures.value vs n room (c.in_ok-inner.ensures.value vs n read)
