use Rattle.std.proofs.Common.{◌≡◌, subst, sym, ap, ◌∙◌, refl, arith}
use Rattle.mpy_tree.specs.Trees as kind
use Rattle.mpy_tree.specs.Trees.{leaf, no_trees}
use Rattle.choice_tree.specs.Typing.{copy_of}
use Rattle.choice_tree.specs.WeightedTrees.{lifted, numbered, picks, size}
use Rattle.choice_tree.specs.WeightedViews.{weighted_of}
use Rattle.eml_rewrite.specs.Building.{Built, Took}
use Rattle.eml_rewrite.specs.Spots.{setting_at, context_at}
use Rattle.eml_rewrite.proofs.Nodes.{written_is_copy, written_is_node}
use Rattle.eml_rewrite.proofs.written.write_name.Goals as goal

pub returns-in-Some : goal.returns-in-Some
returns-in-Some g c =
    let name = leaf (kind.Name c.args.x.now) in
    subst (λ w. Built weighted_of c.write_copy.result w c.args.counter.now c.write_copy.new.counter)
    (ap (λ k. lifted (copy_of (leaf k))) (sym c.in-Some.ensures.name)
    ∙ sym (written_is_copy (setting_at c.args.spot.now) (context_at c.args.spot.now) name
    (c.in-Some.ensures.copied no_trees))) c.write_copy.ensures

pub returns-in_ok-name_node-in-None : goal.returns-in_ok-name_node-in-None
returns-in_ok-name_node-in-None g c =
    let name = leaf (kind.Name c.args.x.now) in
    let is =
    written_is_node (setting_at c.args.spot.now) (context_at c.args.spot.now) name
    (kind.Name c.args.x.now) (c.in-None.ensures.not_copied no_trees) refl in
    let left = c.in_ok-take-in-None.ensures.left in
    subst (λ w. (weighted_of c.in_ok-name_node-in-None.field-0
    ≡ numbered w c.args.counter.now.next)
    × Took c.args.counter.now c.take.new.self (picks w) (size w)) (sym is)
    (c.in_ok-name_node-in-None.ensures, record { next = omega arith; left = omega arith })
