use Rattle.std.proofs.Common.{map, slice_get, arith, ap, ◌∙◌, sym, Some, ◌≡◌}
use Rattle.mpy_tree.specs.Trees as kind
use Rattle.choice_tree.specs.RuleViews.{template_of}
use Rattle.choice_tree.specs.Templates.{one_comparison}
use Rattle.eml_match.specs.Resolutions.{kind_at}
use Rattle.eml_instances.specs.Resolving.{kind_number}
use Rattle.eml_instances.specs.Substitutions.{bindings_in, locals_in}
use Rattle.eml_instances.proofs.PartNumbers.{is_node, kinds_are, mapped_at, mapped_many}
use Rattle.eml_instances.proofs.Resolutions.{operator_gives}
use Rattle.eml_instances.proofs.standings.Substitution.comparison_root.Goals as goal

pub kind_number-place-requires-clause-node : goal.kind_number-place-requires-clause-node
kind_number-place-requires-clause-node c =
    is_node (template_of c.args.p.now) (one_comparison c.args.ops.now) c.requires.kind

pub at-requires : goal.at-requires
at-requires c =
    let below = c.kind_number-place.ensures.below in
    let kinds =
    kinds_are (template_of c.args.p.now) (one_comparison c.args.ops.now) (bindings_in
    c.args.self.now)
    c.requires.kind in
    let many = mapped_many kind.Cmp c.args.ops.now in
    let same = ap Rattle.std.proofs.Common.length c.items.ensures in
    omega (arith, below, kinds, many, same)

pub returns : goal.returns
returns c =
    let p = template_of c.args.p.now in
    let L = locals_in c.args.self.now in
    let β = bindings_in c.args.self.now in
    let n = c.kind_number-place.result in
    let here : slice_get c.args.ops.now n ≡ Some c.at.result =
    ap (λ xs. slice_get xs n) (sym c.items.ensures) ∙ c.at.ensures in
    let found : kind_at β (one_comparison c.args.ops.now) (kind_number p L β c.args.r)
    ≡ Some (kind.Cmp c.at.result) =
    ap (slice_get (map kind.Cmp c.args.ops.now)) (sym c.kind_number-place.ensures.number)
    ∙ mapped_at kind.Cmp c.args.ops.now n c.at.result (sym here) in (
      operator_gives p (one_comparison c.args.ops.now) (kind.Cmp c.at.result) L β c.args.r
          c.requires.kind
          c.requires.two found,
      c.requires.two,
    )
