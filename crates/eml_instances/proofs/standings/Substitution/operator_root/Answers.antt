use Rattle.std.proofs.Common.{◌≡◌, [], ◌∷◌, ap, ◌∙◌}
use Rattle.mpy_tree.specs.Trees as kind
use Rattle.choice_tree.specs.Drafts.{bound_operator, operator_in}
use Rattle.choice_tree.specs.RuleViews.{template_of}
use Rattle.eml_match.specs.MatchViews.{bound_seen}
use Rattle.eml_instances.specs.Resolving.{kind_number}
use Rattle.eml_instances.specs.Substitutions.{bindings_in, locals_in}
use Rattle.eml_instances.proofs.PartNumbers.{kind_digit, one_operator, operator_is_node}
use Rattle.eml_instances.proofs.Resolutions.{operator_gives}
use Rattle.eml_instances.proofs.standings.Substitution.operator_root.Goals as goal

pub returns-in-Arith : goal.returns-in-Arith
returns-in-Arith c =
    let p = template_of c.args.p.now in
    let L = locals_in c.args.self.now in
    let β = bindings_in c.args.self.now in
    let j = kind.Arith c.in-Arith.op in
    let b : bound_operator β c.args.m ≡ j ∷ [] =
    c.in-Some.ensures.operator ∙ ap (λ x. operator_in (bound_seen x)) c.in-Arith.is in
    let d =
    kind_digit p L β c.args.r (operator_is_node c.args.m p c.requires.kind) c.requires.within
    c.requires.near in
    let k = one_operator c.args.m p β (kind_number p L β c.args.r) j c.requires.kind b d.below in
    (operator_gives p k.node j L β c.args.r k.is c.requires.two k.at, c.requires.two)

pub returns-in-Cmp : goal.returns-in-Cmp
returns-in-Cmp c =
    let p = template_of c.args.p.now in
    let L = locals_in c.args.self.now in
    let β = bindings_in c.args.self.now in
    let j = kind.Cmp c.in-Cmp.op in
    let b : bound_operator β c.args.m ≡ j ∷ [] =
    c.in-Some.ensures.operator ∙ ap (λ x. operator_in (bound_seen x)) c.in-Cmp.is in
    let d =
    kind_digit p L β c.args.r (operator_is_node c.args.m p c.requires.kind) c.requires.within
    c.requires.near in
    let k = one_operator c.args.m p β (kind_number p L β c.args.r) j c.requires.kind b d.below in
    (operator_gives p k.node j L β c.args.r k.is c.requires.two k.at, c.requires.two)
