use Rattle.std.proofs.Common.{◌/◌, ◌%◌, ◌∙◌, arith}
use Rattle.choice_tree.specs.RuleViews.{template_of}
use Rattle.eml_instances.specs.Substitutions.{bindings_in, locals_in}
use Rattle.eml_instances.proofs.PartNumbers.{kind_digit}
use Rattle.eml_instances.proofs.standings.Substitution.kind_number.Goals as goal

pub nonzero_div-above : goal.nonzero_div-above
nonzero_div-above c =
    let d = kind_digit (template_of c.args.p.now) (locals_in c.args.self.now)
    (bindings_in c.args.self.now) c.args.r c.requires.node c.requires.within c.requires.near in
    let some = d.behind in
    let made = c.count_from-behind.ensures in
    omega (arith, some, made)

pub nonzero_rem-result : goal.nonzero_rem-result
nonzero_rem-result c =
    let d = kind_digit (template_of c.args.p.now) (locals_in c.args.self.now)
    (bindings_in c.args.self.now) c.args.r c.requires.node c.requires.within c.requires.near in
    let some = d.kinds in
    let made = c.kinds_of-kinds.ensures in
    omega (arith, some, made)

pub returns-clause-number : goal.returns-clause-number
returns-clause-number c =
    let d = kind_digit (template_of c.args.p.now) (locals_in c.args.self.now)
    (bindings_in c.args.self.now) c.args.r c.requires.node c.requires.within c.requires.near in
    (λ i. (c.args.r / c.count_from-behind.ensures i) % c.kinds_of-kinds.ensures i) ∙ d.is

pub returns-clause-below : goal.returns-clause-below
returns-clause-below c =
    let d = kind_digit (template_of c.args.p.now) (locals_in c.args.self.now)
    (bindings_in c.args.self.now) c.args.r c.requires.node c.requires.within c.requires.near in
    let is = (λ i. (c.args.r / c.count_from-behind.ensures i) % c.kinds_of-kinds.ensures i) ∙ d.is
    in
    rw is d.below
