use Rattle.std.proofs.Common.{ap, ◌∙◌}
use Rattle.choice_tree.specs.Drafts.{filled}
use Rattle.choice_tree.specs.RuleViews.{template_of}
use Rattle.choice_tree.specs.Typing.{same_type, type_of}
use Rattle.eml_match.specs.Resolutions.{resolution}
use Rattle.eml_instances.specs.Scopes.{scope_of}
use Rattle.eml_instances.proofs.adding.is_typed.Goals as goal

pub instance-requires-clause-within : goal.instance-requires-clause-within
instance-requires-clause-within g c =
    rw (c.requires.locals, c.requires.bindings) c.requires.numbered.0

pub returns : goal.returns
returns g c =
    let σ =
    scope_of (g.K.Known.gives c.args.scope.now.known.now) c.args.scope.now.scopes.now.funcs.now
    c.args.scope.now.number in
    c.same_type.ensures
    ∙ ap (λ o. same_type o c.args.ty)
    (c.type_there.ensures
    ∙ ap (type_of σ)
    (c.in_ok-made.ensures
    ∙ (λ i. filled (resolution (template_of c.args.a.side.now) (c.requires.locals i)
    (c.requires.bindings i) c.args.a.number))))
