use Rattle.std.proofs.Common.{◌≡◌, ◌++◌, map, drop}
use Rattle.std.specs.Prelude.{filter}
use Rattle.mpy_tree.specs.Trees as kind
use Rattle.mpy_tree.specs.Trees.{leaf}
use Rattle.mpy_scopes.specs.Seen.{name_of}
use Rattle.choice_tree.specs.Typing.{same_type, type_of}
use Rattle.eml_instances.specs.Scopes.{scope_of}
use Rattle.eml_instances.proofs.scope.typed_locals.Given as goal

-- those that were found, and those among the locals that are left
abbrev pub invariant-loop-x : goal.invariant-loop-x
invariant-loop-x g l =
    filter (λ x. same_type (type_of (scope_of (g.K.Known.gives l.fn.scope.known.now)
    l.fn.scope.scopes.now.funcs.now l.fn.scope.number) (leaf (kind.Name x))) l.fn.ty)
    (map name_of l.x-items)
    ≡ map name_of l.found.items
    ++ filter (λ x. same_type (type_of (scope_of (g.K.Known.gives l.fn.scope.known.now)
    l.fn.scope.scopes.now.funcs.now l.fn.scope.number) (leaf (kind.Name x))) l.fn.ty)
    (map name_of (drop l.x-index l.x-items))
