use Rattle.std.proofs.Common.{◌≡◌, ◌<◌, ◌≤◌, length, map, get_or, ap, sym, ◌∙◌, subst, List}
use Rattle.mpy_scopes.specs.declared.scope.Scope.{Scope}
use Rattle.mpy_scopes.specs.Seen.{name_of}
use Rattle.eml_instances.proofs.FittingLocals.{locals_there, no_locals}
use Rattle.eml_instances.proofs.scope.locals_of.Goals as goal

pub returns-in-None : goal.returns-in-None
returns-in-None c =
    let P : List Scope → Type 0 = λ ss. length ss ≤ c.args.number in
    ap (map name_of) c.new.ensures.items
    ∙ sym (no_locals c.args.scopes.now.items.items c.args.scopes.now.funcs.now c.args.number
    c.args.scopes.now.same (subst P c.deref.ensures.value c.in-None.ensures.lookup.3))

pub returns-in_ok-from_slice-in-Some : goal.returns-in_ok-from_slice-in-Some
returns-in_ok-from_slice-in-Some c =
    let s = c.in-Some.scope.now in
    let P : List Scope → Type 0 = λ ss. c.args.number < length ss in
    let Q : List Scope → Type 0 = λ ss. s ≡ get_or ss c.args.number s in
    ap (map name_of) (c.in_ok-from_slice-in-Some.ensures.items ∙ c.as_slice.ensures.value)
    ∙ locals_there c.args.scopes.now.items.items c.args.scopes.now.funcs.now c.args.number s
    c.args.scopes.now.same (subst P c.deref.ensures.value c.in-Some.ensures.lookup.3.0)
    (subst Q c.deref.ensures.value c.in-Some.ensures.lookup.1)
