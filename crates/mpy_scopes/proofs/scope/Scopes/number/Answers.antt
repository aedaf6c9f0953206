use Rattle.std.proofs.Common.{◌≡◌, ◌<◌, ◌≤◌, length, map, get_or, sym, ◌∙◌, subst, List}
use Rattle.mpy_tree.specs.View.{routine_of}
use Rattle.mpy_scopes.specs.declared.scope.Scope.{Scope}
use Rattle.mpy_scopes.specs.Numbers.{Room, room}
use Rattle.mpy_scopes.specs.Seen.{name_of, slot_of}
use Rattle.mpy_scopes.proofs.Numbering.{number_item, number_none}
use Rattle.mpy_scopes.proofs.scope.Scopes.number.Goals as goal

abbrev room_of : Scope → Room
room_of s = room s.first (map name_of s.names.names.items)

pub returns-in-None : goal.returns-in-None
returns-in-None c =
    let P : List Scope → Type 0 = λ ss. length ss ≤ c.args.func in
    sym (number_none room_of c.args.self.now.items.items (map routine_of c.args.self.now.funcs.now) c.args.func (slot_of c.args.slot) c.args.self.now.laid (subst P c.deref.ensures.value c.in-None.ensures.lookup.3))

pub returns-in-Some : goal.returns-in-Some
returns-in-Some c =
    let P : List Scope → Type 0 = λ ss. c.args.func < length ss in
    let Q : List Scope → Type 0 = λ ss. c.in-Some.scope.now ≡ get_or ss c.args.func c.in-Some.scope.now in
    c.number.ensures
    ∙ sym (number_item room_of c.args.self.now.items.items (map routine_of c.args.self.now.funcs.now) c.args.func c.in-Some.scope.now (slot_of c.args.slot) c.args.self.now.laid
    (subst P c.deref.ensures.value c.in-Some.ensures.lookup.3.0) (subst Q c.deref.ensures.value c.in-Some.ensures.lookup.1))
