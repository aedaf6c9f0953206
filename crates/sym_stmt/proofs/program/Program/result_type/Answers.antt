use Rattle.std.proofs.Common.{◌≡◌, Some, None, ap, sym, ◌∙◌, is_some}
use Rattle.mpy_tree.specs.declared.typing.Slot.TheVariants as slot
use Rattle.mpy_tree.specs.Rules.{single}
use Rattle.mpy_tree.specs.TypeSets.{only}
use Rattle.mpy_tree.specs.Typings.{set_of}
use Rattle.sym_stmt.proofs.Calls.{result_at, result_nowhere}
use Rattle.sym_stmt.proofs.program.Program.result_type.Goals as goal

pub unreachable-requires : goal.unreachable-requires
unreachable-requires c =
    let self = c.args.self.now in
    result_nowhere self.tree.now self.types.now.facts c.args.f.now
    (sym c.number.ensures.first ∙ c.in-None.is) c.requires

pub unreachable-requires-in-None-only : goal.unreachable-requires-in-None-only
unreachable-requires-in-None-only c =
    let self = c.args.self.now in
    let i = c.in-Some.i in
    let there =
    result_at self.tree.now self.types.now.facts c.args.f.now i
    (sym c.number.ensures.first ∙ c.in-Some.is) in
    let none : single (set_of self.types.now.facts) i slot.Result ≡ None =
    ap (λ fs. only (set_of fs i slot.Result)) (sym c.facts.ensures)
    ∙ ap only (sym c.result.ensures) ∙ sym c.only.ensures ∙ c.in-None-only.is in
    let some = c.requires in
    let not = ap is_some (there ∙ none) in
    cc

pub returns : goal.returns
returns c =
    let self = c.args.self.now in
    let i = c.in-Some.i in
    let type : single (set_of self.types.now.facts) i slot.Result ≡ Some c.in-Some-only.ty =
    ap (λ fs. only (set_of fs i slot.Result)) (sym c.facts.ensures)
    ∙ ap only (sym c.result.ensures) ∙ sym c.only.ensures ∙ c.in-Some-only.is in
    result_at self.tree.now self.types.now.facts c.args.f.now i
    (sym c.number.ensures.first ∙ c.in-Some.is) ∙ type
