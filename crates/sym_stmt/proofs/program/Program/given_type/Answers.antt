use Rattle.std.proofs.Common.{◌≡◌, ap, sym, ◌∙◌}
use Rattle.mpy_tree.specs.declared.typing.Slot.TheVariants as slot
use Rattle.mpy_tree.specs.Rules.{single}
use Rattle.mpy_tree.specs.TypeSets.{only}
use Rattle.mpy_tree.specs.Typings.{set_of}
use Rattle.sym_stmt.proofs.Calls.{result_at, result_none}
use Rattle.sym_stmt.proofs.program.Program.given_type.Goals as goal

pub returns-in-None : goal.returns-in-None
returns-in-None c =
    let self = c.args.self.now in
    sym (result_none self.tree.now self.types.now.facts c.args.f.now
    (sym c.number.ensures.first ∙ c.in-None.is))

pub returns-in-Some : goal.returns-in-Some
returns-in-Some c =
    let self = c.args.self.now in
    let i = c.in-Some.i in
    let type : single (set_of self.types.now.facts) i slot.Result ≡ c.only.result =
    ap (λ fs. only (set_of fs i slot.Result)) (sym c.facts.ensures)
    ∙ ap only (sym c.result.ensures) ∙ sym c.only.ensures in
    sym (result_at self.tree.now self.types.now.facts c.args.f.now i
    (sym c.number.ensures.first ∙ c.in-Some.is) ∙ type)
