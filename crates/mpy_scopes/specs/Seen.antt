-- What the code's references to parts of a program are as mathematics.
use Rattle.std.specs.Prelude.{ℕ, List}
use denote.Ref.{Bor}
use Rattle.mpy_tree.specs.declared.names.Name.{Name}
use Rattle.mpy_tree.specs.declared.tree.Expr.{Expr}
use Rattle.mpy_tree.specs.declared.typing.Slot.{Slot}
use Rattle.mpy_tree.specs.declared.typing.Slot.TheVariants as slot
use Rattle.mpy_tree.specs.Syntax.{Term}
use Rattle.mpy_tree.specs.View.{term_of, action_of}
use Rattle.mpy_tree.specs.Sites.{Site, does, asks}
use Rattle.mpy_scopes.specs.declared.flow.Target.{Target}
use Rattle.mpy_scopes.specs.declared.flow.Target.TheVariants.{Local, Result}
use Rattle.mpy_scopes.specs.declared.nodes.Site.{Site as Seen}
use Rattle.mpy_scopes.specs.declared.nodes.Site.TheVariants.{Does, Asks}

abbrev pub site_of : Seen → Site
site_of (Does line act) = does line (action_of act.now)
site_of (Asks line e) = asks line (term_of e.now)

abbrev pub node_of : Bor Expr → Term
node_of e = term_of e.now

abbrev pub name_of : Bor Name → List ℕ
name_of x = x.now

abbrev pub slot_of : Target → Slot
slot_of (Local x) = slot.Local x.now
slot_of Result = slot.Result
