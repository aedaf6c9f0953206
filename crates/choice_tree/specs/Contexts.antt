-- Where a node stands: in which function, and whether it shares a list with a name; its line, and
-- its site. All of it follows from the nodes above.
use Rattle.std.specs.Prelude.{ℕ, zero, suc, Bool, true, false, ◌&&◌, List}
use Rattle.mpy_tree.specs.Syntax.{Routine}
use Rattle.mpy_tree.specs.Rules.{Slots}
use Rattle.mpy_tree.specs.Trees as kind
use Rattle.mpy_tree.specs.Trees.{Kind, Tree}
use Rattle.choice_tree.specs.Typing.{Scope, is_list_name}
use Rattle.choice_tree.specs.Templates.{Correction}

-- the rules, the program to which they are applied, and the types of its slots
pub record Setting : Type 0 where
  pub rules : List Correction
  pub program : List Routine
  pub slots : Slots

abbrev pub setting_with : List Correction → List Routine → Slots → Setting
setting_with rules program slots = record { rules = rules; program = program; slots = slots }

abbrev pub scope_in : Setting → ℕ → Scope
scope_in g i = record { slots = g.slots; program = g.program; number = i }

-- what the whole expression of a statement is to rules with a place
pub data Site : Type 0 where
  elsewhere : Site
  at_return : Site
  at_assign : (x : List ℕ) → Site
  at_if : Site
  at_while : Site
  at_for : (x : List ℕ) → Site

-- Whether the name of a list that stands there would be shared. One in an alternative is copied.
pub data Sharing : Type 0 where
  apart : Sharing
  shared : Sharing
  copied : Sharing

pub record Context : Type 0 where
  pub scope : Scope
  pub sharing : Sharing

abbrev pub site_below : Kind → Site
site_below (kind.Int n) = elsewhere
site_below (kind.Bool b) = elsewhere
site_below (kind.Text cs) = elsewhere
site_below (kind.Name x) = elsewhere
site_below kind.List = elsewhere
site_below kind.Neg = elsewhere
site_below kind.Not = elsewhere
site_below (kind.Arith op) = elsewhere
site_below (kind.Cmp op) = elsewhere
site_below kind.And = elsewhere
site_below kind.Or = elsewhere
site_below kind.Cond = elsewhere
site_below kind.Index = elsewhere
site_below (kind.Slice from to) = elsewhere
site_below (kind.Call f) = elsewhere
site_below (kind.Assign line x) = at_assign x
site_below (kind.Augment line x op) = elsewhere
site_below (kind.Put line x) = elsewhere
site_below (kind.AugmentAt line x op) = elsewhere
site_below (kind.Append line x) = elsewhere
site_below (kind.Print line) = elsewhere
site_below (kind.Return line) = at_return
site_below (kind.Pass line) = elsewhere
site_below (kind.Break line) = elsewhere
site_below (kind.Continue line) = elsewhere
site_below (kind.If line) = elsewhere
site_below (kind.Arm line) = at_if
site_below (kind.While line) = at_while
site_below (kind.For line x) = at_for x
site_below kind.Block = elsewhere
site_below (kind.Function line f xs) = elsewhere
site_below kind.Program = elsewhere

-- the line of the parts of a node
abbrev pub line_below : Kind → ℕ → ℕ
line_below (kind.Assign line x) _ = line
line_below (kind.Augment line x op) _ = line
line_below (kind.Put line x) _ = line
line_below (kind.AugmentAt line x op) _ = line
line_below (kind.Append line x) _ = line
line_below (kind.Print line) _ = line
line_below (kind.Return line) _ = line
line_below (kind.Arm line) _ = line
line_below (kind.While line) _ = line
line_below (kind.For line x) _ = line
line_below (kind.Int n) line = line
line_below (kind.Bool b) line = line
line_below (kind.Text cs) line = line
line_below (kind.Name x) line = line
line_below kind.List line = line
line_below kind.Neg line = line
line_below kind.Not line = line
line_below (kind.Arith op) line = line
line_below (kind.Cmp op) line = line
line_below kind.And line = line
line_below kind.Or line = line
line_below kind.Cond line = line
line_below kind.Index line = line
line_below (kind.Slice from to) line = line
line_below (kind.Call f) line = line
line_below (kind.Pass _) line = line
line_below (kind.Break _) line = line
line_below (kind.Continue _) line = line
line_below (kind.If _) line = line
line_below kind.Block line = line
line_below (kind.Function _ f xs) line = line
line_below kind.Program line = line

-- Of the part of a node at a place. The whole expression of `v = e`, of a `return` and of a `for`
-- is shared, and so are the arms of a conditional that is.
abbrev pub sharing_below : Kind → ℕ → Sharing → Sharing
sharing_below (kind.Int n) i s = apart
sharing_below (kind.Bool b) i s = apart
sharing_below (kind.Text cs) i s = apart
sharing_below (kind.Name x) i s = apart
sharing_below kind.List i s = apart
sharing_below kind.Neg i s = apart
sharing_below kind.Not i s = apart
sharing_below (kind.Arith op) i s = apart
sharing_below (kind.Cmp op) i s = apart
sharing_below kind.And i s = apart
sharing_below kind.Or i s = apart
sharing_below kind.Cond zero s = s
sharing_below kind.Cond (suc zero) s = apart
sharing_below kind.Cond (suc (suc i)) s = s
sharing_below kind.Index i s = apart
sharing_below (kind.Slice from to) i s = apart
sharing_below (kind.Call f) i s = apart
sharing_below (kind.Assign line x) i s = shared
sharing_below (kind.Augment line x op) i s = apart
sharing_below (kind.Put line x) i s = apart
sharing_below (kind.AugmentAt line x op) i s = apart
sharing_below (kind.Append line x) i s = apart
sharing_below (kind.Print line) i s = apart
sharing_below (kind.Return line) i s = shared
sharing_below (kind.Pass line) i s = apart
sharing_below (kind.Break line) i s = apart
sharing_below (kind.Continue line) i s = apart
sharing_below (kind.If line) i s = apart
sharing_below (kind.Arm line) i s = apart
sharing_below (kind.While line) i s = apart
sharing_below (kind.For line x) i s = shared
sharing_below kind.Block i s = apart
sharing_below (kind.Function line f xs) i s = apart
sharing_below kind.Program i s = apart

abbrev pub scope_below : Setting → Kind → ℕ → Scope → Scope
scope_below g kind.Program i σ = scope_in g i
scope_below g _ i σ = σ

-- where the part of a node at a place stands
abbrev pub below : Setting → Kind → ℕ → Context → Context
below g k i c =
    record { scope = scope_below g k i c.scope; sharing = sharing_below k i c.sharing }

abbrev pub sharing_inside : Sharing → Sharing
sharing_inside apart = apart
sharing_inside _ = copied

-- an alternative that stands there
abbrev pub inside : Context → Context
inside c = record { scope = c.scope; sharing = sharing_inside c.sharing }

abbrev pub is_copied : Sharing → Bool
is_copied copied = true
is_copied _ = false

-- what stands there is the name of a list, which is written as a copy
abbrev pub copies : Context → Tree → Bool
copies c t = is_list_name c.scope t && is_copied c.sharing

-- the context of a whole program
abbrev pub outermost : Setting → Context
outermost g = record { scope = scope_in g 0; sharing = apart }
