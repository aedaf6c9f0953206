-- What the metavariables of a left side stand for.
use Rattle.std.specs.Prelude.{ℕ, Bool, true, false, ◌&&◌, ◌==◌, if◌then◌else◌, List, []}
use Rattle.std.specs.Prelude.{◌∷◌, ◌++◌, Option, Some, None}
use Rattle.std.specs.List.{list_any}
use Rattle.mpy_tree.specs.declared.operators.ArithOp.{ArithOp}
use Rattle.mpy_tree.specs.declared.operators.ArithOp.TheVariants as arith
use Rattle.mpy_tree.specs.declared.operators.CmpOp.{CmpOp}
use Rattle.mpy_tree.specs.declared.operators.CmpOp.TheVariants as cmp
use Rattle.mpy_tree.specs.Operations.{same_truth}
use Rattle.mpy_tree.specs.Values.{same_bytes}
use Rattle.mpy_tree.specs.Comparing.{same_arith, same_cmp}
use Rattle.mpy_tree.specs.Trees as kind
use Rattle.mpy_tree.specs.Trees.{Kind, Tree, Trees, node, no_trees, tree_and, leaf}
use Rattle.choice_tree.specs.Templates.{NodeTemplate, exactly, one_arith, one_comparison}
use Rattle.choice_tree.specs.Templates.{some_arith, some_comparison, Template, Templates, made}
use Rattle.choice_tree.specs.Templates.{hole, one_of, some_local, no_templates, template_and}
use Rattle.choice_tree.specs.declared.rules.Meta.{Meta}
use Rattle.choice_tree.specs.declared.rules.Place.{Place}
use Rattle.choice_tree.specs.declared.rules.Place.TheVariants as place
use Rattle.choice_tree.specs.Contexts.{Site, elsewhere, at_return, at_assign, at_if, at_while}
use Rattle.choice_tree.specs.Contexts.{at_for}

-- what a metavariable stands for: a term, or an operator, that is a node without its parts
pub data Bound : Type 0 where
  a_term : (t : Tree) → Bound
  an_operator : (k : Kind) → Bound

pub record Binding : Type 0 where
  pub meta : Meta
  pub bound : Bound

abbrev pub Bindings : Type 0
Bindings = List Binding

abbrev pub bind : Meta → Bound → Option Bindings
bind m b = Some (record { meta = m; bound = b } ∷ [])

-- the bindings of both
abbrev pub together : Option Bindings → Option Bindings → Option Bindings
together (Some a) (Some b) = Some (a ++ b)
together _ _ = None

abbrev pub only_if : Bool → Option Bindings
only_if true = Some []
only_if false = None

abbrev pub bind_if : Bool → Meta → Bound → Option Bindings
bind_if true m b = bind m b
bind_if false m b = None

-- nodes of expressions that are equal, their parts aside
abbrev pub same_kind : Kind → Kind → Bool
same_kind (kind.Int m) (kind.Int n) = m == n
same_kind (kind.Bool a) (kind.Bool b) = same_truth a b
same_kind (kind.Text a) (kind.Text b) = same_bytes a b
same_kind (kind.Name x) (kind.Name y) = same_bytes x y
same_kind kind.List kind.List = true
same_kind kind.Neg kind.Neg = true
same_kind kind.Not kind.Not = true
same_kind (kind.Arith o) (kind.Arith p) = same_arith o p
same_kind (kind.Cmp o) (kind.Cmp p) = same_cmp o p
same_kind kind.And kind.And = true
same_kind kind.Or kind.Or = true
same_kind kind.Cond kind.Cond = true
same_kind kind.Index kind.Index = true
same_kind (kind.Slice a b) (kind.Slice c d) = same_truth a c && same_truth b d
same_kind (kind.Call f) (kind.Call g) = same_bytes f g
same_kind _ _ = false

-- the operators that $o takes, and those that $c takes
abbrev pub is_some_arith : ArithOp → Bool
is_some_arith arith.Power = false
is_some_arith _ = true

abbrev pub is_some_comparison : CmpOp → Bool
is_some_comparison cmp.Member = false
is_some_comparison cmp.NotMember = false
is_some_comparison _ = true

-- a node, its parts aside
abbrev pub node_matches : NodeTemplate → Kind → Option Bindings
node_matches (exactly k) j = only_if (same_kind k j)
node_matches (one_arith ops) (kind.Arith op) = only_if (list_any (same_arith op) ops)
node_matches (one_comparison ops) (kind.Cmp op) = only_if (list_any (same_cmp op) ops)
node_matches (some_arith m) (kind.Arith op) =
    bind_if (is_some_arith op) m (an_operator (kind.Arith op))
node_matches (some_comparison m) (kind.Cmp op) =
    bind_if (is_some_comparison op) m (an_operator (kind.Cmp op))
node_matches _ _ = None

abbrev pub is_name : Kind → Bool
is_name (kind.Name x) = true
is_name _ = false

abbrev pub is_number : Kind → Bool
is_number (kind.Int n) = true
is_number _ = false

abbrev pub is_expression : Kind → Bool
is_expression (kind.Int n) = true
is_expression (kind.Bool b) = true
is_expression (kind.Text cs) = true
is_expression (kind.Name x) = true
is_expression kind.List = true
is_expression kind.Neg = true
is_expression kind.Not = true
is_expression (kind.Arith op) = true
is_expression (kind.Cmp op) = true
is_expression kind.And = true
is_expression kind.Or = true
is_expression kind.Cond = true
is_expression kind.Index = true
is_expression (kind.Slice from to) = true
is_expression (kind.Call f) = true
is_expression _ = false

-- $v takes a name, $n a number literal, and $a any expression
abbrev pub letter_v : ℕ
letter_v = 118

abbrev pub letter_n : ℕ
letter_n = 110

abbrev pub takes : ℕ → Kind → Bool
takes letter k =
    if letter == letter_v then is_name k
    else if letter == letter_n then is_number k else is_expression k

-- what each metavariable stands for, if the left side with these terms is the term
abbrev mutual
  pub matches : Template → Tree → Option Bindings
  matches (made k ps) (node j ts) = together (node_matches k j) (matches_all ps ts)
  matches (hole m) (node j ts) = bind_if (takes m.letter j) m (a_term (node j ts))
  matches (one_of ps) t = None
  matches (some_local m) t = None

  pub matches_all : Templates → Trees → Option Bindings
  matches_all no_templates no_trees = Some []
  matches_all (template_and p ps) (tree_and t ts) = together (matches p t) (matches_all ps ts)
  matches_all _ _ = None

-- a rule without a place
abbrev pub without_place : Place → Option Bindings
without_place place.Anywhere = Some []
without_place _ = None

-- a rule with this place, and its target
abbrev pub with_place : Site → Place → Option Bindings
with_place at_return place.Return = Some []
with_place (at_assign x) (place.Assign m) = bind m (a_term (leaf (kind.Name x)))
with_place at_if place.If = Some []
with_place at_while place.While = Some []
with_place (at_for x) (place.For m) = bind m (a_term (leaf (kind.Name x)))
with_place _ _ = None

-- the rules that are tried there: those without a place, or those with this one, round them
abbrev pub here : Site → Place → Option Bindings
here elsewhere = without_place
here site = with_place site
