-- Statements by which two names could share a list that is changed in place.
use Rattle.std.specs.Prelude.{ℕ, ◌+◌, Bool, true, false, ◌&&◌, List, [], ◌∷◌, ◌++◌, if◌then◌else◌}
use Rattle.std.specs.List.{list_any, flat_map}
use Rattle.mpy_tree.specs.declared.typing.Ty.TheVariants as ty
use Rattle.mpy_tree.specs.declared.typing.Slot.TheVariants as slot
use Rattle.mpy_tree.specs.Syntax.{Term, a_term, Action, Routine}
use Rattle.mpy_tree.specs.Syntax as ast
use Rattle.mpy_tree.specs.Values.{same_bytes}
use Rattle.mpy_tree.specs.Locals.{is_among}
use Rattle.mpy_tree.specs.Rules.{Slots, is_type, type_in}
use Rattle.mpy_tree.specs.Sites.{Site, does, asks, line_of, sites, site_nodes}

-- the names whose list an expression may be, if it is a list
abbrev pub opens : Term → List (List ℕ)
opens (ast.Name x) = x ∷ []
opens (ast.Cond t a b) = opens a ++ opens b
opens _ = []

abbrev pub some_name : List (List ℕ) → Bool
some_name [] = false
some_name (x ∷ xs) = true

-- a statement on a line, where a test finds it
abbrev pub on_line_if : Bool → ℕ → List ℕ
on_line_if b line = if b then line ∷ [] else []

-- in the function i of the program p
module _ (S : Slots) (p : List Routine) (i : ℕ) where
  -- an expression of type List is open to these names, another to none
  abbrev pub open_to : Term → List (List ℕ)
  open_to e = if is_type ty.List (type_in S p i e) then opens e else []

  -- the name whose list a statement changes in place
  abbrev pub changes : Action → List (List ℕ)
  changes (ast.Assign x e) = []
  changes (ast.Augment x op e) = if is_type ty.List (S i (slot.Local x)) then x ∷ [] else []
  changes (ast.Put x k e) = x ∷ []
  changes (ast.AugmentAt x k op e) = x ∷ []
  changes (ast.Append x e) = x ∷ []
  changes (ast.Print e) = []
  changes (ast.Return e) = []
  changes ast.Pass = []
  changes ast.Break = []
  changes ast.Continue = []
  changes (ast.If arms last) = []
  changes (ast.While e body) = []
  changes (ast.For x e body) = []

  -- the line of a statement that changes one of these names in place
  abbrev pub changed_on : List (List ℕ) → Site → List ℕ
  changed_on xs (does line act) = on_line_if (list_any (is_among xs) (changes act)) line
  changed_on xs (asks line e) = []

  -- The lines on which a statement of a function with the parameters ps shares: `v = e` where e is
  -- open to some name; in a `for`, a change of a list that the `for` is open to; and, where the
  -- function is called, a `return` of an expression that is open to a parameter, and a change of a
  -- parameter.
  abbrev pub shared_by : Bool → List (List ℕ) → ℕ → Action → List ℕ
  shared_by called ps line (ast.Assign x e) = on_line_if (some_name (open_to e)) line
  shared_by called ps line (ast.Return (a_term e)) =
      on_line_if (called && list_any (is_among ps) (open_to e)) line
  shared_by called ps line (ast.For x e body) = flat_map (changed_on (open_to e)) (sites body)
  shared_by called ps line act =
      on_line_if (called && list_any (is_among ps) (changes act)) line

  abbrev pub shared_on : Bool → List (List ℕ) → Site → List ℕ
  shared_on called ps (does line act) = shared_by called ps line act
  shared_on called ps (asks line e) = []

abbrev pub is_call_of : List ℕ → Term → Bool
is_call_of f (ast.Call g es) = same_bytes f g
is_call_of f _ = false

-- the line of a statement in which a call names the function
abbrev pub called_on : List ℕ → Site → List ℕ
called_on f s = on_line_if (list_any (is_call_of f) (site_nodes s)) (line_of s)

abbrev pub has_line : List ℕ → Bool
has_line [] = false
has_line (n ∷ ns) = true

-- some call names the function
abbrev pub is_called : List Routine → List ℕ → Bool
is_called p f = list_any (λ r. has_line (flat_map (called_on f) (sites r.body))) p

abbrev pub shared_from : Slots → List Routine → ℕ → List Routine → List ℕ
shared_from S p i [] = []
shared_from S p i (r ∷ rs) =
    flat_map (shared_on S p i (is_called p r.name) r.params) (sites r.body)
    ++ shared_from S p (i + 1) rs

-- the lines of all statements that share
abbrev pub shared : Slots → List Routine → List ℕ
shared S p = shared_from S p 0 p
