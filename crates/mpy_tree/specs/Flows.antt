-- From where types come into the slots of a program, and the least set of facts.
use Rattle.std.specs.Prelude.{ℕ, ◌+◌, List, [], ◌∷◌, ◌++◌, Option, Some, None}
use Rattle.std.specs.List.{All, flat_map}
use Rattle.mpy_tree.specs.declared.operators.ArithOp.TheVariants.{Mul}
use Rattle.mpy_tree.specs.declared.typing.Ty.{Ty}
use Rattle.mpy_tree.specs.declared.typing.Slot.{Slot}
use Rattle.mpy_tree.specs.declared.typing.Slot.TheVariants.{Local, Result}
use Rattle.mpy_tree.specs.Syntax.{Term, Terms, term_and, no_term, a_term, Action, Routine}
use Rattle.mpy_tree.specs.Syntax as ast
use Rattle.mpy_tree.specs.declared.typing.TypeSet.{TypeSet}
use Rattle.mpy_tree.specs.Entries.{Entry}
use Rattle.mpy_tree.specs.TypeSets.{just, members, IsWithin}
use Rattle.mpy_tree.specs.SetTypes.{FactSet, types_in, Callee, called}
use Rattle.mpy_tree.specs.Sites.{Site, does, asks, sites, site_nodes}

-- a type that is given, an expression of the function i, or the members of its value
pub data Source : Type 0 where
  given : (t : Ty) → Source
  value : (i : ℕ) (e : Term) → Source
  each : (i : ℕ) (e : Term) → Source

-- the types of the source are types of the slot
pub record Flow : Type 0 where
  pub func : ℕ
  pub slot : Slot
  pub from : Source

abbrev pub flow : ℕ → Slot → Source → Flow
flow i x s = record { func = i; slot = x; from = s }

-- x = e; x op= e, but for `*`; `for x in e`; `return e`
abbrev pub act_flows : ℕ → Action → List Flow
act_flows i (ast.Assign x e) = flow i (Local x) (value i e) ∷ []
act_flows i (ast.Augment x Mul e) = []
act_flows i (ast.Augment x op e) = flow i (Local x) (value i e) ∷ []
act_flows i (ast.Put x k e) = []
act_flows i (ast.AugmentAt x k op e) = []
act_flows i (ast.Append x e) = []
act_flows i (ast.Print e) = []
act_flows i (ast.Return no_term) = []
act_flows i (ast.Return (a_term e)) = flow i Result (value i e) ∷ []
act_flows i ast.Pass = []
act_flows i ast.Break = []
act_flows i ast.Continue = []
act_flows i (ast.If arms last) = []
act_flows i (ast.While e body) = []
act_flows i (ast.For x e body) = flow i (Local x) (each i e) ∷ []

abbrev pub site_flows : ℕ → Site → List Flow
site_flows i (does line act) = act_flows i act
site_flows i (asks line e) = []

-- the arguments of a call in the function i flow into the parameters of the function j
abbrev pub argument_flows : ℕ → List (List ℕ) → ℕ → Terms → List Flow
argument_flows j (x ∷ xs) i (term_and e es) =
    flow j (Local x) (value i e) ∷ argument_flows j xs i es
argument_flows j _ i _ = []

abbrev pub callee_flows : Option Callee → ℕ → Terms → List Flow
callee_flows None i es = []
callee_flows (Some g) i es = argument_flows g.number g.routine.params i es

abbrev pub node_flows : List Routine → ℕ → Term → List Flow
node_flows p i (ast.Call f es) = callee_flows (called p f) i es
node_flows p i _ = []

-- the flows of a statement itself and of the calls in it
abbrev pub all_site_flows : List Routine → ℕ → Site → List Flow
all_site_flows p i s = site_flows i s ++ flat_map (node_flows p i) (site_nodes s)

-- the functions from the number i on
abbrev pub flows_from : List Routine → ℕ → List Routine → List Flow
flows_from p i [] = []
flows_from p i (r ∷ rs) =
    flat_map (all_site_flows p i) (sites r.body) ++ flows_from p (i + 1) rs

-- the entry's parameters have the types of the signature
abbrev pub given_flows : ℕ → List (List ℕ) → List Ty → List Flow
given_flows j (x ∷ xs) (t ∷ ts) = flow j (Local x) (given t) ∷ given_flows j xs ts
given_flows j _ _ = []

abbrev pub entry_flows : Option Callee → List Ty → List Flow
entry_flows None ts = []
entry_flows (Some g) ts = given_flows g.number g.routine.params ts

abbrev pub flows : List Routine → Entry → List Flow
flows p e = entry_flows (called p e.name) e.types ++ flows_from p 0 p

-- the types of a source, where these facts are known
abbrev pub source_types : FactSet → List Routine → Source → TypeSet
source_types F p (given t) = just t
source_types F p (value i e) = types_in F p i e
source_types F p (each i e) = members (types_in F p i e)

abbrev pub Keeps : FactSet → List Routine → Flow → Type 0
Keeps F p f = IsWithin (source_types F p f.from) (F f.func f.slot)

-- each flow has its result in the set
abbrev pub IsClosed : FactSet → List Routine → List Flow → Type 0
IsClosed F p fs = All (Keeps F p) fs

-- each fact of the first set is one of the second
abbrev pub IsPart : FactSet → FactSet → Type 0
IsPart F G = (i : ℕ) (x : Slot) → IsWithin (F i x) (G i x)

-- the least of the closed sets
pub record IsLeastClosed (F : FactSet) (p : List Routine) (fs : List Flow) : Type 0 where
  pub closed : IsClosed F p fs
  pub least : (G : FactSet) → IsClosed G p fs → IsPart F G

-- the least set of facts of a program that is entered so
abbrev pub IsLeast : FactSet → List Routine → Entry → Type 0
IsLeast F p e = IsLeastClosed F p (flows p e)
