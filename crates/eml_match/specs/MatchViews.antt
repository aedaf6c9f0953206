-- What the code's bindings are as mathematics, and the matching of nodes and of their parts apart.
use Rattle.std.specs.Prelude.{ℕ, Bool, List, [], ◌∷◌, map, Option, Some, None}
use Rattle.std.specs.declared.vec.Vec.{Vec}
use Rattle.std.specs.declared.alloc.Global.{Global}
use Rattle.mpy_tree.specs.View.{term_of}
use Rattle.mpy_tree.specs.Trees as kind
use Rattle.mpy_tree.specs.Trees.{Tree, node, leaf}
use Rattle.mpy_tree.specs.Shapes.{shape}
use Rattle.choice_tree.specs.Templates.{Template, made}
use Rattle.choice_tree.specs.Matching as match
use Rattle.choice_tree.specs.Matching.{Bindings, a_term, an_operator, together, node_matches}
use Rattle.choice_tree.specs.Matching.{matches, takes}
use Rattle.eml_match.specs.declared.bindings.Bound.{Bound}
use Rattle.eml_match.specs.declared.bindings.Bound.TheVariants as bound
use Rattle.eml_match.specs.declared.bindings.Binding.{Binding}

abbrev pub bound_seen : Bound → match.Bound
bound_seen (bound.Term e) = a_term (shape (term_of e.now))
bound_seen (bound.Name x) = a_term (leaf (kind.Name x.now))
bound_seen (bound.Arith op) = an_operator (kind.Arith op)
bound_seen (bound.Cmp op) = an_operator (kind.Cmp op)

abbrev pub binding_of : Binding → match.Binding
binding_of b = record { meta = b.meta; bound = bound_seen b.bound }

abbrev pub bindings_of : List Binding → Bindings
bindings_of = map binding_of

abbrev pub bindings_found : Option (Vec Binding Global) → Option Bindings
bindings_found None = None
bindings_found (Some v) = Some (bindings_of v.items)

-- a node of a side and a node of a term, their parts aside
abbrev pub head_matches : Template → Tree → Option Bindings
head_matches (made k ps) (node j ts) = node_matches k j
head_matches _ t = None

-- all parts, one after the other
abbrev pub each_matches : List Template → List Tree → Option Bindings
each_matches [] [] = Some []
each_matches (p ∷ ps) (t ∷ ts) = together (matches p t) (each_matches ps ts)
each_matches _ _ = None

-- whether a metavariable of this letter takes a term
abbrev pub tree_taken : ℕ → Tree → Bool
tree_taken letter (node k ts) = takes letter k
