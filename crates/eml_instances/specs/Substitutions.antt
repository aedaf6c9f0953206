-- What the code's substitutions are as mathematics.
use Rattle.std.specs.Prelude.{ℕ, Bool, true, false, take, List, [], ◌∷◌, map, if◌then◌else◌, Option}
use Rattle.std.specs.Prelude.{Some, None}
use denote.Ref.{Bor}
use Rattle.mpy_tree.specs.Trees.{Kind, Tree}
use Rattle.mpy_scopes.specs.Seen.{name_of}
use Rattle.choice_tree.specs.Matching.{Bindings}
use Rattle.choice_tree.specs.Drafts.{same_meta, term_in, operator_in}
use Rattle.eml_match.specs.MatchViews.{binding_of, bound_seen}
use Rattle.eml_match.specs.Resolutions.{Locals}
use Rattle.eml_instances.specs.declared.standings.Standing.{Standing}
use Rattle.eml_instances.specs.declared.standings.Substitution.{Substitution}

-- what the metavariables stand for
abbrev pub standings_bindings : List Standing → Bindings
standings_bindings xs = map (λ s. binding_of s.binding) xs

abbrev pub bindings_in : Substitution → Bindings
bindings_in s = standings_bindings s.items.items

-- the locals that ?$m may be
abbrev pub standings_locals : List Standing → Locals
standings_locals [] m = []
standings_locals (s ∷ rest) m =
    if same_meta s.binding.meta m then map name_of s.locals.items else standings_locals rest m

abbrev pub locals_in : Substitution → Locals
locals_in s = standings_locals s.items.items

-- of a binding that was found: its term, its operator and its locals
abbrev pub found_term : Option (Bor Standing) → List Tree
found_term None = []
found_term (Some s) = term_in (bound_seen s.now.binding.bound)

abbrev pub found_operator : Option (Bor Standing) → List Kind
found_operator None = []
found_operator (Some s) = operator_in (bound_seen s.now.binding.bound)

abbrev pub found_locals : Option (Bor Standing) → List (List ℕ)
found_locals None = []
found_locals (Some s) = map name_of s.now.locals.items

-- all of a list, or the first one
abbrev pub kept : Bool → List (List ℕ) → List (List ℕ)
kept true xs = xs
kept false xs = take 1 xs

abbrev pub locals_kept : Bool → Locals → Locals
locals_kept all L m = kept all (L m)
