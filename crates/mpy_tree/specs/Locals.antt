-- The locals of a function: its parameters, and each name that it assigns by `=`, by `op=` on a
-- name, or by `for`.
use Rattle.std.specs.Prelude.{ℕ, Bool, List, [], ◌∷◌, ◌++◌, Option, position, if◌then◌else◌}
use Rattle.std.specs.List.{list_any, filter, flat_map}
use Rattle.mpy_tree.specs.Syntax.{Term, Action, Routine}
use Rattle.mpy_tree.specs.Syntax as ast
use Rattle.mpy_tree.specs.Sites.{Site, does, asks, sites, site_nodes}
use Rattle.mpy_tree.specs.Values.{same_bytes}

abbrev pub is_among : List (List ℕ) → List ℕ → Bool
is_among xs x = list_any (same_bytes x) xs

-- where a name stands first among names, if it does
abbrev pub place_of : List (List ℕ) → List ℕ → Option ℕ
place_of names x = position (λ y. same_bytes x y) names

-- names, and then those of others that aren't among them yet, each once
abbrev pub and_new : List (List ℕ) → List (List ℕ) → List (List ℕ)
and_new seen [] = seen
and_new seen (x ∷ xs) = and_new (if is_among seen x then seen else seen ++ x ∷ []) xs

-- the name to which a statement assigns
abbrev pub assigned : Action → List (List ℕ)
assigned (ast.Assign x e) = x ∷ []
assigned (ast.Augment x op e) = x ∷ []
assigned (ast.Put x i e) = []
assigned (ast.AugmentAt x i op e) = []
assigned (ast.Append x e) = []
assigned (ast.Print e) = []
assigned (ast.Return e) = []
assigned ast.Pass = []
assigned ast.Break = []
assigned ast.Continue = []
assigned (ast.If arms last) = []
assigned (ast.While e body) = []
assigned (ast.For x e body) = x ∷ []

-- the name whose list a statement changes in place
abbrev pub changed : Action → List (List ℕ)
changed (ast.Assign x e) = []
changed (ast.Augment x op e) = []
changed (ast.Put x i e) = x ∷ []
changed (ast.AugmentAt x i op e) = x ∷ []
changed (ast.Append x e) = x ∷ []
changed (ast.Print e) = []
changed (ast.Return e) = []
changed ast.Pass = []
changed ast.Break = []
changed ast.Continue = []
changed (ast.If arms last) = []
changed (ast.While e body) = []
changed (ast.For x e body) = []

abbrev pub site_assigned : Site → List (List ℕ)
site_assigned (does line act) = assigned act
site_assigned (asks line e) = []

abbrev pub site_changed : Site → List (List ℕ)
site_changed (does line act) = changed act
site_changed (asks line e) = []

abbrev pub node_names : Term → List (List ℕ)
node_names (ast.Name x) = x ∷ []
node_names _ = []

-- the names of a statement itself, in the order in which they are written: what is assigned or
-- changed stands first
abbrev pub site_names : Site → List (List ℕ)
site_names s = site_assigned s ++ site_changed s ++ flat_map node_names (site_nodes s)

-- the parameters, and then the other locals in the order in which they first appear, be it that
-- they are read there
abbrev pub locals : Routine → List (List ℕ)
locals r =
    let ss = sites r.body in
    and_new [] (r.params ++ filter (is_among (flat_map site_assigned ss)) (flat_map site_names ss))
