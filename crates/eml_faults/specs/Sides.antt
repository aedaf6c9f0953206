-- What stands in a side of a rule: its nodes, its metavariables, and how many resolutions its sets
-- have.
use Rattle.std.specs.Prelude.{ℕ, ◌+◌, ◌*◌, List, [], ◌∷◌, ◌++◌, length, Option, Some, None}
use Rattle.std.specs.List.{filter_map}
use Rattle.choice_tree.specs.declared.rules.Meta.{Meta}
use Rattle.choice_tree.specs.Templates.{NodeTemplate, one_arith, one_comparison}
use Rattle.choice_tree.specs.Templates.{some_arith, some_comparison, Template, Templates, made}
use Rattle.choice_tree.specs.Templates.{hole, one_of, some_local, no_templates, template_and}
use Rattle.eml_match.specs.Parts.{template_list}

-- the parts of a node; those of a set are its elements
abbrev pub side_parts : Template → List Template
side_parts (made k ps) = template_list ps
side_parts (hole m) = []
side_parts (one_of ps) = template_list ps
side_parts (some_local m) = []

-- a side, and then all that stands in its parts
abbrev mutual
  pub nodes : Template → List Template
  nodes (made k ps) = made k ps ∷ nodes_of_all ps
  nodes (hole m) = hole m ∷ []
  nodes (one_of ps) = one_of ps ∷ nodes_of_all ps
  nodes (some_local m) = some_local m ∷ []

  pub nodes_of_all : Templates → List Template
  nodes_of_all no_templates = []
  nodes_of_all (template_and p ps) = nodes p ++ nodes_of_all ps

-- the metavariable of an operator
abbrev pub operator_meta : NodeTemplate → Option Meta
operator_meta (some_arith m) = Some m
operator_meta (some_comparison m) = Some m
operator_meta _ = None

-- the metavariable that a node is, or has as its operator; that of `?$m` is `$m`
abbrev pub node_meta : Template → Option Meta
node_meta (made k ps) = operator_meta k
node_meta (hole m) = Some m
node_meta (one_of ps) = None
node_meta (some_local m) = Some m

-- all metavariables of a side
abbrev pub metas : Template → List Meta
metas p = filter_map node_meta (nodes p)

-- how many operators a node may have
abbrev pub operator_count : NodeTemplate → ℕ
operator_count (one_arith ops) = length ops
operator_count (one_comparison ops) = length ops
operator_count _ = 1

-- How many resolutions the sets of a side have: one operator of each operator set, and one element
-- of each set.
abbrev mutual
  pub set_count : Template → ℕ
  set_count (made k ps) = operator_count k * set_count_of_all ps
  set_count (hole m) = 1
  set_count (one_of ps) = set_count_of_any ps
  set_count (some_local m) = 1

  pub set_count_of_all : Templates → ℕ
  set_count_of_all no_templates = 1
  set_count_of_all (template_and p ps) = set_count p * set_count_of_all ps

  pub set_count_of_any : Templates → ℕ
  set_count_of_any no_templates = 0
  set_count_of_any (template_and p ps) = set_count p + set_count_of_any ps
