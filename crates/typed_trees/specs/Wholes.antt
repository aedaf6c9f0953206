-- Trees of expressions, and right sides of rules, whose nodes have as many parts as their kinds
-- have.
use Rattle.std.specs.Prelude.{◌≡◌, ⊤, ℕ, suc, List, All}
use Rattle.mpy_tree.specs.Trees.{Tree, Trees, node, no_trees, tree_and}
use Rattle.choice_tree.specs.Heads.{HasParts}
use Rattle.choice_tree.specs.Templates.{NodeTemplate, exactly, Template, Templates, made, hole}
use Rattle.choice_tree.specs.Templates.{one_of, some_local, no_templates, template_and}
use Rattle.choice_tree.specs.Templates.{Correction}

abbrev pub part_count : Trees → ℕ
part_count no_trees = 0
part_count (tree_and t ts) = suc (part_count ts)

-- each node of the tree is one of an expression, and has all its parts
abbrev mutual
  pub IsWhole : Tree → Type 0
  IsWhole (node k ts) = HasParts k (part_count ts) × AreWhole ts

  pub AreWhole : Trees → Type 0
  AreWhole no_trees = ⊤
  AreWhole (tree_and t ts) = IsWhole t × AreWhole ts

abbrev pub side_count : Templates → ℕ
side_count no_templates = 0
side_count (template_and p ps) = suc (side_count ps)

-- an operator that isn't written as it stands has two parts too
abbrev pub TemplateHasParts : NodeTemplate → ℕ → Type 0
TemplateHasParts (exactly k) count = HasParts k count
TemplateHasParts _ count = count ≡ 2

-- so has each node of a side
abbrev mutual
  pub IsWholeSide : Template → Type 0
  IsWholeSide (made k ps) = TemplateHasParts k (side_count ps) × AreWholeSides ps
  IsWholeSide (hole m) = ⊤
  IsWholeSide (one_of ps) = AreWholeSides ps
  IsWholeSide (some_local m) = ⊤

  pub AreWholeSides : Templates → Type 0
  AreWholeSides no_templates = ⊤
  AreWholeSides (template_and p ps) = IsWholeSide p × AreWholeSides ps

-- the right sides of rules
abbrev pub MakeWholes : List Correction → Type 0
MakeWholes rules = All (λ r. IsWholeSide r.right) rules
