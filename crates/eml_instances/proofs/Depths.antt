-- Parts and elements are less deep.
use Rattle.std.proofs.Common.{◌≡◌, ℕ, zero, suc, ◌<◌, ◌≤◌, slice_get, Some, arith}
use Rattle.choice_tree.specs.Templates.{Template, Templates, made, hole, one_of, some_local}
use Rattle.choice_tree.specs.Templates.{no_templates, template_and}
use Rattle.eml_match.specs.Parts.{set_elements, template_list, template_parts}
use Rattle.eml_match.specs.Resolutions.{depth, depths}

among_depths : (ps : Templates) (i : ℕ) (q : Template) → Some q ≡ slice_get (template_list ps) i
    → depth q ≤ depths ps
among_depths no_templates i q h = cc
among_depths (template_and p ps) zero q h = let e : q ≡ p = cc in rw e (omega arith)
among_depths (template_and p ps) (suc i) q h =
    let r = among_depths ps i q h in omega arith

pub part_shallower : (p q : Template) (i : ℕ) → Some q ≡ slice_get (template_parts p) i
    → depth q < depth p
part_shallower (made k ps) q i h = let r = among_depths ps i q h in omega arith
part_shallower (hole m) q i h = cc
part_shallower (one_of ps) q i h = cc
part_shallower (some_local m) q i h = cc

pub element_shallower : (p q : Template) (i : ℕ) → Some q ≡ slice_get (set_elements p) i
    → depth q < depth p
element_shallower (made k ps) q i h = cc
element_shallower (hole m) q i h = cc
element_shallower (one_of ps) q i h = let r = among_depths ps i q h in omega arith
element_shallower (some_local m) q i h = cc
