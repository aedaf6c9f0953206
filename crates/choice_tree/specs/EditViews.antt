-- What the code's edits are as mathematics, and those of lists of trees.
use Rattle.std.specs.Prelude.{ℕ, List, flat_map}
use Rattle.mpy_tree.specs.View.{term_of}
use Rattle.mpy_tree.specs.Shapes.{shape}
use Rattle.choice_tree.specs.declared.edit.Edit as code
use Rattle.choice_tree.specs.Contexts.{line_below}
use Rattle.choice_tree.specs.Rewriting.{Edit}
use Rattle.choice_tree.specs.WeightedTrees.{Weighted, plainly, pick}
use Rattle.choice_tree.specs.Selections.{edits, edited_picks}

abbrev pub edit_of : code.Edit → Edit
edit_of e =
    record {
      line = e.line;
      rule = e.rule;
      old = shape (term_of e.old);
      new = shape (term_of e.new);
    }

abbrev pub pick_number : code.Edit → ℕ
pick_number e = e.pick

-- the line of the parts of a tree that stands on a line
abbrev pub parts_line : Weighted → ℕ → ℕ
parts_line (plainly k ws) line = line_below k line
parts_line (pick number base os) line = line

abbrev pub edits_of_each : (ℕ → ℕ) → ℕ → List Weighted → List Edit
edits_of_each m line ws = flat_map (λ w. edits m w line) ws

abbrev pub picks_of_each : (ℕ → ℕ) → List Weighted → List ℕ
picks_of_each m ws = flat_map (edited_picks m) ws
