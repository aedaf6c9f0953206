-- What the code's programs and functions are as mathematics.
use Rattle.std.specs.Prelude.{ℕ, map}
use Rattle.choice_tree.specs.StatementViews.{weighted_func}
use Rattle.choice_tree.specs.WeightedTrees.{Weighteds}
use Rattle.choice_tree.specs.WeightedViews.{weighteds}
use Rattle.tree_weights.specs.Functions.{Function, function}
use Rattle.tree_weights.specs.RootTypes.{WeightedScope}
use Rattle.tree_weights.specs.declared.program.Found.{Found}
use Rattle.tree_weights.specs.declared.program.TypedProgram.{TypedProgram}

abbrev pub functions_in : TypedProgram → Weighteds
functions_in p = weighteds (map weighted_func p.funcs.now)

abbrev pub scope_in : TypedProgram → ℕ → WeightedScope
scope_in p i =
    record {
      facts = p.facts.facts.now;
      functions = functions_in p;
      entry = p.entry;
      number = i;
    }

abbrev pub found_seen : Found → Function
found_seen f = function f.number (weighted_func f.func.now)
