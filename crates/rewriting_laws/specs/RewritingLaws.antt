-- What rules make of a program is no worse than the program.
use Rattle.std.specs.Prelude.{◌≡◌, ℕ, List, [], None}
use Rattle.mpy_tree.specs.declared.typing.Fact.{Fact}
use Rattle.mpy_tree.specs.Entries.{Entry}
use Rattle.mpy_tree.specs.Faults.{names_fault}
use Rattle.mpy_tree.specs.Sharing.{shared}
use Rattle.mpy_tree.specs.Syntax.{Routine}
use Rattle.mpy_tree.specs.Typings.{AreTypes}
use Rattle.choice_tree.specs.Contexts.{Setting}
use Rattle.choice_tree.specs.Rewriting.{Edit, IsRewriting}
use Rattle.choice_tree.specs.Templates.{Correction}
use Rattle.mpy_round_trip.specs.Proper.{IsProper}
use Rattle.typed_trees.specs.TypingLaws.{setting_by}
use Rattle.input_space.specs.ProperRules.{AreProperRules}
use Rattle.rewriting_laws.specs.RuleCalls.{CallBuiltinsAlone}

-- Facts that type a program type every rewriting of it by any rules: by them each node and each
-- statement of it obeys its rule, and it has no fault of names, numbers of arguments or the entry.
abbrev pub RewritingsStayTyped : Type 0
RewritingsStayTyped =
    (rules : List Correction) (T : List Fact) (s p : List Routine) (entry : Entry) (n : ℕ)
    (es : List Edit)
    → AreTypes T s entry → IsRewriting (setting_by rules s T) s p n es → AreTypes T p entry

-- Where no statement of a program shares a list, none of any rewriting does. No function of the
-- program has the name of a builtin, and the rules call builtins alone, so no function is called in
-- the rewriting that isn't called in the program.
abbrev pub RewritingsStayUnshared : Type 0
RewritingsStayUnshared =
    (g : Setting) (p : List Routine) (n : ℕ) (es : List Edit)
    → CallBuiltinsAlone g.rules → names_fault g.program ≡ None
    → shared g.slots g.program ≡ [] → IsRewriting g g.program p n es
    → shared g.slots p ≡ []

-- A rewriting of a program that a text can spell, by rules that a text can spell, is one that a
-- text can spell.
abbrev pub RewritingsStayProper : Type 0
RewritingsStayProper =
    (g : Setting) (p : List Routine) (n : ℕ) (es : List Edit)
    → AreProperRules g.rules → IsProper g.program → IsRewriting g g.program p n es → IsProper p
