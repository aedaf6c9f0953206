-- The weighted programs that rules make of typed programs are typed.
use Rattle.std.specs.Prelude.{◌≡◌, List}
use Rattle.mpy_tree.specs.declared.typing.Fact.{Fact}
use Rattle.mpy_tree.specs.Entries.{Entry}
use Rattle.mpy_tree.specs.Syntax.{Routine}
use Rattle.mpy_tree.specs.Typings.{AreTypes}
use Rattle.choice_tree.specs.declared.tree.WProg.{WProg}
use Rattle.choice_tree.specs.Growing.{weighted_program}
use Rattle.choice_tree.specs.StatementViews.{weighted_prog}
use Rattle.choice_tree.specs.Templates.{Correction}
use Rattle.typed_trees.specs.TypingLaws.{setting_by}
use Rattle.typed_trees.specs.Wholes.{MakeWholes}
use Rattle.sym_stmt.specs.Programs.{TypesProgram}

-- facts that type a program type also the weighted program that rules make of it
abbrev pub RewrittenProgramsAreTyped : Type 0
RewrittenProgramsAreTyped =
    (rules : List Correction) (T : List Fact) (p : List Routine) (e : Entry) (w : WProg)
    → MakeWholes rules → AreTypes T p e
    → weighted_prog w ≡ weighted_program (setting_by rules p T) p → TypesProgram T w e
