-- The bytes of the answer of `pick`. Each line ends with byte 10.
use Rattle.std.specs.Prelude.{ℕ, zero, suc, List, [], ◌∷◌, ◌++◌, codes}
use Rattle.std.specs.Fmt.{decimal}
use Rattle.std.specs.List.{flat_map}
use Rattle.mpy_tree.specs.declared.value.Value.{Value}
use Rattle.mpy_tree.specs.Printing.{values_text}
use Rattle.pick_command.specs.Decisions.{PickAnswer}
use Rattle.pick_command.specs.Words.{PickWords}

-- a case
abbrev pub input_line : List ℕ → List Value → List ℕ
input_line entry vs = codes "input " ++ (entry ++ (codes "(" ++ (values_text vs ++ codes ")\n")))

-- what a mark says of the program of a file: a mark is 0, or the number of a case
abbrev pub mark_text : ℕ → List ℕ
mark_text zero = codes " agrees\n"
mark_text (suc k) = codes " fails input " ++ (decimal (suc k) ++ codes "\n")

abbrev pub mark_line : List ℕ → ℕ → List ℕ
mark_line file mark = file ++ mark_text mark

-- one line for each file
abbrev pub mark_lines : List (List ℕ) → List ℕ → List ℕ
mark_lines (file ∷ files) (mark ∷ marks) = mark_line file mark ++ mark_lines files marks
mark_lines (file ∷ files) [] = []
mark_lines [] marks = []

abbrev pub pick_text : PickWords → PickAnswer → List ℕ
pick_text w a = flat_map (input_line a.entry) a.cases ++ mark_lines w.submissions a.marks
