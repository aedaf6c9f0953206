-- What a program gives that is run on values that are known.
use Rattle.std.proofs.Common.{◌≡◌, ◌∙◌, ℕ, Bool, List, map, sym, subst}
use Rattle.std.proofs.Common.{Option, Some, None}
use Rattle.std.specs.Prelude.{IfSome}
use Rattle.std.specs.declared.result.Result.{Result}
use Rattle.mpy_tree.specs.declared.limits.Limits.{Limits}
use Rattle.mpy_tree.specs.declared.outcome.Halted.{Halted}
use Rattle.mpy_tree.specs.declared.outcome.Outcome.{Outcome}
use Rattle.mpy_tree.specs.declared.value.Value.{Value}
use Rattle.mpy_tree.specs.Outcomes.{outcome_of, run_outcome}
use Rattle.mpy_tree.specs.Running.{Done, evaluated}
use Rattle.mpy_tree.specs.Shapes.{program_shape}
use Rattle.mpy_tree.specs.Syntax.{Routine}
use Rattle.mpy_laws.proofs.BackFromTrees.{trees_differ}
use Rattle.choice_tree.specs.Selections.{plain}
use Rattle.choice_tree.specs.StatementViews.{weighted_prog}
use Rattle.choice_tree.specs.declared.tree.WProg.{WProg}
use Rattle.sym_values.specs.declared.done.SymDone.{SymDone}
use Rattle.sym_values.specs.declared.value.SymValue.{SymValue}
use Rattle.sym_values.specs.Printed.{DoneReads}
use Rattle.sym_values.specs.Reading.{read, sure}
use Rattle.sym_nodes.specs.Environments.{HasPicks, PicksRead}
use Rattle.sym_nodes.proofs.Knowing.{same_sure}
use Rattle.sym_stmt.proofs.KnownPicks.{members_same, plain_same}

-- What the chosen program gives on the values that are known each program gives that the picks
-- choose, on all values that the arguments read as.
module _ {B : Type 0} (reads : List Bool → B → Bool) (picks : List (List B))
    (args : List (SymValue B)) (w : WProg) (l : Limits) (entry : List ℕ)
    (many : HasPicks picks (weighted_prog w)) (n : ℕ → ℕ) (known : List Value)
    (chosen : List Routine) (members : (vs : List Bool) → PicksRead (reads vs) picks n)
    (input : (vs : List Bool) → map (read (reads vs)) args ≡ map sure known)
    (shape : program_shape chosen ≡ plain n (weighted_prog w)) where
  abbrev ReadsAsEnd : Outcome → SymDone B → Type 0
  ReadsAsEnd end o =
      (vs : List Bool) (r : Result Done Halted) → outcome_of r ≡ end → DoneReads l (reads vs) o r

  abbrev ReadsAsEach : SymDone B → Type 0
  ReadsAsEach o =
      (vs : List Bool) (m : ℕ → ℕ) (values : List Value) (p : List Routine)
      → PicksRead (reads vs) picks m → map (read (reads vs)) args ≡ map sure values
      → program_shape p ≡ plain m (weighted_prog w)
      → DoneReads l (reads vs) o (evaluated l p entry values)

  pub each_gives : (o : Option (SymDone B)) (end : Outcome)
      → end ≡ run_outcome l chosen entry known → IfSome o (ReadsAsEnd end) → IfSome o ReadsAsEach
  each_gives None end e h = tt
  each_gives (Some o) end e h = λ vs m values p reads_m reads_v shaped.
      let rd = reads vs in
      let members = members_same rd picks m n reads_m (members vs) in
      let plains = plain_same picks m n members (weighted_prog w) many in
      let program = trees_differ.of_programs p chosen (shaped ∙ plains ∙ sym shape) in
      let same = same_sure values known (sym reads_v ∙ input vs) in
      subst (λ q. DoneReads l rd o (evaluated l q entry values)) (sym program)
      (subst (λ us. DoneReads l rd o (evaluated l chosen entry us)) (sym same)
      (h vs (evaluated l chosen entry known) (sym e)))
