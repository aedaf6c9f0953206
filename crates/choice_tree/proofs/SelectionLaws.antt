-- The selections of a program's weighted tree are its rewritings.
use Rattle.std.proofs.Common.{List, refl, arith}
use Rattle.mpy_tree.specs.Syntax.{Routine}
use Rattle.mpy_tree.specs.Shapes.{program_shape}
use Rattle.choice_tree.specs.Templates.{KeepPrimes}
use Rattle.choice_tree.specs.Contexts.{Setting, elsewhere, outermost}
use Rattle.choice_tree.specs.Rewriting.{Rewrites}
use Rattle.choice_tree.specs.Growing.{grown, steps, weighted_program}
use Rattle.choice_tree.specs.Choices.{member_of}
use Rattle.choice_tree.specs.Selections.{MadeBySelections}
use Rattle.choice_tree.proofs.Sound.{grown_sound}
use Rattle.choice_tree.proofs.Complete.{complete}
use Rattle.choice_tree.proofs.Numbers.{choice_given, selected}

pub made_by_selections : (g : Setting) (s : List Routine) → KeepPrimes g.rules
    → MadeBySelections (weighted_program g s)
    (Rewrites g elsewhere 0 (outermost g) (program_shape s))
made_by_selections g s keeps =
    let t = program_shape s in
    let w = grown g (steps t) elsewhere (outermost g) t in
    record {
      made =
          λ x fits. grown_sound g (steps t) elsewhere 0 (outermost g) t _ _ _
          (choice_given w 0 (member_of x) 0);
      selected = λ u n es made.
          let a = selected w 0 0 u n es (complete made keeps (steps t) (omega arith)) in
          let x = a.gives (member_of a.selection) (λ p lo hi. refl) in
          (a.selection, (a.rises, a.names), record { tree = x.0; cost_is = x.1; edits_are = x.2 });
    }
