-- What holds while questions are asked, after a case more is kept.
use Rattle.std.specs.Prelude.{◌≡◌, ℕ, List, [], ◌∷◌, ◌++◌}
use Rattle.std.proofs.Common.{ap, ◌∙◌}
use Rattle.std.proofs.lemmas.List.{map_push}
use Rattle.std.proofs.lemmas.List.Elements.{All-contains, Contains-append_left}
use Rattle.mpy_tree.specs.declared.outcome.Outcome.{Outcome}
use Rattle.choice_tree.specs.declared.selection.Choice.{Choice}
use Rattle.choice_tree.specs.declared.tree.WProg.{WProg}
use Rattle.input_space.specs.declared.case.Case.{Case}
use Rattle.input_space.specs.Tasks.{Task}
use Rattle.input_space.specs.TaskSpace.{SelectionMeets, wanted}
use Rattle.input_space.proofs.Elements.{all_if_contained}
use Rattle.list_questions.specs.declared.trial.Reached.{Reached}
use Rattle.list_questions.specs.Asking.{IsAsking, IsReached, Fails, wanted_on}

-- what fails on some cases fails on more
fails_on_more : (k : Task) (xs ys : List Case) (s : List Choice) → Fails k xs s → Fails k (xs ++ ys) s
fails_on_more k xs ys s fails all =
    let meets = SelectionMeets k s in
    fails (all_if_contained meets xs (λ x c. All-contains meets (xs ++ ys) x all (Contains-append_left xs ys x c)))

reached_more : (k : Task) (xs ys : List Case) (r : Reached) → IsReached k xs r → IsReached k (xs ++ ys) r
reached_more k xs ys r is = record {
  level_is = is.level_is;
  within = is.within;
  lower = λ n s below there. fails_on_more k xs ys s (is.lower n s below there);
  passed_by = λ i s on below at. fails_on_more k xs ys s (is.passed_by i s on below at);
}

pub asking_more : (k : Task) (tree : WProg) (last : ℕ) (reached : Reached) (table : List Outcome) (kept : List Case) (ends : List Outcome)
    (x : Case) (end : Outcome) → IsAsking k tree last reached table kept ends → wanted k x.values ≡ end
    → IsAsking k tree last reached table (kept ++ x ∷ []) (ends ++ end ∷ [])
asking_more k tree last reached table kept ends x end asking is = record {
  tree_is = asking.tree_is;
  last_is = asking.last_is;
  reached_so = reached_more k kept (x ∷ []) reached asking.reached_so;
  table_is = asking.table_is;
  few = asking.few;
  ends_are = map_push (λ (y : Case). wanted k y.values) kept x ∙ ap (λ o. wanted_on k kept ++ o ∷ []) is ∙ ap (λ os. os ++ end ∷ []) asking.ends_are;
}
