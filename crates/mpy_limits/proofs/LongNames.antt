-- Whether some node has a long name, part by part.
use Rattle.std.proofs.Common.{◌≡◌, ◌||◌, List, ◌++◌, sym, ap, ◌∙◌}
use Rattle.std.specs.List.{list_any}
use Rattle.std.proofs.Math.Bool.{or_assoc}
use Rattle.std.proofs.lemmas.List.Folds.{list_any-append}
use Rattle.mpy_tree.specs.Syntax.{Term}
use Rattle.mpy_limits.specs.Limits.{is_long_node}

pub long_of_two : (xs ys : List Term) → list_any is_long_node (xs ++ ys) ≡ (list_any is_long_node xs || list_any is_long_node ys)
long_of_two xs ys = list_any-append is_long_node xs ys

pub long_of_three : (xs ys zs : List Term) → list_any is_long_node (xs ++ (ys ++ zs)) ≡ (list_any is_long_node xs || list_any is_long_node ys || list_any is_long_node zs)
long_of_three xs ys zs =
    long_of_two xs (ys ++ zs)
    ∙ ap (λ b. list_any is_long_node xs || b) (long_of_two ys zs)
    ∙ sym (or_assoc (list_any is_long_node xs) (list_any is_long_node ys) (list_any is_long_node zs))

pub ruleset long_names = (long_of_two, long_of_three)
