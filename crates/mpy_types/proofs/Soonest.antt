-- The least line that breaks a rule.
use Rattle.std.proofs.Common.{◌≡◌, ℕ, ◌+◌, ◌<◌, length, get_or, map, drop, not, List, ◌∷◌, Option, sym, ap, ◌∙◌}
use Rattle.std.proofs.lemmas.List.{drop_more}
use Rattle.mpy_tree.specs.Syntax.{Routine}
use Rattle.mpy_tree.specs.Sites.{sites}
use Rattle.mpy_tree.specs.Rules.{Slots, site_obeys}
use Rattle.mpy_tree.specs.Faults.{broken_from}
use Rattle.mpy_tree.specs.Leasts.{lesser, least}
use Rattle.mpy_tree.specs.Names.{lines_of}
use Rattle.mpy_scopes.proofs.Soonest.{lesser_assoc, least_append}

-- the lines of a function that break, where it breaks first on `here`
pub function_more : {A : Type 0} (g : A → Routine) (S : Slots) (p : List Routine) (fs : List A) (k : ℕ) (f : A) (first here next : Option ℕ) → k < length fs → f ≡ get_or fs k f → here ≡ least (lines_of (λ s. not (site_obeys S p k s)) (sites (g f).body)) → next ≡ lesser first here → lesser first (least (broken_from S p k (map g (drop k fs)))) ≡ lesser next (least (broken_from S p (k + 1) (map g (drop (k + 1) fs))))
function_more g S p fs k f first here next h e eh en =
    let rest = least (broken_from S p (k + 1) (map g (drop (k + 1) fs))) in
    let lines = lines_of (λ s. not (site_obeys S p k s)) (sites (g f).body) in
    let d : drop k fs ≡ f ∷ drop (k + 1) fs = drop_more fs k f h ∙ ap (λ h. h ∷ drop (k + 1) fs) (sym e) in
    ap (λ gs. lesser first (least (broken_from S p k (map g gs)))) d
    ∙ ap (lesser first) (least_append lines (broken_from S p (k + 1) (map g (drop (k + 1) fs))))
    ∙ ap (λ m. lesser first (lesser m rest)) (sym eh)
    ∙ sym (lesser_assoc first here rest)
    ∙ ap (λ m. lesser m rest) (sym en)
