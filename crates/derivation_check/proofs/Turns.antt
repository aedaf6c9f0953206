-- One hinted clause and the rest of them.
use Rattle.std.proofs.Common.{◌≡◌, ℕ, ◌<◌, ◌+◌, ◌-◌, not, List, [], ◌∷◌, filter, map, drop, get_or, length, sym, ap, ◌∙◌, Some, arith, slice_get}
use Rattle.std.specs.Option.{option_map_or}
use Rattle.std.proofs.lemmas.List.{drop_more, get_or-map, length-map}
use Rattle.clause_base.specs.declared.lit.Lit.{Lit}
use Rattle.clause_base.specs.declared.clause.Clause.{Clause}
use Rattle.clause_base.specs.Follows.{by_open, follow, hinted, literals_at}
use Rattle.clause_base.specs.Literals.{opposite}
use Rattle.derivation_check.specs.Marks.{Agrees, Covers, mark_true}
use Rattle.derivation_check.specs.declared.marks.Mark.{Mark}
use Rattle.clause_base.specs.declared.answer.StepAnswer.{StepAnswer}
use Rattle.derivation_check.proofs.Agreement.{open_same}

pub hinted_drop : (known : List Clause) (hints : List ℕ) (i : ℕ) (c : Clause) → i < length hints → slice_get known (get_or hints i 0 - 1) ≡ Some c
    → drop i (hinted known hints) ≡ c.lits ∷ drop (i + 1) (hinted known hints)
hinted_drop known hints i c within here =
    let f : ℕ → List Lit = λ h. literals_at known (h - 1) in
    let long : i < length (map f hints) = omega (arith, length-map hints f) in
    let at : get_or (map f hints) i [] ≡ c.lits = get_or-map f hints i 0 [] within ∙ ap (λ o. option_map_or (λ (d : Clause). d.lits) o []) here in
    drop_more (map f hints) i [] long ∙ ap (λ x. x ∷ drop (i + 1) (map f hints)) at

-- an answer at one hinted clause is the answer at all that are left
pub turn : (marks : List Mark) (stamp : ℕ) (known : List Clause) (hints : List ℕ) (i : ℕ) (c : Clause) (now : List Lit) (answer : StepAnswer)
    → i < length hints → slice_get known (get_or hints i 0 - 1) ≡ Some c → Covers (length marks) c.lits → Agrees marks stamp now
    → answer ≡ by_open (filter (λ l. not (mark_true marks stamp (opposite l))) c.lits) (i + 1) (λ l. follow (l ∷ now) (i + 1 + 1) (drop (i + 1) (hinted known hints)))
    → answer ≡ follow now (i + 1) (drop i (hinted known hints))
turn marks stamp known hints i c now answer within here covers agrees h =
    h ∙ ap (λ o. by_open o (i + 1) (λ l. follow (l ∷ now) (i + 1 + 1) (drop (i + 1) (hinted known hints)))) (open_same marks stamp now c.lits agrees covers)
    ∙ sym (ap (follow now (i + 1)) (hinted_drop known hints i c within here))
