use Rattle.std.proofs.Common.{◌≡◌, ◌+◌, ◌≤◌, ◌∙◌, List, true, arith, get_or, subst, sym, take}
use Rattle.std.specs.List.{list_all}
use Rattle.std.proofs.lemmas.Bool.{false≢true}
use Rattle.std.proofs.lemmas.List.{take_more}
use Rattle.std.proofs.lemmas.List.Folds.{list_all_at}
use Rattle.choice_tree.specs.declared.selection.Choice.{Choice}
use Rattle.choice_tree.specs.Choices.{Rises}
use Rattle.cert_text.proofs.Rising.{behind_picks}
use Rattle.cert_text.specs.Limits.{is_choice}
use Rattle.search_certificates.proofs.FormLaws.{choice_behind, choice_more}
use Rattle.search_certificates.proofs.limits.keep_choices.Goals.{then-choice-least-via-then-choice-least, then-choice-least-via-else-choice-least+then-not-is_choice}
use Rattle.search_certificates.proofs.limits.keep_choices.Goals as goal

pub loop-choice-preserved : goal.loop-choice-preserved
loop-choice-preserved c =
    let xs = c.args.choices.now in
    let i = c.loop-choice.choice-index in
    let d : Choice = record { pick = 0; member = 0 } in
    let x = get_or xs i d in
    let before = c.loop-choice.invariant in
    subst (λ (ys : List Choice). Rises 0 ys × (list_all is_choice ys ≡ true) × (behind_picks 0 ys ≡ x.pick + 1) × (x.pick + 1 ≤ 2147483648))
    (sym (take_more xs i d c.loop-choice-test.true))
    (choice_more (take i xs) x c.loop-choice.least before.0 before.1 before.2 c.if-choice-least.false
    (sym c.is_choice.ensures.value ∙ c.if-not-is_choice.false) (c.is_choice.ensures.small c.if-not-is_choice.false))

pub returns-then-choice-least : goal.returns-then-choice-least
returns-then-choice-least c =
    let xs = c.args.choices.now in
    let i = c.loop-choice.choice-index in
    let d : Choice = record { pick = 0; member = 0 } in
    let before = c.loop-choice.invariant in
    let here = c.loop-choice-test.true in
    elim c.then-choice-least.branch [
      | then-choice-least-via-then-choice-least w ↦ (
        λ no. absurd (false≢true no),
        λ k.
            let behind = choice_behind xs i d here k.rising in
            let no : ⊥ = omega (arith, behind, before.2, w.if-choice-least.true) in
            absurd no,
      )
      | then-choice-least-via-else-choice-least+then-not-is_choice w ↦ (
        λ no. absurd (false≢true no),
        λ k. sym (list_all_at is_choice xs i d here (sym w.is_choice.ensures.value ∙ w.if-not-is_choice.true)) ∙ k.each,
      )
    ]
