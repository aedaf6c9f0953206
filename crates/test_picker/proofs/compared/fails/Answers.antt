-- whether the end that is given is the one that is wanted
use Rattle.std.proofs.Common.{◌∙◌, not, ap, refl, subst, sym}
use Rattle.mpy_tree.specs.Outcomes.{outcome_of}
use Rattle.sym_values.specs.DoneForms.{same_form, short_end}
use Rattle.test_picker.specs.Comparing.{TellsFailure}
use Rattle.test_picker.proofs.Comparisons.{and_same, tells}
use Rattle.test_picker.proofs.compared.fails.Goals as goal

pub ends_alike-requires : goal.ends_alike-requires
ends_alike-requires g c =
    let formed = c.requires.formed in
    record {
      short = short_end formed.0 formed.1;
      first = same_form formed.1 formed.1;
      second = same_form formed.1 formed.2;
    }

pub returns-clause-value : goal.returns-clause-value
returns-clause-value g c vs x y h k =
    let first = c.ends_alike.ensures.extends in
    let second = c.and.ensures.extends in
    let ends = c.not-ends.ensures in
    let given = c.not-given_ends.ensures in
    let formed = c.requires.formed in
    let one = second.same _ ends.owned vs ∙ ends.value vs
    ∙ ap not (first.same _ formed.1.owned_fault vs) in
    let other = given.value vs ∙ ap not (first.same _ formed.2.owned_fault vs) in
    let alike = c.in_ok-alike.ensures.value vs ∙ and_same _ _ _ _ other refl in
    let differs = c.not-other.ensures.value vs ∙ ap not alike in
    let bit = c.in_ok-failing.ensures.value vs ∙ and_same _ _ _ _ one differs in
    subst (λ b. TellsFailure b (outcome_of x) (outcome_of y)) (sym bit)
    (tells c.args.limits.now (g.L.Logic.reads c.args.g.now vs) c.args.wanted.now c.args.given.now
    _ _ _ x y refl refl h k (λ v w. c.in_ok-equal.ensures.value vs v w))
