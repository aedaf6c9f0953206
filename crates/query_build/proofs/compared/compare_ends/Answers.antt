use Rattle.std.proofs.Common.{◌∙◌, ap, not, refl}
use Rattle.input_ranges.proofs.Between.{and_same}
use Rattle.sym_values.specs.DoneForms.{same_form, short_end}
use Rattle.task_bits.proofs.Endings.{done_reads}
use Rattle.query_build.proofs.Comparisons.{one_reads}
use Rattle.query_build.proofs.compared.compare_ends.Goals as goal

pub ends_alike-requires : goal.ends_alike-requires
ends_alike-requires g c =
    let formed = c.requires.formed in
    record {
      short = short_end formed.0 formed.1;
      first = same_form formed.1 formed.1;
      second = same_form formed.1 formed.2;
    }

pub returns-clause-ends : goal.returns-clause-ends
returns-clause-ends g c vs x h =
    let first = c.ends_alike.ensures.extends in
    let second = c.and.ensures.extends in
    let third = c.and-2.ensures.extends in
    let ends = c.not-ends.ensures in
    let wanted = c.requires.formed.1 in
    third.same _ (second.kept _ ends.owned) vs ∙ second.same _ ends.owned vs ∙ ends.value vs
    ∙ ap not (first.same _ wanted.owned_fault vs)
    ∙ done_reads c.args.limits.now (g.L.Logic.reads c.args.g.now vs) c.args.wanted.now x h

pub returns-clause-meets : goal.returns-clause-meets
returns-clause-meets g c vs x y h k =
    let first = c.ends_alike.ensures.extends in
    let second = c.and.ensures.extends in
    let ends = c.not-ends.ensures in
    let given = c.not-given_ends.ensures in
    let formed = c.requires.formed in
    let one = second.same _ ends.owned vs ∙ ends.value vs
    ∙ ap not (first.same _ formed.1.owned_fault vs) in
    let other = given.value vs ∙ ap not (first.same _ formed.2.owned_fault vs) in
    let alike = c.in_ok-alike.ensures.value vs ∙ and_same _ _ _ _ other refl in
    c.in_ok-meets.ensures.value vs ∙ and_same _ _ _ _ one alike
    ∙ one_reads c.args.limits.now (g.L.Logic.reads c.args.g.now vs) c.args.wanted.now c.args.given.now
    _ x y h k (λ v w. c.in_ok-equal.ensures.value vs v w)
