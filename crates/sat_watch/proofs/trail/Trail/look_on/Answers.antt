use Rattle.std.proofs.Common.{◌≡◌, ◌∙◌, ◌++◌, drop, get_or, false, true, sym, Some, None, ap, inl, inr, take, subst, List}
use Rattle.std.specs.Prelude.{option_to_list}
use Rattle.std.proofs.lemmas.List.Folds.{list_any_at}
use Rattle.clause_base.specs.declared.lit.Lit.{Lit}
use Rattle.clause_base.specs.Literals.{same_literal}
use Rattle.sat_watch.specs.Trails.{is_among, literals_of, standing}
use Rattle.sat_watch.proofs.Literals.{among_read}
use Rattle.sat_watch.proofs.Ordered.{set_true, unset_parts}
use Rattle.sat_watch.proofs.Rounds.{any_left, any_right, cut_at, open_found}
use Rattle.sat_watch.proofs.Visiting.{open_among}
use Rattle.sat_watch.proofs.Watching.{second_open}
use Rattle.sat_watch.proofs.trail.Trail.look_on.Goals as goal

abbrev none : Lit
none = record { var = 0; positive = false }

pub loop-place-init : goal.loop-place-init
loop-place-init c = record {
  all = open_found (literals_of c.args.self.now.entries) c.args.before c.requires.unset;
  unset = c.requires.unset;
}

pub returns-in-Some-true : goal.returns-in-Some-true
returns-in-Some-true c =
    let before = option_to_list c.args.before in
    let part = c.args.part.now in
    let i = c.loop-place.place in
    let known = literals_of c.args.self.now.entries in
    let lit = get_or part i none in
    let is : standing known lit ≡ Some true = sym c.standing.ensures.value ∙ c.in-Some-true.is ∙ ap Some c.in-Some-true.field-0-test in
    (inl (any_right (λ l. is_among l known) before part (list_any_at (λ l. is_among l known) part i none c.loop-place-test.true (set_true known lit is))), any_right (same_literal lit) before part (among_read part i none c.loop-place-test.true))

pub returns-in-Some : goal.returns-in-Some
returns-in-Some c =
    let before = option_to_list c.args.before in
    let part = c.args.part.now in
    let i = c.loop-place.place in
    let known = literals_of c.args.self.now.entries in
    let lit = get_or part i none in
    let is : standing known lit ≡ None = sym c.standing.ensures.value ∙ c.in-None.is in
    let one = rw c.in-Some.is at c.loop-place.invariant.all in
    let watched = second_open known before part i none _ c.loop-place-test.true one (unset_parts known lit is).1 in
    let first : is_among c.in-Some.first (before ++ part) ≡ true = subst (λ (ls : List Lit). is_among c.in-Some.first ls ≡ true) (cut_at before part i) (any_left (same_literal c.in-Some.first) (before ++ take i part) (drop i part) (open_among known (before ++ take i part) c.in-Some.first one)) in
    let second : is_among lit (before ++ part) ≡ true = any_right (same_literal lit) before part (among_read part i none c.loop-place-test.true) in
    let which : is_among c.one_of.result (before ++ part) ≡ true = elim c.one_of.ensures [
      | inl same ↦ ap (λ (l : Lit). is_among l (before ++ part)) same ∙ first
      | inr same ↦ ap (λ (l : Lit). is_among l (before ++ part)) same ∙ second
    ] in
    (watched, which)
