use Rattle.std.proofs.Common.{◌≡◌, ◌∙◌, Bool, false, get_or, inl, inr, List, not, Option, Some, ap, refl, sym, true}
use Rattle.std.specs.Bool.{beq}
use Rattle.std.specs.Option.{option_eq}
use Rattle.std.proofs.lemmas.Bool.{cases_Bool}
use Rattle.clause_base.specs.declared.lit.Lit.{Lit}
use Rattle.clause_base.specs.Follows.{is_false}
use Rattle.sat_watch.specs.Trails.{is_among, literals_of, standing}
use Rattle.sat_watch.proofs.Literals.{open_read}
use Rattle.sat_watch.proofs.trail.Trail.is_closed.Goals as goal

-- a literal that doesn't stand as false isn't
not_down : (known : List Lit) (l : Lit) (value : Option Bool) → value ≡ standing known l → (is_among l known ≡ true → is_false known l ≡ false)
    → not (option_eq beq value (Some false)) ≡ true → is_false known l ≡ false
not_down known l value is once other = elim (cases_Bool (is_false known l)) [
  | inr up ↦ up
  | inl down ↦ elim (cases_Bool (is_among l known)) [
    | inl among ↦ once among
    | inr out ↦
        let stands : standing known l ≡ Some false = rw (out, down) refl in
        let clash : not (option_eq beq value (Some false)) ≡ false = ap (λ (v : Option Bool). not (option_eq beq v (Some false))) (is ∙ stands) in
        cc
  ]
]

pub returns-then-ne-clause-no : goal.returns-then-ne-clause-no
returns-then-ne-clause-no c = λ same none.
    let lits = c.args.lits.now in
    let known = literals_of c.args.self.now.entries in
    let other : Lit = record { var = 0; positive = false } in
    let lit = get_or lits c.loop-lit.lit-index other in
    let up = not_down known lit c.standing.result c.standing.ensures.value c.standing.ensures.not_both (sym c.ne.ensures ∙ c.if-ne.true) in
    open_read known lits c.loop-lit.lit-index other c.loop-lit-test.true up none
