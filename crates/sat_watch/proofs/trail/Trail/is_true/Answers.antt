use Rattle.std.proofs.Common.{◌≡◌, ◌∙◌, Bool, inl, inr, List, Option, Some, ap, refl, true}
use Rattle.std.specs.Bool.{beq}
use Rattle.std.specs.Option.{option_eq}
use Rattle.std.proofs.lemmas.Bool.{cases_Bool}
use Rattle.clause_base.specs.declared.lit.Lit.{Lit}
use Rattle.clause_base.specs.Follows.{is_false}
use Rattle.sat_watch.specs.Trails.{is_among, literals_of, standing}
use Rattle.sat_watch.proofs.trail.Trail.is_true.Goals as goal

-- a literal stands as true exactly where it is among those that are
stands_true : (known : List Lit) (l : Lit) → option_eq beq (standing known l) (Some true) ≡ is_among l known
stands_true known l = elim (cases_Bool (is_among l known)) [
  | inl among ↦ rw among refl
  | inr out ↦ elim (cases_Bool (is_false known l)) [ inl down ↦ rw (out, down) refl | inr up ↦ rw (out, up) refl ]
]

pub returns : goal.returns
returns c =
    let known = literals_of c.args.self.now.entries in
    c.eq.ensures ∙ ap (λ (v : Option Bool). option_eq beq v (Some true)) c.standing.ensures.value ∙ stands_true known c.args.lit
