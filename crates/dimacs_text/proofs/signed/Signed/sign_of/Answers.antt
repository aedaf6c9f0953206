-- the sign that was looked up
use Rattle.std.proofs.Common.{◌≡◌, ◌==◌, ◌∙◌, Bool, Option, MatchOption, false, true, subst, sym}
use Rattle.std.specs.List.{list_any}
use Rattle.clause_base.specs.declared.lit.Lit.{Lit}
use Rattle.dimacs_text.specs.Tidy.{stands}
use Rattle.dimacs_text.proofs.Signs.{sign_told}
use Rattle.dimacs_text.proofs.signed.Signed.sign_of.Goals as goal

pub returns : goal.returns
returns c =
    let v = c.args.var in
    let lits = c.args.self.now.lits in
    let IsTold : Option Bool → Type 0 = λ o. MatchOption o (list_any (λ (k : Lit). k.var == v) lits ≡ false) (λ sign. stands (record { var = v; positive = sign }) lits ≡ true) in
    subst IsTold (sym (c.copied.ensures ∙ c.get.ensures.value ∙ c.args.self.now.linked v)) (sign_told v lits)
