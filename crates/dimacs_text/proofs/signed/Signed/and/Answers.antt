-- the signs with one literal more
use Rattle.std.proofs.Common.{◌∙◌, ◌==◌, ap, sym, Some}
use Rattle.std.specs.Prelude.{if◌then◌else◌}
use Rattle.dimacs_text.specs.Signs.{first_sign}
use Rattle.dimacs_text.proofs.Signs.{sign_pushed}
use Rattle.dimacs_text.proofs.signed.Signed.and.Goals as goal

pub invariant_of-result : goal.invariant_of-result
invariant_of-result c =
    let l = c.args.lit in
    record {
      linked = λ v. c.in_ok-insert.ensures.updates.0 v ∙ ap (λ o. if l.var == v then Some l.positive else o) (c.args.self.linked v)
          ∙ sym (sign_pushed v c.args.self.lits l c.requires) ∙ ap (first_sign v) (sym c.in_ok-push.ensures.ok);
    }
