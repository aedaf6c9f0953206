-- what is said of the fifth text, for the task of the others
use Rattle.std.proofs.Common.{◌∙◌, Err, ap, subst, sym, ℕ, List}
use Rattle.input_space.specs.TaskParts.{task_with}
use Rattle.cert_text.specs.Certificates.{IsCertOf, StopsAt}
use Rattle.cert_text.specs.declared.cert.Cert.{Cert}
use Rattle.check_core.specs.Decisions.{Judged, NoForm}
use Rattle.check_core.proofs.Reporting.{fifth_text}
use Rattle.check_core.proofs.checking.report_texts.Goals as goal

pub returns-in-Ok : goal.returns-in-Ok
returns-in-Ok c =
    let k = task_with c.in_ok-task.task in
    let r = c.in_ok-judged-in-Ok.ensures in
    let fifth = fifth_text c.args.texts.now c.index-texts-4.result c.requires.five c.index-texts-4.is ∙ sym c.as_slice.ensures.value in
    record {
      answer = record { task = k; said = Judged c.in-Ok.cert r.verdict r.more };
      decided = record {
        task = c.in_ok-task.ensures;
        said = (
          subst (λ (text : List ℕ). IsCertOf text c.in-Ok.cert) (sym fifth) c.in-Ok.ensures.read,
          r.stands,
          r.known,
          r.behind,
        );
      };
      shows = record { text = r.text_is; status = r.status_is; kept = r.kept_is };
    }

pub returns-in-Err-Syntax : goal.returns-in-Err-Syntax
returns-in-Err-Syntax c =
    let k = task_with c.in_ok-task.task in
    let line = c.in-Err-Syntax.line in
    let is = ap Err c.in-Err-Syntax.field-0-is in
    let fifth = fifth_text c.args.texts.now c.index-texts-4.result c.requires.five c.index-texts-4.is ∙ sym c.as_slice.ensures.value in
    record {
      answer = record { task = k; said = NoForm line };
      decided = record {
        task = c.in_ok-task.ensures;
        said = (
          subst (λ (text : List ℕ). StopsAt text line) (sym fifth) (c.in-Err-Syntax.ensures.place line is),
          subst (λ (text : List ℕ). (d : Cert) → IsCertOf text d → ⊥) (sym fifth) (c.in-Err-Syntax.ensures.syntax line is),
        );
      };
      shows = record {
        text = c.in_ok-no_form-in-Err-Syntax.ensures.text;
        status = c.in_ok-no_form-in-Err-Syntax.ensures.status;
        kept = c.in_ok-no_form-in-Err-Syntax.ensures.kept;
      };
    }
