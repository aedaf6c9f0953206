-- Sessions that pass: each has a right formula and a log that refutes it, or was asked anew.
use Rattle.std.specs.Prelude.{◌≡◌, ◌≢◌, ℕ, suc, List, [], ◌∷◌, All}
use Rattle.clause_base.specs.Logs.{Refutes}
use Rattle.input_space.specs.declared.case.Case.{Case}
use Rattle.input_space.specs.declared.session.Session.{Session}
use Rattle.input_space.specs.Sessions.{IsBacked}
use Rattle.input_space.specs.TaskCoding.{coding}
use Rattle.input_space.specs.Tasks.{Task}
use Rattle.input_space.specs.TaskSpace.{space}
use Rattle.cert_text.specs.declared.cert.Cert.{Cert}
use Rattle.cert_text.specs.Certificates.{cert_with}
use Rattle.certificate_laws.specs.Right.{IsRight}

-- The same sessions, but that so many have another formula, with its log, for their question.
pub data Mended : List Session → List Session → ℕ → Type 0 where
  no_session : Mended [] [] 0
  as_it_is : {x : Session} {xs ys : List Session} {anew : ℕ}
      → Mended xs ys anew → Mended (x ∷ xs) (x ∷ ys) anew
  made_anew : {x y : Session} {xs ys : List Session} {anew more : ℕ}
      → y.query ≡ x.query → y.formula ≢ x.formula → Mended xs ys anew → more ≡ suc anew
      → Mended (x ∷ xs) (y ∷ ys) more

-- with so many made anew the sessions have formulas that state their questions, and logs that
-- follow and refute; the budget is no matter
pub record Pass (k : Task) (kept : List Case) (xs : List Session) (anew : ℕ) : Type 0 where
  pub sessions : List Session
  pub mended : Mended xs sessions anew
  pub backed : (budget : ℕ) → All (IsBacked (space k budget) (coding k) kept) sessions
  pub refuted : All (λ x. Refutes x.log.steps) sessions

-- a certificate with other sessions
abbrev pub with_sessions : Cert → List Session → Cert
with_sessions c xs = cert_with c.claim c.selection c.cases xs

-- the certificate becomes right with so many sessions made anew
pub record IsAccepted (k : Task) (c : Cert) (anew : ℕ) : Type 0 where
  pub sessions : List Session
  pub mended : Mended c.sessions sessions anew
  pub right : (budget : ℕ) → IsRight k budget (with_sessions c sessions)
