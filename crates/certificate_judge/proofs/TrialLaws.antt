-- What holds of each session of a certificate, and when it is accepted.
use Rattle.std.proofs.Common.{◌≡◌, ℕ, zero, suc, ◌+◌, arith, take, List, [], ◌∷◌, map, Some, slice_get, refl, ap, subst, ◌∙◌}
use Rattle.std.specs.Prelude.{All}
use Rattle.std.proofs.lemmas.List.Elements.{All-head, All-tail}
use Rattle.clause_base.specs.Logs.{Refutes}
use Rattle.input_space.specs.declared.session.Query.{Query}
use Rattle.input_space.specs.declared.session.Session.{Session}
use Rattle.input_space.specs.Tasks.{Task}
use Rattle.cert_text.specs.declared.cert.Cert.{Cert}
use Rattle.cert_text.specs.declared.cert.Claim.{Claim}
use Rattle.cert_text.specs.declared.cert.Claim.TheVariants as claim
use Rattle.cert_text.specs.Limits.{KeepsSession, KeepsSessions}
use Rattle.certificate_laws.specs.Right.{AreRefuted, IsShown}
use Rattle.certificate_judge.specs.Passing.{IsAccepted, Mended, no_session, as_it_is, made_anew, Pass, with_sessions}
use Rattle.certificate_judge.specs.Verdicts.{HasItsCost, IsDecidedAt, IsInForm, ShowsClaim}

pub all_at : {X : Type 0} (P : X → Type 0) (xs : List X) (i : ℕ) (x : X) → All P xs → slice_get xs i ≡ Some x → P x
all_at P [] i x h at = cc
all_at P (y ∷ ys) zero x h at = let p : y ≡ x = cc in subst P p (All-head P y ys h)
all_at P (y ∷ ys) (suc i) x h at = all_at P ys i x (All-tail P y ys h) at

pub kept_at : (count : ℕ) (xs : List Session) (i : ℕ) (x : Session) → KeepsSessions count xs → slice_get xs i ≡ Some x → KeepsSession count x
kept_at count [] i x h at = cc
kept_at count (y ∷ ys) zero x h at = let p : y ≡ x = cc in subst (KeepsSession count) p h.0
kept_at count (y ∷ ys) (suc i) x h at = kept_at count ys i x h.1 at

refuted_claim : (c : Cert) (d : Claim) → ShowsClaim c d → All (λ (x : Session). Refutes x.log.steps) c.sessions
refuted_claim c (claim.Cost n) shows = shows.refuted
refuted_claim c claim.Nothing shows = shows.refuted
refuted_claim c (claim.Spent n) shows = absurd shows

pub refuted_at : (k : Task) (c : Cert) (i : ℕ) (x : Session) → IsInForm k c → slice_get c.sessions i ≡ Some x → Refutes x.log.steps
refuted_at k c i x form at = all_at (λ (y : Session). Refutes y.log.steps) c.sessions i x (refuted_claim c c.claim form.shows) at

-- THE MENDED CERTIFICATE

mended_asks : {xs ys : List Session} {n : ℕ} → Mended xs ys n → map (λ (x : Session). x.query) ys ≡ map (λ (x : Session). x.query) xs
mended_asks no_session = refl
mended_asks (as_it_is {x = x} m) = ap (λ qs. x.query ∷ qs) (mended_asks m)
mended_asks (made_anew {x = x} {y = y} {ys = ys} q f m e) =
    ap (λ r. r ∷ map (λ (z : Session). z.query) ys) q ∙ ap (λ qs. x.query ∷ qs) (mended_asks m)

asked_anew : (c : Cert) (qs : List Query) (ys : List Session) (n : ℕ) → Mended c.sessions ys n → All (λ (x : Session). Refutes x.log.steps) ys
    → AreRefuted c qs → AreRefuted (with_sessions c ys) qs
asked_anew c qs ys n mended refuted asked = record {
  some = asked.some;
  asked = mended_asks mended ∙ asked.asked;
  refuted = refuted;
}

shown_anew : (k : Task) (budget : ℕ) (c : Cert) (d : Claim) (ys : List Session) (n : ℕ) → Mended c.sessions ys n → All (λ (x : Session). Refutes x.log.steps) ys
    → HasItsCost k c d → ShowsClaim c d → IsShown k budget (with_sessions c ys) d
shown_anew k budget c (claim.Cost m) ys n mended refuted cost shows = (cost, asked_anew c _ ys n mended refuted shows)
shown_anew k budget c claim.Nothing ys n mended refuted cost shows = asked_anew c _ ys n mended refuted shows
shown_anew k budget c (claim.Spent m) ys n mended refuted cost shows = absurd shows

pub accepted : (k : Task) (c : Cert) (anew : ℕ) → IsInForm k c → Pass k c.cases c.sessions anew → IsAccepted k c anew
accepted k c anew form p = record {
  sessions = p.sessions;
  mended = p.mended;
  right = λ budget. record {
    cases = form.cases;
    backed = p.backed budget;
    shown = shown_anew k budget c c.claim p.sessions anew p.mended p.refuted form.cost form.shows;
  };
}

-- a certificate in form claims no spent budget
pub not_spent : (k : Task) (c : Cert) (n : ℕ) → IsInForm k c → c.claim ≡ claim.Spent n → ⊥
not_spent k c n form is = subst (ShowsClaim c) is form.shows

-- the session at a place decides, where those before it pass
pub decided : (k : Task) (c : Cert) (Fact : Session → Type 0) (i anew : ℕ) (x : Session) → slice_get c.sessions i ≡ Some x → Pass k c.cases (take i c.sessions) anew
    → Fact x → IsDecidedAt k c (i + 1) Fact
decided k c Fact i anew x at pass fact =
    let e : suc i ≡ i + 1 = omega arith in
    subst (λ n. IsDecidedAt k c n Fact) e ((anew, pass), (x, at, fact))
