-- The questions of sessions, by their places.
use Rattle.std.proofs.Common.{◌≡◌, ◌⊎◌, ℕ, zero, suc, ◌≤◌, List, [], ◌∷◌, length, map, Some, None, slice_get, refl, ap, ◌∙◌, arith, inl, inr}
use Rattle.choice_tree.specs.declared.selection.Choice.{Choice}
use Rattle.input_space.specs.declared.session.Query.{Query}
use Rattle.input_space.specs.declared.session.Query.TheVariants as query
use Rattle.input_space.specs.declared.session.Session.{Session}
use Rattle.input_space.specs.Sessions.{cases_of}
use Rattle.input_space.specs.Tasks.{Task}
use Rattle.cert_text.specs.declared.cert.Cert.{Cert}
use Rattle.cert_text.specs.declared.cert.Claim.{Claim}
use Rattle.cert_text.specs.declared.cert.Claim.TheVariants as claim
use Rattle.certificate_laws.specs.Right.{least_queries}
use Rattle.certificate_judge.specs.Verdicts.{IsInForm, ShowsClaim}

abbrev queries_in : List Session → List Query
queries_in xs = map (λ (x : Session). x.query) xs

-- ONE SESSION, OR TWO

pub one_asks : (xs : List Session) (x : Session) (q : Query) → length xs ≡ 1 → slice_get xs 0 ≡ Some x → x.query ≡ q → queries_in xs ≡ q ∷ []
one_asks [] x q n at e = absurd (omega arith)
one_asks (y ∷ []) x q n at e = let p : y ≡ x = cc in ap (λ (z : Session). z.query ∷ []) p ∙ ap (λ r. r ∷ []) e
one_asks (y ∷ z ∷ ys) x q n at e = absurd (omega (arith, n))

pub one_asked : (xs : List Session) (q : Query) → queries_in xs ≡ q ∷ [] → length xs ≡ 1
one_asked [] q e = cc
one_asked (y ∷ []) q e = refl
one_asked (y ∷ z ∷ ys) q e = cc

pub first_asked : (xs : List Session) (x : Session) (q : Query) (qs : List Query) → slice_get xs 0 ≡ Some x → queries_in xs ≡ q ∷ qs → x.query ≡ q
first_asked [] x q qs at e = cc
first_asked (y ∷ ys) x q qs at e = let p : x ≡ y = cc in ap (λ (z : Session). z.query) p ∙ (let r : y.query ≡ q = cc in r)

pub two_ask : (xs : List Session) (x y : Session) (q r : Query) → length xs ≡ 2 → slice_get xs 0 ≡ Some x → slice_get xs 1 ≡ Some y
    → x.query ≡ q → y.query ≡ r → queries_in xs ≡ q ∷ r ∷ []
two_ask [] x y q r n at next d e = absurd (omega arith)
two_ask (u ∷ []) x y q r n at next d e = absurd (omega (arith, n))
two_ask (u ∷ v ∷ []) x y q r n at next d e =
    let p : u ≡ x = cc in
    let o : v ≡ y = cc in
    ap (λ (z : Session). z.query ∷ v.query ∷ []) p ∙ ap (λ (z : Session). x.query ∷ z.query ∷ []) o ∙ ap (λ s. s ∷ y.query ∷ []) d ∙ ap (λ s. q ∷ s ∷ []) e
two_ask (u ∷ v ∷ w ∷ ws) x y q r n at next d e = absurd (omega (arith, n))

pub two_asked : (xs : List Session) (q r : Query) → queries_in xs ≡ q ∷ r ∷ [] → length xs ≡ 2
two_asked [] q r e = cc
two_asked (y ∷ []) q r e = cc
two_asked (y ∷ z ∷ []) q r e = refl
two_asked (y ∷ z ∷ w ∷ ws) q r e = cc

pub second_asked : (xs : List Session) (x : Session) (q r : Query) → slice_get xs 1 ≡ Some x → queries_in xs ≡ q ∷ r ∷ [] → x.query ≡ r
second_asked [] x q r at e = cc
second_asked (y ∷ []) x q r at e = cc
second_asked (y ∷ z ∷ zs) x q r at e = let p : x ≡ z = cc in ap (λ (w : Session). w.query) p ∙ (let o : z.query ≡ r = cc in o)

-- WHAT A SESSION OF A CERTIFICATE IN FORM ASKS ABOUT

at_one : (xs : List Session) (q : Query) (i : ℕ) (x : Session) → queries_in xs ≡ q ∷ [] → slice_get xs i ≡ Some x → x.query ≡ q
at_one [] q i x e at = cc
at_one (y ∷ []) q zero x e at = first_asked (y ∷ []) x q [] at e
at_one (y ∷ []) q (suc i) x e at = cc
at_one (y ∷ z ∷ zs) q i x e at = cc

at_two : (xs : List Session) (q r : Query) (i : ℕ) (x : Session) → queries_in xs ≡ q ∷ r ∷ [] → slice_get xs i ≡ Some x → (x.query ≡ q) ⊎ (x.query ≡ r)
at_two [] q r i x e at = cc
at_two (y ∷ []) q r i x e at = cc
at_two (y ∷ z ∷ []) q r zero x e at = inl (first_asked (y ∷ z ∷ []) x q (r ∷ []) at e)
at_two (y ∷ z ∷ []) q r (suc zero) x e at = inr (second_asked (y ∷ z ∷ []) x q r at e)
at_two (y ∷ z ∷ []) q r (suc (suc i)) x e at = cc
at_two (y ∷ z ∷ w ∷ ws) q r i x e at = cc

few_least : (s : List Choice) (n count : ℕ) (xs : List Session) (i : ℕ) (x : Session) → queries_in xs ≡ least_queries s n count → slice_get xs i ≡ Some x → cases_of x.query ≤ count
few_least s zero count xs i x e at = rw (at_one xs (query.Fail s) i x e at) (omega arith)
few_least s (suc n) count xs i x e at = elim (at_two xs (query.Fail s) (query.Low (Some n) count) i x e at) [
  | inl p ↦ rw p (omega arith)
  | inr p ↦ rw p (omega arith)
]

few_shown : (c : Cert) (d : Claim) (i : ℕ) (x : Session) → ShowsClaim c d → slice_get c.sessions i ≡ Some x → cases_of x.query ≤ length c.cases
few_shown c (claim.Cost n) i x shows at = few_least c.selection n (length c.cases) c.sessions i x shows.asked at
few_shown c claim.Nothing i x shows at = rw (at_one c.sessions (query.Low None (length c.cases)) i x shows.asked at) (omega arith)
few_shown c (claim.Spent n) i x shows at = absurd shows

pub few_asked : (k : Task) (c : Cert) (i : ℕ) (x : Session) → IsInForm k c → slice_get c.sessions i ≡ Some x → cases_of x.query ≤ length c.cases
few_asked k c i x form at = few_shown c c.claim i x form.shows at
