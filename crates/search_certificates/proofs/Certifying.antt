-- Certificates of what searches found are right.
use Rattle.std.proofs.Common.{◌≡◌, ◌≢◌, ℕ, zero, suc, ◌+◌, ◌-◌, ◌≤◌, true, List, [], ◌∷◌, ◌++◌, length, map, Some, None, refl, sym, ap, ◌∙◌, arith, subst}
use Rattle.std.specs.Prelude.{All, slice_index_or}
use Rattle.std.specs.List.{Contains}
use Rattle.std.proofs.lemmas.List.{append-nil}
use Rattle.std.proofs.lemmas.List.Elements.{All-append, All-contains, All-cons, All-head, All-nil}
use Rattle.choice_tree.specs.declared.selection.Choice.{Choice}
use Rattle.choice_tree.specs.Choices.{member_of}
use Rattle.choice_tree.specs.Selections.{cost, most_cost}
use Rattle.choice_tree.proofs.GreatestCost.{cost_below}
use Rattle.clause_base.specs.Logs.{Refutes}
use Rattle.cegis_loop.specs.declared.outcome.Least.{Least}
use Rattle.cegis_loop.specs.declared.outcome.Least.TheVariants.{Found, Nothing, NoCase, Spent, NoMemory}
use Rattle.cegis_loop.specs.Answers.{IsLeast}
use Rattle.cegis_loop.specs.Order.{Asks, first_refuted, first_open, first_left, low_refuted, any_refuted, low_open, low_left, fail_refuted, fail_open, fail_left, Due, DueFirst, DueLow, DueFail, End, NoInput, NoChoice, Settled, Unfinished, IsWholeSearch, IsAtLeast, no_choice, settled, closed}
use Rattle.cegis_loop.specs.OrderLaws.{AnyRuledOut, CheaperRuledOut, ChoiceDidntFail}
use Rattle.cegis_loop.specs.Space.{Space, NoneAbove}
use Rattle.cegis_loop.specs.State.{Fail, Low, Told}
use Rattle.input_space.specs.declared.case.Case.{Case}
use Rattle.input_space.specs.declared.session.Query.TheVariants as query
use Rattle.input_space.specs.declared.session.Session.{Session}
use Rattle.input_space.specs.Sessions.{IsBacked, is_refuted, logged, told_of}
use Rattle.input_space.specs.TaskCoding.{coding}
use Rattle.input_space.specs.Tasks.{Task, tree_of}
use Rattle.input_space.specs.TaskSpace.{space, wanted_inputs}
use Rattle.cert_text.specs.declared.cert.Claim.TheVariants as claim
use Rattle.cert_text.specs.Certificates.{cert_with}
use Rattle.cert_text.specs.Limits.{KeepsForm}
use Rattle.certificate_laws.specs.Right.{IsOfCost, IsRight}
use Rattle.search_certificates.specs.declared.places.Wanted.{Wanted}
use Rattle.search_certificates.specs.declared.places.Wanted.TheVariants as wanted
use Rattle.search_certificates.specs.Certified.{Claims, IsCertificateOf, IsChosen, KeepsAsked, claim_of, search_with}
use Rattle.search_certificates.specs.Places.{IsSessionOf, Refuting}
use Rattle.search_certificates.specs.Searches.{IsSearchOf}
use Rattle.search_certificates.proofs.FormLaws.{IsNumbered, sessions_kept}
use Rattle.search_certificates.proofs.Told.{failing, failing_told, low_told, lower, refutes_by, told_among}

-- SOME INPUT IS KEPT

abbrev SomeKept : {C I : Type 0} → List I → End C → Type 0
SomeKept kept NoInput = Unit {0}
SomeKept kept NoChoice = kept ≢ []
SomeKept kept (Settled c cases) = kept ≢ []
SomeKept kept Unfinished = Unit {0}

abbrev KeptFrom : {C I : Type 0} → Due C → List I → End C → Type 0
KeptFrom DueFirst later end = SomeKept later end
KeptFrom (DueLow bound) later end = Unit {0}
KeptFrom (DueFail bound c) later end = Unit {0}

one_kept : {C I : Type 0} (x : I) (later : List I) (end : End C) → SomeKept (x ∷ later) end
one_kept x later NoInput = tt
one_kept x later NoChoice = λ e. cc
one_kept x later (Settled c cases) = λ e. cc
one_kept x later Unfinished = tt

kept_from : {C I : Type 0} {s : Space C I} {due : Due C} {ruled : ℕ} {before later : List I} {asked : List (Told C)} {end : End C}
    → Asks s due ruled before later asked end → KeptFrom due later end
kept_from first_refuted = tt
kept_from (first_open {x = x} {later = later} {end = end} m h) = one_kept x later end
kept_from first_left = tt
kept_from (low_refuted many h) = tt
kept_from (any_refuted many) = tt
kept_from (low_open many low h) = tt
kept_from (low_left many) = tt
kept_from fail_refuted = tt
kept_from (fail_open f h) = tt
kept_from fail_left = tt

settled_kept : {C I : Type 0} (s : Space C I) (kept : List I) (asked : List (Told C)) (c : C) (cases : ℕ) → IsWholeSearch s kept asked (Settled c cases) → kept ≢ []
settled_kept s kept asked c cases (settled h x) = kept_from h
settled_kept s kept asked c cases (closed needs many whole) = kept_from needs.search

none_kept : {C I : Type 0} (s : Space C I) (kept : List I) (asked : List (Told C)) → IsWholeSearch s kept asked NoChoice → kept ≢ []
none_kept s kept asked (no_choice h) = kept_from h

-- SEARCHES THAT FOUND WHAT IS CLAIMED

-- a selection of this cost was found
pub record FoundCost (k : Task) (kept : List Case) (xs : List Session) (b : ℕ) (found : Least (List Choice)) (n : ℕ) : Type 0 where
  pub selection : List Choice
  pub cases : ℕ
  pub is : found ≡ Found selection n
  pub least : IsLeast (space k b) (wanted_inputs k) selection n
  pub whole : IsWholeSearch (space k b) kept (map told_of xs) (Settled selection cases)
  pub at_least : IsAtLeast (map told_of xs) n

of_cost : (k : Task) (kept : List Case) (xs : List Session) (b : ℕ) (s : List Choice) (m n : ℕ) → m ≡ n → IsSearchOf k b (search_with (Found s m) kept xs)
    → FoundCost k kept xs b (Found s m) n
of_cost k kept xs b s m n e h = record {
  selection = s;
  cases = h.trail.0;
  is = ap (λ j. Found s j) e;
  least = subst (IsLeast (space k b) (wanted_inputs k) s) e h.answer.means.1;
  whole = h.trail.1.search;
  at_least = subst (IsAtLeast (map told_of xs)) e h.answer.asked.1;
}

pub found_cost : (k : Task) (kept : List Case) (xs : List Session) (b : ℕ) (found : Least (List Choice)) (n : ℕ) → Claims k (claim.Cost n) kept xs b found → FoundCost k kept xs b found n
found_cost k kept xs b (Found s m) n c = let e : Some (claim.Cost m) ≡ Some (claim.Cost n) = c.claimed in let same : m ≡ n = cc in of_cost k kept xs b s m n same c.search
found_cost k kept xs b Nothing n c = (let e : Some claim.Nothing ≡ Some (claim.Cost n) = c.claimed in absurd cc)
found_cost k kept xs b NoCase n c = (let e : None ≡ Some (claim.Cost n) = c.claimed in absurd cc)
found_cost k kept xs b (Spent j) n c = (let e : Some (claim.Spent (logged xs)) ≡ Some (claim.Cost n) = c.claimed in absurd cc)
found_cost k kept xs b NoMemory n c = (let e : None ≡ Some (claim.Cost n) = c.claimed in absurd cc)

pub record FoundNone (k : Task) (kept : List Case) (xs : List Session) (b : ℕ) (found : Least (List Choice)) : Type 0 where
  pub is : found ≡ Nothing
  pub whole : IsWholeSearch (space k b) kept (map told_of xs) NoChoice

pub found_none : (k : Task) (kept : List Case) (xs : List Session) (b : ℕ) (found : Least (List Choice)) → Claims k claim.Nothing kept xs b found → FoundNone k kept xs b found
found_none k kept xs b (Found s m) c = (let e : Some (claim.Cost m) ≡ Some claim.Nothing = c.claimed in absurd cc)
found_none k kept xs b Nothing c = record { is = refl; whole = c.search.trail.search }
found_none k kept xs b NoCase c = (let e : None ≡ Some claim.Nothing = c.claimed in absurd cc)
found_none k kept xs b (Spent j) c = (let e : Some (claim.Spent (logged xs)) ≡ Some claim.Nothing = c.claimed in absurd cc)
found_none k kept xs b NoMemory c = (let e : None ≡ Some claim.Nothing = c.claimed in absurd cc)

-- THE SESSIONS ARE THERE

pub failing_there : (k : Task) (kept : List Case) (xs : List Session) (b n : ℕ) (found : Least (List Choice)) → ChoiceDidntFail (space k b) → Claims k (claim.Cost n) kept xs b found → Refuting wanted.Failure xs
failing_there k kept xs b n found law c =
    let f = found_cost k kept xs b found n c in
    failing_told xs f.selection (law.refuted kept (map told_of xs) f.selection f.cases f.whole)

none_above : (k : Task) (b : ℕ) → NoneAbove (space k b) (most_cost (tree_of k))
none_above k b s fits = cost_below (member_of s) (tree_of k)

pub cheaper_there : (k : Task) (kept : List Case) (xs : List Session) (b n less : ℕ) (found : Least (List Choice)) → CheaperRuledOut (space k b) → n ≡ suc less → Claims k (claim.Cost n) kept xs b found
    → Refuting (wanted.Low (Some less) (length kept)) xs
cheaper_there k kept xs b n less found law e c =
    let f = found_cost k kept xs b found n c in
    let costs : cost (member_of f.selection) (tree_of k) ≡ suc less = f.least.cost_of ∙ e in
    low_told xs (Some less) (length kept)
    (law kept (map told_of xs) f.selection f.cases less (none_above k b) f.whole (subst (IsAtLeast (map told_of xs)) (sym f.least.cost_of) f.at_least) costs)

pub any_there : (k : Task) (kept : List Case) (xs : List Session) (b : ℕ) (found : Least (List Choice)) → AnyRuledOut (space k b) → Claims k claim.Nothing kept xs b found
    → Refuting (wanted.Low None (length kept)) xs
any_there k kept xs b found law c =
    let f = found_none k kept xs b found c in
    low_told xs None (length kept) (law kept (map told_of xs) f.whole)

-- THE CERTIFICATES ARE RIGHT

cases_of_search : (k : Task) (kept : List Case) (xs : List Session) (b : ℕ) (found : Least (List Choice)) → IsSearchOf k b (search_with found kept xs) → All (Contains (wanted_inputs k)) kept
cases_of_search k kept xs b found h = h.answer.kept.inputs

two_of : {A : Type 0} (P : A → Type 0) (x y : A) → P x → P y → All P (x ∷ y ∷ [])
two_of P x y p q = All-cons P x (y ∷ []) p (All-cons P y [] q (All-nil P))

-- what is known of the session that refutes that a cheaper selection agrees; there is none where the
-- cost is 0
abbrev pub IsCheaper : List Session → List Case → ℕ → List Session → Type 0
IsCheaper xs kept zero more = more ≡ []
IsCheaper xs kept (suc less) more = IsSessionOf (wanted.Low (Some less) (length kept)) xs more

right_cost : (k : Task) (kept : List Case) (xs : List Session) (b n : ℕ) (found : Least (List Choice)) (sel : List Choice) (x : Session) (more : List Session)
    → IsSearchOf k b (search_with found kept xs) → FoundCost k kept xs b found n → kept ≢ [] → IsOfCost k sel n
    → Contains xs x → x.query ≡ query.Fail sel → is_refuted x.log.steps ≡ true → IsCheaper xs kept n more
    → IsRight k b (cert_with (claim.Cost n) sel kept (x ∷ more))
right_cost k kept xs b zero found sel x more h f some of c asks refuted none =
    let P = IsBacked (space k b) (coding k) kept in
    let R = λ (y : Session). Refutes y.log.steps in
    subst (λ ys. IsRight k b (cert_with (claim.Cost zero) sel kept (x ∷ ys))) (sym none) (record {
      cases = cases_of_search k kept xs b found h;
      backed = All-cons P x [] (All-contains P xs x (h.backed) c) (All-nil P);
      shown = (
        of,
        record {
          some = some;
          asked = ap (λ q. q ∷ []) asks;
          refuted = All-cons R x [] (refutes_by x.log.steps refuted) (All-nil R);
        },
      );
    })
right_cost k kept xs b (suc less) found sel x more h f some of c asks refuted low =
    let P = IsBacked (space k b) (coding k) kept in
    let R = λ (y : Session). Refutes y.log.steps in
    let y = low.by.session in
    let l = lower (Some less) (length kept) y low.by.refutes_it in
    subst (λ ys. IsRight k b (cert_with (claim.Cost (suc less)) sel kept (x ∷ ys))) (sym low.alone) (record {
      cases = cases_of_search k kept xs b found h;
      backed = two_of P x y (All-contains P xs x (h.backed) c) (All-contains P xs y (h.backed) low.by.among);
      shown = (
        of,
        record {
          some = some;
          asked = (λ i. asks i ∷ l.asks i ∷ []);
          refuted = two_of R x y (refutes_by x.log.steps refuted) (refutes_by y.log.steps l.refuted);
        },
      );
    })

pub certify_cost : (k : Task) (kept : List Case) (xs own more : List Session) (n : ℕ) (sel : List Choice) → ((b : ℕ) → ChoiceDidntFail (space k b))
    → IsSessionOf wanted.Failure xs own → (x : Session) → own ≡ x ∷ [] → x.query ≡ query.Fail sel → IsCheaper xs kept n more
    → (b : ℕ) (found : Least (List Choice)) → Claims k (claim.Cost n) kept xs b found
    → IsCertificateOf k b found (cert_with (claim.Cost n) sel kept (own ++ more))
certify_cost k kept xs own more n sel law one x is asks low b found c =
    let f = found_cost k kept xs b found n c in
    let y = one.by.session in
    let same : y ≡ x = (let e : y ∷ [] ≡ x ∷ [] = sym one.alone ∙ is in cc) in
    let among : Contains xs x = subst (Contains xs) same one.by.among in
    let refuted : is_refuted x.log.steps ≡ true = subst (λ (z : Session). is_refuted z.log.steps ≡ true) same (failing y one.by.refutes_it).refuted in
    let e : sel ≡ f.selection =
    (law b).alone kept (map told_of xs) f.selection sel f.cases f.whole (told_among xs x (query.Fail sel) among asks refuted) in
    let of : IsOfCost k sel n = subst (λ s. IsOfCost k s n) (sym e) (record { fits = f.least.choice; cost_is = f.least.cost_of }) in
    record {
      right = subst (λ ys. IsRight k b (cert_with (claim.Cost n) sel kept (ys ++ more))) (sym is)
          (right_cost k kept xs b n found sel x more c.search f (settled_kept (space k b) kept (map told_of xs) f.selection f.cases f.whole) of among asks refuted low);
      chosen = subst (λ g. IsChosen g sel) (sym f.is) e;
    }

pub certify_none : (k : Task) (kept : List Case) (xs own : List Session) → IsSessionOf (wanted.Low None (length kept)) xs own
    → (b : ℕ) (found : Least (List Choice)) → Claims k claim.Nothing kept xs b found
    → IsCertificateOf k b found (cert_with claim.Nothing [] kept (own ++ []))
certify_none k kept xs own low b found c =
    let f = found_none k kept xs b found c in
    let P = IsBacked (space k b) (coding k) kept in
    let R = λ (y : Session). Refutes y.log.steps in
    let y = low.by.session in
    let l = lower None (length kept) y low.by.refutes_it in
    let is : own ++ [] ≡ y ∷ [] = append-nil own ∙ low.alone in
    record {
      right = subst (λ ys. IsRight k b (cert_with claim.Nothing [] kept ys)) (sym is) (record {
        cases = cases_of_search k kept xs b found c.search;
        backed = All-cons P y [] (All-contains P xs y (c.search.backed) low.by.among) (All-nil P);
        shown = record {
          some = none_kept (space k b) kept (map told_of xs) f.whole;
          asked = ap (λ q. q ∷ []) l.asks;
          refuted = All-cons R y [] (refutes_by y.log.steps l.refuted) (All-nil R);
        };
      });
      chosen = subst (λ g. IsChosen g []) (sym f.is) refl;
    }

right_spent : (k : Task) (kept : List Case) (xs : List Session) (b n j : ℕ) → logged xs ≡ n → IsSearchOf k b (search_with (Spent j) kept xs) → IsRight k b (cert_with (claim.Spent n) [] kept xs)
right_spent k kept xs b n j e h = record {
  cases = cases_of_search k kept xs b (Spent j) h;
  backed = h.backed;
  shown = record { trail = h.trail.0; logged_is = e };
}

pub certify_spent : (k : Task) (kept : List Case) (xs : List Session) (n b : ℕ) (found : Least (List Choice)) → Claims k (claim.Spent n) kept xs b found
    → IsCertificateOf k b found (cert_with (claim.Spent n) [] kept (xs ++ []))
certify_spent k kept xs n b (Found s m) c = (let e : Some (claim.Cost m) ≡ Some (claim.Spent n) = c.claimed in absurd cc)
certify_spent k kept xs n b Nothing c = (let e : Some claim.Nothing ≡ Some (claim.Spent n) = c.claimed in absurd cc)
certify_spent k kept xs n b NoCase c = (let e : None ≡ Some (claim.Spent n) = c.claimed in absurd cc)
certify_spent k kept xs n b (Spent j) c =
    let e : Some (claim.Spent (logged xs)) ≡ Some (claim.Spent n) = c.claimed in
    let same : logged xs ≡ n = cc in
    record {
      right = subst (λ ys. IsRight k b (cert_with (claim.Spent n) [] kept ys)) (sym (append-nil xs)) (right_spent k kept xs b n j same c.search);
      chosen = refl;
    }
certify_spent k kept xs n b NoMemory c = (let e : None ≡ Some (claim.Spent n) = c.claimed in absurd cc)

-- WHAT THE CODE HAS AT HAND

pub is_free : (xs : List Session) (kept : List Case) (n : ℕ) (more : List Session) → n ≡ 0 → more ≡ [] → IsCheaper xs kept n more
is_free xs kept zero more e none = none
is_free xs kept (suc less) more e none = absurd (omega arith)

pub is_cheaper : (xs : List Session) (kept : List Case) (n m : ℕ) (more : List Session) → (n ≡ 0 → ⊥) → m ≡ length kept
    → IsSessionOf (wanted.Low (Some (n - 1)) m) xs more → IsCheaper xs kept n more
is_cheaper xs kept zero m more some e low = absurd (some refl)
is_cheaper xs kept (suc less) m more some e low =
    let p : suc less - 1 ≡ less = omega arith in
    subst (λ j. IsSessionOf (wanted.Low (Some less) j) xs more) e (subst (λ j. IsSessionOf (wanted.Low (Some j) m) xs more) p low)

-- the session that refutes that the selection fails
pub first_asks : (xs own : List Session) (d : Session) (sel : List Choice) (one : IsSessionOf wanted.Failure xs own) → (slice_index_or own 0 d).query ≡ query.Fail sel
    → one.by.session.query ≡ query.Fail sel
first_asks xs own d sel one e = subst (λ ys. (slice_index_or ys 0 d).query ≡ query.Fail sel) one.alone e

all_alone : (P : Session → Type 0) (w : Wanted) (xs own : List Session) → IsSessionOf w xs own → All P xs → All P own
all_alone P w xs own one all = subst (All P) (sym one.alone) (All-cons P one.by.session [] (All-contains P xs one.by.session all one.by.among) (All-nil P))

all_cheaper : (P : Session → Type 0) (xs : List Session) (kept : List Case) (n : ℕ) (more : List Session) → IsCheaper xs kept n more → All P xs → All P more
all_cheaper P xs kept zero more none all = subst (All P) (sym none) (All-nil P)
all_cheaper P xs kept (suc less) more low all = all_alone P (wanted.Low (Some less) (length kept)) xs more low all

-- the form of the certificate of a cost
pub cost_form : (k : Task) (kept : List Case) (xs own more : List Session) (b n : ℕ) (found : Least (List Choice)) (sel : List Choice)
    → Claims k (claim.Cost n) kept xs b found → length kept ≤ 2147483647 → n ≤ 4096
    → (one : IsSessionOf wanted.Failure xs own) → one.by.session.query ≡ query.Fail sel → IsCheaper xs kept n more
    → All (λ x. KeepsAsked x.query) own → All (λ x. KeepsAsked x.query) more → KeepsForm (cert_with (claim.Cost n) sel kept (own ++ more))
cost_form k kept xs own more b n found sel c few small one asks low all_own all_more =
    let P = IsBacked (space k b) (coding k) kept in
    let asked = λ (x : Session). KeepsAsked x.query in
    let x = one.by.session in
    let first : KeepsAsked x.query = All-head asked x [] (subst (All asked) one.alone all_own) in
    record {
      claimed = (small, subst KeepsAsked asks first);
      sessions = sessions_kept (space k b) (coding k) kept (own ++ more) few
          (All-append P own more (all_alone P wanted.Failure xs own one (c.search.backed)) (all_cheaper P xs kept n more low (c.search.backed)))
          (All-append IsNumbered own more (all_alone IsNumbered wanted.Failure xs own one c.search.numbered) (all_cheaper IsNumbered xs kept n more low c.search.numbered))
          (All-append asked own more all_own all_more);
    }

low_asked_kept : (w : Wanted) (xs own : List Session) (cases : ℕ) → w ≡ wanted.Low None cases → IsSessionOf w xs own → All (λ x. KeepsAsked x.query) own
low_asked_kept w xs own cases e one =
    let asked = λ (x : Session). KeepsAsked x.query in
    let low = subst (λ v. IsSessionOf v xs own) e one in
    let y = low.by.session in
    let l = lower None cases y low.by.refutes_it in
    subst (All asked) (sym low.alone) (All-cons asked y [] (subst KeepsAsked (sym l.asks) tt) (All-nil asked))

-- that of no rewriting
pub none_form : (k : Task) (kept : List Case) (xs own : List Session) (b : ℕ) (found : Least (List Choice)) → Claims k claim.Nothing kept xs b found
    → length kept ≤ 2147483647 → IsSessionOf (wanted.Low None (length kept)) xs own → KeepsForm (cert_with claim.Nothing [] kept (own ++ []))
none_form k kept xs own b found c few one =
    let P = IsBacked (space k b) (coding k) kept in
    let w = wanted.Low None (length kept) in
    subst (λ ys. KeepsForm (cert_with claim.Nothing [] kept ys)) (sym (append-nil own)) (record {
      claimed = refl;
      sessions = sessions_kept (space k b) (coding k) kept own few
          (all_alone P w xs own one (c.search.backed)) (all_alone IsNumbered w xs own one c.search.numbered) (low_asked_kept w xs own (length kept) refl one);
    })

-- that of a spent budget
pub spent_form : (k : Task) (kept : List Case) (xs : List Session) (b n : ℕ) (found : Least (List Choice)) → Claims k (claim.Spent n) kept xs b found
    → length kept ≤ 2147483647 → 1 ≤ n → n ≤ 200000 → All (λ x. KeepsAsked x.query) xs → KeepsForm (cert_with (claim.Spent n) [] kept (xs ++ []))
spent_form k kept xs b n found c few some most asked =
    subst (λ ys. KeepsForm (cert_with (claim.Spent n) [] kept ys)) (sym (append-nil xs)) (record {
      claimed = (some, most, refl);
      sessions = sessions_kept (space k b) (coding k) kept xs few (c.search.backed) c.search.numbered asked;
    })

-- sessions without cases
pub alone_form : (k : Task) (n : ℕ) (xs : List Session) → 1 ≤ n → n ≤ 200000 → All (IsBacked (space k n) (coding k) []) xs
    → All IsNumbered xs → All (λ x. KeepsAsked x.query) xs → KeepsForm (cert_with (claim.Spent n) [] [] (xs ++ []))
alone_form k n xs some most backed numbered asked =
    subst (λ ys. KeepsForm (cert_with (claim.Spent n) [] [] ys)) (sym (append-nil xs)) (record {
      claimed = (some, most, refl);
      sessions = sessions_kept (space k n) (coding k) [] xs (omega arith) backed numbered asked;
    })

-- how many clauses are claimed to be logged
pub spent_many : (found : Least (List Choice)) (m n : ℕ) → claim_of found m ≡ Some (claim.Spent n) → m ≡ n
spent_many (Found s j) m n e = absurd cc
spent_many Nothing m n e = absurd cc
spent_many NoCase m n e = absurd cc
spent_many (Spent j) m n e = cc
spent_many NoMemory m n e = absurd cc
