-- The order of the questions, as it goes on.
use Rattle.std.specs.Prelude.{◌≡◌, ℕ, ◌+◌, List, [], ◌∷◌, ◌++◌, Option, Some, None, IfSome, option_map}
use Rattle.std.specs.List.{Contains}
use Rattle.std.proofs.Common.{sym, subst, inl, inr, arith}
use Rattle.std.proofs.lemmas.List.{append_assoc, append-nil}
use Rattle.std.proofs.lemmas.List.Elements.{Contains-append_left, Contains-push, Contains-push_cases}
use Rattle.cegis_loop.specs.Space.{Space, IsInput, IsFail}
use Rattle.cegis_loop.specs.State.{First, Low, Fail, Told, Refuted, Open}
use Rattle.cegis_loop.specs.Order.{Asks, first_open, fail_open, Due, DueLow, DueFail, End, bound_at, IsSearch, IsAtLeast}
use Rattle.cegis_loop.specs.OrderLaws.{OpenRulesOutNothing}
use Rattle.cegis_loop.specs.Searching.{LeadsTo}

-- a list that may be told, with more at its end
pub if_more : {T : Type 0} (more : List T) (P Q : List T → Type 0) (t u : Option (List T)) → u ≡ option_map (λ ts. ts ++ more) t
    → ((ts : List T) → P ts → Q (ts ++ more)) → IfSome t P → IfSome u Q
if_more more P Q None u e f h = subst (λ v. IfSome v Q) (sym e) tt
if_more more P Q (Some ts) u e f h = subst (λ v. IfSome v Q) (sym e) (f ts h)

pub if_told : {T : Type 0} (P Q : T → Type 0) (t : Option T) → ((x : T) → P x → Q x) → IfSome t P → IfSome t Q
if_told P Q None f h = tt
if_told P Q (Some x) f h = f x h

pub at_least_open : {C : Type 0} → OpenRulesOutNothing C
at_least_open asked q k h = record {
  none = λ j n m. elim (Contains-push_cases asked (Open q) (Refuted (Low (Some j) n)) m) [ inl w ↦ h.none j n w | inr e ↦ (cc) ];
  least = λ j e. let w = h.least j e in (w.0, Contains-append_left asked (Open q ∷ []) (Refuted (Low (Some j) w.0)) w.1);
}

-- a question for an input that is refuted
pub at_least_fail : {C : Type 0} (asked : List (Told C)) (c : C) (k : ℕ) → IsAtLeast asked k → IsAtLeast (asked ++ Refuted (Fail c) ∷ []) k
at_least_fail asked c k h = record {
  none = λ j n m. elim (Contains-push_cases asked (Refuted (Fail c)) (Refuted (Low (Some j) n)) m) [ inl w ↦ h.none j n w | inr e ↦ (cc) ];
  least = λ j e. let w = h.least j e in (w.0, Contains-append_left asked (Refuted (Fail c) ∷ []) (Refuted (Low (Some j) w.0)) w.1);
}

-- a question for a choice that is refuted
pub at_least_refuted : {C : Type 0} (asked : List (Told C)) (k n : ℕ) → IsAtLeast asked k → IsAtLeast (asked ++ Refuted (Low (Some k) n) ∷ []) (k + 1)
at_least_refuted {C} asked k n h = record {
  none = λ j m w. elim (Contains-push_cases asked (Refuted (Low (Some k) n)) (Refuted (Low (Some j) m)) w) [
    | inl v ↦ (let p = h.none j m v in omega arith)
    | inr e ↦ (let p : j ≡ k = (cc) in omega arith)
  ];
  least = λ j e.
      let P : ℕ → Type 0 = λ v. Contains (asked ++ Refuted (Low (Some k) n) ∷ []) (Refuted (Low (Some v) n)) in
      let p : k ≡ j = omega arith in
      (n, subst P p (Contains-push asked (Refuted (Low (Some k) n))));
}

pub at_least_none : {C : Type 0} → IsAtLeast {C = C} [] 0
at_least_none = record { none = λ j n m. absurd (let p = m.1 in omega arith); least = λ j e. absurd (omega arith) }

-- one question more, and no input
pub leads_on : {C I : Type 0} (s : Space C I) (due next : Due C) (k k' : ℕ) (kept : List I) (asked : List (Told C)) (t : Told C)
    → (l : LeadsTo s due k kept asked) (ruled : ℕ)
    → ((later : List I) (rest : List (Told C)) (end : End C) → Asks s next ruled kept later rest end → Asks s due l.ruled kept later (t ∷ rest) end)
    → IsAtLeast (asked ++ t ∷ []) k'
    → LeadsTo s next k' kept (asked ++ t ∷ [])
leads_on s due next k k' kept asked t l ruled f m = record {
  ruled = ruled;
  on = λ later rest end h. rw (append_assoc asked (t ∷ []) rest) (l.on later (t ∷ rest) end (f later rest end h));
  at_least = m;
}

-- one question more, by which a choice fails
pub leads_failed : {C I : Type 0} (s : Space C I) (bound : Option ℕ) (k : ℕ) (kept : List I) (asked : List (Told C)) (c : C) (x : I)
    → LeadsTo s (DueFail bound c) k kept asked → IsFail s c x
    → LeadsTo s (DueLow bound) k (kept ++ x ∷ []) (asked ++ Open (Fail c) ∷ [])
leads_failed s bound k kept asked c x l f = record {
  ruled = l.ruled;
  on = λ later rest end h.
      rw (append_assoc kept (x ∷ []) later, append_assoc asked (Open (Fail c) ∷ []) rest) (l.on (x ∷ later) (Open (Fail c) ∷ rest) end (fail_open f h));
  at_least = at_least_open asked (Fail c) k l.at_least;
}

-- the last question
pub leads_end : {C I : Type 0} (s : Space C I) (due : Due C) (k : ℕ) (kept : List I) (asked : List (Told C)) (t : Told C) (end : End C)
    → (l : LeadsTo s due k kept asked) → Asks s due l.ruled kept [] (t ∷ []) end → IsSearch s kept (asked ++ t ∷ []) end
leads_end s due k kept asked t end l h = subst (λ v. IsSearch s v (asked ++ t ∷ []) end) (append-nil kept) (l.on [] (t ∷ []) end h)

pub leads_first : {C I : Type 0} (s : Space C I) (x : I) → IsInput s x → LeadsTo s (DueLow (bound_at s.most_cost 0)) 0 (x ∷ []) (Open First ∷ [])
leads_first s x m = record {
  ruled = 0;
  on = λ later rest end h. first_open m h;
  at_least = at_least_open [] First 0 at_least_none;
}
