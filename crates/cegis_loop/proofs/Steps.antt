-- The steps of the search.
use Rattle.std.specs.Prelude.{◌≡◌, ◌≢◌, ℕ, ◌+◌, ◌<◌, ◌≤◌, List, [], ◌∷◌, ◌++◌, length, Option, Some, None, IfSome, ◌⊎◌, refl, cond, option_map}
use Rattle.std.proofs.Common.{sym, ◌∙◌, ap, subst, inl, inr, arith}
use Rattle.std.proofs.lemmas.List.{length-append, get_or_append_left}
use Rattle.std.proofs.lemmas.Bool.{cases_lt, lt-ltb, le-ltb}
use Rattle.cegis_loop.specs.declared.asked.Asked.TheVariants as asked
use Rattle.cegis_loop.specs.declared.outcome.Least.{Least}
use Rattle.cegis_loop.specs.declared.outcome.Least.TheVariants as least
use Rattle.cegis_loop.specs.declared.search.Attempt.TheVariants.{Failed, NoneWithin}
use Rattle.cegis_loop.specs.Space.{Space, IsInput, AgreesOn, NoneAbove, IsLow, IsFail}
use Rattle.cegis_loop.specs.State.{Question, First, Low, Fail, Told, Refuted, Open, State, IsFresh}
use Rattle.cegis_loop.specs.Asking.{IsAsked}
use Rattle.cegis_loop.specs.Order.{Asks, first_refuted, first_left, low_refuted, any_refuted, low_open, low_left, fail_refuted, Due, DueLow, DueFail, NoChoice, Settled, Unfinished, bound_at, IsAtLeast}
use Rattle.cegis_loop.specs.Answers.{IsKept, IsAnswer, IsSpent, NoneAgrees, NoneBelow, Means, Ends}
use Rattle.cegis_loop.specs.Searching.{LeadsTo, IsGoing, IsProposing, IsTrying, IsAttempt}
use Rattle.cegis_loop.proofs.Kept.{kept_more, kept_first, kept_none, agrees_on_kept}
use Rattle.cegis_loop.proofs.InOrder.{if_more, if_told, at_least_open, at_least_fail, at_least_refuted, at_least_none, leads_on, leads_failed, leads_end, leads_first}

-- what is asked within a bound
pub bound_some : (most k : ℕ) → k < most → bound_at most k ≡ Some k
bound_some most k h = ap (λ b. cond b (Some k) None) (lt-ltb k most h)

pub bound_none : (most k : ℕ) → most ≤ k → bound_at most k ≡ None
bound_none most k h = ap (λ b. cond b (Some k) None) (le-ltb k most h)

pub bound_cases : (most k : ℕ) → ((k < most) × (bound_at most k ≡ Some k)) ⊎ ((most ≤ k) × (bound_at most k ≡ None))
bound_cases most k = elim (cases_lt k most) [ inl p ↦ inl (p, bound_some most k p) | inr p ↦ inr (p, bound_none most k p) ]

pub less_of_other : (k most : ℕ) → k ≤ most → k ≢ most → k < most
less_of_other k most h n = elim (cases_lt k most) [ inl p ↦ p | inr p ↦ absurd (n (omega arith)) ]

-- what the kept inputs rule out all inputs do
means_of_all : {C I : Type 0} (s : Space C I) (kept : List I) (answer : Least C) → IsKept s kept → Means s kept answer → Means s s.inputs answer
means_of_all s kept (least.Found c n) k h =
    (h.0, record { choice = h.1.choice; cost_of = h.1.cost_of; agrees = h.1.agrees; least = λ d choice w all. h.1.least d choice w (agrees_on_kept s kept d k all) })
means_of_all s kept least.Nothing k h = (h.0, λ d choice all. h.1 d choice (agrees_on_kept s kept d k all))
means_of_all s kept least.NoCase k h = h
means_of_all s kept (least.Spent n) k h = λ d choice w all. h d choice w (agrees_on_kept s kept d k all)
means_of_all s kept least.NoMemory k h = tt

is_answer : {C I : Type 0} (s : Space C I) (b : State C I) (answer : Least C) → IsKept s b.kept → Means s b.kept answer → b.logged ≤ s.budget
    → (IsSpent answer → b.logged ≡ s.budget) → IfSome b.told (λ ts. Ends s b.kept ts answer) → IsAnswer s b answer
is_answer s b answer kept means budget spent asked = record {
  means = means_of_all s b.kept answer kept means;
  means_on_kept = means;
  kept = kept;
  budget = budget;
  spent = spent;
  asked = asked;
}

-- how the questions go on, and how they end, where no input more is kept
asked_on : {C I : Type 0} (s : Space C I) (a b : State C I) (due next : Due C) (k k' : ℕ) (t : Told C) → IfSome a.told (LeadsTo s due k a.kept) → b.kept ≡ a.kept
    → b.told ≡ option_map (λ ts. ts ++ t ∷ []) a.told → ((ts : List (Told C)) → LeadsTo s due k a.kept ts → LeadsTo s next k' a.kept (ts ++ t ∷ []))
    → IfSome b.told (LeadsTo s next k' b.kept)
asked_on {I = I} s a b due next k k' t h same told f =
    let P : List I → Type 0 = λ v. IfSome b.told (LeadsTo s next k' v) in
    subst P (sym same) (if_more (t ∷ []) (LeadsTo s due k a.kept) (LeadsTo s next k' a.kept) a.told b.told told f h)

asked_end : {C I : Type 0} (s : Space C I) (a b : State C I) (due : Due C) (k : ℕ) (t : Told C) (answer : Least C) → IfSome a.told (LeadsTo s due k a.kept) → b.kept ≡ a.kept
    → b.told ≡ option_map (λ ts. ts ++ t ∷ []) a.told → ((ts : List (Told C)) → LeadsTo s due k a.kept ts → Ends s a.kept (ts ++ t ∷ []) answer)
    → IfSome b.told (λ ts. Ends s b.kept ts answer)
asked_end {I = I} s a b due k t answer h same told f =
    let P : List I → Type 0 = λ v. IfSome b.told (λ ts. Ends s v ts answer) in
    subst P (sym same) (if_more (t ∷ []) (LeadsTo s due k a.kept) (λ ts. Ends s a.kept ts answer) a.told b.told told f h)

-- a choice is proposed
pub proposed : {C I : Type 0} (s : Space C I) (a b : State C I) (k : ℕ) (bound : Option ℕ) (c : C) → bound ≡ bound_at s.most_cost k → IsProposing s a k → IsLow s bound a.kept c
    → b.kept ≡ a.kept → IsAsked s (Low bound (length a.kept)) (asked.Found c) a b → IsTrying s b k c
proposed {C} {I} s a b k bound c is h low same w =
    let next : Option ℕ = bound_at s.most_cost k in
    let q : Option ℕ → Question C = λ v. Low v (length a.kept) in
    let w' : IsAsked s (q next) (asked.Found c) a b = subst (λ v. IsAsked s (q v) (asked.Found c) a b) is w in
    let fits : IsLow s next a.kept c = subst (λ v. IsLow s v a.kept c) is low in
    record {
      going = record {
        some = h.some;
        most = h.most;
        kept = subst (IsKept s) (sym same) h.kept;
        none = subst (λ v. NoneBelow s v k) (sym same) h.none;
        asked = asked_on s a b (DueLow next) (DueFail next c) k k (Open (q next)) h.asked same w'.told (λ ts l.
            leads_on s (DueLow next) (DueFail next c) k k a.kept ts (Open (q next)) l l.ruled (λ later rest end. low_open refl fits) (at_least_open ts (q next) k l.at_least));
      };
      low = subst (λ v. IsLow s next v c) (sym same) fits;
    }

-- no choice is within a bound
pub none_within : {C I : Type 0} (s : Space C I) (a b : State C I) (k : ℕ) (bound : Option ℕ) → bound ≡ Some k → IsProposing s a k → k < s.most_cost → ((c : C) → ¬ IsLow s bound a.kept c)
    → b.kept ≡ a.kept → IsAsked {T = C} s (Low bound (length a.kept)) asked.Nothing a b → IsAttempt s a b k NoneWithin
none_within {C} {I} s a b k bound is h less lacks same w =
    let next : Option ℕ = bound_at s.most_cost (k + 1) in
    let t : Told C = Refuted (Low (Some k) (length a.kept)) in
    let told : b.told ≡ option_map (λ ts. ts ++ t ∷ []) a.told = subst (λ v. b.told ≡ option_map (λ ts. ts ++ Refuted (Low v (length a.kept)) ∷ []) a.told) is w.told in
    let here : bound_at s.most_cost k ≡ Some k = bound_some s.most_cost k less in
    let none : (c : C) → ¬ IsLow s (Some k) a.kept c = λ c. subst (λ v. ¬ IsLow s v a.kept c) is (lacks c) in (
      record {
        some = h.some;
        most = h.most;
        kept = subst (IsKept s) (sym same) h.kept;
        none = subst (λ v. NoneBelow s v (k + 1)) (sym same) (λ c choice below all. none c (record { choice = choice; within = omega arith; agrees = all }));
        asked = asked_on s a b (DueLow (bound_at s.most_cost k)) (DueLow next) k (k + 1) t h.asked same told (λ ts l.
            leads_on s (DueLow (bound_at s.most_cost k)) (DueLow next) k (k + 1) a.kept ts t l (length a.kept)
            (λ later rest end g. subst (λ v. Asks s (DueLow v) l.ruled a.kept later (t ∷ rest) end) (sym here) (low_refuted refl g))
            (at_least_refuted ts k (length a.kept) l.at_least));
      },
      less,
      ap length same,
    )

-- no choice agrees at all
pub nothing : {C I : Type 0} (s : Space C I) (a b : State C I) (k : ℕ) (bound : Option ℕ) → bound ≡ None → IsProposing s a k → s.most_cost ≤ k → ((c : C) → ¬ IsLow s bound a.kept c)
    → b.kept ≡ a.kept → IsAsked {T = C} s (Low bound (length a.kept)) asked.Nothing a b → IsAnswer s b least.Nothing
nothing {C} {I} s a b k bound is h most lacks same w =
    let t : Told C = Refuted (Low None (length a.kept)) in
    let told : b.told ≡ option_map (λ ts. ts ++ t ∷ []) a.told = subst (λ v. b.told ≡ option_map (λ ts. ts ++ Refuted (Low v (length a.kept)) ∷ []) a.told) is w.told in
    let here : bound_at s.most_cost k ≡ None = bound_none s.most_cost k most in
    let none : (c : C) → ¬ IsLow s None a.kept c = λ c. subst (λ v. ¬ IsLow s v a.kept c) is (lacks c) in
    is_answer s b least.Nothing (subst (IsKept s) (sym same) h.kept)
    (h.some, subst (NoneAgrees s) (sym same) (λ c choice all. none c (record { choice = choice; within = tt; agrees = all })))
    w.budget (λ z. absurd z)
    (asked_end s a b (DueLow (bound_at s.most_cost k)) k t least.Nothing h.asked same told (λ ts l.
    leads_end s (DueLow (bound_at s.most_cost k)) k a.kept ts t NoChoice l
    (subst (λ v. Asks s (DueLow v) l.ruled a.kept [] (t ∷ []) NoChoice) (sym here) (any_refuted refl))))

-- more inputs rule out no fewer choices
none_more : {C I : Type 0} (s : Space C I) (xs ys : List I) (k : ℕ) → NoneBelow s xs k → NoneBelow s (xs ++ ys) k
none_more s xs ys k h = λ c choice w all.
    h c choice w (λ i d v. subst (s.agrees c) (get_or_append_left xs ys d i v) (all i d (simp length-append (omega arith))))

-- a choice that is tried costs exactly what isn't ruled out
exact_cost : {C I : Type 0} (s : Space C I) (a : State C I) (k : ℕ) (c : C) → IsTrying s a k c → k ≡ s.cost c
exact_cost s a k c h =
    let most : s.cost c ≤ s.most_cost = h.going.most c h.low.choice in
    let within : s.cost c ≤ k = elim (bound_cases s.most_cost k) [
      | inl p ↦ (let w : s.cost c ≤ k = subst (λ v. IfSome v (λ j. s.cost c ≤ j)) p.1 h.low.within in w)
      | inr p ↦ (let w = p.0 in omega arith)
    ] in
    elim (cases_lt (s.cost c) k) [ inl p ↦ absurd (h.going.none c h.low.choice p h.low.agrees) | inr p ↦ omega arith ]

-- the choice fails on an input
pub failed : {C I : Type 0} (s : Space C I) (a b : State C I) (k : ℕ) (c : C) (x : I) → IsTrying s a k c → IsFail s c x
    → b.kept ≡ a.kept ++ x ∷ [] → IsAsked s (Fail c) (asked.Found x) a b → IsAttempt s a b k Failed
failed {C} {I} s a b k c x h f more w =
    let bound : Option ℕ = bound_at s.most_cost k in
    let P : List I → Type 0 = λ v. IfSome b.told (LeadsTo s (DueLow bound) k v) in (
      record {
        some = h.going.some;
        most = h.going.most;
        kept = subst (IsKept s) (sym more) (kept_more s a.kept c x h.going.kept h.low.choice h.low.agrees f);
        none = subst (λ v. NoneBelow s v k) (sym more) (none_more s a.kept (x ∷ []) k h.going.none);
        asked = subst P (sym more) (if_more (Open (Fail c) ∷ []) (LeadsTo s (DueFail bound c) k a.kept) (LeadsTo s (DueLow bound) k (a.kept ++ x ∷ [])) a.told b.told w.told
            (λ ts l. leads_failed s bound k a.kept ts c x l f) h.going.asked);
      },
      ap length more ∙ simp length-append,
    )

-- the choice fails nowhere
pub found_least : {C I : Type 0} (s : Space C I) (a b : State C I) (k n : ℕ) (c : C) → IsTrying s a k c → AgreesOn s s.inputs c → n ≡ s.cost c
    → b.kept ≡ a.kept → IsAsked {T = I} s (Fail c) asked.Nothing a b → IsAnswer s b (least.Found c n)
found_least {C} {I} s a b k n c h all cost same w =
    let bound : Option ℕ = bound_at s.most_cost k in
    let t : Told C = Refuted (Fail c) in
    let exact : k ≡ n = exact_cost s a k c h ∙ sym cost in
    is_answer s b (least.Found c n) (subst (IsKept s) (sym same) h.going.kept)
    (h.going.some, record { choice = h.low.choice; cost_of = sym cost; agrees = all; least = subst (λ v. NoneBelow s v n) (sym same) (subst (NoneBelow s a.kept) exact h.going.none) })
    w.budget (λ z. absurd z)
    (asked_end s a b (DueFail bound c) k t (least.Found c n) h.going.asked same w.told (λ ts l.
    ((l.ruled, leads_end s (DueFail bound c) k a.kept ts t (Settled c l.ruled) l fail_refuted), subst (IsAtLeast (ts ++ t ∷ [])) exact (at_least_fail ts c k l.at_least))))

-- the budget is spent
pub spent : {C I T : Type 0} (s : Space C I) (a b : State C I) (due : Due C) (k : ℕ) (question : Question C) → IsGoing s a due k
    → ((ruled : ℕ) → Asks s due ruled a.kept [] (Open question ∷ []) Unfinished)
    → b.kept ≡ a.kept → IsAsked {T = T} s question asked.Spent a b → IsAnswer s b (least.Spent k)
spent {C} {I} s a b due k question h left same w =
    let t : Told C = Open question in
    is_answer s b (least.Spent k) (subst (IsKept s) (sym same) h.kept) (subst (λ v. NoneBelow s v k) (sym same) h.none) w.budget (λ z. w.spent)
    (asked_end s a b due k t (least.Spent k) h.asked same w.told (λ ts l.
    (leads_end s due k a.kept ts t Unfinished l (left l.ruled), at_least_open ts question k l.at_least)))

pub spent_low : {C I : Type 0} (s : Space C I) (a b : State C I) (k : ℕ) (bound : Option ℕ) → bound ≡ bound_at s.most_cost k → IsProposing s a k
    → b.kept ≡ a.kept → IsAsked {T = C} s (Low bound (length a.kept)) asked.Spent a b → IsAnswer s b (least.Spent k)
spent_low {C} s a b k bound is h same w =
    spent s a b (DueLow (bound_at s.most_cost k)) k (Low (bound_at s.most_cost k) (length a.kept)) h (λ ruled. low_left refl) same
    (subst (λ v. IsAsked {T = C} s (Low v (length a.kept)) asked.Spent a b) is w)

-- memory lacked, so the question that was due isn't told
lacked_so : {C I T : Type 0} (s : Space C I) (a b : State C I) (question : Question C) → IsKept s a.kept → IfSome a.told (λ ts. Ends s a.kept ts least.NoMemory)
    → IsAsked {T = T} s question asked.NoMemory a b → IsAnswer s b least.NoMemory
lacked_so s a b question kept told w =
    is_answer s b least.NoMemory (subst (λ v. IsKept s v.kept) (sym w.no_memory) kept) tt w.budget (λ z. absurd z)
    (subst (λ v. IfSome v.told (λ ts. Ends s v.kept ts least.NoMemory)) (sym w.no_memory) told)

pub lacked : {C I T : Type 0} (s : Space C I) (a b : State C I) (due : Due C) (k : ℕ) (question : Question C) → IsGoing s a due k
    → ((ruled : ℕ) → Asks s due ruled a.kept [] (Open question ∷ []) Unfinished) → IsAsked {T = T} s question asked.NoMemory a b → IsAnswer s b least.NoMemory
lacked {C} s a b due k question h left w =
    lacked_so s a b question h.kept
    (if_told (LeadsTo s due k a.kept) (λ ts. Ends s a.kept ts least.NoMemory) a.told (λ ts l. (question, leads_end s due k a.kept ts (Open question) Unfinished l (left l.ruled))) h.asked)
    w

pub lacked_low : {C I : Type 0} (s : Space C I) (a b : State C I) (k : ℕ) (bound : Option ℕ) → bound ≡ bound_at s.most_cost k → IsProposing s a k
    → IsAsked {T = C} s (Low bound (length a.kept)) asked.NoMemory a b → IsAnswer s b least.NoMemory
lacked_low {C} s a b k bound is h w =
    lacked s a b (DueLow (bound_at s.most_cost k)) k (Low (bound_at s.most_cost k) (length a.kept)) h (λ ruled. low_left refl)
    (subst (λ v. IsAsked {T = C} s (Low v (length a.kept)) asked.NoMemory a b) is w)

-- the first input was found
pub starts : {C I : Type 0} (s : Space C I) (a b : State C I) (x : I) → IsFresh a → IsInput s x → NoneAbove s s.most_cost
    → b.kept ≡ a.kept ++ x ∷ [] → IsAsked s First (asked.Found x) a b → IsProposing s b 0
starts {C} {I} s a b x fresh input most more w =
    let kept : b.kept ≡ x ∷ [] = more ∙ ap (λ v. v ++ x ∷ []) fresh.kept in
    let due : Due C = DueLow (bound_at s.most_cost 0) in
    let P : List I → Type 0 = λ v. IfSome b.told (LeadsTo s due 0 v) in
    record {
      some = λ empty. (let m : IsInput s x = input in let n = ap length empty in let i = m.1 in absurd (omega arith));
      most = most;
      kept = subst (IsKept s) (sym kept) (kept_first s x input);
      none = λ c choice below. absurd (omega arith);
      asked = subst P (sym kept) (if_more (Open First ∷ []) (λ ts. ts ≡ []) (LeadsTo s due 0 (x ∷ [])) a.told b.told w.told
          (λ ts empty. subst (λ v. LeadsTo s due 0 (x ∷ []) (v ++ Open First ∷ [])) (sym empty) (leads_first s x input)) fresh.told);
    }

-- the first question is the last
first_ends : {C I : Type 0} (s : Space C I) (a b : State C I) (t : Told C) (answer : Least C) → IsFresh a → Ends s [] (t ∷ []) answer
    → b.kept ≡ [] → b.told ≡ option_map (λ ts. ts ++ t ∷ []) a.told → IfSome b.told (λ ts. Ends s b.kept ts answer)
first_ends {C} {I} s a b t answer fresh h none told =
    let P : List I → Type 0 = λ v. IfSome b.told (λ ts. Ends s v ts answer) in
    subst P (sym none) (if_more (t ∷ []) (λ ts. ts ≡ []) (λ ts. Ends s [] ts answer) a.told b.told told
    (λ ts empty. subst (λ v. Ends s [] (v ++ t ∷ []) answer) (sym empty) h) fresh.told)

-- there is no input
pub no_case : {C I : Type 0} (s : Space C I) (a b : State C I) → IsFresh a → s.inputs ≡ []
    → b.kept ≡ a.kept → IsAsked {T = I} s First asked.Nothing a b → IsAnswer s b least.NoCase
no_case s a b fresh none same w =
    let empty = same ∙ fresh.kept in
    is_answer s b least.NoCase (subst (IsKept s) (sym empty) (kept_none s)) none w.budget (λ z. absurd z)
    (first_ends s a b (Refuted First) least.NoCase fresh first_refuted empty w.told)

-- the budget is spent by the first question
pub first_spent : {C I : Type 0} (s : Space C I) (a b : State C I) → IsFresh a
    → b.kept ≡ a.kept → IsAsked {T = I} s First asked.Spent a b → IsAnswer s b (least.Spent 0)
first_spent s a b fresh same w =
    let empty = same ∙ fresh.kept in
    is_answer s b (least.Spent 0) (subst (IsKept s) (sym empty) (kept_none s)) (λ c choice below. absurd (omega arith)) w.budget (λ z. w.spent)
    (first_ends s a b (Open First) (least.Spent 0) fresh (first_left, at_least_open [] First 0 at_least_none) empty w.told)

-- memory lacked at the first question
pub first_lacked : {C I : Type 0} (s : Space C I) (a b : State C I) → IsFresh a → IsAsked {T = I} s First asked.NoMemory a b → IsAnswer s b least.NoMemory
first_lacked {C} {I} s a b fresh w =
    let P : List I → Type 0 = λ v. IfSome a.told (λ ts. Ends s v ts least.NoMemory) in
    lacked_so s a b First (subst (IsKept s) (sym fresh.kept) (kept_none s))
    (subst P (sym fresh.kept) (if_told (λ ts. ts ≡ []) (λ ts. Ends s [] ts least.NoMemory) a.told (λ ts empty. subst (λ v. Ends s [] v least.NoMemory) (sym empty) (First, first_left)) fresh.told))
    w
