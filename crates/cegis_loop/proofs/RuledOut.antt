-- What a whole search ruled out.
use Rattle.std.specs.Prelude.{◌≡◌, ℕ, zero, suc, ◌+◌, ◌-◌, ◌≤◌, List, [], ◌∷◌, ◌++◌, length, Option, Some, None, IfSome, ◌⊎◌, refl}
use Rattle.std.specs.List.{Contains}
use Rattle.std.proofs.Common.{sym, ap, subst, inl, inr, arith, zero-add}
use Rattle.std.proofs.lemmas.List.{length-append}
use Rattle.std.proofs.lemmas.List.Elements.{Contains-append_left, Contains-push, Contains-push_cases}
use Rattle.cegis_loop.specs.Space.{Space, IsLow, NoneAbove}
use Rattle.cegis_loop.specs.State.{First, Low, Fail, Told, Refuted, Open}
use Rattle.cegis_loop.specs.Order.{Asks, first_refuted, first_open, first_left, low_refuted, any_refuted, low_open, low_left, fail_refuted, fail_open, fail_left, Due, DueFirst, DueLow, DueFail, End, NoInput, NoChoice, Settled, Unfinished, bound_at, IsAtLeast, IsWholeSearch, no_choice, settled, closed}
use Rattle.cegis_loop.specs.OrderLaws.{CheaperRuledOut, ChoiceDidntFail, AnyRuledOut}
use Rattle.cegis_loop.proofs.Steps.{bound_cases}

first_contained : {X : Type 0} (x : X) (xs : List X) → Contains (x ∷ xs) x
first_contained x xs = (0, omega arith, refl)

later_contained : {X : Type 0} (y x : X) (xs : List X) → Contains xs x → Contains (y ∷ xs) x
later_contained y x xs c = (suc c.0, (let b = c.1 in omega arith), c.2)

-- a choice within a bound
pub record IsWithin {C I : Type 0} (s : Space C I) (k : ℕ) (c : C) : Type 0 where
  pub choice : s.is_choice c
  pub within : IfSome (bound_at s.most_cost k) (λ m. s.cost c ≤ m)

-- a choice that fails nowhere was found within the bound that is due, or within that behind the last refuted one
abbrev LastLow : {C I : Type 0} → Space C I → ℕ → ℕ → ℕ → List (Told C) → End C → Type 0
LastLow s k ruled all asked NoInput = Unit {0}
LastLow s k ruled all asked NoChoice = Unit {0}
LastLow s k ruled all asked Unfinished = Unit {0}
LastLow s k ruled all asked (Settled c cases) =
    ((cases ≡ ruled) × IsWithin s k c)
    ⊎ ((j : ℕ) × (cases ≤ all) × Contains asked (Refuted (Low (Some j) cases)) × IsWithin s (j + 1) c)

-- where the questions stand
abbrev IsLevel : {C I : Type 0} → Space C I → ℕ → Due C → Type 0
IsLevel s k DueFirst = k ≡ 0
IsLevel s k (DueLow bound) = bound ≡ bound_at s.most_cost k
IsLevel s k (DueFail bound c) = (bound ≡ bound_at s.most_cost k) × IsWithin s k c

-- one question more in front
on : {C I : Type 0} (s : Space C I) (k ruled all more : ℕ) (t : Told C) (asked : List (Told C)) (end : End C) → all ≡ more → LastLow s k ruled all asked end → LastLow s k ruled more (t ∷ asked) end
on s k ruled all more t asked NoInput e h = tt
on s k ruled all more t asked NoChoice e h = tt
on s k ruled all more t asked Unfinished e h = tt
on s k ruled all more t asked (Settled c cases) e (inl p) = inl p
on s k ruled all more t asked (Settled c cases) e (inr p) = inr (p.0, (let w = p.1 in omega arith), later_contained t (Refuted (Low (Some p.0) cases)) asked p.2, p.3)

refuted_on : {C I : Type 0} (s : Space C I) (k j n ruled all : ℕ) (asked : List (Told C)) (end : End C) → n ≤ all → LastLow s (j + 1) n all asked end
    → LastLow s k ruled all (Refuted (Low (Some j) n) ∷ asked) end
refuted_on s k j n ruled all asked NoInput e h = tt
refuted_on s k j n ruled all asked NoChoice e h = tt
refuted_on s k j n ruled all asked Unfinished e h = tt
refuted_on {C} s k j n ruled all asked (Settled c cases) e (inl p) =
    let q : n ≡ cases = sym p.0 in
    inr (j, omega arith, subst (λ m. Contains (Refuted (Low (Some j) n) ∷ asked) (Refuted (Low (Some j) m))) q (first_contained (Refuted (Low (Some j) n)) asked), p.1)
refuted_on s k j n ruled all asked (Settled c cases) e (inr p) = inr (p.0, p.1, later_contained (Refuted (Low (Some j) n)) (Refuted (Low (Some p.0) cases)) asked p.2, p.3)

within_low : {C I : Type 0} (s : Space C I) (k : ℕ) (bound : Option ℕ) (before : List I) (c : C) → bound ≡ bound_at s.most_cost k → IsLow s bound before c → IsWithin s k c
within_low s k bound before c e low = record { choice = low.choice; within = subst (λ b. IfSome b (λ m. s.cost c ≤ m)) e low.within }

last_low : {C I : Type 0} {s : Space C I} {due : Due C} {ruled : ℕ} {before later : List I} {asked : List (Told C)} {end : End C}
    → Asks s due ruled before later asked end → (k : ℕ) → IsLevel s k due → LastLow s k ruled (length before + length later) asked end
last_low first_refuted k e = tt
last_low {s = s} (first_open {ruled = ruled} {x = x} {later = later} {rest = rest} {end = end} m h) k e =
    on s k ruled (1 + length later) (0 + length (x ∷ later)) (Open First) rest end (omega arith) (last_low h k (ap (bound_at s.most_cost) (sym e)))
last_low first_left k e = tt
last_low {s = s} (low_refuted {k = j} {cases = n} {ruled = ruled} {before = before} {later = later} {rest = rest} {end = end} many h) k e =
    refuted_on s k j n ruled (length before + length later) rest end (omega arith) (last_low h (j + 1) refl)
last_low (any_refuted many) k e = tt
last_low {s = s} (low_open {bound = bound} {cases = n} {ruled = ruled} {before = before} {later = later} {c = c} {rest = rest} {end = end} many low h) k e =
    on s k ruled (length before + length later) (length before + length later) (Open (Low bound n)) rest end refl (last_low h k (e, within_low s k bound before c e low))
last_low (low_left many) k e = tt
last_low fail_refuted k e = inl (refl, e.1)
last_low {s = s} (fail_open {bound = bound} {ruled = ruled} {before = before} {later = later} {c = c} {x = x} {rest = rest} {end = end} f h) k e =
    on s k ruled (length (before ++ x ∷ []) + length later) (length before + length (x ∷ later)) (Open (Fail c)) rest end (omega (arith, length-append before (x ∷ []))) (last_low h k e.0)
last_low fail_left k e = tt

-- the cost of a choice within a bound
most : {C I : Type 0} (s : Space C I) (k : ℕ) (c : C) → NoneAbove s s.most_cost → IsWithin s k c → s.cost c ≤ k
most s k c above w = elim (bound_cases s.most_cost k) [
  | inl p ↦ subst (λ b. IfSome b (λ m. s.cost c ≤ m)) p.1 w.within
  | inr p ↦ (let a = above c w.choice in let b = p.0 in omega arith)
]

at_last : {C I : Type 0} (s : Space C I) (kept : List I) (asked : List (Told C)) (c : C) (cases less : ℕ) → NoneAbove s s.most_cost → length kept ≤ cases
    → IsAtLeast asked (s.cost c) → s.cost c ≡ suc less → LastLow s 0 0 (length kept) asked (Settled c cases) → Contains asked (Refuted (Low (Some less) (length kept)))
at_last s kept asked c cases less above over least costs (inl p) = absurd (let w = most s 0 c above p.1 in omega arith)
at_last {C} s kept asked c cases less above over least costs (inr p) =
    let w = most s (p.0 + 1) c above p.3 in
    let v = least.none p.0 cases p.2 in
    let u : p.0 ≡ less = omega arith in
    let n : cases ≡ length kept = (let q = p.1 in omega arith) in
    subst (λ j. Contains asked (Refuted (Low (Some j) (length kept)))) u (subst (λ m. Contains asked (Refuted (Low (Some p.0) m))) n p.2)

pub cheaper_ruled_out : {C I : Type 0} (s : Space C I) → CheaperRuledOut s
cheaper_ruled_out s kept asked c cases less above (settled h x) least costs =
    at_last s kept asked c cases less above (elim x [ inl p ↦ absurd (omega arith) | inr p ↦ p ]) least costs
    (subst (λ n. LastLow s 0 0 n asked (Settled c cases)) (zero-add (length kept)) (last_low h 0 refl))
cheaper_ruled_out {C} s kept asked c cases less above (closed {asked = part} {all = all} needs many whole) least costs =
    let n : s.cost c - 1 ≡ less = omega arith in
    let t : Contains asked (Refuted (Low (Some (s.cost c - 1)) all)) = subst (λ ts. Contains ts (Refuted (Low (Some (s.cost c - 1)) all))) (sym whole) (Contains-push part (Refuted (Low (Some (s.cost c - 1)) all))) in
    subst (λ j. Contains asked (Refuted (Low (Some j) (length kept)))) n (subst (λ m. Contains asked (Refuted (Low (Some (s.cost c - 1)) m))) many t)

-- THE QUESTION WHETHER THE CHOICE FAILS

abbrev HasFail : {C : Type 0} → List (Told C) → End C → Type 0
HasFail asked NoInput = Unit {0}
HasFail asked NoChoice = Unit {0}
HasFail asked Unfinished = Unit {0}
HasFail asked (Settled c cases) = Contains asked (Refuted (Fail c))

fail_on : {C : Type 0} (t : Told C) (asked : List (Told C)) (end : End C) → HasFail asked end → HasFail (t ∷ asked) end
fail_on t asked NoInput h = tt
fail_on t asked NoChoice h = tt
fail_on t asked Unfinished h = tt
fail_on t asked (Settled c cases) h = later_contained t (Refuted (Fail c)) asked h

has_fail : {C I : Type 0} {s : Space C I} {due : Due C} {ruled : ℕ} {before later : List I} {asked : List (Told C)} {end : End C} → Asks s due ruled before later asked end → HasFail asked end
has_fail first_refuted = tt
has_fail (first_open {rest = rest} {end = end} m h) = fail_on (Open First) rest end (has_fail h)
has_fail first_left = tt
has_fail (low_refuted {k = k} {cases = n} {rest = rest} {end = end} many h) = fail_on (Refuted (Low (Some k) n)) rest end (has_fail h)
has_fail (any_refuted many) = tt
has_fail (low_open {bound = bound} {cases = n} {rest = rest} {end = end} many low h) = fail_on (Open (Low bound n)) rest end (has_fail h)
has_fail (low_left many) = tt
has_fail (fail_refuted {c = c}) = first_contained (Refuted (Fail c)) []
has_fail (fail_open {c = c} {rest = rest} {end = end} f h) = fail_on (Open (Fail c)) rest end (has_fail h)
has_fail fail_left = tt

-- a question of another form in front
past : {C : Type 0} (t u : Told C) (asked : List (Told C)) → (t ≡ u → ⊥) → Contains (t ∷ asked) u → Contains asked u
past t u asked other (zero, b, e) = absurd (other e)
past t u asked other (suc i, b, e) = (i, omega (arith, b), e)

none_in : {C : Type 0} (t : Told C) → Contains [] t → ⊥
none_in t m = (let b = m.1 in omega arith)

abbrev IsAlone : {C : Type 0} → C → End C → Type 0
IsAlone e NoInput = ⊥
IsAlone e NoChoice = ⊥
IsAlone e Unfinished = ⊥
IsAlone e (Settled c cases) = e ≡ c

fail_alone : {C I : Type 0} {s : Space C I} {due : Due C} {ruled : ℕ} {before later : List I} {asked : List (Told C)} {end : End C} (e : C) → Asks s due ruled before later asked end
    → Contains asked (Refuted (Fail e)) → IsAlone e end
fail_alone e first_refuted m = none_in (Refuted (Fail e)) (past (Refuted First) (Refuted (Fail e)) [] (λ q. cc) m)
fail_alone e (first_open {rest = rest} i h) m = fail_alone e h (past (Open First) (Refuted (Fail e)) rest (λ q. cc) m)
fail_alone e first_left m = none_in (Refuted (Fail e)) (past (Open First) (Refuted (Fail e)) [] (λ q. cc) m)
fail_alone e (low_refuted {k = k} {cases = n} {rest = rest} many h) m = fail_alone e h (past (Refuted (Low (Some k) n)) (Refuted (Fail e)) rest (λ q. cc) m)
fail_alone e (any_refuted {cases = n} many) m = none_in (Refuted (Fail e)) (past (Refuted (Low None n)) (Refuted (Fail e)) [] (λ q. cc) m)
fail_alone e (low_open {bound = bound} {cases = n} {rest = rest} many low h) m = fail_alone e h (past (Open (Low bound n)) (Refuted (Fail e)) rest (λ q. cc) m)
fail_alone e (low_left {bound = bound} {cases = n} many) m = none_in (Refuted (Fail e)) (past (Open (Low bound n)) (Refuted (Fail e)) [] (λ q. cc) m)
fail_alone e (fail_refuted {c = c}) (zero, b, q) = (cc)
fail_alone e fail_refuted (suc i, b, q) = absurd (omega (arith, b))
fail_alone e (fail_open {c = c} {rest = rest} f h) m = fail_alone e h (past (Open (Fail c)) (Refuted (Fail e)) rest (λ q. cc) m)
fail_alone e (fail_left {c = c}) m = none_in (Refuted (Fail e)) (past (Open (Fail c)) (Refuted (Fail e)) [] (λ q. cc) m)

whole_has : {C I : Type 0} (s : Space C I) (kept : List I) (asked : List (Told C)) (c : C) (cases : ℕ) → IsWholeSearch s kept asked (Settled c cases) → Contains asked (Refuted (Fail c))
whole_has s kept asked c cases (settled h x) = has_fail h
whole_has {C} s kept asked c cases (closed {asked = part} {all = all} needs many whole) =
    let t : Told C = Refuted (Low (Some (s.cost c - 1)) all) in
    subst (λ ts. Contains ts (Refuted (Fail c))) (sym whole) (Contains-append_left part (t ∷ []) (Refuted (Fail c)) (has_fail needs.search))

whole_alone : {C I : Type 0} (s : Space C I) (kept : List I) (asked : List (Told C)) (c e : C) (cases : ℕ) → IsWholeSearch s kept asked (Settled c cases) → Contains asked (Refuted (Fail e)) → e ≡ c
whole_alone s kept asked c e cases (settled h x) m = fail_alone e h m
whole_alone {C} s kept asked c e cases (closed {asked = part} {all = all} needs many whole) m =
    let t : Told C = Refuted (Low (Some (s.cost c - 1)) all) in
    elim (Contains-push_cases part t (Refuted (Fail e)) (subst (λ ts. Contains ts (Refuted (Fail e))) whole m)) [
      | inl v ↦ fail_alone e needs.search v
      | inr q ↦ (cc)
    ]

pub choice_didnt_fail : {C I : Type 0} (s : Space C I) → ChoiceDidntFail s
choice_didnt_fail s = record { refuted = whole_has s; alone = whole_alone s }

-- THE QUESTION FOR ANY CHOICE

abbrev HasAny : {C : Type 0} → ℕ → List (Told C) → End C → Type 0
HasAny all asked NoInput = Unit {0}
HasAny all asked NoChoice = Contains asked (Refuted (Low None all))
HasAny all asked Unfinished = Unit {0}
HasAny all asked (Settled c cases) = Unit {0}

any_on : {C : Type 0} (all more : ℕ) (t : Told C) (asked : List (Told C)) (end : End C) → all ≡ more → HasAny all asked end → HasAny more (t ∷ asked) end
any_on all more t asked NoInput e h = tt
any_on {C} all more t asked NoChoice e h =
    let any : ℕ → Told C = λ n. Refuted (Low None n) in later_contained t (any more) asked (subst (λ n. Contains asked (any n)) e h)
any_on all more t asked Unfinished e h = tt
any_on all more t asked (Settled c cases) e h = tt

has_any : {C I : Type 0} {s : Space C I} {due : Due C} {ruled : ℕ} {before later : List I} {asked : List (Told C)} {end : End C}
    → Asks s due ruled before later asked end → HasAny (length before + length later) asked end
has_any first_refuted = tt
has_any (first_open {x = x} {later = later} {rest = rest} {end = end} m h) =
    any_on (1 + length later) (0 + length (x ∷ later)) (Open First) rest end (omega arith) (has_any h)
has_any first_left = tt
has_any (low_refuted {k = k} {cases = n} {before = before} {later = later} {rest = rest} {end = end} many h) =
    any_on (length before + length later) (length before + length later) (Refuted (Low (Some k) n)) rest end refl (has_any h)
has_any {C = C} (any_refuted {cases = n} {before = before} many) =
    let e : n ≡ length before + 0 = omega arith in
    let any : ℕ → Told C = λ n. Refuted (Low None n) in subst (λ m. Contains (any n ∷ []) (any m)) e (first_contained (any n) [])
has_any (low_open {bound = bound} {cases = n} {before = before} {later = later} {rest = rest} {end = end} many low h) =
    any_on (length before + length later) (length before + length later) (Open (Low bound n)) rest end refl (has_any h)
has_any (low_left many) = tt
has_any fail_refuted = tt
has_any (fail_open {before = before} {later = later} {c = c} {x = x} {rest = rest} {end = end} f h) =
    any_on (length (before ++ x ∷ []) + length later) (length before + length (x ∷ later)) (Open (Fail c)) rest end (omega (arith, length-append before (x ∷ []))) (has_any h)
has_any fail_left = tt

pub any_ruled_out : {C I : Type 0} (s : Space C I) → AnyRuledOut s
any_ruled_out {C} s kept asked (no_choice h) =
    let any : ℕ → Told C = λ n. Refuted (Low None n) in subst (λ n. Contains asked (any n)) (zero-add (length kept)) (has_any h)
