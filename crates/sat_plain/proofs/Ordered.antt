-- Trails whose variables have one entry each.
use Rattle.std.proofs.Common.{◌≡◌, ℕ, zero, suc, ◌<◌, ◌≤◌, ◌-◌, Bool, true, false, not, List, [], ◌∷◌, map, reverse, get_or, length, refl, sym, ap, ◌∙◌, Some, None, Option, eqb, eq-eqb, ne_eqb, ◌==◌, inl, inr, ◌⊎◌, arith, subst}
use Rattle.std.specs.Bool.{beq}
use Rattle.std.specs.Prelude.{if◌then◌else◌, nat_lt, nat_le}
use Rattle.std.specs.Option.{is_some, option_map_or}
use Rattle.std.specs.List.{list_any, list_all}
use Rattle.std.proofs.lemmas.Bool.{and_parts, and_from, or_parts, cases_Bool, ltb-true, leb-true}
use Rattle.std.proofs.lemmas.List.{get_or-reverse, length-reverse}
use Rattle.clause_base.specs.declared.lit.Lit.{Lit}
use Rattle.clause_base.specs.Formulas.{in_range}
use Rattle.clause_base.specs.Literals.{has_no_variable_twice, opposite, same_literal}
use Rattle.clause_base.specs.Follows.{is_false}
use Rattle.sat_plain.specs.Trails.{IsOrdered, decided, is_among, literals_of, standing}
use Rattle.sat_plain.specs.declared.trail.Entry.{Entry}
use Rattle.sat_plain.proofs.Literals.{among_cases, among_here, among_there, opposite_back, never_opposite}

pick : Bool → Bool → Option Bool
pick a b = if a then Some true else (if b then Some false else None)

pick_none : (a b : Bool) → pick a b ≡ None → (a ≡ false) × (b ≡ false)
unfolding pick
pick_none true b h = cc
pick_none false true h = cc
pick_none false false h = (refl, refl)

pick_false : (a b : Bool) → pick a b ≡ Some false → b ≡ true
unfolding pick
pick_false true b h = cc
pick_false false true h = refl
pick_false false false h = cc

pick_true : (a b : Bool) → pick a b ≡ Some true → a ≡ true
unfolding pick
pick_true true b h = refl
pick_true false true h = cc
pick_true false false h = cc

pub unset_parts : (known : List Lit) (l : Lit) → standing known l ≡ None → (is_among l known ≡ false) × (is_false known l ≡ false)
unfolding pick
unset_parts known l h = pick_none (is_among l known) (is_false known l) h

pub set_false : (known : List Lit) (l : Lit) → standing known l ≡ Some false → is_false known l ≡ true
unfolding pick
set_false known l h = pick_false (is_among l known) (is_false known l) h

pub set_true : (known : List Lit) (l : Lit) → standing known l ≡ Some true → is_among l known ≡ true
unfolding pick
set_true known l h = pick_true (is_among l known) (is_false known l) h

-- no literal is true and false
pub consistent : (vars : ℕ) (es : List Entry) (l : Lit) → IsOrdered vars es → is_among l (literals_of es) ≡ true → is_false (literals_of es) l ≡ false
consistent vars [] l ordered h = cc
consistent vars (e ∷ older) l ordered h =
    let known = literals_of older in
    let none = unset_parts known e.lit ordered.1 in
    elim (cases_Bool (is_false (e.lit ∷ known) l)) [
      | inr up ↦ up
      | inl down ↦
          elim (among_cases l e.lit known h) [
            | inl here ↦
                elim (among_cases (opposite l) e.lit known down) [
                  | inl too ↦ never_opposite l (too ∙ sym here) _ _
                  | inr later ↦ let clash : is_false known e.lit ≡ true = ap (is_false known) (sym here) ∙ later in cc
                ]
            | inr earlier ↦
                elim (among_cases (opposite l) e.lit known down) [
                  | inl too ↦
                      let back : opposite e.lit ≡ l = ap opposite (sym too) ∙ opposite_back l in
                      let clash : is_false known e.lit ≡ true = ap (λ (k : Lit). is_among k known) back ∙ earlier in
                      cc
                  | inr later ↦ let rest = consistent vars older l ordered.2 earlier in cc
                ]
          ]
    ]

pub range_parts : (vars : ℕ) (l : Lit) → in_range vars l ≡ true → (0 < l.var) × (l.var ≤ vars)
range_parts vars l h = let parts = and_parts (nat_lt 0 l.var) (nat_le l.var vars) h in (ltb-true 0 l.var parts.0, leb-true l.var vars parts.1)

ordered_at : (vars : ℕ) (es : List Entry) (k : ℕ) (d : Entry) → IsOrdered vars es → k < length es → in_range vars (get_or es k d).lit ≡ true
ordered_at vars [] k d ordered within = absurd (omega arith)
ordered_at vars (e ∷ older) zero d ordered within = ordered.0
ordered_at vars (e ∷ older) (suc k) d ordered within = ordered_at vars older k d ordered.2 (omega arith)

pub ordered_read : (vars : ℕ) (xs : List Entry) (i : ℕ) (d : Entry) → IsOrdered vars (reverse xs) → i < length xs → in_range vars (get_or xs i d).lit ≡ true
ordered_read vars xs i d ordered within =
    let k : ℕ = length xs - 1 - i in
    let below : k < length xs = omega arith in
    let back : length xs - 1 - k ≡ i = omega arith in
    let at : get_or (reverse xs) k d ≡ get_or xs i d = get_or-reverse xs k d below ∙ ap (λ n. get_or xs n d) back in
    let long : k < length (reverse xs) = rw (length-reverse xs) below in
    subst (λ (e : Entry). in_range vars e.lit ≡ true) at (ordered_at vars (reverse xs) k d ordered long)

by_reason : (older : List Entry) (e : Entry) (l : Lit) (reason : Option ℕ)
    → is_among l (option_map_or (λ number. decided older) reason (e.lit ∷ decided older)) ≡ true
    → (is_among l (decided older) ≡ true → is_among l (literals_of older) ≡ true) → is_among l (literals_of (e ∷ older)) ≡ true
by_reason older e l (Some number) h rest = among_there l e.lit (literals_of older) (rest h)
by_reason older e l None h rest =
    elim (among_cases l e.lit (decided older) h) [
      | inl same ↦ ap (λ (k : Lit). is_among l (k ∷ literals_of older)) (sym same) ∙ among_here l (literals_of older)
      | inr later ↦ among_there l e.lit (literals_of older) (rest later)
    ]

-- the decisions are among the literals that are true
pub decided_among : (es : List Entry) (l : Lit) → is_among l (decided es) ≡ true → is_among l (literals_of es) ≡ true
decided_among [] l h = h
decided_among (e ∷ older) l h = by_reason older e l e.reason h (decided_among older l)

kept_reason : (older : List Lit) (l : Lit) (reason : Option ℕ) → is_some reason ≡ true → option_map_or (λ number. older) reason (l ∷ older) ≡ older
kept_reason older l (Some number) h = refl
kept_reason older l None h = cc

none_reason : (older : List Lit) (l : Lit) (reason : Option ℕ) → is_some reason ≡ false → option_map_or (λ number. older) reason (l ∷ older) ≡ l ∷ older
none_reason older l (Some number) h = cc
none_reason older l None h = refl

pub decided_implied : (e : Entry) (older : List Entry) → is_some e.reason ≡ true → decided (e ∷ older) ≡ decided older
decided_implied e older h = kept_reason (decided older) e.lit e.reason h

pub decided_decision : (e : Entry) (older : List Entry) → is_some e.reason ≡ false → decided (e ∷ older) ≡ e.lit ∷ decided older
decided_decision e older h = none_reason (decided older) e.lit e.reason h

pub entry_range : (vars : ℕ) (xs : List Entry) (i : ℕ) (d : Entry) → IsOrdered vars (reverse xs) → 0 < i → i ≤ length xs → (0 < (get_or xs (i - 1) d).lit.var) × ((get_or xs (i - 1) d).lit.var ≤ vars)
entry_range vars xs i d ordered some within = let l : Lit = (get_or xs (i - 1) d).lit in range_parts vars l (ordered_read vars xs (i - 1) d ordered (omega arith))

same_sign : (a b : Bool) → (beq a b ≡ true) ⊎ (beq (not a) b ≡ true)
same_sign true true = inl refl
same_sign true false = inr refl
same_sign false true = inr refl
same_sign false false = inl refl

apart : (l e : Lit) → same_literal l e ≡ false → same_literal (opposite l) e ≡ false → eqb e.var l.var ≡ false
apart l e out none = ne_eqb e.var l.var (λ (same : e.var ≡ l.var).
    let vars : eqb l.var e.var ≡ true = eq-eqb l.var e.var (sym same) in
    elim (same_sign l.positive e.positive) [
      | inl sign ↦ let clash : same_literal l e ≡ true = and_from (eqb l.var e.var) (beq l.positive e.positive) vars sign in cc
      | inr sign ↦ let clash : same_literal (opposite l) e ≡ true = and_from (eqb l.var e.var) (beq (not l.positive) e.positive) vars sign in cc
    ])

absent_by : (older : List Entry) (e : Entry) (l : Lit) (reason : Option ℕ) → same_literal l e.lit ≡ false → same_literal (opposite l) e.lit ≡ false
    → list_any (λ k. k.var == l.var) (map opposite (decided older)) ≡ false
    → list_any (λ k. k.var == l.var) (map opposite (option_map_or (λ number. decided older) reason (e.lit ∷ decided older))) ≡ false
absent_by older e l (Some number) out none rest = rest
absent_by older e l None out none rest = let here : eqb e.lit.var l.var ≡ false = apart l e.lit out none in rw (here, rest) refl

-- where a literal is neither true nor false its variable stands in no decision
absent : (es : List Entry) (l : Lit) → is_among l (literals_of es) ≡ false → is_false (literals_of es) l ≡ false → list_any (λ k. k.var == l.var) (map opposite (decided es)) ≡ false
absent [] l out none = refl
absent (e ∷ older) l out none =
    let here = or_parts (same_literal l e.lit) (is_among l (literals_of older)) out in
    let there = or_parts (same_literal (opposite l) e.lit) (is_false (literals_of older) l) none in
    absent_by older e l e.reason here.0 there.0 (absent older l here.1 there.1)

distinct_by : (older : List Entry) (l : Lit) (reason : Option ℕ) → list_any (λ k. k.var == l.var) (map opposite (decided older)) ≡ false
    → has_no_variable_twice (map opposite (decided older)) ≡ true → has_no_variable_twice (map opposite (option_map_or (λ number. decided older) reason (l ∷ decided older))) ≡ true
distinct_by older l (Some number) out rest = rest
distinct_by older l None out rest = rw (out, rest) refl

pub decided_distinct : (vars : ℕ) (es : List Entry) → IsOrdered vars es → has_no_variable_twice (map opposite (decided es)) ≡ true
decided_distinct vars [] ordered = refl
decided_distinct vars (e ∷ older) ordered =
    let none = unset_parts (literals_of older) e.lit ordered.1 in
    distinct_by older e.lit e.reason (absent older e.lit none.0 none.1) (decided_distinct vars older ordered.2)

range_by : (vars : ℕ) (older : List Entry) (l : Lit) (reason : Option ℕ) → in_range vars l ≡ true → list_all (in_range vars) (map opposite (decided older)) ≡ true
    → list_all (in_range vars) (map opposite (option_map_or (λ number. decided older) reason (l ∷ decided older))) ≡ true
range_by vars older l (Some number) here rest = rest
range_by vars older l None here rest = and_from (in_range vars l) (list_all (in_range vars) (map opposite (decided older))) here rest

pub decided_in_range : (vars : ℕ) (es : List Entry) → IsOrdered vars es → list_all (in_range vars) (map opposite (decided es)) ≡ true
decided_in_range vars [] ordered = refl
decided_in_range vars (e ∷ older) ordered = range_by vars older e.lit e.reason ordered.0 (decided_in_range vars older ordered.2)
