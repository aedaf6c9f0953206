-- Trails whose variables have one entry each.
use Rattle.std.proofs.Common.{◌≡◌, ℕ, zero, suc, ◌<◌, ◌≤◌, ◌-◌, Bool, true, false, List, [], ◌∷◌, reverse, get_or, length, refl, sym, ap, ◌∙◌, Some, None, Option, inl, inr, arith, subst}
use Rattle.std.specs.Prelude.{if◌then◌else◌, nat_lt, nat_le}
use Rattle.std.specs.Option.{option_map_or}
use Rattle.std.proofs.lemmas.Bool.{and_parts, cases_Bool, ltb-true, leb-true}
use Rattle.std.proofs.lemmas.List.{get_or-reverse, length-reverse}
use Rattle.clause_base.specs.declared.lit.Lit.{Lit}
use Rattle.clause_base.specs.Formulas.{in_range}
use Rattle.clause_base.specs.Literals.{opposite}
use Rattle.clause_base.specs.Follows.{is_false}
use Rattle.sat_watch.specs.Trails.{IsOrdered, decided, is_among, literals_of, standing}
use Rattle.sat_watch.specs.declared.trail.Entry.{Entry}
use Rattle.sat_watch.proofs.Literals.{among_cases, among_here, among_there, opposite_back, never_opposite}

pick : Bool → Bool → Option Bool
pick a b = if a then Some true else (if b then Some false else None)

pick_none : (a b : Bool) → pick a b ≡ None → (a ≡ false) × (b ≡ false)
unfolding pick
pick_none true b h = cc
pick_none false true h = cc
pick_none false false h = (refl, refl)

pick_true : (a b : Bool) → pick a b ≡ Some true → a ≡ true
unfolding pick
pick_true true b h = refl
pick_true false true h = cc
pick_true false false h = cc

pub unset_parts : (known : List Lit) (l : Lit) → standing known l ≡ None → (is_among l known ≡ false) × (is_false known l ≡ false)
unfolding pick
unset_parts known l h = pick_none (is_among l known) (is_false known l) h

pub set_true : (known : List Lit) (l : Lit) → standing known l ≡ Some true → is_among l known ≡ true
unfolding pick
set_true known l h = pick_true (is_among l known) (is_false known l) h

-- no literal is true and false
pub consistent : (vars : ℕ) (es : List Entry) (l : Lit) → IsOrdered vars es → is_among l (literals_of es) ≡ true → is_false (literals_of es) l ≡ false
consistent vars [] l ordered h = cc
consistent vars (e ∷ older) l ordered h =
    let known = literals_of older in
    let none = unset_parts known e.lit ordered.1 in
    elim (cases_Bool (is_false (e.lit ∷ known) l)) [
      | inr up ↦ up
      | inl down ↦
          elim (among_cases l e.lit known h) [
            | inl here ↦
                elim (among_cases (opposite l) e.lit known down) [
                  | inl too ↦ never_opposite l (too ∙ sym here) _ _
                  | inr later ↦ let clash : is_false known e.lit ≡ true = ap (is_false known) (sym here) ∙ later in cc
                ]
            | inr earlier ↦
                elim (among_cases (opposite l) e.lit known down) [
                  | inl too ↦
                      let back : opposite e.lit ≡ l = ap opposite (sym too) ∙ opposite_back l in
                      let clash : is_false known e.lit ≡ true = ap (λ (k : Lit). is_among k known) back ∙ earlier in
                      cc
                  | inr later ↦ let rest = consistent vars older l ordered.2 earlier in cc
                ]
          ]
    ]

pub range_parts : (vars : ℕ) (l : Lit) → in_range vars l ≡ true → (0 < l.var) × (l.var ≤ vars)
range_parts vars l h = let parts = and_parts (nat_lt 0 l.var) (nat_le l.var vars) h in (ltb-true 0 l.var parts.0, leb-true l.var vars parts.1)

ordered_at : (vars : ℕ) (es : List Entry) (k : ℕ) (d : Entry) → IsOrdered vars es → k < length es → in_range vars (get_or es k d).lit ≡ true
ordered_at vars [] k d ordered within = absurd (omega arith)
ordered_at vars (e ∷ older) zero d ordered within = ordered.0
ordered_at vars (e ∷ older) (suc k) d ordered within = ordered_at vars older k d ordered.2 (omega arith)

pub ordered_read : (vars : ℕ) (xs : List Entry) (i : ℕ) (d : Entry) → IsOrdered vars (reverse xs) → i < length xs → in_range vars (get_or xs i d).lit ≡ true
ordered_read vars xs i d ordered within =
    let k : ℕ = length xs - 1 - i in
    let below : k < length xs = omega arith in
    let back : length xs - 1 - k ≡ i = omega arith in
    let at : get_or (reverse xs) k d ≡ get_or xs i d = get_or-reverse xs k d below ∙ ap (λ n. get_or xs n d) back in
    let long : k < length (reverse xs) = rw (length-reverse xs) below in
    subst (λ (e : Entry). in_range vars e.lit ≡ true) at (ordered_at vars (reverse xs) k d ordered long)

by_reason : (older : List Entry) (e : Entry) (l : Lit) (reason : Option ℕ)
    → is_among l (option_map_or (λ number. decided older) reason (e.lit ∷ decided older)) ≡ true
    → (is_among l (decided older) ≡ true → is_among l (literals_of older) ≡ true) → is_among l (literals_of (e ∷ older)) ≡ true
by_reason older e l (Some number) h rest = among_there l e.lit (literals_of older) (rest h)
by_reason older e l None h rest =
    elim (among_cases l e.lit (decided older) h) [
      | inl same ↦ ap (λ (k : Lit). is_among l (k ∷ literals_of older)) (sym same) ∙ among_here l (literals_of older)
      | inr later ↦ among_there l e.lit (literals_of older) (rest later)
    ]

-- the decisions are among the literals that are true
pub decided_among : (es : List Entry) (l : Lit) → is_among l (decided es) ≡ true → is_among l (literals_of es) ≡ true
decided_among [] l h = h
decided_among (e ∷ older) l h = by_reason older e l e.reason h (decided_among older l)
