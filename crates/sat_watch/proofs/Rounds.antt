-- A clause that is looked over in two parts.
use Rattle.std.proofs.Common.{◌≡◌, ℕ, ◌<◌, ◌≤◌, ◌+◌, Bool, true, false, not, ◌||◌, List, [], ◌∷◌, ◌++◌, append_assoc, append-nil, take, take-append-drop, drop, get_or, length, length-append, refl, sym, ap, ◌∙◌, inl, inr, arith}
use Rattle.std.specs.Prelude.{IfSome, None, Option, Some, option_to_list}
use Rattle.std.specs.List.{list_any}
use Rattle.std.proofs.lemmas.List.{take_more}
use Rattle.std.proofs.lemmas.List.Elements.{All-drop, All-take, filter-append}
use Rattle.std.proofs.lemmas.List.Folds.{list_any-append}
use Rattle.clause_base.specs.declared.lit.Lit.{Lit}
use Rattle.clause_base.specs.Follows.{is_false, open_literals}
use Rattle.clause_base.specs.Literals.{IsCovered, same_literal}
use Rattle.sat_watch.specs.declared.trail.Scan.{Scan}
use Rattle.sat_watch.specs.declared.trail.Scan.TheVariants.{Closed, One, Other}
use Rattle.sat_watch.specs.Trails.{IsScan, IsWatched, is_among, standing}
use Rattle.sat_watch.proofs.Literals.{among_cases, or_right}
use Rattle.sat_watch.proofs.Ordered.{unset_parts}
use Rattle.sat_watch.proofs.Visiting.{open_among}

pub any_left : (p : Lit → Bool) (xs ys : List Lit) → list_any p xs ≡ true → list_any p (xs ++ ys) ≡ true
any_left p xs ys h = list_any-append p xs ys ∙ ap (λ b. b || list_any p ys) h

pub any_right : (p : Lit → Bool) (xs ys : List Lit) → list_any p ys ≡ true → list_any p (xs ++ ys) ≡ true
any_right p xs ys h = list_any-append p xs ys ∙ or_right (list_any p xs) (list_any p ys) h

pub open_append : (known xs ys : List Lit) → open_literals known (xs ++ ys) ≡ open_literals known xs ++ open_literals known ys
open_append known xs ys = filter-append (λ l. not (is_false known l)) xs ys

pub open_length : (known xs ys : List Lit) → length (open_literals known (xs ++ ys)) ≡ length (open_literals known xs) + length (open_literals known ys)
open_length known xs ys = ap length (open_append known xs ys) ∙ length-append (open_literals known xs) (open_literals known ys)

-- what was seen up to a place of a part, and what is behind it
pub cut_at : (before part : List Lit) (i : ℕ) → (before ++ take i part) ++ drop i part ≡ before ++ part
cut_at before part i = append_assoc before (take i part) (drop i part) ∙ ap (λ (xs : List Lit). before ++ xs) (take-append-drop i part)

pub seen_more : (before part : List Lit) (i : ℕ) (d : Lit) → i < length part → before ++ take (i + 1) part ≡ (before ++ take i part) ++ get_or part i d ∷ []
seen_more before part i d within = ap (λ (xs : List Lit). before ++ xs) (take_more part i d within) ∙ sym (append_assoc before (take i part) (get_or part i d ∷ []))

-- a literal more that is false, and one that isn't
pub false_more : (known before part found : List Lit) (i : ℕ) (d : Lit) → i < length part → open_literals known (before ++ take i part) ≡ found → is_false known (get_or part i d) ≡ true
    → open_literals known (before ++ take (i + 1) part) ≡ found
false_more known before part found i d within is down =
    let none : open_literals known (get_or part i d ∷ []) ≡ [] = rw down refl in
    ap (open_literals known) (seen_more before part i d within) ∙ open_append known (before ++ take i part) (get_or part i d ∷ [])
    ∙ ap (λ (xs : List Lit). xs ++ open_literals known (get_or part i d ∷ [])) is ∙ ap (λ (xs : List Lit). found ++ xs) none ∙ append-nil found

pub open_more : (known before part : List Lit) (i : ℕ) (d : Lit) → i < length part → open_literals known (before ++ take i part) ≡ [] → is_false known (get_or part i d) ≡ false
    → open_literals known (before ++ take (i + 1) part) ≡ get_or part i d ∷ []
open_more known before part i d within is up =
    let one : open_literals known (get_or part i d ∷ []) ≡ get_or part i d ∷ [] = rw up refl in
    ap (open_literals known) (seen_more before part i d within) ∙ open_append known (before ++ take i part) (get_or part i d ∷ [])
    ∙ ap (λ (xs : List Lit). xs ++ open_literals known (get_or part i d ∷ [])) is ∙ one

-- what was found before a part is looked over
pub open_found : (known : List Lit) (found : Option Lit) → IfSome found (λ l. standing known l ≡ None) → open_literals known (option_to_list found ++ []) ≡ option_to_list found
open_found known None unset = refl
open_found known (Some l) unset = let up = (unset_parts known l unset).1 in rw up refl

pub covered_front : (vars n : ℕ) (lits : List Lit) → IsCovered vars lits → IsCovered vars (take n lits)
covered_front vars n lits covered = record { each = All-take (λ (l : Lit). (0 < l.var) × (l.var ≤ vars)) n lits covered.each }

pub covered_back : (vars n : ℕ) (lits : List Lit) → IsCovered vars lits → IsCovered vars (drop n lits)
covered_back vars n lits covered = record { each = All-drop (λ (l : Lit). (0 < l.var) × (l.var ≤ vars)) n lits covered.each }

-- what a look over the front finds, once all literals behind are false
pub scan_closed : (known front back : List Lit) (scan : Scan) → open_literals known back ≡ [] → IsScan known front scan → IsScan known (front ++ back) scan
scan_closed known front back Closed none is = open_append known front back ∙ ap (λ (xs : List Lit). xs ++ open_literals known back) is ∙ none
scan_closed known front back (One l) none is = (open_append known front back ∙ ap (λ (xs : List Lit). xs ++ open_literals known back) is.0 ∙ ap (λ (xs : List Lit). l ∷ xs) none, is.1)
scan_closed known front back (Other l place) none is =
    let long = open_length known front back in
    let watched : IsWatched known (front ++ back) = elim is.0 [
      | inl some ↦ inl (any_left (λ k. is_among k known) front back some)
      | inr two ↦ inr (omega arith)
    ] in
    (watched, any_left (same_literal l) front back is.1)

-- and once all but one are
pub scan_one : (known front back : List Lit) (x : Lit) (scan : Scan) → open_literals known back ≡ x ∷ [] → standing known x ≡ None → IsScan known (x ∷ front) scan → IsScan known (front ++ back) scan
scan_one known front back x Closed one unset is = let up = (unset_parts known x unset).1 in let clash : x ∷ open_literals known front ≡ [] = rw up at is in cc
scan_one known front back x (One l) one unset is =
    let up = (unset_parts known x unset).1 in
    let both : x ∷ open_literals known front ≡ l ∷ [] = rw up at is.0 in
    let none : open_literals known front ≡ [] = cc in
    let same : x ≡ l = cc in
    (open_append known front back ∙ ap (λ (xs : List Lit). xs ++ open_literals known back) none ∙ one ∙ ap (λ (k : Lit). k ∷ []) same, is.1)
scan_one known front back x (Other l place) one unset is =
    let parts = unset_parts known x unset in
    let up = parts.1 in
    let long = open_length known front back in
    let last : length (open_literals known back) ≡ 1 = ap length one in
    let watched : IsWatched known (front ++ back) = elim is.0 [
      | inl some ↦ let some_front : list_any (λ k. is_among k known) front ≡ true = sym (ap (λ b. b || list_any (λ k. is_among k known) front) parts.0) ∙ some in inl (any_left (λ k. is_among k known) front back some_front)
      | inr two ↦ let two_here : 2 ≤ length (x ∷ open_literals known front) = rw up at two in inr (omega arith)
    ] in
    let among : is_among l (front ++ back) ≡ true = elim (among_cases l x front is.1) [
      | inl same ↦ any_right (same_literal l) front back (ap (λ (k : Lit). is_among k back) same ∙ open_among known back x one)
      | inr here ↦ any_left (same_literal l) front back here
    ] in
    (watched, among)

-- what a look over the back finds that is true or the second
pub scan_other : (known front back : List Lit) (l : Lit) (place : ℕ) → IsScan known back (Other l place) → IsScan known (front ++ back) (Other l place)
scan_other known front back l place is =
    let long = open_length known front back in
    let watched : IsWatched known (front ++ back) = elim is.0 [
      | inl some ↦ inl (any_right (λ k. is_among k known) front back some)
      | inr two ↦ inr (omega arith)
    ] in
    (watched, any_right (same_literal l) front back is.1)
