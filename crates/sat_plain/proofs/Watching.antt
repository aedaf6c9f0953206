-- Clauses that are neither unit nor false.
use Rattle.std.proofs.Common.{◌≡◌, ℕ, zero, suc, ◌<◌, ◌≤◌, ◌+◌, ◌-◌, Bool, true, false, not, ◌||◌, List, [], ◌∷◌, ◌++◌, filter, take, take-append-drop, drop, get_or, length, slice_get, Some, refl, sym, ap, ◌∙◌, subst, inl, inr, arith, length-append, reverse}
use Rattle.std.specs.List.{list_any}
use Rattle.std.proofs.lemmas.Bool.{cases_Bool}
use Rattle.std.proofs.lemmas.List.{drop_more, get_or-reverse, length-reverse, get_or-map, length-map}
use Rattle.std.proofs.lemmas.List.Elements.{filter-append}
use Rattle.clause_base.specs.declared.lit.Lit.{Lit}
use Rattle.clause_base.specs.declared.clause.Clause.{Clause}
use Rattle.clause_base.specs.Literals.{opposite, same_literal}
use Rattle.clause_base.specs.Follows.{is_false, open_literals}
use Rattle.sat_plain.specs.declared.trail.Entry.{Entry}
use Rattle.sat_plain.specs.Trails.{IsWatched, is_among, literals_of, oldest}
use Rattle.sat_plain.specs.Searching.{AllWatched}
use Rattle.sat_plain.proofs.Literals.{among_there, open_agree, opposite_back, same_is}

or_both : (a b c d : Bool) → (a || b) ≡ true → (a ≡ true → c ≡ true) → (b ≡ true → d ≡ true) → (c || d) ≡ true
or_both true b c d h f g = let up = f refl in rw up refl
or_both false b true d h f g = refl
or_both false b false d h f g = g h

pub or_false : (a : Bool) → (a || false) ≡ true → a ≡ true
or_false true h = refl
or_false false h = h

some_true : (known more lits : List Lit) → ((l : Lit) → is_among l known ≡ true → is_among l more ≡ true)
    → list_any (λ l. is_among l known) lits ≡ true → list_any (λ l. is_among l more) lits ≡ true
some_true known more [] up h = cc
some_true known more (l ∷ ls) up h =
    or_both (is_among l known) (list_any (λ l. is_among l known) ls) (is_among l more) (list_any (λ l. is_among l more) ls) h (up l) (some_true known more ls up)

-- fewer literals leave more of a clause open
open_fewer : (fewer handled lits : List Lit) → ((l : Lit) → is_among l fewer ≡ true → is_among l handled ≡ true) → length (open_literals handled lits) ≤ length (open_literals fewer lits)
open_fewer fewer handled [] sub = omega arith
open_fewer fewer handled (l ∷ ls) sub =
    let rest : length (open_literals handled ls) ≤ length (open_literals fewer ls) = open_fewer fewer handled ls sub in
    elim (cases_Bool (is_false fewer l)) [
      | inl down ↦ let too : is_false handled l ≡ true = sub (opposite l) down in rw (down, too) rest
      | inr up ↦ elim (cases_Bool (is_false handled l)) [
        | inl down ↦ rw (up, down) (omega arith)
        | inr too ↦ rw (up, too) (omega arith)
      ]
    ]

pub watched_more : (known more handled lits : List Lit) → ((l : Lit) → is_among l known ≡ true → is_among l more ≡ true) → IsWatched known handled lits → IsWatched more handled lits
watched_more known more handled lits up watched = elim watched [ inl some ↦ inl (some_true known more lits up some) | inr two ↦ inr two ]

pub watched_fewer : (known fewer handled lits : List Lit) → ((l : Lit) → is_among l fewer ≡ true → is_among l handled ≡ true) → IsWatched known handled lits → IsWatched known fewer lits
watched_fewer known fewer handled lits sub watched = elim watched [
  | inl some ↦ inl some
  | inr two ↦ let less : length (open_literals handled lits) ≤ length (open_literals fewer lits) = open_fewer fewer handled lits sub in inr (omega arith)
]

-- a literal is handled whose opposite the clause hasn't
watched_handled : (known handled lits : List Lit) (l : Lit) → is_among (opposite l) lits ≡ false → IsWatched known handled lits → IsWatched known (l ∷ handled) lits
watched_handled known handled lits l out watched = elim watched [
  | inl some ↦ inl some
  | inr two ↦
      let same : open_literals (l ∷ handled) lits ≡ open_literals handled lits = open_agree handled (l ∷ handled) lits (λ m here.
      elim (cases_Bool (same_literal (opposite m) l)) [
        | inr other ↦ ap (λ b. b || is_false handled m) other
        | inl is ↦
            let back : m ≡ opposite l = sym (opposite_back m) ∙ ap opposite (same_is (opposite m) l is) in
            let clash : is_among (opposite l) lits ≡ true = ap (λ (k : Lit). is_among k lits) (sym back) ∙ here in
            cc
      ]) in
      inr (subst (λ (ls : List Lit). 2 ≤ length ls) (sym same) two)
]

among_back : (xs ys : List Lit) (l : Lit) → is_among l ys ≡ true → is_among l (xs ++ ys) ≡ true
among_back [] ys l h = h
among_back (x ∷ xs) ys l h = among_there l x (xs ++ ys) (among_back xs ys l h)

pub literals_added : (added entries : List Entry) → literals_of (added ++ entries) ≡ literals_of added ++ literals_of entries
literals_added [] entries = refl
literals_added (e ∷ added) entries = ap (λ (ls : List Lit). e.lit ∷ ls) (literals_added added entries)

pub among_added : (added entries : List Entry) (l : Lit) → is_among l (literals_of entries) ≡ true → is_among l (literals_of (added ++ entries)) ≡ true
among_added added entries l h = ap (is_among l) (literals_added added entries) ∙ among_back (literals_of added) (literals_of entries) l h

among_drop : (n : ℕ) (xs : List Lit) (l : Lit) → is_among l (drop n xs) ≡ true → is_among l xs ≡ true
among_drop zero xs l h = h
among_drop (suc n) [] l h = h
among_drop (suc n) (x ∷ xs) l h = among_there l x xs (among_drop n xs l h)

pub among_oldest : (n : ℕ) (xs : List Lit) (l : Lit) → is_among l (oldest n xs) ≡ true → is_among l xs ≡ true
among_oldest n xs l h = among_drop (length xs - n) xs l h

pub oldest_all : (xs : List Lit) → oldest (length xs) xs ≡ xs
oldest_all xs = let z : length xs - length xs ≡ 0 = omega arith in ap (λ n. drop n xs) z

pub oldest_none : (xs : List Lit) → oldest 0 xs ≡ []
oldest_none [] = refl
oldest_none (x ∷ xs) = let z : length (x ∷ xs) - 0 ≡ suc (length xs - 0) = omega arith in ap (λ n. drop n (x ∷ xs)) z ∙ oldest_none xs

pub oldest_added : (n : ℕ) (xs ys : List Lit) → n ≤ length ys → oldest n (xs ++ ys) ≡ oldest n ys
oldest_added n [] ys h = refl
oldest_added n (x ∷ xs) ys h =
    let long : length (xs ++ ys) ≡ length xs + length ys = length-append xs ys in
    let z : length (x ∷ (xs ++ ys)) - n ≡ suc (length (xs ++ ys) - n) = omega arith in
    ap (λ k. drop k (x ∷ (xs ++ ys))) z ∙ oldest_added n xs ys h

-- the literal at a place, counted with the oldest first
pub oldest_read : (xs : List Entry) (i : ℕ) (d : Entry) → i < length xs → oldest (i + 1) (literals_of (reverse xs)) ≡ (get_or xs i d).lit ∷ oldest i (literals_of (reverse xs))
oldest_read xs i d h =
    let f : Entry → Lit = λ e. e.lit in
    let known : List Lit = literals_of (reverse xs) in
    let long : length known ≡ length xs = length-map (reverse xs) f ∙ length-reverse xs in
    let back : length (reverse xs) ≡ length xs = length-reverse xs in
    let k : ℕ = length known - (i + 1) in
    let below : k < length known = omega arith in
    let inside : k < length xs = omega arith in
    let turned : k < length (reverse xs) = omega arith in
    let next : k + 1 ≡ length known - i = omega arith in
    let place : length xs - 1 - k ≡ i = omega arith in
    let at : get_or known k d.lit ≡ (get_or xs i d).lit = get_or-map f (reverse xs) k d d.lit turned ∙ ap f (get_or-reverse xs k d inside ∙ ap (λ n. get_or xs n d) place) in
    drop_more known k d.lit below ∙ ap (λ (l : Lit). l ∷ drop (k + 1) known) at ∙ ap (λ n. (get_or xs i d).lit ∷ drop n known) next

-- the clauses of a literal were looked at
pub settled_more : (clauses : List Clause) (old new before handled : List Lit) (l : Lit)
    → ((m : Lit) → is_among m old ≡ true → is_among m new ≡ true) → ((m : Lit) → is_among m (l ∷ handled) ≡ true → is_among m old ≡ true)
    → AllWatched clauses old handled
    → ((k : ℕ) (c : Clause) → slice_get clauses k ≡ Some c → is_among (opposite l) c.lits ≡ true → IsWatched new old c.lits)
    → AllWatched clauses new (l ∷ handled)
settled_more clauses old new before handled l up inside settled seen = record {
  each = λ k c e. elim (cases_Bool (is_among (opposite l) c.lits)) [
    | inl here ↦ watched_fewer new (l ∷ handled) old c.lits inside (seen k c e here)
    | inr out ↦ watched_handled new handled c.lits l out (watched_more old new handled c.lits up (settled.each k c e))
  ];
}

pub all_more : (clauses : List Clause) (known more handled : List Lit) → ((l : Lit) → is_among l known ≡ true → is_among l more ≡ true) → AllWatched clauses known handled → AllWatched clauses more handled
all_more clauses known more handled up all = record { each = λ k c e. watched_more known more handled c.lits up (all.each k c e) }

pub two_open : (known : List Lit) (a b : Lit) (rest lits : List Lit) → open_literals known lits ≡ a ∷ b ∷ rest → IsWatched known known lits
two_open known a b rest lits is = let long : length (open_literals known lits) ≡ length (a ∷ b ∷ rest) = ap length is in inr (omega arith)

pub second_open : (known lits : List Lit) (i : ℕ) (d x : Lit) → i < length lits → open_literals known (take i lits) ≡ x ∷ [] → is_false known (get_or lits i d) ≡ false → IsWatched known known lits
second_open known lits i d x within one up =
    let p : Lit → Bool = λ l. not (is_false known l) in
    let here : p (get_or lits i d) ≡ true = ap not up in
    let cut : take i lits ++ drop i lits ≡ lits = take-append-drop i lits in
    let next : drop i lits ≡ get_or lits i d ∷ drop (i + 1) lits = drop_more lits i d within in
    let back : filter p (drop i lits) ≡ get_or lits i d ∷ filter p (drop (i + 1) lits) = ap (filter p) next ∙ rw here refl in
    let whole : filter p lits ≡ x ∷ get_or lits i d ∷ filter p (drop (i + 1) lits) = ap (filter p) (sym cut) ∙ filter-append p (take i lits) (drop i lits) ∙ ap (λ (ys : List Lit). ys ++ filter p (drop i lits)) one ∙ ap (λ (ys : List Lit). x ∷ ys) back in
    two_open known x (get_or lits i d) (filter p (drop (i + 1) lits)) lits whole
