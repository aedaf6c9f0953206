-- Words behind the header, and where the form can't go on.
use Rattle.std.proofs.Common.{if◌then◌else◌, ◌≡◌, ◌≢◌, ◌⊎◌, inl, inr, ℕ, zero, suc, ◌+◌, ◌<◌, ◌≤◌, Bool, true, false, ◌==◌, List, [], ◌∷◌, ◌++◌, length, map, refl, sym, ap, ◌∙◌, subst, arith, append_assoc, length-append}
use Rattle.std.specs.List.{list_all}
use Rattle.std.proofs.lemmas.Grind.{flat_map-append}
use Rattle.std.proofs.lemmas.List.{append-nil}
use Rattle.clause_base.specs.Formulas.{in_range}
use Rattle.clause_base.specs.declared.lit.Lit.{Lit}
use Rattle.step_lines.specs.LineForms.{literal_text}
use Rattle.step_lines.specs.Limits.{greatest_number, is_literal, is_number}
use Rattle.step_lines.proofs.Apart.{all_append, both, two}
use Rattle.step_lines.proofs.WordKinds.{literal_limits, number_is, zero_sign}
use Rattle.dimacs_text.specs.declared.draft.Draft.{Draft}
use Rattle.dimacs_text.specs.CnfDrafts.{IsDraft, IsStuck, IsUnfinished}
use Rattle.dimacs_text.specs.CnfTexts.{are_within, clause_words, clauses_words, most_vars, zero_word}

-- literals in range are literals of the form
pub literal_is_one : (vars : ℕ) (l : Lit) → vars ≤ most_vars → in_range vars l ≡ true → is_literal vars l ≡ true
literal_is_one vars l low h = two (in_range vars l) (is_number l.var) h (number_is l.var (low_var vars l low h))
  where
    low_var : (vars : ℕ) (l : Lit) → vars ≤ most_vars → in_range vars l ≡ true → l.var ≤ greatest_number
    low_var vars l low h = grind arith

-- the words `0`

abbrev pub is_zero : List ℕ → Bool
is_zero [] = false
is_zero (c ∷ []) = c == 48
is_zero (c ∷ d ∷ cs) = false

zero_is : (w : List ℕ) → is_zero w ≡ true → w ≡ zero_word
zero_is [] h = absurd (cc)
zero_is (c ∷ []) h = let e : c ≡ 48 = grind arith in ap (λ x. x ∷ []) e
zero_is (c ∷ d ∷ cs) h = absurd (cc)

abbrev zeros : List (List ℕ) → ℕ
zeros [] = 0
zeros (w ∷ ws) = (if is_zero w then 1 else 0) + zeros ws

zeros-append : (vs ws : List (List ℕ)) → zeros (vs ++ ws) ≡ zeros vs + zeros ws
zeros-append [] ws = omega arith
zeros-append (v ∷ vs) ws = let h = zeros-append vs ws in omega (arith, h)

pub literal_no_zero : (vars : ℕ) (l : Lit) → vars ≤ most_vars → in_range vars l ≡ true → is_zero (literal_text l) ≡ false
literal_no_zero vars l low h = by_test (is_zero (literal_text l)) refl
  where
    by_test : (b : Bool) → is_zero (literal_text l) ≡ b → b ≡ false
    by_test true e =
        let limits = literal_limits vars l (literal_is_one vars l low h) in
        absurd (zero_sign l.positive l.var limits.some limits.number (zero_is (literal_text l) e))
    by_test false e = refl

zeros_literals : (vars : ℕ) (ls : List Lit) → vars ≤ most_vars → list_all (in_range vars) ls ≡ true → zeros (map literal_text ls) ≡ 0
zeros_literals vars [] low h = refl
zeros_literals vars (l ∷ ls) low h =
    let r = both (in_range vars l) (list_all (in_range vars) ls) h in
    ap (λ b. (if b then 1 else 0) + zeros (map literal_text ls)) (literal_no_zero vars l low r.0) ∙ (let e = zeros_literals vars ls low r.1 in omega (arith, e))

zeros_clauses : (vars : ℕ) (cs : List (List Lit)) → vars ≤ most_vars → are_within vars cs ≡ true → zeros (clauses_words cs) ≡ length cs
zeros_clauses vars [] low h = refl
zeros_clauses vars (c ∷ cs) low h =
    let r = both (list_all (in_range vars) c) (are_within vars cs) h in
    let a = zeros-append (clause_words c) (clauses_words cs) in
    let b = zeros-append (map literal_text c) (zero_word ∷ []) in
    let d = zeros_literals vars c low r.0 in
    let e = zeros_clauses vars cs low r.1 in
    let one : zeros (zero_word ∷ []) ≡ 1 = refl in
    omega (arith, a, b, d, e, one)

zeros_draft : (words : List (List ℕ)) (d : Draft) → IsDraft words d → d.vars ≤ most_vars → zeros words ≡ d.done
zeros_draft words d h low =
    let a = ap zeros h.written in
    let b = zeros-append (clauses_words h.whole) (map literal_text d.pending) in
    let c = zeros_clauses d.vars h.whole low h.within in
    let e = zeros_literals d.vars d.pending low d.pending_in_range in
    omega (arith, a, b, c, e, h.counted)

-- words of clauses end with a `0`

abbrev ends_zero : List (List ℕ) → Bool
ends_zero [] = true
ends_zero (w ∷ []) = is_zero w
ends_zero (w ∷ v ∷ ws) = ends_zero (v ∷ ws)

ends_behind : (xs : List (List ℕ)) (w : List ℕ) (more : List (List ℕ)) → ends_zero (xs ++ w ∷ more) ≡ ends_zero (w ∷ more)
ends_behind [] w more = refl
ends_behind (x ∷ []) w more = refl
ends_behind (x ∷ y ∷ xs) w more = ends_behind (y ∷ xs) w more

ends_both : (xs ys : List (List ℕ)) → ends_zero xs ≡ true → ends_zero ys ≡ true → ends_zero (xs ++ ys) ≡ true
ends_both xs [] h g = ap ends_zero (append-nil xs) ∙ h
ends_both xs (y ∷ ys) h g = ends_behind xs y ys ∙ g

clauses_end : (cs : List (List Lit)) → ends_zero (clauses_words cs) ≡ true
clauses_end [] = refl
clauses_end (c ∷ cs) = ends_both (clause_words c) (clauses_words cs) (ends_behind (map literal_text c) zero_word []) (clauses_end cs)

some_zero : (w : List ℕ) (more : List (List ℕ)) → ends_zero (w ∷ more) ≡ true → 0 < zeros (w ∷ more)
some_zero w [] h = let e : zeros (w ∷ []) ≡ 1 = ap (λ b. (if b then 1 else 0) + 0) h in omega (arith, e)
some_zero w (v ∷ more) h = let e = some_zero v more h in omega (arith, e)

pub few_words : (vars : ℕ) (cs : List (List Lit)) (front more : List (List ℕ)) (w : List ℕ) → vars ≤ most_vars → are_within vars cs ≡ true → front ++ w ∷ more ≡ clauses_words cs → zeros front < length cs
few_words vars cs front more w low h e =
    let a = zeros-append front (w ∷ more) in
    let b = ap zeros e in
    let c = zeros_clauses vars cs low h in
    let d = some_zero w more (sym (ends_behind front w more) ∙ ap ends_zero e ∙ clauses_end cs) in
    omega (arith, a, b, c, d)

-- each word is a `0` or a literal

abbrev Kind : ℕ → List ℕ → Type 0
Kind vars w = (w ≡ zero_word) ⊎ ((l : Lit) × (in_range vars l ≡ true) × (w ≡ literal_text l))

abbrev Kinds : ℕ → List (List ℕ) → Type 0
Kinds vars [] = Unit {0}
Kinds vars (w ∷ ws) = Kind vars w × Kinds vars ws

kinds_append : (vars : ℕ) (vs ws : List (List ℕ)) → Kinds vars vs → Kinds vars ws → Kinds vars (vs ++ ws)
kinds_append vars [] ws h g = g
kinds_append vars (v ∷ vs) ws h g = (h.0, kinds_append vars vs ws h.1 g)

kinds_literals : (vars : ℕ) (ls : List Lit) → list_all (in_range vars) ls ≡ true → Kinds vars (map literal_text ls)
kinds_literals vars [] h = tt
kinds_literals vars (l ∷ ls) h =
    let r = both (in_range vars l) (list_all (in_range vars) ls) h in
    (inr (l, r.0, refl), kinds_literals vars ls r.1)

kinds_clauses : (vars : ℕ) (cs : List (List Lit)) → are_within vars cs ≡ true → Kinds vars (clauses_words cs)
kinds_clauses vars [] h = tt
kinds_clauses vars (c ∷ cs) h =
    let r = both (list_all (in_range vars) c) (are_within vars cs) h in
    kinds_append vars (clause_words c) (clauses_words cs) (kinds_append vars (map literal_text c) (zero_word ∷ []) (kinds_literals vars c r.0) (inl refl, tt)) (kinds_clauses vars cs r.1)

kind_at : (vars : ℕ) (front more : List (List ℕ)) (w : List ℕ) → Kinds vars (front ++ w ∷ more) → Kind vars w
kind_at vars [] more w h = h.0
kind_at vars (v ∷ front) more w h = kind_at vars front more w h.1

-- a word that can't come next
pub stuck_word : (words more : List (List ℕ)) (w : List ℕ) (d : Draft) (cs : List (List Lit)) → IsDraft words d → IsStuck d w → d.vars ≤ most_vars → d.count ≡ length cs → are_within d.vars cs ≡ true → words ++ w ∷ more ≡ clauses_words cs → ⊥
stuck_word words more w d cs h (inl full) low count within e =
    let a = few_words d.vars cs words more w low within e in
    let b = zeros_draft words d h low in
    omega (arith, a, b, full, count)
stuck_word words more w d cs h (inr other) low count within e =
    elim (kind_at d.vars words more w (subst (Kinds d.vars) (sym e) (kinds_clauses d.vars cs within))) [
      | inl z ↦ other.0 z
      | inr k ↦ other.1 k.0 (record { written = k.2; kept = literal_is_one d.vars k.0 low k.1 })
    ]

-- too few clauses
pub unfinished : (words : List (List ℕ)) (d : Draft) (cs : List (List Lit)) → IsDraft words d → IsUnfinished d → d.vars ≤ most_vars → d.count ≡ length cs → are_within d.vars cs ≡ true → words ≡ clauses_words cs → ⊥
unfinished words d cs h (inl few) low count within e =
    let a = zeros_draft words d h low in
    let b = zeros_clauses d.vars cs low within in
    let c = ap zeros e in
    few (omega (arith, a, b, c, count))
unfinished words d cs h (inr some) low count within e =
    let a = zeros_draft words d h low in
    let b = zeros_clauses d.vars cs low within in
    let c = ap zeros e in
    let f = h.room some in
    omega (arith, a, b, c, count, f)

pub none_pending : (words : List (List ℕ)) (d : Draft) (h : IsDraft words d) → d.pending ≡ [] → words ≡ clauses_words h.whole
none_pending words d h none = h.written ∙ ap (λ ls. clauses_words h.whole ++ map literal_text ls) none ∙ append-nil (clauses_words h.whole)

-- the clauses that are left can be written as empty ones

abbrev pub empties : ℕ → List (List Lit)
empties zero = []
empties (suc k) = [] ∷ empties k

abbrev pub zero_words : ℕ → List (List ℕ)
zero_words zero = []
zero_words (suc k) = zero_word ∷ zero_words k

empties_words : (k : ℕ) → clauses_words (empties k) ≡ zero_words k
empties_words zero = refl
empties_words (suc k) = ap (λ t. zero_word ∷ t) (empties_words k)

empties_length : (k : ℕ) → length (empties k) ≡ k
empties_length zero = refl
empties_length (suc k) = ap suc (empties_length k)

empties_within : (vars k : ℕ) → are_within vars (empties k) ≡ true
empties_within vars zero = refl
empties_within vars (suc k) = empties_within vars k

-- the clauses of a draft, completed
pub record Completed (words : List (List ℕ)) (vars count k : ℕ) : Type 0 where
  pub clauses : List (List Lit)
  pub written : words ++ zero_words k ≡ clauses_words clauses
  pub within : are_within vars clauses ≡ true
  pub counted : length clauses ≡ count

pub completed : (words : List (List ℕ)) (d : Draft) → IsDraft words d → (k : ℕ) → d.done + k ≡ d.count → Completed words d.vars d.count k
completed words d h zero e = record {
  clauses = h.whole;
  written = append-nil words ∙ none_pending words d h (nothing d.pending h.room);
  within = h.within;
  counted = omega (arith, e, h.counted);
}
  where
    nothing : (ls : List Lit) → (ls ≢ [] → d.done < d.count) → ls ≡ []
    nothing [] f = refl
    nothing (l ∷ ls) f = absurd (let less = f (λ e. cc) in omega (arith, e, less))
completed words d h (suc k) e = record {
  clauses = h.whole ++ d.pending ∷ empties k;
  written =
      ap (λ t. t ++ zero_words (suc k)) h.written
      ∙ append_assoc (clauses_words h.whole) (map literal_text d.pending) (zero_word ∷ zero_words k)
      ∙ ap (λ t. clauses_words h.whole ++ t) (sym (append_assoc (map literal_text d.pending) (zero_word ∷ []) (zero_words k)))
      ∙ ap (λ t. clauses_words h.whole ++ (clause_words d.pending ++ t)) (sym (empties_words k))
      ∙ sym (flat_map-append clause_words h.whole (d.pending ∷ empties k));
  within = all_append (λ (ls : List Lit). list_all (in_range d.vars) ls) h.whole (d.pending ∷ empties k) h.within (two (list_all (in_range d.vars) d.pending) (are_within d.vars (empties k)) d.pending_in_range (empties_within d.vars k));
  counted =
      let a = length-append h.whole (d.pending ∷ empties k) in
      let b = empties_length k in
      let c : length (d.pending ∷ empties k) ≡ suc (length (empties k)) = refl in
      omega (arith, a, b, c, e, h.counted);
}
