-- Lines spell one list of clauses at most.
use Rattle.std.proofs.Common.{◌≡◌, ◌≤◌, ℕ, Bool, true, not, List, [], ◌∷◌, ◌++◌, length, map, refl, sym, ap, ◌∙◌, subst, append_assoc}
use Rattle.std.specs.List.{list_all}
use Rattle.clause_base.specs.Formulas.{in_range}
use Rattle.clause_base.specs.declared.lit.Lit.{Lit}
use Rattle.step_lines.specs.LineForms.{literal_text}
use Rattle.step_lines.proofs.Apart.{both, cons_head, cons_tail, two}
use Rattle.step_lines.proofs.WordKinds.{literal_words}
use Rattle.dimacs_text.specs.CnfLaws.{OneCnf}
use Rattle.dimacs_text.specs.CnfTexts.{SpellsCnf, SpellsHeader, are_within, clause_words, clauses_words, is_passed, most_vars, zero_word}
use Rattle.dimacs_text.proofs.Bodies.{is_zero, literal_is_one, literal_no_zero}
use Rattle.dimacs_text.proofs.Cuts.{cut_by}
use Rattle.dimacs_text.proofs.Headers.{header_not_passed, header_one}
use Rattle.dimacs_text.proofs.Whole.{all_of_body, body_of, outside_stops}

abbrev is_literal_word : List ℕ → Bool
is_literal_word w = not (is_zero w)

literals_pass : (vars : ℕ) (ls : List Lit) → vars ≤ most_vars → list_all (in_range vars) ls ≡ true → list_all is_literal_word (map literal_text ls) ≡ true
literals_pass vars [] low h = refl
literals_pass vars (l ∷ ls) low h =
    let r = both (in_range vars l) (list_all (in_range vars) ls) h in
    two (is_literal_word (literal_text l)) (list_all is_literal_word (map literal_text ls)) (ap not (literal_no_zero vars l low r.0)) (literals_pass vars ls low r.1)

one_literals : (vars : ℕ) (ks ls : List Lit) → vars ≤ most_vars → list_all (in_range vars) ks ≡ true → list_all (in_range vars) ls ≡ true → map literal_text ks ≡ map literal_text ls → ks ≡ ls
one_literals vars [] [] low h g e = refl
one_literals vars [] (l ∷ ls) low h g e = absurd (cc)
one_literals vars (k ∷ ks) [] low h g e = absurd (cc)
one_literals vars (k ∷ ks) (l ∷ ls) low h g e =
    let a = both (in_range vars k) (list_all (in_range vars) ks) h in
    let b = both (in_range vars l) (list_all (in_range vars) ls) g in
    let first = (literal_words vars).one k l (literal_is_one vars k low a.0) (literal_is_one vars l low b.0) (cons_head (literal_text k) (literal_text l) (map literal_text ks) (map literal_text ls) e) in
    ap (λ x. x ∷ ks) first ∙ ap (λ xs. l ∷ xs) (one_literals vars ks ls low a.1 b.1 (cons_tail (literal_text k) (literal_text l) (map literal_text ks) (map literal_text ls) e))

some_words : (c : List Lit) (rest : List (List ℕ)) → clause_words c ++ rest ≡ [] → ⊥
some_words [] rest e = cc
some_words (l ∷ c) rest e = cc

one_clauses : (vars : ℕ) (cs ds : List (List Lit)) → vars ≤ most_vars → are_within vars cs ≡ true → are_within vars ds ≡ true → clauses_words cs ≡ clauses_words ds → cs ≡ ds
one_clauses vars [] [] low h g e = refl
one_clauses vars [] (d ∷ ds) low h g e = absurd (some_words d (clauses_words ds) (sym e))
one_clauses vars (c ∷ cs) [] low h g e = absurd (some_words c (clauses_words cs) e)
one_clauses vars (c ∷ cs) (d ∷ ds) low h g e =
    let a = both (list_all (in_range vars) c) (are_within vars cs) h in
    let b = both (list_all (in_range vars) d) (are_within vars ds) g in
    let apart : map literal_text c ++ zero_word ∷ clauses_words cs ≡ map literal_text d ++ zero_word ∷ clauses_words ds =
    sym (append_assoc (map literal_text c) (zero_word ∷ []) (clauses_words cs)) ∙ e ∙ append_assoc (map literal_text d) (zero_word ∷ []) (clauses_words ds) in
    let s = cut_by is_literal_word (map literal_text c) (map literal_text d) (zero_word ∷ clauses_words cs) (zero_word ∷ clauses_words ds) (literals_pass vars c low a.0) (literals_pass vars d low b.0) refl refl apart in
    ap (λ x. x ∷ cs) (one_literals vars c d low a.0 b.0 s.front) ∙ ap (λ xs. d ∷ xs) (one_clauses vars cs ds low a.1 b.1 (cons_tail zero_word zero_word (clauses_words cs) (clauses_words ds) s.back))

same_vars : (lines : List (List ℕ)) (v w : ℕ) (cs ds : List (List Lit)) → SpellsCnf lines v cs → SpellsCnf lines w ds → v ≡ w
same_vars lines v w cs ds s t =
    let cut = cut_by is_passed s.before t.before (s.header ∷ (s.body ++ s.behind)) (t.header ∷ (t.body ++ t.behind)) s.passed t.passed (ap not (header_not_passed s.header v (length cs) s.headed)) (ap not (header_not_passed t.header w (length ds) t.headed)) (sym s.written ∙ t.written) in
    let same = cons_head s.header t.header (s.body ++ s.behind) (t.body ++ t.behind) cut.back in
    (header_one s.header v (length cs) w (length ds) s.headed (subst (λ l. SpellsHeader l w (length ds)) (sym same) t.headed)).vars

pub one_cnf : OneCnf
one_cnf lines v w cs ds s t =
    let b = body_of s.before s.header (s.body ++ s.behind) v (length cs) w ds s.passed s.headed (subst (λ x. SpellsCnf x w ds) s.written t) in
    let words = sym s.words ∙ all_of_body s.body s.behind v (length cs) ds s.inside (outside_stops s.behind s.outside) b in
    (same_vars lines v w cs ds s t, one_clauses v cs ds s.headed.few_vars s.within b.within words)
