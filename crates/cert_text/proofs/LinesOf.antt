-- A line spells one thing of each kind at most, and no two of other kinds.
use Rattle.std.proofs.Common.{◌≡◌, ℕ, ◌≤◌, true, List, [], ◌∷◌, ◌++◌, codes, map, Option, None, Some, IfSome, refl, sym, ap, ◌∙◌, subst, arith}
use Rattle.std.specs.Fmt.{decimal}
use Rattle.std.proofs.lemmas.List.{append-nil, append_cancel_left}
use Rattle.choice_tree.specs.declared.selection.Choice.{Choice}
use Rattle.clause_base.specs.declared.clause.Clause.{Clause}
use Rattle.mpy_tree.specs.declared.value.Value.{Value}
use Rattle.clause_base.specs.declared.log.Step.{Step}
use Rattle.input_space.specs.Cases.{SpellsCase}
use Rattle.input_space.specs.CaseLaws.{OneCase}
use Rattle.input_space.specs.declared.case.Case.{Case}
use Rattle.input_space.specs.declared.session.Query.{Query}
use Rattle.input_space.specs.declared.session.Query.TheVariants as query
use Rattle.cert_text.specs.declared.cert.Claim.{Claim}
use Rattle.cert_text.specs.declared.cert.Claim.TheVariants as claim
use Rattle.step_lines.proofs.Apart.{cons_tail, cut, unlike}
use Rattle.step_lines.proofs.Decimals.{decimal_lacks, decimal_one, space_is_other}
use Rattle.step_lines.proofs.Rows.{nothing_stops, same_list, starts_at}
use Rattle.step_lines.proofs.Values.{same_clause, same_step}
use Rattle.step_lines.proofs.WordKinds.{hint_words, hints_end, literal_words, literals_end}
use Rattle.step_lines.specs.Limits.{greatest_number, is_hint, is_literal}
use Rattle.step_lines.specs.LineForms.{list_end, literal_text, literals_text}
use Rattle.step_lines.specs.Lines.{lacks, spaced}
use Rattle.step_lines.specs.Steps.{SpellsStep}
use Rattle.cert_text.specs.Drafts.{IsClaim, SpellsClaim, SpellsClause, SpellsQuery, SpellsSelection, SpellsVars}
use Rattle.cert_text.specs.Limits.{KeepsChoices, KeepsQuery, greatest_cost, is_choice}
use Rattle.cert_text.specs.LineForms.{SpellsCaseLine, choice_text, choices_text, claim_line, most_text, query_line, set_apart}
use Rattle.cert_text.proofs.WordKinds.{choice_words}

-- claims

cost_low : (n : ℕ) → n ≤ greatest_cost → n ≤ greatest_number
cost_low n h = omega arith

pub one_claim : (line : List ℕ) (c d : Claim) → SpellsClaim line c → SpellsClaim line d → c ≡ d
one_claim line c d h g = by_line c d h.kept g.kept (sym h.written ∙ g.written)
  where
    by_line : (c d : Claim) → IsClaim c → IsClaim d → claim_line c ≡ claim_line d → c ≡ d
    by_line (claim.Cost m) (claim.Cost n) h g e =
        ap claim.Cost (decimal_one m n (omega arith) (omega arith) (append_cancel_left (codes "claim cost ") (decimal m) (decimal n) e))
    by_line (claim.Cost m) claim.Nothing h g e = absurd (unlike 99 110 (codes "ost " ++ decimal m) (codes "one") refl (append_cancel_left (codes "claim ") (codes "cost " ++ decimal m) (codes "none") e))
    by_line (claim.Cost m) (claim.Spent n) h g e = absurd (unlike 99 115 (codes "ost " ++ decimal m) (codes "pent " ++ decimal n) refl (append_cancel_left (codes "claim ") (codes "cost " ++ decimal m) (codes "spent " ++ decimal n) e))
    by_line claim.Nothing (claim.Cost n) h g e = absurd (unlike 110 99 (codes "one") (codes "ost " ++ decimal n) refl (append_cancel_left (codes "claim ") (codes "none") (codes "cost " ++ decimal n) e))
    by_line claim.Nothing claim.Nothing h g e = refl
    by_line claim.Nothing (claim.Spent n) h g e = absurd (unlike 110 115 (codes "one") (codes "pent " ++ decimal n) refl (append_cancel_left (codes "claim ") (codes "none") (codes "spent " ++ decimal n) e))
    by_line (claim.Spent m) (claim.Cost n) h g e = absurd (unlike 115 99 (codes "pent " ++ decimal m) (codes "ost " ++ decimal n) refl (append_cancel_left (codes "claim ") (codes "spent " ++ decimal m) (codes "cost " ++ decimal n) e))
    by_line (claim.Spent m) claim.Nothing h g e = absurd (unlike 115 110 (codes "pent " ++ decimal m) (codes "one") refl (append_cancel_left (codes "claim ") (codes "spent " ++ decimal m) (codes "none") e))
    by_line (claim.Spent m) (claim.Spent n) h g e =
        let a : m ≤ greatest_number = omega (arith, h.1) in
        let b : n ≤ greatest_number = omega (arith, g.1) in
        ap claim.Spent (decimal_one m n a b (append_cancel_left (codes "claim spent ") (decimal m) (decimal n) e))

-- selections

pub one_choices : (c d : List Choice) → KeepsChoices c → KeepsChoices d → choices_text c ≡ choices_text d → c ≡ d
one_choices c d h g e =
    (same_list choice_text is_choice choice_words c d [] [] h.each g.each (nothing_stops choice_text is_choice) (nothing_stops choice_text is_choice)
    (append-nil (choices_text c) ∙ e ∙ sym (append-nil (choices_text d)))).0

pub one_selection : (line : List ℕ) (c d : List Choice) → SpellsSelection line c → SpellsSelection line d → c ≡ d
one_selection line c d h g =
    one_choices c d h.kept g.kept (append_cancel_left (codes "selection") (choices_text c) (choices_text d) (sym h.written ∙ g.written))

-- cases

pub one_set_apart : (s t : List ℕ) → set_apart s ≡ set_apart t → s ≡ t
one_set_apart [] [] e = refl
one_set_apart [] (c ∷ t) e = absurd (cc)
one_set_apart (c ∷ s) [] e = absurd (cc)
one_set_apart (c ∷ s) (d ∷ t) e = cons_tail 32 32 (c ∷ s) (d ∷ t) e

abbrev case_with : List Value → Case
case_with vs = record { values = vs }

same_case : (c d : Case) → c.values ≡ d.values → c ≡ d
same_case c d e = ap case_with e

pub one_case_line : OneCase → (line : List ℕ) (c d : Case) → SpellsCaseLine line c → SpellsCaseLine line d → c ≡ d
one_case_line one line c d h g =
    let same : h.text ≡ g.text = one_set_apart h.text g.text (append_cancel_left (codes "case") (set_apart h.text) (set_apart g.text) (sym h.written ∙ g.written)) in
    same_case c d (one g.text c.values d.values (subst (λ t. SpellsCase t c.values) same h.spelled) g.spelled)

-- questions

pub any_not : (k : ℕ) → k ≤ greatest_cost → codes "any" ≡ decimal k → ⊥
any_not k h e =
    let l = decimal_lacks 97 k (λ c a b. grind arith) (omega arith) in
    absurd (let z : lacks 97 (codes "any") ≡ true = subst (λ t. lacks 97 t ≡ true) (sym e) l in cc)

pub most_lacks : (m : Option ℕ) → IfSome m (λ k. k ≤ greatest_cost) → lacks 32 (most_text m) ≡ true
most_lacks None h = refl
most_lacks (Some k) h = decimal_lacks 32 k space_is_other (cost_low k h)

one_most : (m n : Option ℕ) → IfSome m (λ k. k ≤ greatest_cost) → IfSome n (λ k. k ≤ greatest_cost) → most_text m ≡ most_text n → m ≡ n
one_most None None h g e = refl
one_most None (Some k) h g e = absurd (any_not k g e)
one_most (Some k) None h g e = absurd (any_not k h (sym e))
one_most (Some k) (Some l) h g e = ap Some (decimal_one k l (cost_low k h) (cost_low l g) e)

-- the two words apart
pub low_flat : (m : Option ℕ) (c : ℕ) → spaced (most_text m ∷ decimal c ∷ []) ≡ 32 ∷ (most_text m ++ (32 ∷ decimal c))
low_flat m c = ap (λ t. 32 ∷ (most_text m ++ (32 ∷ t))) (append-nil (decimal c))

pub record SameLow (m n : Option ℕ) (c d : ℕ) : Type 0 where
  pub most : m ≡ n
  pub cases : c ≡ d

pub one_low : (m n : Option ℕ) (c d : ℕ) → IfSome m (λ k. k ≤ greatest_cost) → IfSome n (λ k. k ≤ greatest_cost) → c ≤ greatest_number → d ≤ greatest_number → spaced (most_text m ∷ decimal c ∷ []) ≡ spaced (most_text n ∷ decimal d ∷ []) → SameLow m n c d
one_low m n c d h g i j e =
    let flat = cons_tail 32 32 (most_text m ++ (32 ∷ decimal c)) (most_text n ++ (32 ∷ decimal d)) (sym (low_flat m c) ∙ e ∙ low_flat n d) in
    let s = cut 32 (most_text m) (most_text n) (32 ∷ decimal c) (32 ∷ decimal d) (most_lacks m h) (most_lacks n g) refl refl flat in
    record { most = one_most m n h g s.front; cases = decimal_one c d i j (cons_tail 32 32 (decimal c) (decimal d) s.back) }

pub one_query : (count : ℕ) (line : List ℕ) (p q : Query) → SpellsQuery count line p → SpellsQuery count line q → p ≡ q
one_query count line p q h g = by_line p q h.kept g.kept (sym h.written ∙ g.written)
  where
    by_line : (p q : Query) → KeepsQuery count p → KeepsQuery count q → query_line p ≡ query_line q → p ≡ q
    by_line query.First query.First h g e = refl
    by_line query.First (query.Low m c) h g e = absurd (unlike 102 108 (codes "irst") (codes "ow" ++ spaced (most_text m ∷ decimal c ∷ [])) refl (append_cancel_left (codes "session ") (codes "first") (codes "low" ++ spaced (most_text m ∷ decimal c ∷ [])) e))
    by_line query.First (query.Fail s) h g e = absurd (unlike 105 97 (codes "rst") (codes "il" ++ choices_text s) refl (append_cancel_left (codes "session f") (codes "irst") (codes "ail" ++ choices_text s) e))
    by_line (query.Low m c) query.First h g e = absurd (unlike 108 102 (codes "ow" ++ spaced (most_text m ∷ decimal c ∷ [])) (codes "irst") refl (append_cancel_left (codes "session ") (codes "low" ++ spaced (most_text m ∷ decimal c ∷ [])) (codes "first") e))
    by_line (query.Low m c) (query.Low n d) h g e =
        let s = one_low m n c d h.0 g.0 h.2 g.2 (append_cancel_left (codes "session low") (spaced (most_text m ∷ decimal c ∷ [])) (spaced (most_text n ∷ decimal d ∷ [])) e) in
        ap (λ k. query.Low k c) s.most ∙ ap (query.Low n) s.cases
    by_line (query.Low m c) (query.Fail s) h g e = absurd (unlike 108 102 (codes "ow" ++ spaced (most_text m ∷ decimal c ∷ [])) (codes "ail" ++ choices_text s) refl (append_cancel_left (codes "session ") (codes "low" ++ spaced (most_text m ∷ decimal c ∷ [])) (codes "fail" ++ choices_text s) e))
    by_line (query.Fail s) query.First h g e = absurd (unlike 97 105 (codes "il" ++ choices_text s) (codes "rst") refl (append_cancel_left (codes "session f") (codes "ail" ++ choices_text s) (codes "irst") e))
    by_line (query.Fail s) (query.Low m c) h g e = absurd (unlike 102 108 (codes "ail" ++ choices_text s) (codes "ow" ++ spaced (most_text m ∷ decimal c ∷ [])) refl (append_cancel_left (codes "session ") (codes "fail" ++ choices_text s) (codes "low" ++ spaced (most_text m ∷ decimal c ∷ [])) e))
    by_line (query.Fail s) (query.Fail t) h g e =
        ap query.Fail (one_choices s t h g (append_cancel_left (codes "session fail") (choices_text s) (choices_text t) e))

-- variables, clauses and steps

pub one_vars : (line : List ℕ) (v w : ℕ) → SpellsVars line v → SpellsVars line w → v ≡ w
one_vars line v w h g =
    decimal_one v w h.kept g.kept (append_cancel_left (codes "vars ") (decimal v) (decimal w) (sym h.written ∙ g.written))

pub one_clause : (vars : ℕ) (line : List ℕ) (c d : Clause) → SpellsClause vars line c → SpellsClause vars line d → c ≡ d
one_clause vars line c d h g =
    let e = cons_tail 102 102 (literals_text c.lits ++ list_end) (literals_text d.lits ++ list_end) (sym h.written ∙ g.written) in
    let end = literals_end vars [] refl in
    same_clause c d (same_list literal_text (is_literal vars) (literal_words vars) c.lits d.lits list_end list_end h.kept g.kept end end e).0

pub one_step : (vars number : ℕ) (line : List ℕ) (s t : Step) → SpellsStep vars number line s → SpellsStep vars number line t → s ≡ t
one_step vars number line s t h g =
    let behind_s = spaced (map decimal s.hints) ++ list_end in
    let behind_t = spaced (map decimal t.hints) ++ list_end in
    let e = cons_tail 108 108 (literals_text s.clause.lits ++ (list_end ++ behind_s)) (literals_text t.clause.lits ++ (list_end ++ behind_t)) (sym h.written ∙ g.written) in
    let at_s = starts_at decimal (is_hint number) s.hints list_end refl in
    let at_t = starts_at decimal (is_hint number) t.hints list_end refl in
    let lits = same_list literal_text (is_literal vars) (literal_words vars) s.clause.lits t.clause.lits (list_end ++ behind_s) (list_end ++ behind_t) h.kept.literals g.kept.literals
    (literals_end vars behind_s at_s) (literals_end vars behind_t at_t) e in
    let hints = same_list decimal (is_hint number) (hint_words number) s.hints t.hints list_end list_end h.kept.hints g.kept.hints (hints_end number) (hints_end number)
    (append_cancel_left list_end behind_s behind_t lits.1) in
    same_step s t lits.0 hints.0
