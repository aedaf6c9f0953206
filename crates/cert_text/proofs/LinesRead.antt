-- Where lines of claims, questions and clauses can't be read.
use Rattle.std.proofs.Common.{◌≡◌, ◌≢◌, ℕ, ◌≤◌, ◌<◌, true, List, [], ◌∷◌, ◌++◌, Option, None, Some, IfOk, Result, Ok, Err, codes, refl, sym, ap, ◌∙◌, subst, arith}
use Rattle.std.specs.Fmt.{decimal}
use Rattle.std.specs.List.{list_all}
use Rattle.std.proofs.lemmas.List.{append-nil, append_cancel_left}
use Rattle.choice_tree.specs.declared.selection.Choice.{Choice}
use Rattle.clause_base.specs.Formulas.{in_range}
use Rattle.clause_base.specs.declared.lit.Lit.{Lit}
use Rattle.mpy_tree.specs.declared.value.Value.{Value}
use Rattle.input_space.specs.Cases.{SpellsCase}
use Rattle.clause_base.specs.Readings.{IsReading}
use Rattle.step_lines.proofs.Apart.{Same, both, cons_tail, cut, two, unlike}
use Rattle.step_lines.proofs.Decimals.{decimal_lacks, number_one, space_is_other}
use Rattle.step_lines.specs.Limits.{is_literal, is_number}
use Rattle.step_lines.specs.Lines.{lacks, spaced}
use Rattle.step_lines.specs.Words.{SpellsNumber, SpellsWithin, is_at}
use Rattle.input_space.specs.declared.case.Case.{Case}
use Rattle.input_space.specs.declared.session.Query.{Query}
use Rattle.input_space.specs.declared.session.Query.TheVariants as query
use Rattle.cert_text.specs.declared.cert.Claim.{Claim}
use Rattle.cert_text.specs.declared.cert.Claim.TheVariants as claim
use Rattle.cert_text.specs.Drafts.{IsClaim, SpellsClaim, SpellsQuery, SpellsSelection}
use Rattle.cert_text.specs.Limits.{KeepsChoices, KeepsQuery, greatest_budget, greatest_cost}
use Rattle.cert_text.specs.LineForms.{SpellsCaseLine, choices_text, claim_line, most_text, query_line, set_apart}
use Rattle.cert_text.specs.Words.{AsksFail, AsksLow, SpellsChoices, SpellsLow, SpellsMost}
use Rattle.cert_text.proofs.LinesOf.{low_flat, most_lacks, one_set_apart}

-- claims

pub record CostIn (digits : List ℕ) (n : ℕ) : Type 0 where
  pub written : digits ≡ decimal n
  pub low : n ≤ greatest_cost

cost_in : (digits : List ℕ) (x : Claim) → IsClaim x → codes "claim cost " ++ digits ≡ claim_line x → (n : ℕ) × CostIn digits n
cost_in digits (claim.Cost n) h e = (n, record { written = append_cancel_left (codes "claim cost ") digits (decimal n) e; low = h })
cost_in digits claim.Nothing h e = absurd (unlike 99 110 (codes "ost " ++ digits) (codes "one") refl (append_cancel_left (codes "claim ") (codes "cost " ++ digits) (codes "none") e))
cost_in digits (claim.Spent n) h e = absurd (unlike 99 115 (codes "ost " ++ digits) (codes "pent " ++ decimal n) refl (append_cancel_left (codes "claim ") (codes "cost " ++ digits) (codes "spent " ++ decimal n) e))

pub no_cost : (line digits : List ℕ) (x : Claim) → line ≡ codes "claim cost " ++ digits → SpellsClaim line x → ((n : ℕ) → SpellsWithin 0 greatest_cost digits n → ⊥) → ⊥
no_cost line digits x e s none =
    let c = cost_in digits x s.kept (sym e ∙ s.written) in
    none c.0 (record { spelled = record { written = c.1.written; kept = omega (arith, c.1.low) }; from = omega arith; to = c.1.low })

pub record SpentIs (line : List ℕ) (n : ℕ) : Type 0 where
  pub written : line ≡ codes "claim spent " ++ decimal n
  pub some : 1 ≤ n
  pub low : n ≤ greatest_budget

spent_left : (line : List ℕ) (x : Claim) → IsClaim x → line ≡ claim_line x → (line ≡ codes "claim none" → ⊥) → ((r : List ℕ) → line ≡ codes "claim cost " ++ r → ⊥) → (n : ℕ) × SpentIs line n
spent_left line (claim.Cost n) h e none cost = absurd (cost (decimal n) e)
spent_left line claim.Nothing h e none cost = absurd (none e)
spent_left line (claim.Spent n) h e none cost = (n, record { written = e; some = h.0; low = h.1 })

module _ (line : List ℕ) (x : Claim) (s : SpellsClaim line x) (none : line ≡ codes "claim none" → ⊥) (cost : (r : List ℕ) → line ≡ codes "claim cost " ++ r → ⊥) where
  pub no_claim : ((r : List ℕ) → line ≡ codes "claim spent " ++ r → ⊥) → ⊥
  no_claim spent = let n = spent_left line x s.kept s.written none cost in spent (decimal n.0) n.1.written

  pub no_budget : (digits : List ℕ) → line ≡ codes "claim spent " ++ digits → ((n : ℕ) → SpellsWithin 1 greatest_budget digits n → ⊥) → ⊥
  no_budget digits e other =
      let n = spent_left line x s.kept s.written none cost in
      let written : digits ≡ decimal n.0 = append_cancel_left (codes "claim spent ") digits (decimal n.0) (sym e ∙ n.1.written) in
      other n.0 (record { spelled = record { written = written; kept = omega (arith, n.1.low) }; from = n.1.some; to = n.1.low })

-- bounds of costs

pub no_most : (word : List ℕ) (x : Option ℕ) → SpellsMost word x → (word ≡ codes "any" → ⊥) → ((n : ℕ) → SpellsWithin 0 greatest_cost word n → ⊥) → ⊥
no_most word None s any none = any s.written
no_most word (Some k) s any none =
    let low : k ≤ greatest_cost = s.kept in
    none k (record { spelled = record { written = s.written; kept = omega (arith, low) }; from = omega arith; to = low })

-- the words of a bound and of a number of cases

module _ (count : ℕ) (text : List ℕ) (m : Option ℕ) (c : ℕ) (s : SpellsLow count text m c) where
  low_text : text ≡ 32 ∷ (most_text m ++ (32 ∷ decimal c))
  low_text = s.written ∙ low_flat m c

  pub no_first : ((r : List ℕ) → text ≡ 32 ∷ r → ⊥) → ⊥
  no_first none = none (most_text m ++ (32 ∷ decimal c)) low_text

  module _ (first rest : List ℕ) (here : text ≡ 32 ∷ (first ++ rest)) (apart : lacks 32 first ≡ true) (at : is_at 32 rest ≡ true) where
    first_is : Same first (most_text m) rest (32 ∷ decimal c)
    first_is = cut 32 first (most_text m) rest (32 ∷ decimal c) apart (most_lacks m s.bound) at refl (cons_tail 32 32 (first ++ rest) (most_text m ++ (32 ∷ decimal c)) (sym here ∙ low_text))

    pub no_second : ((r : List ℕ) → rest ≡ 32 ∷ r → ⊥) → ⊥
    no_second none = none (decimal c) first_is.back

    pub no_bound : ((k : Option ℕ) → SpellsMost first k → ⊥) → ⊥
    no_bound none = none m (record { written = first_is.front; kept = s.bound })

    module _ (second last : List ℕ) (next : rest ≡ 32 ∷ (second ++ last)) (lack : lacks 32 second ≡ true) (end : is_at 32 last ≡ true) where
      second_is : Same second (decimal c) last []
      second_is =
          cut 32 second (decimal c) last [] lack (decimal_lacks 32 c space_is_other s.number) end refl
          (cons_tail 32 32 (second ++ last) (decimal c) (sym next ∙ first_is.back) ∙ sym (append-nil (decimal c)))

      pub no_third : last ≢ [] → ⊥
      no_third some = some second_is.back

      number_is : SpellsNumber second c
      number_is = record { written = second_is.front; kept = s.number }

      pub no_cases : ((n : ℕ) → SpellsNumber second n → ⊥) → ⊥
      no_cases none = none c number_is

      pub few_cases : (n : ℕ) → SpellsNumber second n → count < n → ⊥
      few_cases n h more =
          let same : n ≡ c = number_one second n c h number_is in
          omega (arith, s.within)

-- questions

low_in : (count : ℕ) (rest : List ℕ) (x : Query) → KeepsQuery count x → codes "session low" ++ rest ≡ query_line x → (m : Option ℕ) × (c : ℕ) × SpellsLow count rest m c
low_in count rest query.First h e = absurd (unlike 108 102 (codes "ow" ++ rest) (codes "irst") refl (append_cancel_left (codes "session ") (codes "low" ++ rest) (codes "first") e))
low_in count rest (query.Low m c) h e = (
  m,
  c,
  record {
    written = append_cancel_left (codes "session low") rest (spaced (most_text m ∷ decimal c ∷ [])) e;
    bound = h.0;
    within = h.1;
    number = h.2;
  },
)
low_in count rest (query.Fail cs) h e = absurd (unlike 108 102 (codes "ow" ++ rest) (codes "ail" ++ choices_text cs) refl (append_cancel_left (codes "session ") (codes "low" ++ rest) (codes "fail" ++ choices_text cs) e))

-- what the reader of such a line gives

pub low_read : (count : ℕ) (line rest : List ℕ) (o : Option Query) → line ≡ codes "session low" ++ rest → IsReading (AsksLow count rest) o → IsReading (SpellsQuery count line) o
low_read count line rest None e h = λ x s.
    (let l = low_in count rest x s.kept (sym e ∙ s.written) in
    h (query.Low l.0 l.1) (record { most = l.0; cases = l.1; spelled = l.2; asked = refl }))
low_read count line rest (Some q) e h =
    subst (SpellsQuery count line) (sym h.asked)
    (record { written = e ∙ ap (λ t. codes "session low" ++ t) h.spelled.written; kept = (h.spelled.bound, h.spelled.within, h.spelled.number) })

fail_left : (count : ℕ) (line : List ℕ) (x : Query) → KeepsQuery count x → line ≡ query_line x → (line ≡ codes "session first" → ⊥) → ((r : List ℕ) → line ≡ codes "session low" ++ r → ⊥) → (cs : List Choice) × (KeepsChoices cs) × (line ≡ codes "session fail" ++ choices_text cs)
fail_left count line query.First h e first low = absurd (first e)
fail_left count line (query.Low m c) h e first low = absurd (low (spaced (most_text m ∷ decimal c ∷ [])) e)
fail_left count line (query.Fail cs) h e first low = (cs, h, e)

module _ (count : ℕ) (line : List ℕ) (first : line ≡ codes "session first" → ⊥) (low : (r : List ℕ) → line ≡ codes "session low" ++ r → ⊥) where
  pub no_query : (x : Query) → SpellsQuery count line x → ((r : List ℕ) → line ≡ codes "session fail" ++ r → ⊥) → ⊥
  no_query x s fail = let f = fail_left count line x s.kept s.written first low in fail (choices_text f.0) f.2

  pub fail_read : {E : Type 0} (rest : List ℕ) (r : Result (Option Query) E) → line ≡ codes "session fail" ++ rest → IfOk r (λ o. IsReading (AsksFail rest) o) → IfOk r (λ o. IsReading (SpellsQuery count line) o)
  fail_read rest (Err x) e h = h
  fail_read rest (Ok None) e h = λ x s.
      (let f = fail_left count line x s.kept s.written first low in
      h (query.Fail f.0) (record {
        choices = f.0;
        spelled = record { written = append_cancel_left (codes "session fail") rest (choices_text f.0) (sym e ∙ f.2); kept = f.1 };
        asked = refl;
      }))
  fail_read rest (Ok (Some q)) e h =
      subst (SpellsQuery count line) (sym h.asked)
      (record { written = e ∙ ap (λ t. codes "session fail" ++ t) h.spelled.written; kept = h.spelled.kept })

pub asks_low : (count : ℕ) (text : List ℕ) (x : Query) → AsksLow count text x → ((m : Option ℕ) (c : ℕ) → SpellsLow count text m c → ⊥) → ⊥
asks_low count text x a none = none a.most a.cases a.spelled

-- selections

pub selection_read : {E : Type 0} (line text : List ℕ) (r : Result (Option (List Choice)) E) → line ≡ codes "selection" ++ text → IfOk r (λ o. IsReading (SpellsChoices text) o) → IfOk r (λ o. IsReading (SpellsSelection line) o)
selection_read line text (Err x) e h = h
selection_read line text (Ok None) e h = λ x s. h x (record { written = append_cancel_left (codes "selection") text (choices_text x) (sym e ∙ s.written); kept = s.kept })
selection_read line text (Ok (Some cs)) e h = record { written = e ∙ ap (λ t. codes "selection" ++ t) h.written; kept = h.kept }

-- cases

pub no_case : (line text : List ℕ) → line ≡ codes "case" ++ set_apart text → ((vs : List Value) → SpellsCase text vs → ⊥) → (k : Case) → SpellsCaseLine line k → ⊥
no_case line text e none k s =
    let same : text ≡ s.text = one_set_apart text s.text (append_cancel_left (codes "case") (set_apart text) (set_apart s.text) (sym e ∙ s.written)) in
    none k.values (subst (λ t. SpellsCase t k.values) (sym same) s.spelled)

-- literals of a clause

pub in_range_of : (vars : ℕ) (lits : List Lit) → list_all (is_literal vars) lits ≡ true → list_all (in_range vars) lits ≡ true
in_range_of vars [] h = refl
in_range_of vars (l ∷ lits) h =
    let r = both (is_literal vars l) (list_all (is_literal vars) lits) h in
    two (in_range vars l) (list_all (in_range vars) lits) (both (in_range vars l) (is_number l.var) r.0).0 (in_range_of vars lits r.1)
