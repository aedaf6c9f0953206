-- The lines of a proof: what was read, and where the form can't go on.
use Rattle.std.proofs.Common.{if◌then◌else◌, ◌≡◌, ℕ, suc, ◌+◌, ◌≤◌, Bool, true, false, not, ◌==◌, List, [], ◌∷◌, ◌++◌, codes, length, map, Result, Err, refl, sym, ap, ◌∙◌, subst, arith, append_assoc, length-append}
use Rattle.std.specs.Fmt.{decimal}
use Rattle.std.specs.List.{list_all}
use Rattle.std.proofs.lemmas.Grind.{flat_map-append}
use Rattle.std.proofs.lemmas.List.{append-nil, append_cancel_left, length-map, map-append}
use Rattle.clause_base.specs.declared.log.Log.{Log}
use Rattle.clause_base.specs.declared.log.Step.{Step}
use Rattle.step_lines.specs.LineForms.{list_end, literal_text, literals_text, step_line}
use Rattle.step_lines.specs.Limits.{KeepsStep, KeepsSteps, is_hint, is_literal}
use Rattle.step_lines.specs.Lines.{ended, lacks, spaced}
use Rattle.step_lines.specs.Steps.{SpellsStep}
use Rattle.step_lines.proofs.Apart.{all_append, both, cons_head, cons_tail, cut, two, unlike}
use Rattle.step_lines.proofs.Decimals.{decimal_lacks, line_end_is_other}
use Rattle.step_lines.proofs.Rows.{texts}
use Rattle.step_lines.proofs.WordKinds.{hint_limits, literal_lacks}
use Rattle.dimacs_text.specs.declared.error.CnfError.{CnfError}
use Rattle.dimacs_text.specs.declared.error.CnfError.TheVariants as cnf_error
use Rattle.dimacs_text.specs.ProofTexts.{IsProofOf, ProofCanGoOn, ProofStopsAt, proof_lines}
use Rattle.dimacs_text.specs.TextLines.{lines_of, onto}
use Rattle.dimacs_text.proofs.LineCuts.{line_cut}

abbrev last_line : List ℕ
last_line = codes "end"

-- lines of steps have no line end

abbrev no_end : ℕ → Bool
no_end c = not (c == 10)

texts_lack : {A : Type 0} (word : A → List ℕ) (good : A → Bool) → ((x : A) → good x ≡ true → lacks 10 (word x) ≡ true) → (xs : List A) → list_all good xs ≡ true → lacks 10 (texts word xs) ≡ true
texts_lack word good f [] h = refl
texts_lack word good f (x ∷ xs) h =
    let r = both (good x) (list_all good xs) h in
    all_append no_end (word x) (texts word xs) (f x r.0) (texts_lack word good f xs r.1)

step_unbroken : (vars number : ℕ) (s : Step) → KeepsStep vars number s → lacks 10 (step_line s) ≡ true
step_unbroken vars number s h =
    let literals = texts_lack literal_text (is_literal vars) (λ l g. literal_lacks 10 vars l line_end_is_other refl g) s.clause.lits h.literals in
    let words = texts_lack decimal (is_hint number) (λ n g. decimal_lacks 10 n line_end_is_other (hint_limits number n g).low) s.hints h.hints in
    let hints = all_append no_end (spaced (map decimal s.hints)) list_end words refl in
    all_append no_end (literals_text s.clause.lits) (list_end ++ (spaced (map decimal s.hints) ++ list_end)) literals hints

steps_unbroken : (vars number : ℕ) (ts : List Step) → KeepsSteps vars number ts → list_all (lacks 10) (map step_line ts) ≡ true
steps_unbroken vars number [] h = refl
steps_unbroken vars number (t ∷ ts) h = two (lacks 10 (step_line t)) (list_all (lacks 10) (map step_line ts)) (step_unbroken vars number t h.0) (steps_unbroken vars (suc number) ts h.1)

proof_unbroken : (vars number : ℕ) (ts : List Step) → KeepsSteps vars number ts → list_all (lacks 10) (proof_lines ts) ≡ true
proof_unbroken vars number ts h = all_append (lacks 10) (map step_line ts) (last_line ∷ []) (steps_unbroken vars number ts h) refl

-- texts of lines

flat : (l : List ℕ) (ls : List (List ℕ)) (rest : List ℕ) → ended (l ∷ ls) ++ rest ≡ l ++ (10 ∷ (ended ls ++ rest))
flat l ls rest = append_assoc (l ++ 10 ∷ []) (ended ls) rest ∙ append_assoc l (10 ∷ []) (ended ls ++ rest)

ended_push : (ls : List (List ℕ)) (l rest : List ℕ) → ended ls ++ (l ++ (10 ∷ rest)) ≡ ended (ls ++ l ∷ []) ++ rest
ended_push [] l rest = sym (flat l [] rest)
ended_push (k ∷ ls) l rest =
    flat k ls (l ++ (10 ∷ rest)) ∙ ap (λ t. k ++ (10 ∷ t)) (ended_push ls l rest) ∙ sym (flat k (ls ++ l ∷ []) rest)

lines_ended : (ls : List (List ℕ)) (rest : List ℕ) → list_all (lacks 10) ls ≡ true → lines_of (ended ls ++ rest) ≡ ls ++ lines_of rest
lines_ended [] rest h = refl
lines_ended (l ∷ ls) rest h =
    let r = both (lacks 10 l) (list_all (lacks 10) ls) h in
    ap lines_of (flat l ls rest) ∙ line_cut l (ended ls ++ rest) r.0 ∙ ap (λ t. l ∷ t) (lines_ended ls rest r.1)

lines_some : (text : List ℕ) → lines_of text ≡ [] → text ≡ []
lines_some [] h = refl
lines_some (c ∷ cs) h = absurd (by_end (c == 10) (lines_of cs) h)
  where
    by_end : (b : Bool) (ls : List (List ℕ)) → (if b then [] ∷ ls else onto c ls) ≡ [] → ⊥
    by_end true ls h = cc
    by_end false [] h = cc
    by_end false (l ∷ ls) h = cc

-- steps with one more
keeps_more : (vars number : ℕ) (ts : List Step) (t : Step) → KeepsSteps vars number ts → KeepsStep vars (number + length ts) t → KeepsSteps vars number (ts ++ t ∷ [])
keeps_more vars number [] t h g = (subst (λ n. KeepsStep vars n t) (omega arith) g, tt)
keeps_more vars number (s ∷ ts) t h g = (h.0, keeps_more vars (suc number) ts t h.1 (subst (λ n. KeepsStep vars n t) (omega arith) g))

-- what stands behind lines of steps begins with that of a step, or is the last line
data Ahead (vars number : ℕ) (tail : List (List ℕ)) : Type 0 where
  a_step : (s : Step) (more : List (List ℕ)) → tail ≡ step_line s ∷ more → KeepsStep vars number s → Ahead vars number tail
  the_end : tail ≡ last_line ∷ [] → Ahead vars number tail

not_last : (s : Step) (xs ys : List (List ℕ)) → step_line s ∷ xs ≡ last_line ∷ ys → ⊥
not_last s xs ys e = unlike 108 101 (literals_text s.clause.lits ++ (list_end ++ (spaced (map decimal s.hints) ++ list_end))) (codes "nd") refl (cons_head (step_line s) last_line xs ys e)

ahead : (vars number : ℕ) (ss ts : List Step) (tail : List (List ℕ)) → KeepsSteps vars number ts → map step_line ss ++ tail ≡ proof_lines ts → Ahead vars (number + length ss) tail
ahead vars number [] [] tail h e = the_end e
ahead vars number [] (t ∷ ts) tail h e = a_step t (proof_lines ts) e (subst (λ n. KeepsStep vars n t) (omega arith) h.0)
ahead vars number (s ∷ ss) [] tail h e = absurd (not_last s (map step_line ss ++ tail) [] e)
ahead vars number (s ∷ ss) (t ∷ ts) tail h e =
    let same : suc number + length ss ≡ number + length (s ∷ ss) = omega arith in
    subst (λ n. Ahead vars n tail) same (ahead vars (suc number) ss ts tail h.1 (cons_tail (step_line s) (step_line t) (map step_line ss ++ tail) (proof_lines ts) e))

-- what was read of a text
pub record Logged (known vars : ℕ) (text rest : List ℕ) (number : ℕ) (steps : List Step) : Type 0 where
  pub joined : text ≡ ended (map step_line steps) ++ rest
  pub kept : KeepsSteps vars (suc known) steps
  pub counted : number ≡ suc (length steps)
  pub few : number + length rest ≤ suc (length text)

pub logged_none : (known vars : ℕ) (text : List ℕ) → Logged known vars text text 1 []
logged_none known vars text = record { joined = refl; kept = tt; counted = refl; few = omega arith }

pub line_low : (known vars : ℕ) (text rest : List ℕ) (number : ℕ) (steps : List Step) → Logged known vars text rest number steps → length text ≤ 1073741824 → number ≤ 1073741825
line_low known vars text rest number steps l h = omega (arith, l.few)

pub logged_more : (known vars : ℕ) (text rest next line : List ℕ) (number : ℕ) (steps : List Step) (s : Step) → Logged known vars text rest number steps → rest ≡ line ++ (10 ∷ next) → SpellsStep vars (known + number) line s → Logged known vars text next (number + 1) (steps ++ s ∷ [])
logged_more known vars text rest next line number steps s l split h = record {
  joined = l.joined ∙ ap (λ t. ended (map step_line steps) ++ t) (split ∙ ap (λ t. t ++ (10 ∷ next)) h.written) ∙ ended_push (map step_line steps) (step_line s) next ∙ ap (λ t. ended t ++ next) (sym (map-append step_line steps (s ∷ [])));
  kept = keeps_more vars (suc known) steps s l.kept (subst (λ n. KeepsStep vars n s) number_is h.kept);
  counted = let n = length-append steps (s ∷ []) in omega (arith, l.counted, n);
  few = let e = ap length split in let n = length-append line (10 ∷ next) in omega (arith, l.few, e, n);
}
  where
    number_is : known + number ≡ suc known + length steps
    number_is = omega (arith, l.counted)

module _ (known vars : ℕ) (text rest : List ℕ) (number : ℕ) (steps : List Step) (l : Logged known vars text rest number steps) where
  abbrev front : List (List ℕ)
  front = map step_line steps

  apart : list_all (lacks 10) front ≡ true
  apart = steps_unbroken vars (suc known) steps l.kept

  can_go : ProofCanGoOn known vars front
  can_go = record { more = last_line ∷ []; steps = steps; spelled = record { written = refl; kept = l.kept } }

  front_counted : suc (length front) ≡ number
  front_counted = ap suc (length-map steps step_line) ∙ sym l.counted

  number_is : suc known + length steps ≡ known + number
  number_is = omega (arith, l.counted)

  behind : (tail : List (List ℕ)) (ts : List Step) → KeepsSteps vars (suc known) ts → front ++ tail ≡ proof_lines ts → Ahead vars (known + number) tail
  behind tail ts kept e = subst (λ n. Ahead vars n tail) number_is (ahead vars (suc known) steps ts tail kept e)

  -- the lines of a text of the form
  whole : (ts : List Step) → IsProofOf known vars text ts → front ++ lines_of rest ≡ proof_lines ts
  whole ts h =
      sym (lines_ended front rest apart) ∙ ap lines_of (sym l.joined ∙ h.0 ∙ sym (append-nil (ended (proof_lines ts))))
      ∙ lines_ended (proof_lines ts) [] (proof_unbroken vars (suc known) ts h.1) ∙ append-nil (proof_lines ts)

  -- the next line, if it has its end
  module _ (line next : List ℕ) (split : rest ≡ line ++ (10 ∷ next)) (lack : lacks 10 line ≡ true) where
    lines_rest : lines_of rest ≡ line ∷ lines_of next
    lines_rest = ap lines_of split ∙ line_cut line next lack

    same_line_there : (k others : List ℕ) → rest ≡ k ++ (10 ∷ others) → lacks 10 k ≡ true → k ≡ line
    same_line_there k others e a = (cut 10 k line (10 ∷ others) (10 ∷ next) a lack refl refl (sym e ∙ split)).front

    -- a line that is no step and not the last
    module _ (none : (s : Step) → SpellsStep vars (known + number) line s → ⊥) (other : line ≡ last_line → ⊥) where
      stuck : (more : List (List ℕ)) (ts : List Step) → KeepsSteps vars (suc known) ts → front ++ line ∷ more ≡ proof_lines ts → ⊥
      stuck more ts kept e = elim (behind (line ∷ more) ts kept e) [
        | a_step t xs f k ↦ none t (record { written = cons_head line (step_line t) more xs f; kept = k })
        | the_end f ↦ other (cons_head line last_line more [] f)
      ]

      pub bad_stops : ProofStopsAt known vars text number
      bad_stops = record {
        front = front;
        apart = apart;
        behind = rest;
        cut = l.joined;
        counted = sym front_counted;
        before = can_go;
        here = λ k others e a g. stuck g.more g.steps g.spelled.kept (ap (λ x. front ++ x ∷ g.more) (sym (same_line_there k others e a)) ∙ sym (append_assoc front (k ∷ []) g.more) ∙ g.spelled.written);
      }

      pub bad_none : (ts : List Step) → IsProofOf known vars text ts → ⊥
      bad_none ts h = stuck (lines_of next) ts h.1 (ap (λ t. front ++ t) (sym lines_rest) ∙ whole ts h)

    -- the last line
    module _ (last : line ≡ last_line) where
      up_to_last : text ≡ ended (proof_lines steps) ++ next
      up_to_last = l.joined ∙ ap (λ t. ended front ++ t) (split ∙ ap (λ t. t ++ (10 ∷ next)) last) ∙ ended_push front last_line next

      pub end_read : next ≡ [] → IsProofOf known vars text steps
      end_read none = (up_to_last ∙ ap (λ t. ended (proof_lines steps) ++ t) none ∙ append-nil (ended (proof_lines steps)), l.kept)

      -- something behind it
      nothing_behind : (tail : List (List ℕ)) (ts : List Step) → KeepsSteps vars (suc known) ts → front ++ last_line ∷ tail ≡ proof_lines ts → tail ≡ []
      nothing_behind tail ts kept e = elim (behind (last_line ∷ tail) ts kept e) [
        | a_step t xs f k ↦ absurd (not_last t xs tail (sym f))
        | the_end f ↦ cons_tail last_line last_line tail [] f
      ]

      pub more_stops : (next ≡ [] → ⊥) → ProofStopsAt known vars text (number + 1)
      more_stops some = record {
        front = proof_lines steps;
        apart = proof_unbroken vars (suc known) steps l.kept;
        behind = next;
        cut = up_to_last;
        counted = let n = length-append front (last_line ∷ []) in omega (arith, front_counted, n);
        before = record { more = []; steps = steps; spelled = record { written = append-nil (proof_lines steps); kept = l.kept } };
        here = λ k others e a g.
            (let written : front ++ last_line ∷ (k ∷ g.more) ≡ proof_lines g.steps = sym (append_assoc front (last_line ∷ []) (k ∷ g.more)) ∙ sym (append_assoc (proof_lines steps) (k ∷ []) g.more) ∙ g.spelled.written in
            no_line k g.more (nothing_behind (k ∷ g.more) g.steps g.spelled.kept written));
      }
        where
          no_line : (k : List ℕ) (ks : List (List ℕ)) → k ∷ ks ≡ [] → ⊥
          no_line k ks e = cc

      pub more_none : (next ≡ [] → ⊥) → (ts : List Step) → IsProofOf known vars text ts → ⊥
      more_none some ts h = some (lines_some next (nothing_behind (lines_of next) ts h.1 (ap (λ x. front ++ x ∷ lines_of next) (sym last) ∙ ap (λ t. front ++ t) (sym lines_rest) ∙ whole ts h)))

  -- no line with its end
  module _ (none : (line next : List ℕ) → rest ≡ line ++ (10 ∷ next) → ⊥) where
    pub cut_stops : ProofStopsAt known vars text number
    cut_stops = record {
      front = front;
      apart = apart;
      behind = rest;
      cut = l.joined;
      counted = sym front_counted;
      before = can_go;
      here = λ k others e a g. none k others e;
    }

    rest_ended : (ts : List Step) → IsProofOf known vars text ts → rest ≡ ended (lines_of rest)
    rest_ended ts h = append_cancel_left (ended front) rest (ended (lines_of rest)) (sym l.joined ∙ h.0 ∙ ap ended (sym (whole ts h)) ∙ flat_map-append (λ line. line ++ 10 ∷ []) front (lines_of rest))

    no_line_there : (tail : List (List ℕ)) → rest ≡ ended tail → tail ≡ []
    no_line_there [] e = refl
    no_line_there (k ∷ ks) e = absurd (none k (ended ks) (e ∙ append_assoc k (10 ∷ []) (ended ks)))

    pub cut_none : (ts : List Step) → IsProofOf known vars text ts → ⊥
    cut_none ts h =
        let empty = no_line_there (lines_of rest) (rest_ended ts h) in
        elim (behind (lines_of rest) ts h.1 (whole ts h)) [
          | a_step t xs f k ↦ cc
          | the_end f ↦ cc
        ]

-- the line of an error
pub same_line : (m n : ℕ) → ◌≡◌ {A = Result Log CnfError} (Err (cnf_error.Line m)) (Err (cnf_error.Line n)) → m ≡ n
same_line m n e = cc
