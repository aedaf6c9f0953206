-- What lines are read as is what they spell.
use Rattle.std.proofs.Common.{◌≡◌, ℕ, List, [], ◌∷◌, ◌++◌, Option, Some, None, option_map, Result}
use Rattle.std.proofs.Common.{Ok}
use Rattle.std.proofs.Common.{Err, refl, sym, ap, append_assoc, subst, ◌∙◌}
use Rattle.std.specs.Option.{option_to_list}
use Rattle.mpy_lexer.specs.declared.line.Line.{Line}
use Rattle.choice_tree.specs.Templates.{Correction}
use Rattle.eml_reader.specs.RuleLines.{with_message, SpellRules, no_lines, a_rule}
use Rattle.eml_reader.specs.RuleLines.{a_rule_with_message, SpellsRule, HasSyntaxFault}
use Rattle.eml_reader.specs.RuleReading.{behind, message_of, rule_of, rules_behind, rules_of}
use Rattle.eml_reader.specs.RuleReading.{said_by}
use Rattle.eml_reader.proofs.Arrows.{mapped}
use Rattle.eml_reader.proofs.RuleLaws.{message_read, message_spelled, no_message, rule_read}
use Rattle.eml_reader.proofs.RuleLaws.{rule_spelled}

-- one step
abbrev next : Option Correction → Line → List Line → Option Correction → Option Correction
    → Result (List Correction) ℕ
next p l ls (Some r) o = behind (r ∷ []) (rules_behind None ls)
next p l ls None (Some q) = behind (option_to_list p) (rules_behind (Some q) ls)
next p l ls None None = Err l.line

step : (p : Option Correction) (l : Line) (ls : List Line)
    → rules_behind p (l ∷ ls) ≡ next p l ls (said_by p l) (rule_of l)
step p l ls = by (said_by p l) (rule_of l)
  where
    by : (s o : Option Correction)
        → elim s as (λ _. Result (List Correction) ℕ) [
          | Some r ↦ behind (r ∷ []) (rules_behind None ls)
          | None ↦ elim o as (λ _. Result (List Correction) ℕ) [
            | Some q ↦ behind (option_to_list p) (rules_behind (Some q) ls)
            | None ↦ Err l.line
          ]
        ] ≡ next p l ls s o
    by (Some r) o = refl
    by None (Some q) = refl
    by None None = refl

behind_twice : (rs qs : List Correction) (o : Result (List Correction) ℕ)
    → behind rs (behind qs o) ≡ behind (rs ++ qs) o
behind_twice rs qs (Ok ps) = ap Ok (sym (append_assoc rs qs ps))
behind_twice rs qs (Err n) = refl

-- a line that is the message of the rule before it
pub message_next : (rs : List Correction) (q : Correction) (l : Line) (ls : List Line)
    (text : List ℕ) → message_of l ≡ Some text
    → behind rs (rules_behind (Some q) (l ∷ ls))
    ≡ behind (rs ++ with_message q text ∷ []) (rules_behind None ls)
message_next rs q l ls text h =
    ap (behind rs) (step (Some q) l ls
    ∙ ap (λ o. next (Some q) l ls (option_map (with_message q) o) (rule_of l)) h)
    ∙ behind_twice rs (with_message q text ∷ []) (rules_behind None ls)

behind_ok : (rs : List Correction) (o : Result (List Correction) ℕ) (qs : List Correction)
    → behind rs o ≡ Ok qs → (ps : List Correction) × (o ≡ Ok ps) × (rs ++ ps ≡ qs)
behind_ok rs (Ok ps) qs h = (ps, refl, cc)
behind_ok rs (Err n) qs h = cc

behind_err : (rs : List Correction) (o : Result (List Correction) ℕ) (n : ℕ)
    → behind rs o ≡ Err n → o ≡ Err n
behind_err rs (Ok ps) n h = cc
behind_err rs (Err m) n h = cc

-- the lines of a rule that has no message yet, and those behind it
abbrev Spelled : Option Correction → List Line → List Correction → Type 0
Spelled None ls rs = SpellRules ls rs
Spelled (Some r) ls rs = (l : Line) → SpellsRule l r → SpellRules (l ∷ ls) rs

said : (p : Option Correction) (m : Line) (ls : List Line) (r : Correction) (ps : List Correction)
    → said_by p m ≡ Some r → SpellRules ls ps → Spelled p (m ∷ ls) (r ∷ ps)
said None m ls r ps h s = cc
said (Some q) m ls r ps h s =
    let t = mapped (with_message q) (message_of m) r h in
    λ l spells. subst (λ (x : Correction). SpellRules (l ∷ m ∷ ls) (x ∷ ps)) t.2
    (a_rule_with_message l m ls q t.0 ps spells (message_spelled m t.0 t.1) s)

unsaid : (p : Option Correction) (m : Line) (ls : List Line) (ps : List Correction)
    → SpellRules (m ∷ ls) ps → Spelled p (m ∷ ls) (option_to_list p ++ ps)
unsaid None m ls ps s = s
unsaid (Some q) m ls ps s = λ l spells. a_rule l (m ∷ ls) q ps spells s

at_end : (p : Option Correction) → Spelled p [] (option_to_list p)
at_end None = no_lines
at_end (Some q) = λ l spells. a_rule l [] q [] spells no_lines

sound_next : (l : Line) (ls : List Line) (p : Option Correction) (rs : List Correction)
    (s o : Option Correction)
    → ((q : Option Correction) (qs : List Correction) → rules_behind q ls ≡ Ok qs → Spelled q ls qs)
    → said_by p l ≡ s → rule_of l ≡ o → next p l ls s o ≡ Ok rs → Spelled p (l ∷ ls) rs
sound_next l ls p rs (Some r) o later hs ho h =
    let b = behind_ok (r ∷ []) (rules_behind None ls) rs h in
    subst (Spelled p (l ∷ ls)) b.2 (said p l ls r b.0 hs (later None b.0 b.1))
sound_next l ls p rs None (Some q) later hs ho h =
    let b = behind_ok (option_to_list p) (rules_behind (Some q) ls) rs h in
    subst (Spelled p (l ∷ ls)) b.2
    (unsaid p l ls b.0 (later (Some q) b.0 b.1 l (rule_spelled l q ho)))
sound_next l ls p rs None None later hs ho h = cc

sound : (ls : List Line) (p : Option Correction) (rs : List Correction)
    → rules_behind p ls ≡ Ok rs → Spelled p ls rs
sound [] p rs h =
    let same : option_to_list p ≡ rs = cc in
    subst (Spelled p []) same (at_end p)
sound (l ∷ ls) p rs h =
    sound_next l ls p rs (said_by p l) (rule_of l) (sound ls) refl refl (sym (step p l ls) ∙ h)

pub lines_spelled : (ls : List Line) (rs : List Correction) → rules_of ls ≡ Ok rs
    → SpellRules ls rs
lines_spelled ls rs h = sound ls None rs h

-- a line that is a rule isn't the message of the one before it
unsaid_by : (p : Option Correction) (l : Line) (r : Correction) → SpellsRule l r
    → said_by p l ≡ None
unsaid_by None l r s = refl
unsaid_by (Some q) l r s = ap (option_map (with_message q)) (no_message l r s)

a_rule_next : (p : Option Correction) (l : Line) (ls : List Line) (r : Correction)
    → SpellsRule l r
    → rules_behind p (l ∷ ls) ≡ behind (option_to_list p) (rules_behind (Some r) ls)
a_rule_next p l ls r s =
    step p l ls
    ∙ ap (λ m. next p l ls m (rule_of l)) (unsaid_by p l r s)
    ∙ ap (next p l ls None) (rule_read l r s)

complete : (p : Option Correction) (ls : List Line) (rs : List Correction) → SpellRules ls rs
    → rules_behind p ls ≡ Ok (option_to_list p ++ rs)
complete None _ _ no_lines = refl
complete (Some q) _ _ no_lines = refl
complete p _ _ (a_rule l ls r rs s more) =
    a_rule_next p l ls r s ∙ ap (behind (option_to_list p)) (complete (Some r) ls rs more)
complete p _ _ (a_rule_with_message l m ls r text rs s t more) =
    a_rule_next p l (m ∷ ls) r s
    ∙ ap (behind (option_to_list p))
    (step (Some r) m ls
    ∙ ap (λ o. next (Some r) m ls (option_map (with_message r) o) (rule_of m))
    (message_read m text t)
    ∙ ap (behind (with_message r text ∷ [])) (complete None ls rs more))

pub lines_read : (ls : List Line) (rs : List Correction) → SpellRules ls rs → rules_of ls ≡ Ok rs
lines_read ls rs s = complete None ls rs s

-- the line at which reading stops
record Stops (p : Option Correction) (ls : List Line) (n : ℕ) : Type 0 where
  pub before : List Line
  pub fault : Line
  pub rest : List Line
  pub rules : List Correction
  pub whole : ls ≡ before ++ fault ∷ rest
  pub read : rules_behind p before ≡ Ok rules
  pub stopped : rules_behind p (before ++ fault ∷ []) ≡ Err fault.line
  pub is_its_line : n ≡ fault.line

stops_next : (l : Line) (ls : List Line) (p : Option Correction) (n : ℕ) (s o : Option Correction)
    → ((q : Option Correction) (m : ℕ) → rules_behind q ls ≡ Err m → Stops q ls m)
    → said_by p l ≡ s → rule_of l ≡ o → next p l ls s o ≡ Err n → Stops p (l ∷ ls) n
stops_next l ls p n (Some r) o go hs ho h =
    let later = go None n (behind_err (r ∷ []) (rules_behind None ls) n h) in
    let one : (us : List Line)
    → rules_behind p (l ∷ us) ≡ behind (r ∷ []) (rules_behind None us) =
    λ us. step p l us ∙ ap (λ m. next p l us m (rule_of l)) hs in
    record {
      before = l ∷ later.before;
      fault = later.fault;
      rest = later.rest;
      rules = (r ∷ []) ++ later.rules;
      whole = ap (λ us. l ∷ us) later.whole;
      read = one later.before ∙ ap (behind (r ∷ [])) later.read;
      stopped = one (later.before ++ later.fault ∷ []) ∙ ap (behind (r ∷ [])) later.stopped;
      is_its_line = later.is_its_line;
    }
stops_next l ls p n None (Some q) go hs ho h =
    let later = go (Some q) n (behind_err (option_to_list p) (rules_behind (Some q) ls) n h) in
    let one : (us : List Line)
    → rules_behind p (l ∷ us) ≡ behind (option_to_list p) (rules_behind (Some q) us) =
    λ us. step p l us ∙ (λ i. next p l us (hs i) (ho i)) in
    record {
      before = l ∷ later.before;
      fault = later.fault;
      rest = later.rest;
      rules = option_to_list p ++ later.rules;
      whole = ap (λ us. l ∷ us) later.whole;
      read = one later.before ∙ ap (behind (option_to_list p)) later.read;
      stopped =
          one (later.before ++ later.fault ∷ []) ∙ ap (behind (option_to_list p)) later.stopped;
      is_its_line = later.is_its_line;
    }
stops_next l ls p n None None go hs ho h =
    record {
      before = [];
      fault = l;
      rest = ls;
      rules = option_to_list p;
      whole = refl;
      read = refl;
      stopped = step p l [] ∙ (λ i. next p l [] (hs i) (ho i));
      is_its_line = cc;
    }

stops : (ls : List Line) (p : Option Correction) (n : ℕ) → rules_behind p ls ≡ Err n → Stops p ls n
stops [] p n h = cc
stops (l ∷ ls) p n h =
    stops_next l ls p n (said_by p l) (rule_of l) (stops ls) refl refl (sym (step p l ls) ∙ h)

pub fault_found : (ls : List Line) (n : ℕ) → rules_of ls ≡ Err n → HasSyntaxFault ls n
fault_found ls n h =
    let s = stops ls None n h in
    record {
      before = s.before;
      fault = s.fault;
      rest = s.rest;
      rules = s.rules;
      whole = s.whole;
      spelled = lines_spelled s.before s.rules s.read;
      not_spelled = λ rs spells. let e : Err s.fault.line ≡ Ok rs =
          sym s.stopped ∙ lines_read (s.before ++ s.fault ∷ []) rs spells in cc;
      is_its_line = s.is_its_line;
    }

-- where one line more isn't read, no lines behind it are
stays_last : (l : Line) (rest : List Line) (p : Option Correction) (n : ℕ)
    (s o : Option Correction) → next p l [] s o ≡ Err n → next p l rest s o ≡ Err l.line
stays_last l rest p n (Some r) o e = cc
stays_last l rest p n None (Some q) e = cc
stays_last l rest p n None None e = refl

stays_next : (k : Line) (before : List Line) (l : Line) (rest : List Line)
    (p : Option Correction) (rs : List Correction) (n : ℕ) (s o : Option Correction)
    → ((q : Option Correction) (qs : List Correction) (m : ℕ) → rules_behind q before ≡ Ok qs
    → rules_behind q (before ++ l ∷ []) ≡ Err m
    → rules_behind q (before ++ l ∷ rest) ≡ Err l.line)
    → next p k before s o ≡ Ok rs → next p k (before ++ l ∷ []) s o ≡ Err n
    → next p k (before ++ l ∷ rest) s o ≡ Err l.line
stays_next k before l rest p rs n (Some r) o go h e =
    let b = behind_ok (r ∷ []) (rules_behind None before) rs h in
    ap (behind (r ∷ [])) (go None b.0 n b.1
    (behind_err (r ∷ []) (rules_behind None (before ++ l ∷ [])) n e))
stays_next k before l rest p rs n None (Some q) go h e =
    let b = behind_ok (option_to_list p) (rules_behind (Some q) before) rs h in
    ap (behind (option_to_list p)) (go (Some q) b.0 n b.1
    (behind_err (option_to_list p) (rules_behind (Some q) (before ++ l ∷ [])) n e))
stays_next k before l rest p rs n None None go h e = cc

stays : (before : List Line) (l : Line) (rest : List Line) (p : Option Correction)
    (rs : List Correction) (n : ℕ) → rules_behind p before ≡ Ok rs
    → rules_behind p (before ++ l ∷ []) ≡ Err n → rules_behind p (before ++ l ∷ rest) ≡ Err l.line
stays [] l rest p rs n h e =
    step p l rest ∙ stays_last l rest p n (said_by p l) (rule_of l) (sym (step p l []) ∙ e)
stays (k ∷ before) l rest p rs n h e =
    step p k (before ++ l ∷ rest)
    ∙ stays_next k before l rest p rs n (said_by p k) (rule_of k)
    (λ q qs m. stays before l rest q qs m) (sym (step p k before) ∙ h)
    (sym (step p k (before ++ l ∷ [])) ∙ e)

either : (o : Result (List Correction) ℕ) → ((rs : List Correction) → o ≡ Ok rs → ⊥)
    → (n : ℕ) × (o ≡ Err n)
either (Ok rs) h = absurd (h rs refl)
either (Err n) h = (n, refl)

pub fault_read : (ls : List Line) (n : ℕ) → HasSyntaxFault ls n → rules_of ls ≡ Err n
fault_read ls n s =
    let more = s.before ++ s.fault ∷ [] in
    let e = either (rules_of more) (λ rs h. s.not_spelled rs (lines_spelled more rs h)) in
    ap rules_of s.whole
    ∙ stays s.before s.fault s.rest None s.rules e.0 (lines_read s.before s.rules s.spelled) e.1
    ∙ ap Err (sym s.is_its_line)
