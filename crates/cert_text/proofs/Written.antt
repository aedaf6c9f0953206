-- The text of a certificate, as it is written.
use Rattle.std.proofs.Common.{◌≡◌, ℕ, ◌+◌, ◌<◌, List, [], ◌∷◌, ◌++◌, length, take, get_or, codes, refl, sym, ap, ◌∙◌, subst, append_assoc}
use Rattle.std.proofs.lemmas.Grind.{flat_map-append}
use Rattle.std.proofs.lemmas.List.{append-nil, take_more}
use Rattle.input_space.specs.Cases.{SpellsCase}
use Rattle.input_space.specs.declared.case.Case.{Case}
use Rattle.input_space.specs.declared.session.Session.{Session}
use Rattle.cert_text.specs.declared.cert.Cert.{Cert}
use Rattle.cert_text.specs.Certificates.{IsCertOf, WritesCase, WritesCases, front_lines, session_lines, sessions_lines}
use Rattle.cert_text.specs.Limits.{KeepsForm}
use Rattle.cert_text.specs.LineForms.{SpellsCaseLine, last_line, set_apart}
use Rattle.step_lines.proofs.Apart.{all_append}
use Rattle.step_lines.specs.Lines.{ended, lacks}
use Rattle.cert_text.proofs.Spelled.{zip_push}
use Rattle.cert_text.proofs.Unbroken.{cases_unbroken, front_unbroken, sessions_unbroken}

pub ended_append : (ls ms : List (List ℕ)) → ended (ls ++ ms) ≡ ended ls ++ ended ms
ended_append [] ms = refl
ended_append (l ∷ ls) ms =
    ap (λ t. (l ++ 10 ∷ []) ++ t) (ended_append ls ms) ∙ sym (append_assoc (l ++ 10 ∷ []) (ended ls) (ended ms))

-- the lines of sessions behind those of others
pub sessions_joined : (b : List ℕ) (xs ys : List Session)
    → (b ++ ended (sessions_lines xs)) ++ ended (sessions_lines ys) ≡ b ++ ended (sessions_lines (xs ++ ys))
sessions_joined b xs ys =
    append_assoc b (ended (sessions_lines xs)) (ended (sessions_lines ys))
    ∙ ap (λ t. b ++ t) (sym (ended_append (sessions_lines xs) (sessions_lines ys)))
    ∙ ap (λ ls. b ++ ended ls) (sym (flat_map-append session_lines xs ys))

-- one case more

pub no_cases : (old : List ℕ) → WritesCases old old []
no_cases old = record { lines = []; spelled = tt; written = sym (append-nil old) }

pub one_case_more : (old mid new : List ℕ) (cs : List Case) (c : Case) → WritesCases old mid cs → WritesCase mid new c → WritesCases old new (cs ++ c ∷ [])
one_case_more old mid new cs c w l = record {
  lines = w.lines ++ l.line ∷ [];
  spelled = zip_push SpellsCaseLine w.lines cs l.line c w.spelled l.spelled;
  written =
      l.written ∙ ap (λ t. t ++ (l.line ++ 10 ∷ [])) w.written ∙ append_assoc old (ended w.lines) (l.line ++ 10 ∷ [])
      ∙ ap (λ t. old ++ (ended w.lines ++ t)) (sym (append-nil (l.line ++ 10 ∷ [])))
      ∙ ap (λ t. old ++ t) (sym (ended_append w.lines (l.line ∷ [])));
}

pub next_case : (old mid new : List ℕ) (cs : List Case) (i : ℕ) (c : Case) → i < length cs → c ≡ get_or cs i c → WritesCases old mid (take i cs) → WritesCase mid new c → WritesCases old new (take (i + 1) cs)
next_case old mid new cs i c low e w l =
    subst (WritesCases old new) (sym (take_more cs i c low ∙ ap (λ x. take i cs ++ x ∷ []) (sym e))) (one_case_more old mid new (take i cs) c w l)

pub case_written : (old a b new text : List ℕ) (c : Case) → a ≡ old ++ codes "case" → b ≡ a ++ set_apart text → new ≡ b ++ 10 ∷ [] → SpellsCase text c.values → WritesCase old new c
case_written old a b new text c e f g s = record {
  line = codes "case" ++ set_apart text;
  spelled = record { text = text; written = refl; spelled = s };
  written =
      g ∙ ap (λ t. t ++ 10 ∷ []) (f ∙ ap (λ t. t ++ set_apart text) e ∙ append_assoc old (codes "case") (set_apart text))
      ∙ append_assoc old (codes "case" ++ set_apart text) (10 ∷ []);
}

-- the whole text

module _ (c : Cert) (k : KeepsForm c) (none a b d text : List ℕ) where
  abbrev sessions : List (List ℕ)
  sessions = sessions_lines c.sessions

  abbrev front : List (List ℕ)
  front = front_lines c.claim c.selection

  pub cert_written : none ≡ [] → a ≡ none ++ ended front → WritesCases a b c.cases → d ≡ b ++ ended sessions → text ≡ d ++ codes "end\n" → IsCertOf text c
  cert_written n e w f g =
      let tail = sessions ++ last_line ∷ [] in
      let first : a ≡ ended front = e ∙ ap (λ t. t ++ ended front) n in
      let joined : text ≡ ended (front ++ (w.lines ++ tail)) =
      g ∙ ap (λ t. t ++ codes "end\n") (f ∙ ap (λ t. t ++ ended sessions) (w.written ∙ ap (λ t. t ++ ended w.lines) first))
      ∙ append_assoc (ended front ++ ended w.lines) (ended sessions) (codes "end\n")
      ∙ append_assoc (ended front) (ended w.lines) (ended sessions ++ codes "end\n")
      ∙ ap (λ t. ended front ++ (ended w.lines ++ t)) (sym (ended_append sessions (last_line ∷ [])))
      ∙ ap (λ t. ended front ++ t) (sym (ended_append w.lines tail)) ∙ sym (ended_append front (w.lines ++ tail)) in
      let last = all_append (lacks 10) sessions (last_line ∷ []) (sessions_unbroken (length c.cases) c.sessions k.sessions) refl in
      let behind = all_append (lacks 10) w.lines tail (cases_unbroken w.lines c.cases w.spelled) last in
      record {
        lines = front ++ (w.lines ++ tail);
        cut = record { joined = joined; apart = all_append (lacks 10) front (w.lines ++ tail) (front_unbroken c.claim c.selection k.claimed) behind };
        spelled = record { case_lines = w.lines; cases = w.spelled; written = refl; kept = k };
      }
