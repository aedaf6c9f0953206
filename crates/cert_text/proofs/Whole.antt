-- The lines of a text, and what is known where the reading stops.
use Rattle.std.proofs.Common.{◌≡◌, ℕ, suc, ◌+◌, ◌≤◌, true, List, [], ◌∷◌, ◌++◌, Result, Err, length, refl, sym, ap, ◌∙◌, subst, arith, append_assoc, length-append}
use Rattle.std.specs.List.{list_all}
use Rattle.std.proofs.lemmas.List.{append-nil}
use Rattle.input_space.specs.CaseLaws.{OneCase}
use Rattle.cert_text.specs.declared.cert.Cert.{Cert}
use Rattle.cert_text.specs.declared.cert.CertError.{CertError}
use Rattle.cert_text.specs.declared.cert.CertError.TheVariants as cert_error
use Rattle.cert_text.specs.declared.draft.Draft.{Draft}
use Rattle.cert_text.specs.declared.draft.Draft.TheVariants as draft
use Rattle.cert_text.specs.CertLaws.{OneCert}
use Rattle.cert_text.specs.Certificates.{CanGoOn, IsCertOf, SpellsCert, StopsAt}
use Rattle.cert_text.specs.Drafts.{Next}
use Rattle.step_lines.proofs.Apart.{all_append, all_right, both, cons_tail, cut, two}
use Rattle.step_lines.specs.Lines.{ended, lacks}
use Rattle.cert_text.proofs.Closing.{can_go_on}
use Rattle.cert_text.proofs.Completing.{complete}
use Rattle.cert_text.proofs.Spelled.{Spelled, spelled_more}
use Rattle.cert_text.proofs.Steps.{Path, one_more, one_path, parted}

-- the first line apart
flat : (l : List ℕ) (ls : List (List ℕ)) (rest : List ℕ) → ended (l ∷ ls) ++ rest ≡ l ++ (10 ∷ (ended ls ++ rest))
flat l ls rest = append_assoc (l ++ 10 ∷ []) (ended ls) rest ∙ append_assoc l (10 ∷ []) (ended ls ++ rest)

ended_push : (ls : List (List ℕ)) (l rest : List ℕ) → ended ls ++ (l ++ (10 ∷ rest)) ≡ ended (ls ++ l ∷ []) ++ rest
ended_push [] l rest = sym (flat l [] rest)
ended_push (k ∷ ls) l rest =
    flat k ls (l ++ (10 ∷ rest)) ∙ ap (λ t. k ++ (10 ∷ t)) (ended_push ls l rest) ∙ sym (flat k (ls ++ l ∷ []) rest)

not_empty : (l rest : List ℕ) → l ++ (10 ∷ rest) ≡ [] → ⊥
not_empty [] rest e = cc
not_empty (c ∷ l) rest e = cc

-- lines before others
pub record Before (ls ms : List (List ℕ)) (rest : List ℕ) : Type 0 where
  pub more : List (List ℕ)
  pub list : ms ≡ ls ++ more
  pub text : rest ≡ ended more

before : (ls ms : List (List ℕ)) (rest : List ℕ) → list_all (lacks 10) ls ≡ true → list_all (lacks 10) ms ≡ true → ended ls ++ rest ≡ ended ms → Before ls ms rest
before [] ms rest h g e = record { more = ms; list = refl; text = e }
before (l ∷ ls) [] rest h g e = absurd (not_empty l (ended ls ++ rest) (sym (flat l ls rest) ∙ e))
before (l ∷ ls) (m ∷ ms) rest h g e =
    let a = both (lacks 10 l) (list_all (lacks 10) ls) h in
    let b = both (lacks 10 m) (list_all (lacks 10) ms) g in
    let right : ended (m ∷ ms) ≡ m ++ (10 ∷ ended ms) = append_assoc m (10 ∷ []) (ended ms) in
    let s = cut 10 l m (10 ∷ (ended ls ++ rest)) (10 ∷ ended ms) a.0 b.0 refl refl (sym (flat l ls rest) ∙ e ∙ right) in
    let r = before ls ms rest a.1 b.1 (cons_tail 10 10 (ended ls ++ rest) (ended ms) s.back) in
    record { more = r.more; list = ap (λ x. x ∷ ms) (sym s.front) ∙ ap (λ xs. l ∷ xs) r.list; text = r.text }

-- what was read of a text
pub record Reads (text rest : List ℕ) (number : ℕ) (d : Draft) : Type 0 where
  pub lines : List (List ℕ)
  pub apart : list_all (lacks 10) lines ≡ true
  pub joined : text ≡ ended lines ++ rest
  pub counted : number ≡ suc (length lines)
  pub spelled : Spelled lines d
  pub path : Path draft.Start lines d

ended_length : (ls : List (List ℕ)) (rest : List ℕ) → length ls + length rest ≤ length (ended ls ++ rest)
ended_length [] rest = omega arith
ended_length (l ∷ ls) rest =
    let e = ap length (flat l ls rest) in
    let s = length-append l (10 ∷ (ended ls ++ rest)) in
    let r = ended_length ls rest in
    omega (arith, e, s, r)

-- there are no more lines than bytes
pub lines_few : (text rest : List ℕ) (number : ℕ) (d : Draft) → Reads text rest number d → number + length rest ≤ suc (length text)
lines_few text rest number d r =
    let e = ap length r.joined in
    let s = ended_length r.lines rest in
    omega (arith, r.counted, e, s)

pub line_low : (text rest : List ℕ) (number : ℕ) (d : Draft) (l next : List ℕ) → Reads text rest number d → rest ≡ l ++ (10 ∷ next) → length text ≤ 1073741824 → length l ≤ 1073741824
line_low text rest number d l next r split low =
    let few = lines_few text rest number d r in
    let e = ap length split in
    let s = length-append l (10 ∷ next) in
    omega (arith, few, e, s, low, r.counted)

pub number_low : (text rest : List ℕ) (number : ℕ) (d : Draft) → Reads text rest number d → length text ≤ 1073741824 → number ≤ 1073741825
number_low text rest number d r low = let few = lines_few text rest number d r in omega (arith, few, low)

-- the line of an error
pub same_line : (m n : ℕ) → ◌≡◌ {A = Result Cert CertError} (Err (cert_error.Syntax m)) (Err (cert_error.Syntax n)) → m ≡ n
same_line m n e = cc

pub nothing_read : (text : List ℕ) → Reads text text 1 draft.Start
nothing_read text = record { lines = []; apart = refl; joined = refl; counted = refl; spelled = refl; path = refl }

pub reads_more : (text rest : List ℕ) (number : ℕ) (d : Draft) (l next : List ℕ) (e : Draft) → Reads text rest number d → rest ≡ l ++ (10 ∷ next) → lacks 10 l ≡ true → Next d l e → Reads text next (number + 1) e
reads_more text rest number d l next e r split apart n = record {
  lines = r.lines ++ l ∷ [];
  apart = all_append (lacks 10) r.lines (l ∷ []) r.apart (two (lacks 10 l) true apart refl);
  joined = r.joined ∙ ap (λ t. ended r.lines ++ t) split ∙ ended_push r.lines l next;
  counted = omega (arith, r.counted, length-append r.lines (l ∷ []));
  spelled = spelled_more r.lines d l e r.spelled n;
  path = one_more draft.Start r.lines d l e r.path n;
}

module _ (one : OneCase) where
  stuck : (ls : List (List ℕ)) (d : Draft) (l : List ℕ) → Path draft.Start ls d → ((e : Draft) → Next d l e → ⊥) → (more : List (List ℕ)) (c : Cert) → SpellsCert (ls ++ l ∷ more) c → ⊥
  stuck ls d l p none more c s =
      let q = parted draft.Start ls (l ∷ more) (draft.Whole c) (complete (ls ++ l ∷ more) c s) in
      let same : q.0 ≡ d = one_path one draft.Start ls q.0 d q.1 p in
      none q.2.0 (subst (λ x. Next x l q.2.0) same q.2.1)

  module _ (text rest : List ℕ) (number : ℕ) (d : Draft) (r : Reads text rest number d) where
    -- the lines of a certificate's text go on behind those that were read
    lines_before : (c : Cert) → (h : IsCertOf text c) → Before r.lines h.lines rest
    lines_before c h = before r.lines h.lines rest r.apart h.cut.apart (sym r.joined ∙ h.cut.joined)

    module _ (l next : List ℕ) (split : rest ≡ l ++ (10 ∷ next)) (apart : lacks 10 l ≡ true) (none : (e : Draft) → Next d l e → ⊥) where
      pub stuck_stops : StopsAt text number
      stuck_stops = record {
        front = r.lines;
        apart = r.apart;
        behind = rest;
        cut = r.joined;
        counted = r.counted;
        before = can_go_on r.lines d r.spelled;
        here = λ line others e a g.
            (let s = cut 10 line l (10 ∷ others) (10 ∷ next) a apart refl refl (sym e ∙ split) in
            let go = subst (λ x. CanGoOn (r.lines ++ x ∷ [])) s.front g in
            stuck r.lines d l r.path none go.more go.cert (subst (λ x. SpellsCert x go.cert) (append_assoc r.lines (l ∷ []) go.more) go.spelled));
      }

      at_line : (c : Cert) (lines more : List (List ℕ)) → SpellsCert lines c → list_all (lacks 10) lines ≡ true → lines ≡ r.lines ++ more → rest ≡ ended more → ⊥
      at_line c lines [] s a i e = not_empty l next (sym split ∙ e)
      at_line c lines (m ∷ more) s a i e =
          let right : ended (m ∷ more) ≡ m ++ (10 ∷ ended more) = append_assoc m (10 ∷ []) (ended more) in
          let lack = both (lacks 10 m) (list_all (lacks 10) more) (all_right (lacks 10) r.lines (m ∷ more) (subst (λ x. list_all (lacks 10) x ≡ true) i a)) in
          let same = cut 10 m l (10 ∷ ended more) (10 ∷ next) lack.0 apart refl refl (sym right ∙ sym e ∙ split) in
          stuck r.lines d l r.path none more c (subst (λ x. SpellsCert x c) (i ∙ ap (λ x. r.lines ++ x ∷ more) same.front) s)

      pub stuck_none : (c : Cert) → IsCertOf text c → ⊥
      stuck_none c h = let b = lines_before c h in at_line c h.lines b.more h.spelled h.cut.apart b.list b.text

    module _ (none : (line others : List ℕ) → rest ≡ line ++ (10 ∷ others) → ⊥) where
      pub end_stops : StopsAt text number
      end_stops = record {
        front = r.lines;
        apart = r.apart;
        behind = rest;
        cut = r.joined;
        counted = r.counted;
        before = can_go_on r.lines d r.spelled;
        here = λ line others e a g. none line others e;
      }

      at_end : (c : Cert) (lines more : List (List ℕ)) → SpellsCert lines c → lines ≡ r.lines ++ more → rest ≡ ended more → (d ≡ draft.Whole c) × (rest ≡ [])
      at_end c lines [] s i e =
          let all : lines ≡ r.lines = i ∙ append-nil r.lines in
          (one_path one draft.Start r.lines d (draft.Whole c) r.path (complete r.lines c (subst (λ x. SpellsCert x c) all s)), e)
      at_end c lines (m ∷ more) s i e = absurd (none m (ended more) (e ∙ append_assoc m (10 ∷ []) (ended more)))

      pub end_whole : (c : Cert) → IsCertOf text c → (d ≡ draft.Whole c) × (rest ≡ [])
      end_whole c h = let b = lines_before c h in at_end c h.lines b.more h.spelled b.list b.text

  pub one_cert : OneCert
  one_cert text c d h g =
      let b = before h.lines g.lines [] h.cut.apart g.cut.apart (append-nil (ended h.lines) ∙ sym h.cut.joined ∙ g.cut.joined) in
      by_more b.more b.list b.text
    where
      by_more : (more : List (List ℕ)) → g.lines ≡ h.lines ++ more → [] ≡ ended more → c ≡ d
      by_more [] i e =
          let same : g.lines ≡ h.lines = i ∙ append-nil h.lines in
          let whole : draft.Whole c ≡ draft.Whole d = one_path one draft.Start h.lines (draft.Whole c) (draft.Whole d) (complete h.lines c h.spelled) (complete h.lines d (subst (λ x. SpellsCert x d) same g.spelled)) in
          cc
      by_more (m ∷ more) i e = absurd (not_empty m (ended more) (sym (append_assoc m (10 ∷ []) (ended more)) ∙ sym e))

pub is_read : (text rest : List ℕ) (number : ℕ) (c : Cert) → Reads text rest number (draft.Whole c) → rest ≡ [] → IsCertOf text c
is_read text rest number c r e = record {
  lines = r.lines;
  cut = record { joined = r.joined ∙ ap (λ t. ended r.lines ++ t) e ∙ append-nil (ended r.lines); apart = r.apart };
  spelled = r.spelled;
}
