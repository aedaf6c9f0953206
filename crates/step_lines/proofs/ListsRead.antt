-- Where lists of words can't go on.
use Rattle.std.proofs.Common.{◌≡◌, ◌≢◌, ◌⊎◌, inl, inr, ℕ, ◌≤◌, Bool, true, false, not, ◌==◌, List, [], ◌∷◌, ◌++◌, map, IfOk, MatchOption, Option, None, Some, Result, Ok, Err, refl, sym, ap, ◌∙◌, subst, arith}
use Rattle.std.specs.Cmp.Lexicographic.{pointwise}
use Rattle.std.specs.Fmt.{decimal}
use Rattle.std.specs.List.{list_all}
use Rattle.clause_base.specs.declared.lit.Lit.{Lit}
use Rattle.clause_base.specs.Readings.{IsReading}
use Rattle.step_lines.specs.Limits.{is_hint, is_literal}
use Rattle.step_lines.specs.LineForms.{list_end, literal_text}
use Rattle.step_lines.specs.Lines.{lacks, spaced}
use Rattle.step_lines.specs.Words.{NextNumber, SpellsHints, SpellsLiteral, SpellsLiterals, is_at}
use Rattle.step_lines.proofs.Apart.{both, clash, cons_tail, cut}
use Rattle.step_lines.proofs.Decimals.{decimal_lacks, decimal_one, space_is_other}
use Rattle.step_lines.proofs.Growing.{same_bytes}
use Rattle.step_lines.proofs.Rows.{Ahead, Words, ahead, flat, none_ahead, resume, starts_at, texts}
use Rattle.step_lines.proofs.WordKinds.{hint_limits, hint_words, hints_end, literal_words, literals_end, zero_text, zero_word}

-- a test of bytes that found them unequal
pub unequal : (r : Bool) (xs ys zs : List ℕ) → r ≡ pointwise ◌==◌ xs ys → ys ≡ zs → r ≡ false → xs ≡ zs → ⊥
unequal r xs ys zs e is differ same =
    let there : r ≡ true = e ∙ ap (pointwise ◌==◌ xs) is ∙ ap (λ x. pointwise ◌==◌ x zs) same ∙ same_bytes zs in
    clash r (ap not differ) there

-- hints

module _ (own : ℕ) (text : List ℕ) (found : List ℕ) (rest : List ℕ) (w : Words decimal (is_hint own) text found rest) where
  pub no_next_hint : ((n : ℕ) (behind : List ℕ) → NextNumber rest n behind → ⊥) → (x : List ℕ) → SpellsHints own text x → ⊥
  no_next_hint none x s =
      let r = resume decimal (is_hint own) (hint_words own) found x rest list_end w.kept s.kept w.joined (hints_end own) (sym w.written ∙ s.written) in
      by_more r.more r.text r.kept
    where
      by_more : (more : List ℕ) → rest ≡ texts decimal more ++ list_end → list_all (is_hint own) more ≡ true → ⊥
      by_more [] t k = none 0 [] (record { written = t ∙ ap (λ d. 32 ∷ (d ++ [])) (sym zero_text); apart = refl; kept = omega arith })
      by_more (y ∷ more) t k = none y (texts decimal more ++ list_end) (record {
        written = t ∙ flat decimal (is_hint own) y more list_end;
        apart = starts_at decimal (is_hint own) more list_end refl;
        kept = (hint_limits own y (both (is_hint own y) (list_all (is_hint own) more) k).0).low;
      })

  module _ (h : ℕ) (behind : List ℕ) (next : NextNumber rest h behind) where
    apart : lacks 32 (decimal h) ≡ true
    apart = decimal_lacks 32 h space_is_other next.kept

    hints_whole : h ≡ 0 → behind ≡ [] → SpellsHints own text found
    hints_whole z e =
        let end : rest ≡ list_end = next.written ∙ ap (λ d. 32 ∷ (d ++ behind)) (ap decimal z ∙ zero_text) ∙ ap (λ t. 32 ∷ 48 ∷ t) e in
        record { written = w.written ∙ ap (λ t. spaced (map decimal found) ++ t) end; kept = w.kept }

    module _ (x : List ℕ) (s : SpellsHints own text x) where
      here : ((x ≡ found) × (list_end ≡ 32 ∷ (decimal h ++ behind))) ⊎ Ahead decimal (is_hint own) found x (decimal h) behind list_end
      here = ahead decimal (is_hint own) (hint_words own) text found x rest (decimal h) behind list_end w s.kept (hints_end own) s.written next.written apart next.apart

      the_end : list_end ≡ 32 ∷ (decimal h ++ behind) → (decimal h ≡ 48 ∷ []) × (behind ≡ [])
      the_end e = let c = cut 32 (48 ∷ []) (decimal h) [] behind refl apart refl next.apart (cons_tail 32 32 (48 ∷ []) (decimal h ++ behind) e) in (sym c.front, sym c.back)

      more_behind : h ≡ 0 → behind ≢ [] → ⊥
      more_behind z more = elim here [
        | inl f ↦ more (the_end f.1).1
        | inr a ↦ let limits = hint_limits own a.next a.good_next in let same : h ≡ a.next = decimal_one h a.next next.kept limits.low a.spelled in omega (arith, limits.some)
      ]

      pub late_hint : h ≢ 0 → own ≤ h → ⊥
      late_hint some late = elim here [
        | inl f ↦ some (decimal_one h 0 next.kept (omega arith) ((the_end f.1).0 ∙ sym zero_text))
        | inr a ↦ let limits = hint_limits own a.next a.good_next in let same : h ≡ a.next = decimal_one h a.next next.kept limits.low a.spelled in omega (arith, limits.earlier)
      ]

    -- what is made of the hints behind which the end of their list was read
    pub hints_read : {E : Type 0} (z : h ≡ 0) (r : Result (Option (List ℕ)) E) → IfOk r (λ o. MatchOption o (behind ≢ []) (λ hs. (behind ≡ []) × (hs ≡ found))) → IfOk r (λ o. IsReading (SpellsHints own text) o)
    hints_read z (Err e) k = k
    hints_read z (Ok None) k = λ x s. more_behind x s z k
    hints_read z (Ok (Some hs)) k = subst (SpellsHints own text) (sym k.1) (hints_whole z k.0)

-- literals

module _ (vars : ℕ) (text : List ℕ) (found : List Lit) (rest : List ℕ) (w : Words literal_text (is_literal vars) text found rest) (lits : List Lit) (last : List ℕ) (s : SpellsLiterals vars text lits last) where
  pub no_literal_word : ((more : List ℕ) → rest ≡ 32 ∷ more → ⊥) → ⊥
  no_literal_word none =
      let r = none_ahead literal_text (is_literal vars) (literal_words vars) text found lits rest (list_end ++ last) w s.kept (literals_end vars last s.apart) s.written none in
      none (48 ∷ last) (sym r.1)

  pub no_literal : (piece behind : List ℕ) → rest ≡ 32 ∷ (piece ++ behind) → lacks 32 piece ≡ true → is_at 32 behind ≡ true → (piece ≡ 48 ∷ [] → ⊥) → ((l : Lit) → SpellsLiteral vars piece l → ⊥) → ⊥
  no_literal piece behind here apart at other none =
      elim (ahead literal_text (is_literal vars) (literal_words vars) text found lits rest piece behind (list_end ++ last) w s.kept (literals_end vars last s.apart) s.written here apart at) [
        | inl f ↦ other (zero_word piece behind last apart at s.apart f.1)
        | inr a ↦ none a.next (record { written = a.spelled; kept = a.good_next })
      ]
