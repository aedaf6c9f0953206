-- Where lists of words can't go on.
use Rattle.std.proofs.Common.{◌≡◌, ◌≢◌, inl, inr, ℕ, ◌≤◌, ◌<◌, true, List, [], ◌∷◌, ◌++◌, sym, ap, ◌∙◌, subst, arith}
use Rattle.std.proofs.lemmas.List.{append-nil}
use Rattle.choice_tree.specs.Choices.{Rises}
use Rattle.choice_tree.specs.declared.selection.Choice.{Choice}
use Rattle.step_lines.proofs.Rows.{Ahead, Words, ahead, none_ahead, nothing_stops}
use Rattle.step_lines.specs.Lines.{lacks}
use Rattle.step_lines.specs.Words.{is_at}
use Rattle.cert_text.specs.Limits.{is_choice}
use Rattle.cert_text.specs.LineForms.{choice_text, choices_text}
use Rattle.cert_text.specs.Words.{SpellsChoice, SpellsChoices}
use Rattle.cert_text.proofs.Rising.{behind_picks, rises_at}
use Rattle.cert_text.proofs.WordKinds.{choice_parts, choice_words}

-- choices

module _ (text : List ℕ) (found : List Choice) (rest : List ℕ) (w : Words choice_text is_choice text found rest) (x : List Choice) (s : SpellsChoices text x) where
  pub no_choice_word : rest ≢ [] → ((more : List ℕ) → rest ≡ 32 ∷ more → ⊥) → ⊥
  no_choice_word some none =
      let r = none_ahead choice_text is_choice choice_words text found x rest [] w s.kept.each (nothing_stops choice_text is_choice) (s.written ∙ sym (append-nil (choices_text x))) none in
      some (sym r.1)

  module _ (piece behind : List ℕ) (here : rest ≡ 32 ∷ (piece ++ behind)) (apart : lacks 32 piece ≡ true) (at : is_at 32 behind ≡ true) where
    here_choice : (([] ≡ 32 ∷ (piece ++ behind)) → ⊥) → Ahead choice_text is_choice found x piece behind []
    here_choice never =
        elim (ahead choice_text is_choice choice_words text found x rest piece behind [] w s.kept.each (nothing_stops choice_text is_choice) (s.written ∙ sym (append-nil (choices_text x))) here apart at) [
          | inl f ↦ absurd (never f.1)
          | inr a ↦ a
        ]

    next_choice : Ahead choice_text is_choice found x piece behind []
    next_choice = here_choice (λ e. cc)

    pub no_choice : ((c : Choice) → SpellsChoice piece c → ⊥) → ⊥
    no_choice none = let a = next_choice in none a.next (record { written = a.spelled; kept = a.good_next })

    pub no_rise : (c : Choice) → SpellsChoice piece c → c.pick < behind_picks 0 found → ⊥
    no_rise c h low =
        let a = next_choice in
        let same : c ≡ a.next = choice_parts c a.next h.kept a.good_next (sym h.written ∙ a.spelled) in
        let pick : c.pick ≡ a.next.pick = ap (λ (k : Choice). k.pick) same in
        let least : behind_picks 0 found ≤ a.next.pick = rises_at 0 found a.next a.more (subst (Rises 0) a.list s.kept.rising) in
        omega (arith, pick, least, low)
