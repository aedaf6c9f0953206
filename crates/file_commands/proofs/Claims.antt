-- What follows from how a command ends.
use Rattle.std.proofs.Common.{◌≡◌, ◌⊎◌, ℕ, List, [], ◌∷◌, refl, sym, ap, subst, ◌∙◌, inl, inr}
use Rattle.grade_io.specs.Devices.{Devices, ShelfState, Rose}
use Rattle.grade_io.specs.Written.{Wrote}
use Rattle.grade_io.specs.declared.status.Status.{Status}
use Rattle.grade_io.specs.declared.status.Status.TheVariants as status
use Rattle.mpy_tree.specs.declared.refusal.Refusal.{Refusal}
use Rattle.source_files.specs.Files.{SourceFile, sources_of}
use Rattle.source_files.specs.Texts.{AllFit, AreHeld, Tells}
use Rattle.file_commands.specs.Claims.{AreTold, IsSaid, NoFault}
use Rattle.file_commands.specs.Commands.{FileCommand, Outcome, Answered, Refused, status_of, text_of}
use Rattle.file_commands.specs.Ends.{ComesOf, ComesOfFiles, Ends, EndsBySaying, IsFirstRefusal}
use Rattle.file_commands.proofs.FirstRefusals.{not_first, one_refusal}

-- a call that ends by saying, with no fault: what it said
pub record IsSaying {A : Type 0} (c : FileCommand A) (before after : Devices) (s : Status) : Type 0 where
  pub outcome : Outcome A
  pub comes : ComesOfFiles c before.shelf after.shelf outcome
  pub status_is : s ≡ status_of c outcome
  pub wrote : Wrote before.sink after.sink (text_of c outcome)

-- the texts that are told are the ones
pub told_texts : (shelf : ShelfState) (fs : List SourceFile) (ts us : List (List ℕ)) → Tells shelf fs ts → AreHeld shelf fs us → us ≡ ts
told_texts shelf [] [] [] tells held = refl
told_texts shelf [] [] (u ∷ us) tells held = absurd held
told_texts shelf [] (t ∷ ts) us tells held = absurd tells
told_texts shelf (f ∷ fs) [] us tells held = absurd tells
told_texts shelf (f ∷ fs) (t ∷ ts) [] tells held = absurd held
told_texts shelf (f ∷ fs) (t ∷ ts) (u ∷ us) tells held =
    ap (λ x. x ∷ us) (held.0 t tells.0) ∙ ap (λ xs. t ∷ xs) (told_texts shelf fs ts us tells.1 held.1)

module _ {A : Type 0} (c : FileCommand A) where
  is_saying : (before after : Devices) (s : Status) → (ends : EndsBySaying c before after s) → s ≡ status_of c ends.outcome
      → Wrote before.sink after.sink (text_of c ends.outcome) → IsSaying c before after s
  is_saying before after s ends is wrote = record { outcome = ends.outcome; comes = ends.comes; status_is = is; wrote = wrote }

  -- without a fault a call says something, or memory lacked
  pub says_or_lacks : (before after : Devices) (s : Status) → Ends c before after s → NoFault before after → (s ≡ status.NoMemory) ⊎ IsSaying c before after s
  says_or_lacks before after status.ReadFailed ends sure = absurd (sure.shelf ends.rose)
  says_or_lacks before after status.WriteFailed ends sure = absurd (sure.sink ends.says.0)
  says_or_lacks before after status.NoMemory ends sure = inl refl
  says_or_lacks before after status.StoreFailed ends sure = absurd (sure.shelf (subst (λ n. Rose n after.shelf.faults) ends.well ends.rose))
  says_or_lacks before after status.Correct ends sure = inr (is_saying before after status.Correct ends ends.says.0 ends.says.2)
  says_or_lacks before after status.Corrected ends sure = inr (is_saying before after status.Corrected ends ends.says.0 ends.says.2)
  says_or_lacks before after status.NoCorrection ends sure = inr (is_saying before after status.NoCorrection ends ends.says.0 ends.says.2)
  says_or_lacks before after status.Spent ends sure = inr (is_saying before after status.Spent ends ends.says.0 ends.says.2)
  says_or_lacks before after status.Refused ends sure = inr (is_saying before after status.Refused ends ends.says.0 ends.says.2)
  says_or_lacks before after status.Usage ends sure = inr (is_saying before after status.Usage ends ends.says.0 ends.says.2)
  says_or_lacks before after status.Rejected ends sure = inr (is_saying before after status.Rejected ends ends.says.0 ends.says.2)

  -- what comes of told texts
  pub told_comes : (before after : ShelfState) (ts : List (List ℕ)) (o : Outcome A) → Tells before c.files ts → ComesOfFiles c before after o → ComesOf c ts after o
  told_comes before after ts o tells comes = subst (λ x. ComesOf c x after o) (told_texts before c.files ts comes.texts tells comes.held) comes.comes

  pub first_refusal : (ts : List (List ℕ)) (after : ShelfState) (r : Refusal) → ComesOf c ts after (Refused r) → IsFirstRefusal c ts r
  first_refusal ts after r h = elim h [
    | inl long ↦ inl long.0
    | inr said ↦ inr said
  ]

  no_usage : ((a : A) → status.Usage ≡ c.status a → ⊥) → (o : Outcome A) → status.Usage ≡ status_of c o → ⊥
  no_usage never (Answered a) e = never a e
  no_usage never (Refused r) e = cc

  -- the usage isn't answered where no answer has its status
  pub never_usage : (before after : Devices) → ((a : A) → status.Usage ≡ c.status a → ⊥) → Ends c before after status.Usage → ⊥
  never_usage before after never ends = no_usage never ends.outcome ends.says.0

  pub read_failed : (before after : Devices) (s : Status) → Ends c before after s → s ≡ status.ReadFailed → Rose before.shelf.faults after.shelf.faults
  read_failed before after s ends is = (subst (Ends c before after) is ends).rose

module _ {A : Type 0} (c : FileCommand A) (ts : List (List ℕ)) (before after : Devices) (s : Status) where
  -- what the texts decide is answered
  outcome_answered : (P : Status → Type 0) → AllFit (sources_of c.files) ts → ((a : A) → c.decides ts a → Wrote before.sink after.sink (c.text a) → P (c.status a)) → ((r : Refusal) → c.refuses ts r → ⊥)
      → (o : Outcome A) → ComesOf c ts after.shelf o → Wrote before.sink after.sink (text_of c o) → P (status_of c o)
  outcome_answered P fit given none (Answered a) comes wrote = given a comes.1 wrote
  outcome_answered P fit given none (Refused r) comes wrote = absurd (not_first c ts r (none r) fit (first_refusal c ts after.shelf r comes))

  pub answered : (P : Status → Type 0) → P status.NoMemory → ((a : A) → c.decides ts a → Wrote before.sink after.sink (c.text a) → P (c.status a))
      → ((r : Refusal) → c.refuses ts r → ⊥) → Ends c before after s → AreTold before c.files ts → NoFault before after → P s
  answered P lacking given none ends told sure = elim (says_or_lacks c before after s ends sure) [
    | inl lacks ↦ subst P (sym lacks) lacking
    | inr x ↦ subst P (sym x.status_is) (outcome_answered P told.fit given none x.outcome (told_comes c before.shelf after.shelf ts x.outcome told.tells x.comes) x.wrote)
  ]

  -- the first refusal of told texts is said
  outcome_refused : (r : Refusal) → ((a : A) → c.decides ts a → c.refuses ts r → ⊥) → ((q r : Refusal) → c.refuses ts q → c.refuses ts r → q ≡ r) → IsFirstRefusal c ts r
      → (o : Outcome A) → ComesOf c ts after.shelf o → Wrote before.sink after.sink (text_of c o) → IsSaid (c.line r) status.Refused before.sink after.sink (status_of c o)
  outcome_refused r not_both one first (Answered a) comes wrote = absurd (not_first c ts r (not_both a comes.1) comes.0 first)
  outcome_refused r not_both one first (Refused q) comes wrote =
      (refl, subst (λ (x : Refusal). Wrote before.sink after.sink (c.line x)) (one_refusal c ts one q r (first_refusal c ts after.shelf q comes) first) wrote)

  pub refused : (r : Refusal) → ((a : A) → c.decides ts a → c.refuses ts r → ⊥) → ((q r : Refusal) → c.refuses ts q → c.refuses ts r → q ≡ r)
      → Ends c before after s → Tells before.shelf c.files ts → IsFirstRefusal c ts r → NoFault before after → IsSaid (c.line r) status.Refused before.sink after.sink s
  refused r not_both one ends tells first sure = elim (says_or_lacks c before after s ends sure) [
    | inl lacks ↦ subst (IsSaid (c.line r) status.Refused before.sink after.sink) (sym lacks) tt
    | inr x ↦ subst (IsSaid (c.line r) status.Refused before.sink after.sink) (sym x.status_is)
        (outcome_refused r not_both one first x.outcome (told_comes c before.shelf after.shelf ts x.outcome tells x.comes) x.wrote)
  ]
