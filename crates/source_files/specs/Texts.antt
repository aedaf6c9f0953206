-- The texts of files, in order.
use Rattle.std.specs.Prelude.{◌≡◌, ◌⊎◌, ℕ, ◌+◌, ◌<◌, ◌≤◌, List, [], ◌∷◌, length, Some}
use Rattle.grade_io.specs.Devices.{ShelfState}
use Rattle.grade_io.specs.Kept.{Holds}
use Rattle.mpy_tree.specs.declared.refusal.Cause.TheVariants as cause
use Rattle.mpy_tree.specs.declared.refusal.Source.{Source}
use Rattle.mpy_tree.specs.declared.refusal.Refusal.{Refusal}
use Rattle.source_files.specs.Files.{SourceFile, limit_of}

-- the text has no more bytes than its source may have
abbrev pub Fits : Source → List ℕ → Type 0
Fits s text = length text ≤ limit_of s

abbrev pub IsLong : Source → List ℕ → Type 0
IsLong s text = limit_of s < length text

-- there is a text of each source, and it fits
abbrev pub AllFit : List Source → List (List ℕ) → Type 0
AllFit [] [] = Unit {0}
AllFit [] (t ∷ ts) = ⊥
AllFit (s ∷ ss) [] = ⊥
AllFit (s ∷ ss) (t ∷ ts) = Fits s t × AllFit ss ts

-- the first of the sources whose text is too long is this one
abbrev pub IsFirstLong : List Source → List (List ℕ) → Source → Type 0
IsFirstLong [] ts s = ⊥
IsFirstLong (q ∷ qs) [] s = ⊥
IsFirstLong (q ∷ qs) (t ∷ ts) s =
    (IsLong q t × (q ≡ s)) ⊎ (Fits q t × IsFirstLong qs ts s)

-- the refusal of the first source that is too long
pub record IsTooLong (ss : List Source) (ts : List (List ℕ)) (r : Refusal) : Type 0 where
  pub long : IsFirstLong ss ts r.source
  pub cause_is : r.cause ≡ cause.Long
  pub line_is : r.line ≡ 0

-- the shelf tells these texts for the files
abbrev pub Tells : ShelfState → List SourceFile → List (List ℕ) → Type 0
Tells shelf [] [] = Unit {0}
Tells shelf [] (t ∷ ts) = ⊥
Tells shelf (f ∷ fs) [] = ⊥
Tells shelf (f ∷ fs) (t ∷ ts) = (shelf.holds f.word ≡ Some t) × Tells shelf fs ts

-- each text is that of its file where the shelf tells it
abbrev pub AreHeld : ShelfState → List SourceFile → List (List ℕ) → Type 0
AreHeld shelf [] [] = Unit {0}
AreHeld shelf [] (t ∷ ts) = ⊥
AreHeld shelf (f ∷ fs) [] = ⊥
AreHeld shelf (f ∷ fs) (t ∷ ts) = Holds shelf f.word t × AreHeld shelf fs ts

-- the last fetch took one byte more than the source may have
abbrev pub TookTooMuch : Source → ShelfState → Type 0
TookTooMuch s after = after.taken ≡ limit_of s + 1
