-- A command that reads files: what their texts decide, and what is written and kept of it.
use Rattle.std.specs.Prelude.{ℕ, List, Option, None}
use Rattle.grade_io.specs.declared.status.Status.{Status}
use Rattle.grade_io.specs.declared.status.Status.TheVariants as status
use Rattle.mpy_tree.specs.declared.refusal.Refusal.{Refusal}
use Rattle.source_files.specs.Files.{SourceFile}

-- The files that a command reads, in order, and the word under which it stores what it keeps, if it
-- keeps anything; the answers that the texts decide, and for what these are refused, both by what
-- they say; what is kept of an answer, if anything; what is written of it, with the status where it
-- is written whole; and the line of a refusal.
pub record FileCommand (A : Type 0) : Type 1 where
  pub files : List SourceFile
  pub place : Option (List ℕ)
  pub decides : List (List ℕ) → A → Type 0
  pub refuses : List (List ℕ) → Refusal → Type 0
  pub kept : A → Option (List ℕ)
  pub text : A → List ℕ
  pub status : A → Status
  pub line : Refusal → List ℕ

-- what comes of a command: an answer, or the refusal of a source
pub data Outcome (A : Type 0) : Type 0 where
  Answered : (a : A) → Outcome A
  Refused : (r : Refusal) → Outcome A

-- what is kept of an outcome
abbrev pub kept_of : {A : Type 0} → FileCommand A → Outcome A → Option (List ℕ)
kept_of c (Answered a) = c.kept a
kept_of c (Refused r) = None

-- what is written of an outcome
abbrev pub text_of : {A : Type 0} → FileCommand A → Outcome A → List ℕ
text_of c (Answered a) = c.text a
text_of c (Refused r) = c.line r

-- the status of an outcome that is written whole
abbrev pub status_of : {A : Type 0} → FileCommand A → Outcome A → Status
status_of c (Answered a) = c.status a
status_of c (Refused r) = status.Refused
