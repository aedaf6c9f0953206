-- A class of submissions: the files that it reads, and what is told of a listed one.
use Rattle.std.specs.Prelude.{◌≡◌, ◌≢◌, ℕ, List, [], ◌∷◌, None, codes}
use Rattle.grade_io.specs.Words.{refusal_line}
use Rattle.grade_io.specs.declared.status.Status.TheVariants as status
use Rattle.mpy_tree.specs.declared.refusal.Source.{Source}
use Rattle.mpy_tree.specs.declared.refusal.Source.TheVariants as source
use Rattle.source_files.specs.Files.{SourceFile, file}
use Rattle.class_text.specs.Entries.{Entry}

-- the texts that all submissions of a class share
pub record Shared : Type 0 where
  pub bounds : List ℕ
  pub reference : List ℕ
  pub rules : List ℕ

-- the names of the four files of a class
pub record ClassFiles : Type 0 where
  pub bounds : List ℕ
  pub reference : List ℕ
  pub rules : List ℕ
  pub list : List ℕ

-- a class: its files, and what may be told of a listed one by the shared texts, its name and its
-- own text
pub record Class : Type 1 where
  pub files : ClassFiles
  pub tells : Shared → List ℕ → List ℕ → Entry → Type 0

-- the list stands in the place of the submissions, which it names
abbrev pub files_of : ClassFiles → List SourceFile
files_of f =
    file source.Bounds f.bounds ∷ file source.Reference f.reference ∷ file source.Rules f.rules
    ∷ file source.Submission f.list ∷ []

-- the word that names a file
abbrev pub word_of : ClassFiles → Source → List ℕ
word_of f source.Bounds = f.bounds
word_of f source.Reference = f.reference
word_of f source.Submission = f.list
word_of f source.Rules = f.rules
word_of f source.Cert = []
word_of f (source.Word n) = []

-- the texts of the four files
abbrev pub texts_with : Shared → List ℕ → List (List ℕ)
texts_with t list = t.bounds ∷ t.reference ∷ t.rules ∷ list ∷ []

-- what the fetch of a listed file gave
pub data Got : Type 0 where
  Unread : Got
  TooLong : Got
  Bytes : (text : List ℕ) → Got

-- nothing is told of the file but that it wasn't read
pub record IsUnread (x : Entry) : Type 0 where
  pub status_is : x.status ≡ status.ReadFailed
  pub report_is : x.report ≡ []
  pub certificate_is : x.certificate ≡ None

-- the file is refused as too long
pub record IsRefusedLong (name : List ℕ) (x : Entry) : Type 0 where
  pub status_is : x.status ≡ status.Refused
  pub report_is : x.report ≡ refusal_line name 0 (codes "Long")
  pub certificate_is : x.certificate ≡ None

-- What is told of a listed file by what its fetch gave. One that was read doesn't have the status
-- of one that wasn't.
abbrev pub Tells : Class → Shared → List ℕ → Got → Entry → Type 0
Tells c t name Unread x = IsUnread x
Tells c t name TooLong x = IsRefusedLong name x
Tells c t name (Bytes text) x =
    (x.status ≢ status.ReadFailed) × c.tells t name text x
