-- One refusal of texts at most is the first.
use Rattle.std.proofs.Common.{◌≡◌, ℕ, List, [], ◌∷◌, sym, ◌∙◌, arith, inl, inr}
use Rattle.mpy_tree.specs.declared.refusal.Source.{Source}
use Rattle.mpy_tree.specs.declared.refusal.Refusal.{Refusal}
use Rattle.source_files.specs.Files.{sources_of}
use Rattle.source_files.specs.Texts.{AllFit, IsFirstLong, IsTooLong}
use Rattle.file_commands.specs.Commands.{FileCommand}
use Rattle.file_commands.specs.Ends.{IsFirstRefusal}

pub long_fits : (ss : List Source) (ts : List (List ℕ)) (s : Source) → AllFit ss ts → IsFirstLong ss ts s → ⊥
long_fits [] ts s fit long = long
long_fits (q ∷ qs) [] s fit long = long
long_fits (q ∷ qs) (t ∷ ts) s fit long = elim long [
  | inl here ↦ omega (arith, fit.0, here.0)
  | inr later ↦ long_fits qs ts s fit.1 later.1
]

one_long : (ss : List Source) (ts : List (List ℕ)) (s other : Source) → IsFirstLong ss ts s → IsFirstLong ss ts other → s ≡ other
one_long [] ts s other a b = absurd a
one_long (q ∷ qs) [] s other a b = absurd a
one_long (q ∷ qs) (t ∷ ts) s other a b = elim a [
  | inl here ↦ elim b [
    | inl there ↦ sym here.1 ∙ there.1
    | inr later ↦ absurd (omega (arith, here.0, later.0))
  ]
  | inr later ↦ elim b [
    | inl there ↦ absurd (omega (arith, there.0, later.0))
    | inr latest ↦ one_long qs ts s other later.1 latest.1
  ]
]

same_refusal : (q r : Refusal) → q.source ≡ r.source → q.cause ≡ r.cause → q.line ≡ r.line → q ≡ r
same_refusal q r s c l = λ i. record { source = s i; cause = c i; line = l i }

pub one_too_long : (ss : List Source) (ts : List (List ℕ)) (q r : Refusal) → IsTooLong ss ts q → IsTooLong ss ts r → q ≡ r
one_too_long ss ts q r a b =
    same_refusal q r (one_long ss ts q.source r.source a.long b.long) (a.cause_is ∙ sym b.cause_is) (a.line_is ∙ sym b.line_is)

module _ {A : Type 0} (c : FileCommand A) (ts : List (List ℕ)) where
  pub one_refusal : ((q r : Refusal) → c.refuses ts q → c.refuses ts r → q ≡ r) → (q r : Refusal) → IsFirstRefusal c ts q → IsFirstRefusal c ts r → q ≡ r
  one_refusal one q r a b = elim a [
    | inl long ↦ elim b [
      | inl other ↦ one_too_long (sources_of c.files) ts q r long other
      | inr said ↦ absurd (long_fits (sources_of c.files) ts q.source said.0 long.long)
    ]
    | inr said ↦ elim b [
      | inl other ↦ absurd (long_fits (sources_of c.files) ts r.source said.0 other.long)
      | inr also ↦ one q r said.1 also.1
    ]
  ]

  -- texts that fit have no first refusal where what they say isn't refused
  pub not_first : (r : Refusal) → (c.refuses ts r → ⊥) → AllFit (sources_of c.files) ts → IsFirstRefusal c ts r → ⊥
  not_first r none fit first = elim first [
    | inl long ↦ long_fits (sources_of c.files) ts r.source fit long.long
    | inr said ↦ none said.1
  ]
