-- The files of the command, one after the other.
use Rattle.std.proofs.Common.{◌≡◌, ◌∙◌, ℕ, suc, ◌+◌, ◌≤◌, List, [], ◌∷◌, ◌++◌, Some, None, map, sym, ap, subst, arith, length, drop, append_assoc, append-nil}
use Rattle.std.proofs.Math.ListN.{drop_of_length-le}
use Rattle.std.specs.Prelude.{option_map, slice_get, unwrap_or}
use Rattle.std.proofs.lemmas.Option.{slice_get-map}
use Rattle.mpy_tree.specs.declared.refusal.Source.TheVariants as source
use Rattle.source_files.specs.Files.{SourceFile, file}
use Rattle.pick_command.specs.Commands.{submission_files}
use Rattle.pick_command.specs.Decisions.{first_place}

module _ (ws : List (List ℕ)) (all : List SourceFile) where
  -- the files up to here, and those of the submissions that are left
  pub record AreListed (i : ℕ) (fs : List SourceFile) : Type 0 where
    pub whole : fs ++ submission_files (first_place + i) (drop i ws) ≡ all

  pub listed_more : (i : ℕ) (w : List ℕ) (f : SourceFile) (fs gs : List SourceFile)
      → drop i ws ≡ w ∷ drop (i + 1) ws → AreListed i fs
      → f ≡ file (source.Word (first_place + i)) w → gs ≡ fs ++ f ∷ [] → AreListed (i + 1) gs
  listed_more i w f fs gs is before made added =
      let rest = submission_files (suc (first_place + i)) (drop (i + 1) ws) in
      let next : first_place + (i + 1) ≡ suc (first_place + i) = omega arith in
      let here : fs ++ file (source.Word (first_place + i)) w ∷ rest ≡ all =
      subst (λ k. fs ++ submission_files (first_place + i) k ≡ all) is before.whole in
      record {
        whole =
            ap (λ n. gs ++ submission_files n (drop (i + 1) ws)) next
            ∙ ap (λ t. t ++ rest) (added ∙ ap (λ x. fs ++ x ∷ []) made)
            ∙ append_assoc fs (file (source.Word (first_place + i)) w ∷ []) rest
            ∙ here;
      }

  pub all_listed : (i : ℕ) (fs : List SourceFile) → length ws ≤ i → AreListed i fs → fs ≡ all
  all_listed i fs past before =
      let none : drop i ws ≡ [] = drop_of_length-le ws past in
      sym (append-nil fs)
      ∙ subst (λ k. fs ++ submission_files (first_place + i) k ≡ all) none before.whole

-- the word of a place
pub word_there : {A : Type 0} (f : A → List ℕ) (xs : List A) (k : ℕ) (x : A) → slice_get xs k ≡ Some x
    → f x ≡ unwrap_or (slice_get (map f xs) k) []
word_there f xs k x is = sym (ap (λ o. unwrap_or o []) (slice_get-map f xs k ∙ ap (option_map f) is))

pub word_absent : {A : Type 0} (f : A → List ℕ) (xs : List A) (k : ℕ) → slice_get xs k ≡ None
    → [] ≡ unwrap_or (slice_get (map f xs) k) []
word_absent f xs k is = sym (ap (λ o. unwrap_or o []) (slice_get-map f xs k ∙ ap (option_map f) is))
