-- The texts of the four files, by their parts.
use Rattle.std.proofs.Common.{◌≡◌, ℕ, suc, List, [], ◌∷◌, length, get_or, refl, sym, ap, subst, ◌∙◌, arith, Vec}
use Rattle.std.specs.declared.alloc.Global.{Global}
use Rattle.std.proofs.lemmas.List.{length-map}
use Rattle.mpy_tree.specs.declared.refusal.Source.{Source}
use Rattle.source_files.specs.Files.{sources_of}
use Rattle.source_files.specs.Texts.{AllFit}
use Rattle.source_files.specs.Views.{texts_of}
use Rattle.class_run.specs.Classes.{ClassFiles, Shared, files_of, texts_with}
use Rattle.class_run.specs.Views.{AreShort}

as_many : (ss : List Source) (ts : List (List ℕ)) → AllFit ss ts → length ts ≡ length ss
as_many [] [] fit = refl
as_many [] (t ∷ ts) fit = absurd fit
as_many (s ∷ ss) [] fit = absurd fit
as_many (s ∷ ss) (t ∷ ts) fit = ap (λ n. suc n) (as_many ss ts fit.1)

pub four : (f : ClassFiles) (vs : List (Vec ℕ Global)) → AllFit (sources_of (files_of f)) (texts_of vs) → length vs ≡ 4
four f vs fit = sym (length-map vs (λ v. v.items)) ∙ as_many (sources_of (files_of f)) (texts_of vs) fit

pub four_texts : (vs : List (Vec ℕ Global)) (a b c d : Vec ℕ Global) (t : Shared) (list : List ℕ) → length vs ≡ 4
    → a ≡ get_or vs 0 a → b ≡ get_or vs 1 b → c ≡ get_or vs 2 c → d ≡ get_or vs 3 d
    → t.bounds ≡ a.items → t.reference ≡ b.items → t.rules ≡ c.items → list ≡ d.items → texts_of vs ≡ texts_with t list
four_texts (i ∷ j ∷ k ∷ l ∷ []) a b c d t list len ia ib ic id fa fb fc fd = cc
four_texts vs a b c d t list len ia ib ic id fa fb fc fd = absurd (omega arith)

pub short : (f : ClassFiles) (ts : List (List ℕ)) (t : Shared) (list : List ℕ) → ts ≡ texts_with t list → AllFit (sources_of (files_of f)) ts → AreShort t
short f ts t list is fit =
    let parts : AllFit (sources_of (files_of f)) (texts_with t list) = subst (AllFit (sources_of (files_of f))) is fit in
    record { bounds = parts.0; reference = parts.1.0; rules = parts.1.1.0 }
