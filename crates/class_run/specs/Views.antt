-- The code's class as the definitions see it.
use Rattle.std.specs.Prelude.{List, ℕ}
use Rattle.mpy_tree.specs.declared.refusal.Source.TheVariants as source
use Rattle.source_files.specs.Texts.{Fits}
use Rattle.class_text.specs.Entries.{Entry}
use Rattle.class_run.specs.declared.files.ClassFiles.{ClassFiles}
use Rattle.class_run.specs.declared.files.SharedTexts.{SharedTexts}
use Rattle.class_run.specs.Classes.{Class, Shared}
use Rattle.class_run.specs.Classes as names

abbrev pub names_of : ClassFiles → names.ClassFiles
names_of f = record {
  bounds = f.bounds.now;
  reference = f.reference.now;
  rules = f.rules.now;
  list = f.list.now;
}

abbrev pub class_with : ClassFiles → (Shared → List ℕ → List ℕ → Entry → Type 0) → Class
class_with f tells = record { files = names_of f; tells = tells }

abbrev pub shared_of : SharedTexts → Shared
shared_of t = record {
  bounds = t.bounds.now;
  reference = t.reference.now;
  rules = t.rules.now;
}

-- the texts have no more bytes than their sources may have
pub record AreShort (t : Shared) : Type 0 where
  pub bounds : Fits source.Bounds t.bounds
  pub reference : Fits source.Reference t.reference
  pub rules : Fits source.Rules t.rules
