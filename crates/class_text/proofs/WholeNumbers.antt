-- The report of a class has no fraction among its numbers.
use Rattle.std.proofs.Common.{◌≡◌, ℕ, List, [], ◌∷◌, Option, None, Some, false, refl}
use Rattle.serde_json.specs.Written.{has_float, items_have_float, members_have_float}
use Rattle.class_text.specs.Entries.{Entry}
use Rattle.class_text.specs.Reports.{behind_certificate, class_data, entries_items, entry_members}

whole_members : (o : Option (List ℕ)) (e : Entry) → members_have_float (behind_certificate o (entry_members e)) ≡ false
whole_members None e = refl
whole_members (Some text) e = refl

whole_entries : (entries : List Entry) → items_have_float (entries_items entries) ≡ false
whole_entries [] = refl
whole_entries (e ∷ es) = rw (whole_members e.certificate e) (whole_entries es)

pub whole_class : (entries : List Entry) → has_float (class_data entries) ≡ false
whole_class entries = rw (whole_entries entries) refl
