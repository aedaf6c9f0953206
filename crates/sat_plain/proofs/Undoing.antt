-- Entries taken away from the newest on.
use Rattle.std.proofs.Common.{◌≡◌, ℕ, true, false, List, [], ◌∷◌, ◌++◌, All, Some, None, Option, refl, sym, ap, ◌∙◌, append_assoc}
use Rattle.std.specs.Option.{is_some}
use Rattle.std.proofs.lemmas.List.Elements.{All-nil, All-push}
use Rattle.clause_base.specs.Formulas.{in_range}
use Rattle.sat_plain.specs.declared.trail.Entry.{Entry}
use Rattle.sat_plain.specs.Trails.{Path, decided, literals_of, standing}
use Rattle.sat_plain.specs.Searching.{IsUndoneTo}
use Rattle.sat_plain.proofs.Taking.{decided_popped}

pub record IsPopped (old now : Path) : Type 0 where
  pub vars : now.vars ≡ old.vars
  pub newer : List Entry
  pub implied : All (λ e. is_some e.reason ≡ true) newer
  pub is : old.entries ≡ newer ++ now.entries

pub popped_start : (p : Path) → IsPopped p p
popped_start p = record { vars = refl; newer = []; implied = All-nil (λ (e : Entry). is_some e.reason ≡ true); is = refl }

pub popped_more : (old now next : Path) (e : Entry) → IsPopped old now → next.vars ≡ now.vars → now.entries ≡ e ∷ next.entries → is_some e.reason ≡ true → IsPopped old next
popped_more old now next e popped vars entry some = record {
  vars = vars ∙ popped.vars;
  newer = popped.newer ++ e ∷ [];
  implied = All-push (λ (x : Entry). is_some x.reason ≡ true) popped.newer e popped.implied some;
  is = popped.is ∙ ap (λ (es : List Entry). popped.newer ++ es) entry ∙ sym (append_assoc popped.newer (e ∷ []) next.entries);
}

pub popped_none : (old now : Path) → IsPopped old now → now.entries ≡ [] → decided old.entries ≡ []
popped_none old now popped none = ap decided (popped.is ∙ ap (λ (es : List Entry). popped.newer ++ es) none) ∙ decided_popped popped.newer [] popped.implied

decision_is : (e : Entry) (reason : Option ℕ) → e.reason ≡ reason → is_some reason ≡ false → e ≡ record { lit = e.lit; reason = None }
decision_is e None is h = ap (λ (r : Option ℕ). record { lit = e.lit; reason = r }) is
decision_is e (Some n) is h = cc

pub undone : (old now new : Path) (e : Entry) → IsPopped old now → new.vars ≡ now.vars → now.entries ≡ e ∷ new.entries → is_some e.reason ≡ false
    → in_range new.vars e.lit ≡ true → standing (literals_of new.entries) e.lit ≡ None → IsUndoneTo old new e.lit
undone old now new e popped vars entry none range unset = record {
  vars = vars ∙ popped.vars;
  newer = popped.newer;
  implied = popped.implied;
  is = popped.is ∙ ap (λ (es : List Entry). popped.newer ++ es) (entry ∙ ap (λ (x : Entry). x ∷ new.entries) (decision_is e e.reason refl none));
  range = range;
  unset = unset;
}
