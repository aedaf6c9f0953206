-- What later states of a logic leave of a body and of what is chosen.
use Rattle.std.proofs.Common.{◌≡◌, ◌∙◌, ℕ, Bool, List, [], ◌∷◌, Option, ap}
use Rattle.mpy_tree.specs.declared.limits.Limits.{Limits}
use Rattle.mpy_tree.specs.Expressions.{Calls}
use Rattle.bit_words.specs.Later.{nat_later, owned_later}
use Rattle.bit_words.specs.Logic.{Keeps}
use Rattle.sym_values.specs.Forms.{Form}
use Rattle.sym_values.specs.Owned.{owns_one}
use Rattle.sym_paths.specs.declared.path.Path.{Path}
use Rattle.sym_paths.specs.Later.{way_later, ways_later}
use Rattle.sym_paths.specs.declared.slots.Slots.{Slots}
use Rattle.sym_paths.specs.Paths.{Arrival, HoldsPath, HoldsPaths, Way, gone_way, way, ways}
use Rattle.sym_blocks.specs.declared.body.Body.{Body}
use Rattle.sym_blocks.specs.Bodies.{AreChosen, IsBodyIn}

module _ {S B C : Type 0} {owns : S → B → Type 0} {reads : S → List Bool → B → Bool} where
  pub body_later : {s t : S} {have_picks : List (List B) → Type 0} {run : Body B C} → Keeps owns reads s t → IsBodyIn owns have_picks s run → IsBodyIn owns have_picks t run
  body_later k h = record { differ = h.differ; types = h.types; keeps = h.keeps; owned = owned_later k h.owned; many = h.many }

  pub chosen_later : {s t : S} {have_picks : List (List B) → Type 0} {are_calls : Limits → (ℕ → ℕ) → Calls → Type 0} {run : Body B C} {vs : List Bool} {m : ℕ → ℕ} {calls : Calls} → Keeps owns reads s t
      → IsBodyIn owns have_picks s run → AreChosen reads are_calls s vs run m calls → AreChosen reads are_calls t vs run m calls
  chosen_later {s} {t} {have_picks} {are_calls} {run} {vs} {m} {calls} k h c = record {
    members = record { member = λ i bits e. nat_later k (owns_one (λ w. w) run.picks.now i bits h.owned e) vs ∙ c.members.member i bits e };
    called = c.called;
  }

module _ {S B : Type 0} {owns : S → B → Type 0} {reads : S → List Bool → B → Bool} where
  -- where a path leads
  pub leads_later : {s t : S} {fs : List Form} {p : Path B} {a : Option Arrival} (c : Slots) (vs : List Bool) → Keeps owns reads s t → HoldsPath owns s fs p
      → gone_way c (way (reads s vs) p ∷ []) ≡ a → gone_way c (way (reads t vs) p ∷ []) ≡ a
  leads_later c vs k h e = ap (λ (w : Way). gone_way c (w ∷ [])) (way_later k h vs) ∙ e

  pub all_lead_later : {s t : S} {fs : List Form} {ps : List (Path B)} {a : Option Arrival} (c : Slots) (vs : List Bool) → Keeps owns reads s t → HoldsPaths owns s fs ps
      → gone_way c (ways (reads s vs) ps) ≡ a → gone_way c (ways (reads t vs) ps) ≡ a
  all_lead_later c vs k h e = ap (gone_way c) (ways_later k h vs) ∙ e
