-- Rising picks.
use Rattle.std.proofs.Common.{◌≡◌, ℕ, suc, ◌≤◌, List, [], ◌∷◌, ◌++◌, refl}
use Rattle.choice_tree.specs.Choices.{Rises}
use Rattle.choice_tree.specs.declared.selection.Choice.{Choice}

-- the least pick that may come behind these choices
abbrev pub behind_picks : ℕ → List Choice → ℕ
behind_picks least [] = least
behind_picks least (c ∷ cs) = behind_picks (suc c.pick) cs

pub picks_more : (least : ℕ) (cs : List Choice) (c : Choice) → behind_picks least (cs ++ c ∷ []) ≡ suc c.pick
picks_more least [] c = refl
picks_more least (d ∷ cs) c = picks_more (suc d.pick) cs c

pub rises_more : (least : ℕ) (cs : List Choice) (c : Choice) → Rises least cs → behind_picks least cs ≤ c.pick → Rises least (cs ++ c ∷ [])
rises_more least [] c h low = (low, tt)
rises_more least (d ∷ cs) c h low = (h.0, rises_more (suc d.pick) cs c h.1 low)

pub rises_at : (least : ℕ) (cs : List Choice) (c : Choice) (more : List Choice) → Rises least (cs ++ c ∷ more) → behind_picks least cs ≤ c.pick
rises_at least [] c more h = h.0
rises_at least (d ∷ cs) c more h = rises_at (suc d.pick) cs c more h.1
