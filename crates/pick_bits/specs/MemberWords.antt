-- The bits of members, pick by pick, and the selection of given members.
use Rattle.std.specs.Prelude.{ℕ, suc, ◌+◌, nat_lt, Bool, true, false, ◌&&◌, List, [], ◌∷◌}
use Rattle.bit_words.specs.Later.{values_from}
use Rattle.bit_words.specs.Words.{nat_of}
use Rattle.choice_tree.specs.declared.selection.Choice.{Choice}
use Rattle.selection_numbers.specs.Numbers.{and_member}
use Rattle.input_space.specs.SelectionBits.{member_bits}

-- the truth values of the members of picks that have so many, one after another
abbrev pub member_words : List ℕ → List Bool → ℕ → List (List Bool)
member_words [] vs start = []
member_words (n ∷ ns) vs start =
    values_from vs start (member_bits n) ∷ member_words ns vs (start + member_bits n)

-- whether each pick has a member with the number that its truth values spell
abbrev pub all_numbered : List ℕ → List (List Bool) → Bool
all_numbered [] ws = true
all_numbered (n ∷ ns) [] = false
all_numbered (n ∷ ns) (w ∷ ws) = nat_lt (nat_of w) n && all_numbered ns ws

-- these members of the picks from one on; the base isn't named
abbrev pub chosen_from : ℕ → List ℕ → List Choice
chosen_from p [] = []
chosen_from p (i ∷ is) = and_member p i (chosen_from (suc p) is)
