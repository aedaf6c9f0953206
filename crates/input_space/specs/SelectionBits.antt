-- The selection that truth values spell: pick by pick the bits of a member.
use Rattle.std.specs.Prelude.{ℕ, ◌+◌, ◌^◌, nat_lt, Bool, List, [], ◌∷◌, map, length}
use Rattle.std.specs.Prelude.{filter, slice_index_or, Option, Some, None, option_map}
use Rattle.std.specs.Prelude.{if◌then◌else◌}
use Rattle.mpy_tree.specs.Operations.{below}
use Rattle.mpy_tree.specs.Options.{◌>>=◌}
use Rattle.bit_words.specs.Later.{values_from}
use Rattle.bit_words.specs.Words.{nat_of}
use Rattle.choice_tree.specs.declared.selection.Choice.{Choice}
use Rattle.choice_tree.specs.Selections.{edited_picks}
use Rattle.choice_tree.specs.WeightedTrees.{Weighted}
use Rattle.selection_numbers.specs.MemberCounts.{member_counts}

-- as few bits as number so many members
abbrev pub member_bits : ℕ → ℕ
member_bits members = length (filter (λ b. nat_lt (2 ^ b) members) (below members))

abbrev pub all_member_bits : List ℕ → ℕ
all_member_bits [] = 0
all_member_bits (n ∷ ns) = member_bits n + all_member_bits ns

-- a member of so many, by its number
abbrev pub member : ℕ → ℕ → Option ℕ
member members i = if nat_lt i members then Some i else None

-- the members of picks that have so many, one after another
abbrev pub members_at : List ℕ → List Bool → ℕ → Option (List ℕ)
members_at [] vs start = Some []
members_at (n ∷ ns) vs start =
    member n (nat_of (values_from vs start (member_bits n)))
    >>= λ i. option_map (λ rest. i ∷ rest) (members_at ns vs (start + member_bits n))

-- what these members make of a tree, without picks in members that aren't chosen
abbrev pub selection_by : Weighted → List ℕ → List Choice
selection_by w is =
    map (λ p. record { pick = p; member = slice_index_or is p 0 })
    (edited_picks (λ p. slice_index_or is p 0) w)

abbrev pub selection_at : Weighted → List Bool → ℕ → Option (List Choice)
selection_at w vs start = option_map (selection_by w) (members_at (member_counts w) vs start)
