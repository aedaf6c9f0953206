-- Operations on truth values.
use Rattle.std.specs.Prelude.{Bool, true, false, not, ◌||◌, ◌&&◌}

-- one of two and not both
abbrev pub differ : Bool → Bool → Bool
differ true b = not b
differ false b = b

-- whether two or three of three hold
abbrev pub most_of : Bool → Bool → Bool → Bool
most_of true b c = b || c
most_of false b c = b && c

-- whether one number is below another of one digit more, by these digits and by whether the
-- lower digits are below
abbrev pub less_by : Bool → Bool → Bool → Bool
less_by true true below = below
less_by true false below = false
less_by false true below = true
less_by false false below = below
