-- What tokens are read as is what they spell.
use Rattle.std.specs.Prelude.{◌≡◌, ◌↔◌, List, Some}
use Rattle.mpy_lexer.specs.declared.token.Token.{Token}
use Rattle.choice_tree.specs.declared.rules.Place.{Place}
use Rattle.choice_tree.specs.Templates.{Template}
use Rattle.eml_sides.specs.SideReading.{left_of, right_of}
use Rattle.eml_sides.specs.SidesSpelled.{SpellsLeft, SpellsRight}

abbrev pub LeftSidesAreSpelled : Type 0
LeftSidesAreSpelled =
    (ts : List Token) (p : Place) (t : Template)
    → (left_of ts ≡ Some (p, t)) ↔ SpellsLeft ts p t

abbrev pub RightSidesAreSpelled : Type 0
RightSidesAreSpelled =
    (ts : List Token) (p : Place) (t : Template)
    → (right_of ts ≡ Some (p, t)) ↔ SpellsRight ts p t
