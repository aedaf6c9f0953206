-- The report of a class: one JSON value, whose keys are in the order of their bytes.
use Rattle.std.specs.Prelude.{ℕ, List, ◌++◌, Option, None, Some, codes, map}
use Rattle.serde_json.specs.Data.{Data, Items, Members, array, member, no_members, number, object}
use Rattle.serde_json.specs.Data.{string, unsigned}
use Rattle.serde_json.specs.View.{items_of}
use Rattle.serde_json.specs.Written.{compact_text}
use Rattle.grade_io.specs.Status.{number_of}
use Rattle.grade_io.specs.declared.status.Status.TheVariants as status
use Rattle.class_text.specs.Entries.{Entry, count_of}

abbrev pub entry_members : Entry → Members
entry_members e =
    member (codes "file") (string e.file)
    (member (codes "report") (string e.report)
    (member (codes "status") (number (unsigned (number_of e.status))) no_members))

-- a certificate stands first, if there is one
abbrev pub behind_certificate : Option (List ℕ) → Members → Members
behind_certificate None rest = rest
behind_certificate (Some text) rest = member (codes "certificate") (string text) rest

abbrev pub entry_data : Entry → Data
entry_data e = object (behind_certificate e.certificate (entry_members e))

abbrev pub entries_items : List Entry → Items
entries_items entries = items_of (map entry_data entries)

-- a count by its key, and what stands behind it
abbrev pub counted : List ℕ → ℕ → Members → Members
counted key n rest = member key (number (unsigned n)) rest

-- the entries, and how many there are of each status
abbrev pub class_data : List Entry → Data
class_data entries =
    object
    (counted (codes "correct") (count_of status.Correct entries)
    (counted (codes "corrected") (count_of status.Corrected entries)
    (member (codes "entries") (array (entries_items entries))
    (counted (codes "none") (count_of status.NoCorrection entries)
    (counted (codes "refused") (count_of status.Refused entries)
    (counted (codes "spent") (count_of status.Spent entries)
    (counted (codes "unread") (count_of status.ReadFailed entries) no_members)))))))

-- without spaces, and with byte 10 at its end
abbrev pub class_text : List Entry → List ℕ
class_text entries = compact_text (class_data entries) ++ codes "\n"
