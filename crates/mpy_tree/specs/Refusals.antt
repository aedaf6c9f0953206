-- The text of refusals.
use Rattle.std.specs.Prelude.{ℕ, List, ◌++◌, codes}
use Rattle.std.specs.Fmt.{decimal}
use Rattle.mpy_tree.specs.declared.refusal.Cause.{Cause}
use Rattle.mpy_tree.specs.declared.refusal.Cause.TheVariants as cause
use Rattle.mpy_tree.specs.declared.refusal.Refusal.{Refusal}

-- causes print as their names, but for that of typing
abbrev pub cause_text : Cause → List ℕ
cause_text cause.Byte = codes "Byte"
cause_text cause.Tab = codes "Tab"
cause_text cause.Indent = codes "Indent"
cause_text cause.Token = codes "Token"
cause_text cause.Syntax = codes "Syntax"
cause_text cause.Block = codes "Block"
cause_text cause.Limit = codes "Limit"
cause_text cause.Name = codes "Name"
cause_text cause.Arity = codes "Arity"
cause_text cause.TypeFault = codes "Type"
cause_text cause.Undetermined = codes "Undetermined"
cause_text cause.Shared = codes "Shared"
cause_text cause.Entry = codes "Entry"
cause_text cause.ResultType = codes "ResultType"
cause_text cause.RuleMeta = codes "RuleMeta"
cause_text cause.RulePrime = codes "RulePrime"
cause_text cause.RuleTwice = codes "RuleTwice"
cause_text cause.BoundRange = codes "BoundRange"
cause_text cause.TooLarge = codes "TooLarge"
cause_text cause.EmptyReference = codes "EmptyReference"
cause_text cause.Long = codes "Long"
cause_text cause.NotYet = codes "NotYet"

-- the line for a refusal of a file, by the word that names it
abbrev pub refusal_text : List ℕ → Refusal → List ℕ
refusal_text file r =
    codes "refused " ++ file ++ codes " line " ++ decimal r.line ++ codes ": " ++ cause_text r.cause
    ++ codes "\n"
