-- What stands in the output after a call, beside what stood there before.
use Rattle.std.specs.Prelude.{◌≡◌, ℕ, List, take}
use Rattle.grade_io.specs.Devices.{SinkState, added}

-- this text was written, and nothing else
abbrev pub Wrote : SinkState → SinkState → List ℕ → Type 0
Wrote before after text = after.written ≡ added before.written text

-- a front of this text was written, and nothing else
abbrev pub WrotePart : SinkState → SinkState → List ℕ → Type 0
WrotePart before after text = (n : ℕ) × Wrote before after (take n text)

abbrev pub WroteNothing : SinkState → SinkState → Type 0
WroteNothing before after = after.written ≡ before.written
