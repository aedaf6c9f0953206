use Rattle.eml_reader.proofs.Given.{given_by, refused_by}
use Rattle.eml_reader.proofs.reading.read_rules.Goals as goal

pub returns-clause-rules : goal.returns-clause-rules
returns-clause-rules c =
    given_by c.args.bytes.now c.parse.result c.parse.ensures.read c.parse.ensures.refused

pub returns-clause-refusal : goal.returns-clause-refusal
returns-clause-refusal c =
    refused_by c.args.bytes.now c.parse.result c.parse.ensures.read c.parse.ensures.refused
