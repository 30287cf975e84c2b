-- The text of a finding after which the judgement goes on.
use Rattle.std.specs.Prelude.{ℕ, Bool, if◌then◌else◌, List, [], ◌++◌, codes, flat_map}
use Rattle.std.specs.Str.Lines.{lines}
use Rattle.vme_judge.specs.declared.finding.Finding.{Finding}
use Rattle.vme_judge.specs.declared.options.Options.{Options}
use Rattle.vme_judge.specs.JsonTexts.{finding_json}
use Rattle.vme_judge.specs.Messages.{message}

-- a finding, as asked
abbrev pub finding_text : Options → Finding → List ℕ
finding_text o f = if o.json then finding_json o.name.now f else message o.name.now f

-- a comment of a log
abbrev pub comment : List ℕ → List ℕ
comment line = codes "# " ++ line ++ codes "\n"

-- lines as comments of a log
unfoldable pub commented : List ℕ → List ℕ
commented text = flat_map comment (lines text)

-- a text beside a bus log: its lines are comments
abbrev pub beside : Bool → List ℕ → List ℕ
beside log text = if log then commented text else text

-- a finding after which the judgement goes on, unless nothing is to be printed
abbrev pub found_text : Options → Finding → List ℕ
found_text o f = if o.quiet then [] else beside o.log (finding_text o f)
