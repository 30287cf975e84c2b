-- What a program reports of a text that is no dump.
use Rattle.std.specs.Prelude.{ℕ, List, codes, Option, Some, None}
use Rattle.vme_vcd_reader.specs.declared.fault.VcdFault.{VcdFault}
use Rattle.vme_vcd_reader.specs.declared.fault.VcdFault.TheVariants.{NoKeyword, WordTooLong, ScopesTooDeep, NoScope, BadVariable, TooManyMapped, Absent, Ambiguous, BadWidth, LacksLines, BadTime, TimeFalls, BadValue, NoIdentifier, UnknownWord, EndsInHeader, EndsInChange, Memory}

-- what is wrong
abbrev pub fault_text : VcdFault → List ℕ
fault_text NoKeyword = codes "no header of a dump: expected a keyword such as `$var`"
fault_text WordTooLong = codes "a word of more than 255 bytes"
fault_text ScopesTooDeep = codes "more than 64 scopes are open"
fault_text NoScope = codes "no scope is open here"
fault_text BadVariable = codes "expected `$var KIND SIZE IDENTIFIER NAME $end`"
fault_text TooManyMapped = codes "more than 1000 variables are mapped"
fault_text (Absent index) = codes "no variable has this name"
fault_text (Ambiguous index) = codes "several variables have this name; write more of its path"
fault_text (BadWidth index) = codes "the variable has other bits, or more than 64"
fault_text (LacksLines index) = codes "the dump lacks this line; `--lines` says which variable it is"
fault_text BadTime = codes "no time below 2^64"
fault_text TimeFalls = codes "the time falls"
fault_text BadValue = codes "no level of a line"
fault_text NoIdentifier = codes "a value without the identifier of a variable"
fault_text UnknownWord = codes "no change, time or keyword"
fault_text EndsInHeader = codes "the text ends before `$enddefinitions $end`"
fault_text EndsInChange = codes "the text ends in a change"
fault_text Memory = codes "memory"

-- the index of the wanted variable that it is about, if it is about one
abbrev pub wanted_of : VcdFault → Option ℕ
wanted_of (Absent index) = Some index
wanted_of (Ambiguous index) = Some index
wanted_of (BadWidth index) = Some index
wanted_of (LacksLines index) = Some index
wanted_of fault = None
