-- What a program reports of a line that is none of a bus log.
use Rattle.std.specs.Prelude.{ℕ, List, ◌++◌, codes}
use Rattle.vme_bus_log.specs.declared.fault.LogFault.{LogFault}
use Rattle.vme_bus_log.specs.declared.fault.LogFault.TheVariants.{LineTooLong, NoEntry, Missing, BadWord, MoreWords}

-- what is wrong
abbrev pub fault_text : LogFault → List ℕ
fault_text LineTooLong = codes "a line of more than 255 bytes"
fault_text NoEntry = codes "no line of a bus log: it has neither `n=` nor `lp` after the time"
fault_text (Missing name) = codes "the line ends before `" ++ name.now ++ codes "`"
fault_text (BadWord name) = codes "expected `" ++ name.now ++ codes "`, and a value that it takes"
fault_text MoreWords = codes "more words than a line of a bus log has"
