-- What each rule expects, as a message names it.
use Rattle.std.specs.Prelude.{ℕ, List, codes}
use Rattle.vme_protocol.specs.declared.rule.Rule.{Rule}
use Rattle.vme_protocol.specs.declared.rule.Rule.TheVariants.{Undefined, CodeUnknown, AddressStrobeFalls, AddressStrobeRises, AddressChanges, LoneStrobe, DataChange, AnswerAlone, StrobeUnderAnswer, StrobeRises, TwoAnswers, AnswerRises, Transfer, TwoHolders, Grant, Timeout, PortUndefined, BusError, NoBoard, WrongBytes, TornModify}

-- what is expected where a rule is broken
abbrev pub expected : Rule → List ℕ
expected Undefined = codes "0 or 1, where the level counts"
expected CodeUnknown = codes "a code of the address modifier table"
expected AddressStrobeFalls = codes "BBSY* low, and no strobe or answer low before"
expected AddressStrobeRises = codes "AS* low until the strobes are answered; with --strict, until both are high"
expected AddressChanges = codes "stands until the answer; with --strict, until AS* rises"
expected LoneStrobe = codes "data strobes low under AS* alone"
expected DataChange = codes "WRITE* and write data stand from before the strobe to the answer"
expected AnswerAlone = codes "an answer to a data strobe"
expected StrobeUnderAnswer = codes "strobes that fall after the last answer has risen"
expected StrobeRises = codes "each strobe falls before the answer and rises after it"
expected TwoAnswers = codes "one answer: DTACK* or BERR*"
expected AnswerRises = codes "the answer low until both strobes are high"
expected Transfer = codes "a byte location of the table; in a block the next datum; else one read and one write of it"
expected TwoHolders = codes "one slot holds the bus"
expected Grant = codes "BBSY* low after a request and a grant; a grant while BBSY* is high"
expected Timeout = codes "an answer within the time that --timeout gives"
expected PortUndefined = codes "an offset, a direction and bytes of a local access"
expected BusError = codes "DTACK*"
expected NoBoard = codes "BERR*"
expected WrongBytes = codes "the bytes of the memory"
expected TornModify = codes "no access between the halves of a read-modify-write"
