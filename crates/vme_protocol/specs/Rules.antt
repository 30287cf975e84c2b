-- The rules of a trace as a message names them: the number, the section of the standard, and what breaks the rule, in words.
use Rattle.std.specs.Prelude.{ℕ, List, codes}
use Rattle.vme_protocol.specs.declared.rule.Rule.{Rule}
use Rattle.vme_protocol.specs.declared.rule.Rule.TheVariants.{Undefined, CodeUnknown, AddressStrobeFalls, AddressStrobeRises, AddressChanges, LoneStrobe, DataChange, AnswerAlone, StrobeUnderAnswer, StrobeRises, TwoAnswers, AnswerRises, Transfer, TwoHolders, Grant, Timeout, PortUndefined, BusError, NoBoard, WrongBytes, TornModify}

-- the number of a rule
abbrev pub code : Rule → ℕ
code Undefined = 1
code CodeUnknown = 2
code AddressStrobeFalls = 3
code AddressStrobeRises = 4
code AddressChanges = 5
code LoneStrobe = 6
code DataChange = 7
code AnswerAlone = 8
code StrobeUnderAnswer = 9
code StrobeRises = 10
code TwoAnswers = 11
code AnswerRises = 12
code Transfer = 13
code TwoHolders = 14
code Grant = 15
code Timeout = 16
code PortUndefined = 17
code BusError = 21
code NoBoard = 22
code WrongBytes = 23
code TornModify = 24

-- the section of IEEE 1014-1987 that has a rule; that of local ports has none
abbrev pub section : Rule → List ℕ
section Undefined = codes "2.2"
section CodeUnknown = codes "2.2.2"
section AddressStrobeFalls = codes "3.2, 2.4"
section AddressStrobeRises = codes "2.4"
section AddressChanges = codes "2.4"
section LoneStrobe = codes "2.4"
section DataChange = codes "2.4"
section AnswerAlone = codes "2.4"
section StrobeUnderAnswer = codes "2.4"
section StrobeRises = codes "2.4"
section TwoAnswers = codes "2.4"
section AnswerRises = codes "2.4"
section Transfer = codes "2.2.1, 2.3.7, 2.3.8"
section TwoHolders = codes "3.2"
section Grant = codes "3.3"
section Timeout = codes "2.3.3"
section PortUndefined = codes ""
section BusError = codes "2.3.6"
section NoBoard = codes "2.3.3, 2.3.6"
section WrongBytes = codes "2.3.6"
section TornModify = codes "2.3.8"

-- what breaks a rule, in words
abbrev pub text : Rule → List ℕ
text Undefined = codes "a line is undefined"
text CodeUnknown = codes "the address modifier code is reserved or user-defined"
text AddressStrobeFalls = codes "AS* falls while the bus is free or within a handshake"
text AddressStrobeRises = codes "AS* rises before the end of a handshake"
text AddressChanges = codes "the address changes under AS*"
text LoneStrobe = codes "a data strobe is low without AS*"
text DataChange = codes "WRITE* or data change under a strobe"
text AnswerAlone = codes "an answer falls while no data strobe is low"
text StrobeUnderAnswer = codes "a data strobe falls while the last answer is low"
text StrobeRises = codes "a data strobe rises before the answer or falls under it"
text TwoAnswers = codes "DTACK* and BERR* are low at once"
text AnswerRises = codes "the answer rises while a data strobe is low"
text Transfer = codes "the datum may not come in its transfer"
text TwoHolders = codes "two slots drive BBSY*, or it has another level than the slots drive"
text Grant = codes "a grant and its taking are out of order"
text Timeout = codes "no answer comes in time"
text PortUndefined = codes "a local port answers with an undefined line"
text BusError = codes "BERR* answers, where a board answers this cycle"
text NoBoard = codes "DTACK* answers, where no board answers this cycle"
text WrongBytes = codes "a read finds other bytes than the memory has"
text TornModify = codes "a local write comes between the halves of a read-modify-write"
