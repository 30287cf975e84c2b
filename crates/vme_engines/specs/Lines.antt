-- The lines that `vme cycles` accepts: requests to the bus, and no others.
use Rattle.std.specs.Prelude.{ℕ, nat_lt, if◌then◌else◌, Bool, false, not, List, [], ◌∷◌, length, slice_get, Option, Some, None, Result, Ok, Err, codes}
use Rattle.std.specs.List.{list_any}
use Rattle.std.specs.Str.{bytes_eq}
use Rattle.vme_cycle.specs.declared.request.Request.{Request}
use Rattle.vme_grammar.specs.declared.fault.LineFault.{LineFault}
use Rattle.vme_grammar.specs.declared.fault.LineFault.TheVariants.{LineTooLong, UnknownWord}
use Rattle.vme_grammar.specs.declared.line.Line.{Line}
use Rattle.vme_grammar.specs.declared.line.Line.TheVariants.{Bus, Local, Await, Lock, Unlock, Put, Take}
use Rattle.vme_lexer.specs.Words.{words_of}
use Rattle.vme_grammar.specs.Grammar.{line_of}

-- whether a word is the first word of a request
abbrev pub is_request_word : List ℕ → Bool
is_request_word word = list_any (bytes_eq word) (codes "r" ∷ codes "w" ∷ codes "br" ∷ codes "bw" ∷ codes "bf" ∷ codes "m" ∷ [])

-- whether a line's first word is not that of a request
abbrev pub is_other_word : Option (List ℕ) → Bool
is_other_word None = false
is_other_word (Some word) = not (is_request_word word)

-- the request of a parsed line; a line that parses as anything else is refused
abbrev pub request_of_parsed : Result (Option Line) LineFault → Result (Option Request) LineFault
request_of_parsed (Ok None) = Ok None
request_of_parsed (Ok (Some (Bus request))) = Ok (Some request)
request_of_parsed (Ok (Some (Local command))) = Err UnknownWord
request_of_parsed (Ok (Some (Await am addr bytes))) = Err UnknownWord
request_of_parsed (Ok (Some (Lock am addr))) = Err UnknownWord
request_of_parsed (Ok (Some (Unlock am addr))) = Err UnknownWord
request_of_parsed (Ok (Some (Put mailbox number))) = Err UnknownWord
request_of_parsed (Ok (Some (Take mailbox))) = Err UnknownWord
request_of_parsed (Err fault) = Err fault

-- the request of a line, None for a line without words, or its refusal: a first word that only scripts know is unknown,
-- whatever follows it
unfoldable pub request_of : List ℕ → Result (Option Request) LineFault
request_of line =
    if nat_lt 80 (length line) then Err LineTooLong else
    (if is_other_word (slice_get (words_of line) 0) then Err UnknownWord else request_of_parsed (line_of line))
