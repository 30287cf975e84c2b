-- The table of the forms of lines: the words and fields of each, and the line that they spell.
use Rattle.std.specs.Prelude.{ℕ, List, [], ◌∷◌, ◌++◌, map, codes}
use Rattle.vme_cycle.specs.declared.modify.Modify as modify
use Rattle.vme_cycle.specs.declared.modify.Modify.TheVariants as modifies
use Rattle.vme_cycle.specs.declared.request.Request.TheVariants as requests
use Rattle.vme_memory.specs.declared.command.BoardCmd.TheVariants as commands
use Rattle.vme_grammar.specs.declared.line.Line.{Line}
use Rattle.vme_grammar.specs.declared.line.Line.TheVariants as lines
use Rattle.vme_grammar.specs.declared.form.LineForm.{LineForm}
use Rattle.vme_grammar.specs.declared.form.LineForm.TheVariants.{Read, Write, BlockRead, BlockWrite, BlockFill, Modify, LocalRead, LocalWrite, LocalModify, Await, Lock, Unlock, Put, Take}
use Rattle.vme_grammar.specs.declared.function.Function.{Function}
use Rattle.vme_grammar.specs.declared.function.Function.TheVariants.{Set, Exchange, Add, Compare}
use Rattle.vme_grammar.specs.Operands.{Operands}
use Rattle.vme_grammar.specs.Fields.{Field, Name, Code, Address, Offset, Length, LocalLength, Count, Bytes, LocalBytes, BlockBytes, Expected, Datum, Mailbox, FourBytes}

-- what is at a place of a line: a fixed word, or a field
pub data Place : Type 0 where
  Word : List ℕ → Place
  Of : Field → Place

-- a list of fields as places
abbrev pub fields : List Field → List Place
fields list = map Of list

-- the name of a function
abbrev pub name_of : Function → List ℕ
name_of Set = codes "set"
name_of Exchange = codes "xchg"
name_of Add = codes "add"
name_of Compare = codes "cas"

-- FUNC: the name of a function, and its data of N bytes
abbrev pub function_places : Function → List Place
function_places Set = Word (name_of Set) ∷ []
function_places Exchange = Word (name_of Exchange) ∷ fields (Datum ∷ [])
function_places Add = Word (name_of Add) ∷ fields (Datum ∷ [])
function_places Compare = Word (name_of Compare) ∷ fields (Expected ∷ Datum ∷ [])

-- the table of forms: the places of each, one word a place
abbrev pub places : LineForm → List Place
places Read = Word (codes "r") ∷ fields (Code ∷ Address ∷ Length ∷ [])
places Write = Word (codes "w") ∷ fields (Code ∷ Address ∷ Bytes ∷ [])
places BlockRead = Word (codes "br") ∷ fields (Code ∷ Address ∷ Length ∷ Count ∷ [])
places BlockWrite = Word (codes "bw") ∷ fields (Code ∷ Address ∷ Length ∷ BlockBytes ∷ [])
places BlockFill = Word (codes "bf") ∷ fields (Code ∷ Address ∷ Length ∷ Count ∷ Datum ∷ [])
places (Modify function) = Word (codes "m") ∷ fields (Code ∷ Address ∷ Length ∷ []) ++ function_places function
places LocalRead = Word (codes "lr") ∷ fields (Offset ∷ LocalLength ∷ [])
places LocalWrite = Word (codes "lw") ∷ fields (Offset ∷ LocalBytes ∷ [])
places (LocalModify function) = Word (codes "lm") ∷ fields (Offset ∷ LocalLength ∷ []) ++ function_places function
places Await = Word (codes "await") ∷ fields (Code ∷ Address ∷ Bytes ∷ [])
places Lock = Word (codes "lock") ∷ fields (Code ∷ Address ∷ [])
places Unlock = Word (codes "unlock") ∷ fields (Code ∷ Address ∷ [])
places Put = Word (codes "put") ∷ fields (Mailbox ∷ FourBytes ∷ [])
places Take = Word (codes "take") ∷ fields (Mailbox ∷ [])

-- the field that a place is read as; a fixed word is read as Name, which adds no operand
abbrev pub field_at : Place → Field
field_at (Word text) = Name
field_at (Of field) = field

-- the fields of a form, its fixed words included
abbrev pub fields_of : LineForm → List Field
fields_of form = map field_at (places form)

-- all functions of a read-modify-write
abbrev pub functions : List Function
functions = Set ∷ Exchange ∷ Add ∷ Compare ∷ []

-- all forms
abbrev pub forms : List LineForm
forms =
    Read ∷ Write ∷ BlockRead ∷ BlockWrite ∷ BlockFill ∷ LocalRead ∷ LocalWrite ∷ Await ∷ Lock ∷ Unlock ∷ Put ∷ Take
    ∷ map Modify functions ++ map LocalModify functions

-- a function with its data from the operands
abbrev pub function_at : Function → Operands → modify.Modify
function_at Set o = modifies.Set
function_at Exchange o = modifies.Exchange (record { items = o.bytes })
function_at Add o = modifies.Add (record { items = o.bytes })
function_at Compare o = modifies.Compare (record { items = o.expected }) (record { items = o.bytes })

-- the line that a form and its operands make
abbrev pub line_at : LineForm → Operands → Line
line_at Read o = lines.Bus (requests.Read o.am o.addr o.n)
line_at Write o = lines.Bus (requests.Write o.am o.addr (record { items = o.bytes }))
line_at BlockRead o = lines.Bus (requests.BlockRead o.am o.addr o.n o.count)
line_at BlockWrite o = lines.Bus (requests.BlockWrite o.am o.addr o.n (record { items = o.block }))
line_at BlockFill o = lines.Bus (requests.BlockFill o.am o.addr o.n o.count (record { items = o.bytes }))
line_at (Modify function) o = lines.Bus (requests.Modify o.am o.addr o.n (function_at function o))
line_at LocalRead o = lines.Local (commands.LocalRead o.addr o.n)
line_at LocalWrite o = lines.Local (commands.LocalWrite o.addr (record { items = o.bytes }))
line_at (LocalModify function) o = lines.Local (commands.LocalModify o.addr o.n (function_at function o))
line_at Await o = lines.Await o.am o.addr (record { items = o.bytes })
line_at Lock o = lines.Lock o.am o.addr
line_at Unlock o = lines.Unlock o.am o.addr
line_at Put o = lines.Put o.mailbox o.word
line_at Take o = lines.Take o.mailbox
