-- The header: the variables, and their values before the first event that is shown.
use Rattle.std.specs.Prelude.{ℕ, ◌+◌, List, ◌∷◌, ◌++◌, flat_map, length, codes}
use Rattle.std.specs.List.{range_with_len}
use Rattle.std.specs.Fmt.{decimal}
use Rattle.vme_grammar.specs.Texts.{output_line}
use Rattle.vme_script.specs.Configurations.{Configuration}
use Rattle.vme_line_task.specs.Scripts.{slot_at}
use Rattle.vme_trace.specs.declared.dump.variable.Variable.{Variable}
use Rattle.vme_trace.specs.declared.dump.variable.Variable.TheVariants.{EventNumber, EventSlot, Holder, BusBusy, BusRequest, AddressStrobe, AddressModifier, AddressLines, LongWord, WriteLine, FirstStrobe, SecondStrobe, DataLines, UpperDataLines, Acknowledge, BusError, CurrentLine, RequestLine, GrantLines, BusyLine, Selected, PortSelect, PortWrite, PortOffset, PortData, PortDone, PortError}
use Rattle.vme_trace.specs.Variables.{code_of}
use Rattle.vme_trace.specs.Changes.{code_text}
use Rattle.vme_trace.specs.declared.dump.values.Shown.{Shown}
use Rattle.vme_trace.specs.Values.{shown_text}

-- the begin, up to the scope of the bus; IEEE 1364-2005, clause 18 (header)
unfoldable pub start_text : List ℕ
start_text =
    output_line (codes "$version bendrika 1 $end")
    ++ (output_line (codes "$comment the n-th event that is shown takes time 100 n to 100 n + 99, and edge k of it is at 100 n + 5 k $end")
    ++ (output_line (codes "$timescale 10 ms $end")
    ++ (output_line (codes "$scope module vme $end")
    ++ (output_line (codes "$scope module bus $end")))))

-- the kind and size of a variable, and its code
unfoldable pub variable_code : List ℕ → Variable → List ℕ
variable_code kind variable = codes "$var " ++ (kind ++ (codes " " ++ code_text (code_of variable)))

-- a variable of the bus
unfoldable pub declaration : List ℕ → Variable → List ℕ → List ℕ
declaration kind variable name = variable_code kind variable ++ (codes " " ++ (name ++ output_line (codes " $end")))

-- one of the lines of a variable of the bus that have names of their own: its code ends with a digit
unfoldable pub part : List ℕ → Variable → ℕ → List ℕ → List ℕ
part kind variable i name = variable_code kind variable ++ ((48 + i) ∷ (codes " " ++ (name ++ output_line (codes " $end"))))

-- the name of a variable of a slot, which has the number of the slot, since viewers show names without their scopes
unfoldable pub variable_name : ℕ → List ℕ → List ℕ
variable_name slot name = codes " s" ++ (decimal slot ++ (codes "_" ++ (name ++ output_line (codes " $end"))))

-- a variable of a board's slot
unfoldable pub variable_text : List ℕ → Variable → ℕ → List ℕ → List ℕ
variable_text kind variable slot name = variable_code kind variable ++ variable_name slot name

-- one of the lines of a variable of a board's slot that have names of their own
unfoldable pub slot_part : List ℕ → Variable → ℕ → ℕ → List ℕ → List ℕ
slot_part kind variable i slot name = variable_code kind variable ++ ((48 + i) ∷ variable_name slot name)

-- the event, and the lines of arbitration
unfoldable pub arbitration_text : List ℕ
arbitration_text =
    declaration (codes "integer 32") EventNumber (codes "event")
    ++ (declaration (codes "integer 32") EventSlot (codes "slot")
    ++ (declaration (codes "integer 32") Holder (codes "holder")
    ++ (declaration (codes "wire 1") BusBusy (codes "bbsy_n")
    ++ (declaration (codes "wire 1") (BusRequest 3) (codes "br3_n")
    ++ (declaration (codes "wire 1") (BusRequest 2) (codes "br2_n")
    ++ (declaration (codes "wire 1") (BusRequest 1) (codes "br1_n")
    ++ declaration (codes "wire 1") (BusRequest 0) (codes "br0_n")))))))

-- the address strobe, the address modifier, A31 to A01, LWORD* and WRITE*
unfoldable pub address_text : List ℕ
address_text =
    declaration (codes "wire 1") AddressStrobe (codes "as_n")
    ++ (declaration (codes "wire 6") AddressModifier (codes "am [5:0]")
    ++ (declaration (codes "wire 32") AddressLines (codes "a [31:0]")
    ++ (declaration (codes "wire 1") LongWord (codes "lword_n")
    ++ declaration (codes "wire 1") WriteLine (codes "write_n"))))

-- the data strobes, DTACK* and BERR*
unfoldable pub strobe_text : List ℕ
strobe_text =
    declaration (codes "wire 1") FirstStrobe (codes "ds1_n")
    ++ (declaration (codes "wire 1") SecondStrobe (codes "ds0_n")
    ++ (declaration (codes "wire 1") Acknowledge (codes "dtack_n")
    ++ declaration (codes "wire 1") BusError (codes "berr_n")))

-- the data lanes D31 to D00
unfoldable pub data_text : List ℕ
data_text =
    part (codes "wire 8") DataLines 0 (codes "d31_24 [7:0]")
    ++ (part (codes "wire 8") DataLines 1 (codes "d23_16 [7:0]")
    ++ (part (codes "wire 8") DataLines 2 (codes "d15_08 [7:0]")
    ++ part (codes "wire 8") DataLines 3 (codes "d07_00 [7:0]")))

-- the data lanes D63 to D32
unfoldable pub upper_data_text : List ℕ
upper_data_text =
    part (codes "wire 8") UpperDataLines 0 (codes "dh63_56 [7:0]")
    ++ (part (codes "wire 8") UpperDataLines 1 (codes "dh55_48 [7:0]")
    ++ (part (codes "wire 8") UpperDataLines 2 (codes "dh47_40 [7:0]")
    ++ part (codes "wire 8") UpperDataLines 3 (codes "dh39_32 [7:0]")))

-- the begin, with the scope of the bus
unfoldable pub bus_scope_text : List ℕ
bus_scope_text =
    start_text
    ++ (arbitration_text
    ++ (address_text ++ (strobe_text ++ (data_text ++ (upper_data_text ++ output_line (codes "$upscope $end"))))))

-- the end of the scopes, and the begin of the values
unfoldable pub middle_text : List ℕ
middle_text =
    output_line (codes "$upscope $end")
    ++ (output_line (codes "$enddefinitions $end")
    ++ (output_line (codes "#0")
    ++ (output_line (codes "$dumpvars"))))

-- the line and the request line of a slot, BBSY* as the slot drives it, and whether its board is selected
unfoldable pub master_names : ℕ → ℕ → List ℕ
master_names board slot =
    variable_text (codes "integer 32") (CurrentLine board) slot (codes "line")
    ++ (variable_text (codes "wire 1") (RequestLine board) slot (codes "br_n")
    ++ (variable_text (codes "wire 1") (BusyLine board) slot (codes "bbsy_n")
    ++ variable_text (codes "wire 1") (Selected board) slot (codes "sel")))

-- BG3IN* to BG0IN* of a slot
unfoldable pub grant_names : ℕ → ℕ → List ℕ
grant_names board slot =
    slot_part (codes "wire 1") (GrantLines board) 3 slot (codes "bg3in_n")
    ++ (slot_part (codes "wire 1") (GrantLines board) 2 slot (codes "bg2in_n")
    ++ (slot_part (codes "wire 1") (GrantLines board) 1 slot (codes "bg1in_n")
    ++ slot_part (codes "wire 1") (GrantLines board) 0 slot (codes "bg0in_n")))

-- the local port of a board: select, write line, offset and reply
unfoldable pub port_names : ℕ → ℕ → List ℕ
port_names board slot =
    variable_text (codes "wire 1") (PortSelect board) slot (codes "lp_cs")
    ++ (variable_text (codes "wire 1") (PortWrite board) slot (codes "lp_we")
    ++ (variable_text (codes "wire 32") (PortOffset board) slot (codes "lp_a [31:0]")
    ++ (variable_text (codes "wire 1") (PortDone board) slot (codes "lp_ack")
    ++ variable_text (codes "wire 1") (PortError board) slot (codes "lp_err"))))

-- the data lanes of the local port of a board
unfoldable pub port_data_names : ℕ → ℕ → List ℕ
port_data_names board slot =
    slot_part (codes "wire 8") (PortData board) 0 slot (codes "lp_d31_24 [7:0]")
    ++ (slot_part (codes "wire 8") (PortData board) 1 slot (codes "lp_d23_16 [7:0]")
    ++ (slot_part (codes "wire 8") (PortData board) 2 slot (codes "lp_d15_08 [7:0]")
    ++ slot_part (codes "wire 8") (PortData board) 3 slot (codes "lp_d07_00 [7:0]")))

-- the name of the scope of a slot
unfoldable pub scope_name : ℕ → List ℕ
scope_name slot = codes "$scope module slot" ++ (decimal slot ++ output_line (codes " $end"))

-- the scope of a board's slot
unfoldable pub scope_text : ℕ → ℕ → List ℕ
scope_text board slot =
    scope_name slot
    ++ (master_names board slot
    ++ (grant_names board slot
    ++ (port_names board slot ++ (port_data_names board slot ++ output_line (codes "$upscope $end")))))

-- the scope of the slot of the board at an index
abbrev pub slot_scope : Configuration → ℕ → List ℕ
slot_scope config board = scope_text board (slot_at config board)

-- the header of a configuration: scopes and variables, and the values of all variables before the first event that is shown;
-- IEEE 1364-2005, clause 18 (header)
unfoldable pub header_text : Configuration → List Shown → List ℕ
header_text config values =
    bus_scope_text
    ++ (flat_map (slot_scope config) (range_with_len 0 (length config.boards))
    ++ (middle_text ++ (flat_map shown_text values ++ output_line (codes "$end"))))
