-- The words of a read-modify-write spell what the table of forms says.
use Rattle.std.proofs.Common.{◌≡◌, ℕ, ◌+◌, true, List, [], ◌∷◌, length, map, drop, None, Some, Result, Ok, Err, refl, ◌∙◌, inl, inr, arith}
use Rattle.std.specs.Prelude.{◌==◌, slice_get}
use Rattle.std.proofs.lemmas.Bool.{cases_Bool, eqb-true}
use Rattle.vme_cycle.specs.declared.modify.Modify as modify
use Rattle.vme_cycle.specs.declared.request.Request.TheVariants as requests
use Rattle.vme_memory.specs.declared.command.BoardCmd.TheVariants as commands
use Rattle.vme_grammar.specs.declared.fault.LineFault.{LineFault}
use Rattle.vme_grammar.specs.declared.fault.LineFault.TheVariants.{WordCount}
use Rattle.vme_grammar.specs.declared.line.Line.{Line}
use Rattle.vme_grammar.specs.declared.line.Line.TheVariants as lines
use Rattle.vme_grammar.specs.declared.form.LineForm.TheVariants as form
use Rattle.vme_grammar.specs.declared.function.Function.{Function}
use Rattle.vme_grammar.specs.declared.function.Function.TheVariants.{Set, Exchange, Add, Compare}
use Rattle.vme_lexer.specs.Numbers.{hex_number, small_number, local_number, exact_bytes}
use Rattle.vme_grammar.specs.Operands.{Operands, no_operands}
use Rattle.vme_grammar.specs.Fields.{with_field}
use Rattle.vme_grammar.specs.Forms.{field_at, function_places, fields_of, function_at}
use Rattle.vme_grammar.specs.Grammar.{◌>>=◌, fields_read, operands_of}
use Rattle.vme_grammar.specs.Naming.{function_of, line_by, line_named}
use Rattle.vme_grammar.specs.Modifies.{field_place, operand_count, modify_of, modify_line, local_modify_line}
use Rattle.vme_grammar.proofs.Cases.{cases_Option, cases_Result, same_count}

-- a read-modify-write over the bus has four words after the first, and one for each datum of its function
bus_places : (function : Function) → length (drop 1 (fields_of (form.Modify function))) ≡ operand_count function + 4
bus_places Set = refl
bus_places Exchange = refl
bus_places Add = refl
bus_places Compare = refl

-- a read-modify-write by the local port has three words after the first, and one for each datum of its function
local_places : (function : Function) → length (drop 1 (fields_of (form.LocalModify function))) ≡ operand_count function + 3
local_places Set = refl
local_places Exchange = refl
local_places Add = refl
local_places Compare = refl

-- the result with a line and no refusal
abbrev ok_line : Line → Result Line LineFault
ok_line line = Ok line

-- the data of a function, read one by one, are those that the fields of its places read
data_read :
    (whole : ℕ → ℕ → ℕ → modify.Modify → Line) (function : Function) (o : Operands) (name : List ℕ) (rest : List (List ℕ))
    → (length rest == operand_count function) ≡ true
    → (modify_of function o.n rest >>= (λ (f : modify.Modify). ok_line (whole o.am o.addr o.n f)))
    ≡ (fields_read (map field_at (function_places function)) (name ∷ rest) o
    >>= (λ (given : Operands). ok_line (whole given.am given.addr given.n (function_at function given))))
unfolding modify_of with_field
data_read whole Set o name [] count = refl
data_read whole Set o name (x ∷ rest) count = absurd (omega (arith, eqb-true (length (x ∷ rest)) 0 count))
data_read whole Exchange o name [] count = absurd (omega (arith, eqb-true 0 1 count))
data_read whole Exchange o name (x ∷ []) count =
    elim (cases_Option (exact_bytes o.n x)) [
      | inl none ↦ rw none refl
      | inr (bytes, spelled) ↦ rw spelled refl
    ]
data_read whole Exchange o name (x ∷ y ∷ rest) count = absurd (omega (arith, eqb-true (length (x ∷ y ∷ rest)) 1 count))
data_read whole Add o name [] count = absurd (omega (arith, eqb-true 0 1 count))
data_read whole Add o name (x ∷ []) count =
    elim (cases_Option (exact_bytes o.n x)) [
      | inl none ↦ rw none refl
      | inr (bytes, spelled) ↦ rw spelled refl
    ]
data_read whole Add o name (x ∷ y ∷ rest) count = absurd (omega (arith, eqb-true (length (x ∷ y ∷ rest)) 1 count))
data_read whole Compare o name [] count = absurd (omega (arith, eqb-true 0 2 count))
data_read whole Compare o name (x ∷ []) count = absurd (omega (arith, eqb-true (length (x ∷ [])) 2 count))
data_read whole Compare o name (x ∷ y ∷ []) count =
    elim (cases_Option (exact_bytes o.n x)) [
      | inl none ↦ rw none refl
      | inr (expected, first) ↦ elim (cases_Option (exact_bytes o.n y)) [
        | inl none ↦ rw (first, none) refl
        | inr (bytes, second) ↦ rw (first, second) refl
      ]
    ]
data_read whole Compare o name (x ∷ y ∷ z ∷ rest) count = absurd (omega (arith, eqb-true (length (x ∷ y ∷ z ∷ rest)) 2 count))

-- if the fourth word after `m` names a function, `modify_line` gives the line of the form of that function
modify_by :
    (function : Function) (a b c name : List ℕ) (rest : List (List ℕ)) → function_of (Some name) ≡ Ok function
    → modify_line (a ∷ b ∷ c ∷ name ∷ rest) ≡ line_by (form.Modify function) (a ∷ b ∷ c ∷ name ∷ rest)
unfolding modify_line line_by operands_of with_field field_place
modify_by function a b c name rest is =
    let places
    = same_count (length rest) (operand_count function) 4 (length (a ∷ b ∷ c ∷ name ∷ rest)) (length (drop 1 (fields_of (form.Modify function))))
    (omega arith) (bus_places function) in
    elim (cases_Bool (length rest == operand_count function)) [
      | inr other ↦ rw (is, places, other) refl
      | inl count ↦ elim (cases_Option (hex_number 2 a)) [
        | inl none ↦ rw (is, places, count, none) refl
        | inr (am, code) ↦ elim (cases_Option (hex_number 8 b)) [
          | inl none ↦ rw (is, places, count, code, none) refl
          | inr (addr, address) ↦ elim (cases_Option (small_number c)) [
            | inl none ↦ rw (is, places, count, code, address, none) refl
            | inr (n, number) ↦
                let o : Operands = record no_operands { am = am; addr = addr; n = n } in
                rw (is, places, count, code, address, number)
                (data_read (λ am addr n f. lines.Bus (requests.Modify am addr n f)) function o name rest count)
          ]
        ]
      ]
    ]

-- if the third word after `lm` names a function, `local_modify_line` gives the line of the form of that function
local_modify_by :
    (function : Function) (a b name : List ℕ) (rest : List (List ℕ)) → function_of (Some name) ≡ Ok function
    → local_modify_line (a ∷ b ∷ name ∷ rest) ≡ line_by (form.LocalModify function) (a ∷ b ∷ name ∷ rest)
unfolding local_modify_line line_by operands_of with_field
local_modify_by function a b name rest is =
    let places
    = same_count (length rest) (operand_count function) 3 (length (a ∷ b ∷ name ∷ rest)) (length (drop 1 (fields_of (form.LocalModify function))))
    (omega arith) (local_places function) in
    elim (cases_Bool (length rest == operand_count function)) [
      | inr other ↦ rw (is, places, other) refl
      | inl count ↦ elim (cases_Option (hex_number 8 a)) [
        | inl none ↦ rw (is, places, count, none) refl
        | inr (addr, address) ↦ elim (cases_Option (local_number b)) [
          | inl none ↦ rw (is, places, count, address, none) refl
          | inr (n, number) ↦
              let o : Operands = record no_operands { addr = addr; n = n } in
              rw (is, places, count, address, number)
              (data_read (λ am addr n f. lines.Local (commands.LocalModify addr n f)) function o name rest count)
        ]
      ]
    ]

-- an absent name of a function is a wrong number of words
no_function : function_of None ≡ Err WordCount
unfolding function_of
no_function = refl

-- the line of a read-modify-write over the bus, by the function that its words name
bus_named :
    (first function : Function) (words : List (List ℕ)) → function_of (slice_get words 3) ≡ Ok function
    → line_by (form.Modify function) words ≡ line_named (form.Modify first) words
unfolding line_named
bus_named first function words is = rw is refl

-- the line of a read-modify-write by the local port, by the function that its words name
local_named :
    (first function : Function) (words : List (List ℕ)) → function_of (slice_get words 2) ≡ Ok function
    → line_by (form.LocalModify function) words ≡ line_named (form.LocalModify first) words
unfolding line_named
local_named first function words is = rw is refl

-- the line of the words after `m` is that of the form of the function that they name
pub modify_is_named : (words : List (List ℕ)) (first : Function) → modify_line words ≡ line_named (form.Modify first) words
unfolding modify_line line_named
modify_is_named [] first = rw no_function refl
modify_is_named (a ∷ []) first = rw no_function refl
modify_is_named (a ∷ b ∷ []) first = rw no_function refl
modify_is_named (a ∷ b ∷ c ∷ []) first = rw no_function refl
modify_is_named (a ∷ b ∷ c ∷ name ∷ rest) first =
    elim (cases_Result (function_of (Some name))) [
      | inl (fault, none) ↦ rw none refl
      | inr (function, is) ↦ modify_by function a b c name rest is ∙ bus_named first function (a ∷ b ∷ c ∷ name ∷ rest) is
    ]

-- the line of the words after `lm` is that of the form of the function that they name
pub local_modify_is_named : (words : List (List ℕ)) (first : Function) → local_modify_line words ≡ line_named (form.LocalModify first) words
unfolding local_modify_line line_named
local_modify_is_named [] first = rw no_function refl
local_modify_is_named (a ∷ []) first = rw no_function refl
local_modify_is_named (a ∷ b ∷ []) first = rw no_function refl
local_modify_is_named (a ∷ b ∷ name ∷ rest) first =
    elim (cases_Result (function_of (Some name))) [
      | inl (fault, none) ↦ rw none refl
      | inr (function, is) ↦ local_modify_by function a b name rest is ∙ local_named first function (a ∷ b ∷ name ∷ rest) is
    ]
