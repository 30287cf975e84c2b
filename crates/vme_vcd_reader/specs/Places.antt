-- How a reader remembers the begin of a word of a dump's body.
use Rattle.std.specs.Prelude.{◌≡◌, ℕ, Bool, true, false, ◌==◌, List, [], ◌∷◌, length, Option, Some, None}
use Rattle.vme_vcd_reader.specs.declared.bits.Level.{Level}
use Rattle.vme_vcd_reader.specs.declared.body.Body.{Body}
use Rattle.vme_vcd_reader.specs.declared.body.Place.TheVariants as places
use Rattle.vme_vcd_reader.specs.declared.body.Said.{Said}
use Rattle.vme_vcd_reader.specs.declared.body.Said.TheVariants as said
use Rattle.vme_vcd_reader.specs.Levels.{levels_of, IsValue}
use Rattle.vme_vcd_reader.specs.Names.{identifier_of}
use Rattle.vme_vcd_reader.specs.Words.{number_from, Opening, Number, Vector, Skipped, Keyword, Scalar, opening, Awaited, Statement, Variable, Unread, Remark, Fact, Silence, At, Change}

-- the digits of a vector so far
pub record HasDigits (digits : List ℕ) (s : Body) : Type 0 where
  pub place : s.place ≡ places.Digits
  pub levels : List Level
  pub are : levels_of digits ≡ Some levels
  pub value : IsValue levels s.bits s.first s.digits

-- the digits of a time so far
pub record HasTime (digits : List ℕ) (s : Body) : Type 0 where
  pub place : s.place ≡ places.Time
  pub number : number_from 0 digits ≡ Some s.number
  pub some : (s.digits == 0) ≡ (length digits == 0)

-- the identifier so far of a variable that changes to these levels
pub record HasName (levels : List Level) (name : List ℕ) (s : Body) : Type 0 where
  pub place : s.place ≡ places.Identifier
  pub value : IsValue levels s.bits s.first s.digits
  pub number : s.number ≡ identifier_of name

-- the begin of a word by its first byte
abbrev pub HasOpened : ℕ → List ℕ → Body → Option Opening → Type 0
HasOpened c cs s None = ⊥
HasOpened c cs s (Some Number) = HasTime cs s
HasOpened c cs s (Some Vector) = HasDigits cs s
HasOpened c cs s (Some Skipped) = s.place ≡ places.Value
HasOpened c cs s (Some Keyword) = (s.place ≡ places.Keyword) × (s.number ≡ identifier_of (c ∷ cs))
HasOpened c cs s (Some (Scalar level)) = HasName (level ∷ []) cs s

-- the begin of a word, by what is awaited
abbrev pub IsAt : Awaited → List ℕ → Body → Type 0
IsAt Statement [] s = s.place ≡ places.Gap
IsAt Statement (c ∷ cs) s = HasOpened c cs s (opening c)
IsAt (Variable levels) [] s = (s.place ≡ places.DigitsEnd) × IsValue levels s.bits s.first s.digits
IsAt (Variable levels) (c ∷ cs) s = HasName levels (c ∷ cs) s
IsAt Unread [] s = s.place ≡ places.ValueEnd
IsAt Unread (c ∷ cs) s = s.place ≡ places.ValueIdentifier
IsAt Remark word s = (s.place ≡ places.Comment) × (s.number ≡ identifier_of word)

-- what a reader reports is what a word says; the levels of a change are those that it keeps
abbrev pub Reports : Fact → Said → Body → Type 0
Reports Silence it s = it ≡ said.Nothing
Reports (At time) it s = it ≡ said.Time time
Reports (Change identifier levels) it s = (it ≡ said.Change identifier) × IsValue levels s.bits s.first s.digits

-- whether a text may end where this is awaited
abbrev pub may_end : Awaited → Bool
may_end Statement = true
may_end (Variable levels) = false
may_end Unread = false
may_end Remark = true

-- a reader has taken what a byte says, and reports it
abbrev pub Takes : Option ((Awaited × List ℕ) × Fact) → Said → Body → Type 0
Takes None it s = ⊥
Takes (Some says) it s = IsAt says.0.0 says.0.1 s × Reports says.1 it s
